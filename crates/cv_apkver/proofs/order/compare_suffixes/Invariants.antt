use Rattle.std.proofs.Common.{◌≡◌, ◌+◌, map}
use Rattle.std.specs.Option.{option_copied}
use Rattle.cv_apkver.specs.Grammar.{UNDERSCORE}
use Rattle.cv_apkver.specs.Order.{suffix_of, suffixes_cmp}
use Rattle.cv_apkver.specs.Parts.{pieces_after}
use Rattle.cv_apkver.specs.code.Walk.{remaining_len}
use Rattle.cv_apkver.proofs.order.compare_suffixes.Given as goal

-- what remains of both compares as the whole
abbrev pub invariant-loop-left : goal.invariant-loop-left
invariant-loop-left l = suffixes_cmp (map suffix_of (pieces_after UNDERSCORE (option_copied l.left))) (map suffix_of (pieces_after UNDERSCORE (option_copied l.right)))
    ≡ suffixes_cmp (map suffix_of (pieces_after UNDERSCORE (option_copied l.fn.a))) (map suffix_of (pieces_after UNDERSCORE (option_copied l.fn.b)))

abbrev pub decreases-loop-left : goal.decreases-loop-left
decreases-loop-left l = remaining_len (option_copied l.left) + remaining_len (option_copied l.right)
