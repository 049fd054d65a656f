use Rattle.std.proofs.Common.{◌≡◌}
use Rattle.std.specs.Cmp.Lexicographic.{slice_cmp}
use Rattle.std.specs.Option.{option_copied}
use Rattle.cv_order.specs.Digits.{number_cmp}
use Rattle.cv_apkver.specs.Grammar.{DOT}
use Rattle.cv_apkver.specs.Order.{digits_of}
use Rattle.cv_apkver.specs.Parts.{pieces, pieces_after}
use Rattle.cv_apkver.specs.code.Walk.{remaining_len}
use Rattle.cv_apkver.proofs.order.compare_releases.Given as goal

-- what remains of both compares as the whole
abbrev pub invariant-loop-left : goal.invariant-loop-left
invariant-loop-left l = slice_cmp number_cmp (digits_of (pieces_after DOT (option_copied l.left))) (digits_of (pieces_after DOT (option_copied l.right)))
    ≡ slice_cmp number_cmp (digits_of (pieces DOT l.fn.a)) (digits_of (pieces DOT l.fn.b))

abbrev pub decreases-loop-left : goal.decreases-loop-left
decreases-loop-left l = remaining_len (option_copied l.left)
