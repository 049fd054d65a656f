use Rattle.std.proofs.Common.{◌≡◌}
use Rattle.std.specs.List.{list_all}
use Rattle.std.specs.Option.{option_copied}
use Rattle.cv_apkver.specs.Grammar.{UNDERSCORE}
use Rattle.cv_apkver.specs.Parts.{is_suffix, pieces_after}
use Rattle.cv_apkver.specs.code.Walk.{remaining_len}
use Rattle.cv_apkver.proofs.grammar.are_suffixes.Given as goal

abbrev pub invariant-loop-remaining : goal.invariant-loop-remaining
invariant-loop-remaining l = list_all is_suffix (pieces_after UNDERSCORE (option_copied l.remaining)) ≡ list_all is_suffix (pieces_after UNDERSCORE (option_copied l.fn.text))

abbrev pub decreases-loop-remaining : goal.decreases-loop-remaining
decreases-loop-remaining l = remaining_len (option_copied l.remaining)
