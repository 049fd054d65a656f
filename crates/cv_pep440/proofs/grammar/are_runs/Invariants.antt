use Rattle.std.proofs.Common.{◌≡◌}
use Rattle.std.specs.List.{list_all}
use Rattle.std.specs.Option.{option_copied}
use Rattle.cv_pep440.specs.Bytes.{is_run}
use Rattle.cv_pep440.specs.Parts.{runs}
use Rattle.cv_pep440.specs.code.Walk.{remaining_len, runs_after}
use Rattle.cv_pep440.proofs.grammar.are_runs.Given as goal

abbrev pub invariant-loop-remaining : goal.invariant-loop-remaining
invariant-loop-remaining l = list_all is_run (runs_after (option_copied l.remaining)) ≡ list_all is_run (runs l.fn.text)

abbrev pub decreases-loop-remaining : goal.decreases-loop-remaining
decreases-loop-remaining l = remaining_len (option_copied l.remaining)
