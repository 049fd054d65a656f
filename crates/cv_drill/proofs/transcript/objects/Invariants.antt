use Rattle.std.proofs.Common.{◌≡◌, ◌++◌, map}
use Rattle.std.specs.List.{filter_map}
use Rattle.std.specs.Option.{option_map}
use Rattle.serde_json.specs.View.{view}
use Rattle.cv_base.specs.code.Cuts.{remaining_len, remaining_lines}
use Rattle.cv_drill.specs.Transcript.{line_object, objects}
use Rattle.cv_drill.proofs.transcript.objects.Given as goal

-- the objects so far, and those of the remaining lines, are all
abbrev pub invariant-loop-remaining : goal.invariant-loop-remaining
invariant-loop-remaining l = map view l.found.items ++ filter_map line_object (remaining_lines (option_map (λ s. s.now) l.remaining)) ≡ objects l.fn.transcript

abbrev pub decreases-loop-remaining : goal.decreases-loop-remaining
decreases-loop-remaining l = remaining_len (option_map (λ s. s.now) l.remaining)
