use Rattle.std.proofs.Common.{◌≡◌}
use Rattle.std.specs.Option.{option_map, option_or}
use Rattle.cv_base.specs.code.Cuts.{remaining_len}
use Rattle.cv_stanza.specs.Values.{last_value}
use Rattle.cv_osrel.specs.System.{lines, value_by}
use Rattle.cv_osrel.specs.code.Lines.{trimmed_lines}
use Rattle.cv_osrel.proofs.system.last_value.Given as goal

-- the value of the remaining lines counts before that of the lines so far
abbrev pub invariant-loop-remaining : goal.invariant-loop-remaining
invariant-loop-remaining l = option_or (last_value (value_by l.fn.name) (trimmed_lines (option_map (λ s. s.now) l.remaining))) l.last ≡ last_value (value_by l.fn.name) (lines l.fn.bytes)

abbrev pub decreases-loop-remaining : goal.decreases-loop-remaining
decreases-loop-remaining l = remaining_len (option_map (λ s. s.now) l.remaining)
