use Rattle.std.proofs.Common.{◌≡◌, ◌≤◌, ◌+◌, Some, [], false, length}
use Rattle.std.specs.Option.{option_map}
use Rattle.cv_base.specs.code.Cuts.{remaining_len}
use Rattle.cv_stanza.specs.code.Steps.{trimmed_lines, read_on}
use Rattle.cv_stanza.proofs.reader.read_all.Given as goal

-- there is room for the numbers of the remaining lines, and what is read so far, with what remains, is the whole
abbrev pub invariant-loop-remaining : goal.invariant-loop-remaining
invariant-loop-remaining g l = record {
  room : l.number + remaining_len (option_map (λ s. s.now) l.remaining) ≤ length l.fn.bytes + 1;
  whole : read_on (g.F.BlockFormat.steps l.fn.format) l.number l.begun (g.F.BlockFormat.state l.block) l.found.items (trimmed_lines g.F.BlockFormat.trimmed (option_map (λ s. s.now) l.remaining))
      ≡ read_on (g.F.BlockFormat.steps l.fn.format) 0 false (g.F.BlockFormat.steps l.fn.format).opening [] (trimmed_lines g.F.BlockFormat.trimmed (Some l.fn.bytes));
}

abbrev pub decreases-loop-remaining : goal.decreases-loop-remaining
decreases-loop-remaining g l = remaining_len (option_map (λ s. s.now) l.remaining)
