-- The state in which a reader gathers a line, as the reader that callers see.
use Rattle.std.specs.Prelude.{◌≡◌, ℕ, ◌+◌, ◌-◌, Bool, true, false, cond, List, ◌∷◌, ◌++◌, Result, Ok, Err}
use Rattle.cv_io.specs.declared.gather.Gather.{Gather}
use Rattle.cv_io.specs.declared.line.LineError.{LineError}
use Rattle.cv_io.specs.Lines.{LF}
use Rattle.cv_io.specs.Takes.{Progress}
use Rattle.cv_io.specs.Reader.{Reader}

-- the bytes taken and not yet given
abbrev pub held_by : Gather → List ℕ
held_by g = g.line.items ++ g.chunk

-- what a gathering took, and whether its source ended
abbrev pub progress_by : Gather → Progress
progress_by g = record { taken = g.taken; ended = g.ended }

-- a gathering as a reader
abbrev pub reader_of : Gather → Bool → Reader
reader_of g spent = record {
  held = held_by g;
  taken = g.taken;
  ended = g.ended;
  spent = spent;
  max_line = g.max_line;
  max_input = g.max_input;
}

-- the bytes held before a line was gathered, and taken since: an LF that ended it is dropped
abbrev pub gathered : Result Bool LineError → Gather → List ℕ
gathered (Ok true) g = g.line.items ++ LF ∷ g.chunk
gathered (Ok false) g = held_by g
gathered (Err e) g = held_by g

-- the limits stay
pub record SameLimits (before now : Gather) : Type 0 where
  pub max_line : now.max_line ≡ before.max_line
  pub max_input : now.max_input ≡ before.max_input

-- nothing is taken
pub record SameCounts (before now : Gather) : Type 0 where
  pub limits : SameLimits before now
  pub taken : now.taken ≡ before.taken
  pub ended : now.ended ≡ before.ended

-- how many reads there can still be
abbrev pub reads_remaining : Gather → ℕ
reads_remaining g = cond g.ended 0 1 + (g.max_input - g.taken)
