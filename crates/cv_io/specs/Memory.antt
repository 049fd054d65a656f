-- Sources and sinks in memory, whose calls fail by a list (defined by this project, for tests). Calls are numbered from 1,
-- up to the last value of 64 bits.
use Rattle.std.specs.Prelude.{ℕ, Bool, if◌then◌else◌, List}
use Rattle.cv_seq.specs.Cause.{next_count}

-- a source or a sink in memory that never fails: the bytes that remain or were written, and the most that one call moves
pub record Pieces : Type 0 where
  pub bytes : List ℕ
  pub piece : ℕ

-- a source in memory
pub record Supply : Type 0 where
  pub remaining : List ℕ
  -- the most bytes that one read gives
  pub piece : ℕ
  pub fails : List ℕ
  pub calls : ℕ
  pub faults : ℕ

-- a sink in memory
pub record Store : Type 0 where
  pub contents : List ℕ
  -- the most bytes that one write takes
  pub piece : ℕ
  pub fails : List ℕ
  pub calls : ℕ
  pub faults : ℕ

-- the count of faults after a call that was to fail or not
abbrev pub faults_after : Bool → ℕ → ℕ
faults_after fails faults = if fails then next_count faults else faults
