-- A wrapper around a desk, whose calls fail by a list (defined by this project, for tests). Listings and reads are numbered
-- together, from 1 up to the last value of 64 bits.
use Rattle.std.specs.Prelude.{ℕ, Bool, if◌then◌else◌, List}
use Rattle.cv_seq.specs.Cause.{is_to_fail, next_count}

-- such a desk: the inner one, the numbers of the calls that are to fail, how many calls were made, how many of them failed
-- by the list, and how many were listings and how many reads
pub record Failing (D : Type 0) : Type 0 where
  pub desk : D
  pub fails : List ℕ
  pub calls : ℕ
  pub faults : ℕ
  pub listings : ℕ
  pub reads : ℕ

-- whether the next call is to fail
abbrev pub fails_next : {D : Type 0} → Failing D → Bool
fails_next desk = is_to_fail desk.fails (next_count desk.calls)

-- the count of faults after a call that was to fail or not
abbrev pub faults_after : Bool → ℕ → ℕ
faults_after fails faults = if fails then next_count faults else faults
