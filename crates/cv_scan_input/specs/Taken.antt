-- How much of an input is taken (defined by this project): never more than 2 to the power of 36 bytes, and exactly that number
-- if the input is refused as too long.
use Rattle.std.specs.Prelude.{◌≡◌, ℕ, ◌≤◌, List, Option, length}
use Rattle.std.specs.Io.KnownBytes.{Consumes}

-- the first bytes were taken, and this is their number
pub record IsTaken (count : ℕ) (before now : Option (List ℕ)) : Type 0 where
  pub bytes : List ℕ
  pub front : Consumes before now bytes
  pub counted : length bytes ≡ count

-- the first bytes were taken, at most this number
pub record IsTakenWithin (limit : ℕ) (before now : Option (List ℕ)) : Type 0 where
  pub bytes : List ℕ
  pub front : Consumes before now bytes
  pub within : length bytes ≤ limit
