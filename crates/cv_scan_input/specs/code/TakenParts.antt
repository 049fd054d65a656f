-- How much of an input is taken, by the bytes that a reader took before.
use Rattle.std.specs.Prelude.{◌≡◌, ℕ, ◌+◌, ◌≤◌, ◌^◌, List, Option, length}
use Rattle.std.specs.Io.KnownBytes.{Consumes}

-- the first bytes were taken, and the reader then took this number
pub record IsTakenTo (was is : ℕ) (before now : Option (List ℕ)) : Type 0 where
  pub bytes : List ℕ
  pub front : Consumes before now bytes
  pub counted : is ≡ was + length bytes

-- the first bytes were taken, and not more than are ever taken
pub record IsTakenFrom (was : ℕ) (before now : Option (List ℕ)) : Type 0 where
  pub bytes : List ℕ
  pub front : Consumes before now bytes
  pub within : was + length bytes ≤ 2 ^ 36
