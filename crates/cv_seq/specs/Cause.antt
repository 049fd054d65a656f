-- When an answer about a failure may come (defined by this project). Each object handed in that may fail, as a source
-- of bytes or a desk of layers, has a count of its faults. The count never falls, and an answer that blames the object
-- comes only if the count rose in that call. A real adapter counts in 64 bits and then stays at the last value, so
-- that "rose" reads: rose, or stands at the last value.
use Rattle.std.specs.Prelude.{ℕ, ◌+◌, ◌-◌, ◌^◌, ◌==◌, ◌≤◌, Bool, true, false, List, min}
use Rattle.std.specs.List.{list_any}

-- a count of 64 bits after one more: it stays at the last value
abbrev pub next_count : ℕ → ℕ
next_count count = min (count + 1) (2 ^ 64 - 1)

-- the count rose, or stands at the last value of 64 bits
abbrev pub Rose : ℕ → ℕ → Type 0
Rose before now = next_count before ≤ now

-- a failure is blamed only if the count rose
abbrev pub BlamedOnly : Bool → ℕ → ℕ → Type 0
BlamedOnly true before now = Rose before now
BlamedOnly false _ _ = Unit {0}

-- one call: the count does not fall, and it rose if the answer blames the object
pub record CausedBy (before now : ℕ) (blamed : Bool) : Type 0 where
  pub later : before ≤ now
  pub rose : BlamedOnly blamed before now

-- an object for tests fails by a list: the call with this number is to fail
abbrev pub is_to_fail : List ℕ → ℕ → Bool
is_to_fail fails call = list_any (λ number. number == call) fails
