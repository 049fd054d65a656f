-- Private facts of the walk over the gates, and of the two steps of an append.
use Rattle.std.specs.Prelude.{◌≡◌, ◌⊎◌, ℕ, ◌+◌, ◌-◌, ◌≤◌, ◌<◌, List, [], ◌∷◌, ◌++◌, length, get_or, take, drop, Option, Some, None}
use Rattle.cv_keep.specs.Records.{records, size, gate_after}

-- a gate byte and the length after it, at the front of these bytes
pub record IsHead (rest : List ℕ) (mark len : ℕ) : Type 0 where
  pub mark_is : mark ≡ get_or rest 0 0
  pub len_is : len ≡ size (drop 1 rest)

-- the gate after the one at this place, with the record between them; or that one is closed
abbrev pub IsNextGate : List ℕ → ℕ → Option ℕ → Type 0
IsNextGate file gate None = records (drop gate file) ≡ []
IsNextGate file gate (Some next) = (gate + 9 ≤ next) × (next < length file)
    × (records (drop gate file) ≡ take (next - (gate + 9)) (drop (gate + 9) file) ∷ records (drop next file))

-- the walk has come to this place, and the rest of the records is still ahead
abbrev pub IsWalked : List ℕ → ℕ → Type 0
IsWalked file gate = gate + gate_after (records (drop gate file)) ≡ gate_after (records file)

-- a crash during an append left a closed gate after the front, or any gate and then the whole block
abbrev pub IsStaged : List ℕ → List ℕ → List ℕ → Type 0
IsStaged front block file =
    ((rest : List ℕ) × (file ≡ front ++ (0 ∷ rest))) ⊎ ((gate : ℕ) × (file ≡ front ++ (gate ∷ block)))

-- later syncs come after the earlier ones
abbrev pub IsFront : List ℕ → List ℕ → Type 0
IsFront old new = (more : List ℕ) × (new ≡ old ++ more)
