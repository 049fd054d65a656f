-- What a write does to the bytes of a sink, where they are known (defined by this project).
use Rattle.std.specs.Prelude.{ℕ, ◌≤◌, List, Option, Result, MatchResult, length, take}
use Rattle.std.specs.Io.KnownBytes.{Appends}

-- known bytes grow by a front part of the bytes
abbrev pub AppendsPrefix : Option (List ℕ) → Option (List ℕ) → List ℕ → Type 0
AppendsPrefix before now bytes = (count : ℕ) × (count ≤ length bytes) × Appends before now (take count bytes)

-- one write: at `Ok(n)` known bytes grow by the first n bytes, and at `Err` by a front part of them
abbrev pub WritesFront : {E : Type 0} → Option (List ℕ) → Option (List ℕ) → Result ℕ E → List ℕ → Type 0
WritesFront before now answer bytes = MatchResult answer (λ n. Appends before now (take n bytes)) (λ _. AppendsPrefix before now bytes)
