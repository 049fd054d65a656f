-- What a call that may run out of memory returns (forms of a contract, defined by this project).
use Rattle.std.specs.Prelude.{◌≡◌, Bool, ⊤, MatchBool, IfSome, Option, Result, Ok, Err}

-- a call gives what a definition says, its value seen by `view`, or runs out of memory
abbrev pub Gives : {X Y E : Type 0} → (E → Bool) → (X → Y) → Result X E → Result Y E → Type 0
Gives is_memory view (Ok x) wanted = wanted ≡ Ok (view x)
Gives is_memory view (Err e) wanted = MatchBool (is_memory e) ⊤ (wanted ≡ Err e)

-- the same where the definition's faults have a type of their own: `fault` is the fault that an error is, and
-- None where the call ran out of memory
abbrev pub MatchesUnlessOutOfMemory : {X Y E F : Type 0} → (E → Option F) → (X → Y) → Result X E → Result Y F → Type 0
MatchesUnlessOutOfMemory fault view (Ok x) wanted = wanted ≡ Ok (view x)
MatchesUnlessOutOfMemory fault view (Err e) wanted = IfSome (fault e) (λ f. wanted ≡ Err f)
