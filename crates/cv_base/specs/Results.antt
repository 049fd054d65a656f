-- Reading by parts, of which the first refusal is the answer (defined by this project).
use Rattle.std.specs.Prelude.{List, [], ◌∷◌, ◌++◌, Result, Ok, Err}

-- what is read, and then what follows from it; the first refusal is the answer
infixl 10 ◌>>=◌
abbrev pub ◌>>=◌ : {A B E : Type 0} → Result A E → (A → Result B E) → Result B E
(Ok x) >>= f = f x
(Err e) >>= f = Err e

-- what is read is appended to what was read before
abbrev pub onto : {A E : Type 0} → List A → Result (List A) E → Result (List A) E
onto front (Ok xs) = Ok (front ++ xs)
onto front (Err e) = Err e

-- what was found, or the first fault of a list
abbrev pub or_first_fault : {A E : Type 0} → List E → A → Result A E
or_first_fault [] found = Ok found
or_first_fault (e ∷ es) found = Err e
