-- What has been read stands before what is read next.
use Rattle.std.specs.Prelude.{◌≡◌, List, [], ◌∷◌, ◌++◌, Result, Ok, Err, IfOk, refl}
use Rattle.std.proofs.Common.{ap, append_assoc}
use Rattle.cv_base.specs.Results.{◌>>=◌, onto}

-- what is read as several things may stand in front
pub onto_joined : {A E : Type 0} (front x : List A) (rest : Result (List A) E) → onto (front ++ x) rest ≡ onto front (rest >>= λ xs. Ok (x ++ xs))
onto_joined front x (Ok xs) = ap Ok (append_assoc front x xs)
onto_joined front x (Err e) = refl

-- the same of one thing
pub onto_one : {A E : Type 0} (front : List A) (x : A) (rest : Result (List A) E) → onto (front ++ x ∷ []) rest ≡ onto front (rest >>= λ xs. Ok (x ∷ xs))
onto_one front x (Ok xs) = ap Ok (append_assoc front (x ∷ []) xs)
onto_one front x (Err e) = refl

-- what a result is known to have, by what it has
pub if_ok : {T E : Type 0} (P Q : T → Type 0) (r : Result T E) → IfOk r P → ((x : T) → P x → Q x) → IfOk r Q
if_ok P Q (Ok x) h f = f x h
if_ok P Q (Err e) h f = tt
