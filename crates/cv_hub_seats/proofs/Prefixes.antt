-- Beginnings of lists.
use Rattle.std.proofs.Common.{◌≡◌, ◌≤◌, List, [], ◌∷◌, ◌++◌, length, refl, ap, sym, ◌∙◌, arith, append_assoc, length-append}
use Rattle.std.proofs.lemmas.List.{append-nil}
use mathlib.Core.List.{IsPrefix}

-- a list begins itself
pub prefix_same : {A : Type 0} (xs : List A) → IsPrefix xs xs
prefix_same xs = ([], append-nil xs)

-- a beginning of a beginning
pub prefix_chain : {A : Type 0} (xs ys zs : List A) → IsPrefix xs ys → IsPrefix ys zs → IsPrefix xs zs
prefix_chain xs ys zs first second = (first.0 ++ second.0, sym (append_assoc xs first.0 second.0) ∙ (ap (λ front. front ++ second.0) first.1 ∙ second.1))

-- a list with more after it
pub prefix_more : {A : Type 0} (xs more : List A) → IsPrefix xs (xs ++ more)
prefix_more xs more = (more, refl)

-- a beginning is not longer
pub prefix_length : {A : Type 0} (xs ys : List A) → IsPrefix xs ys → length xs ≤ length ys
prefix_length xs ys begins = omega (arith, sym (ap length begins.1) ∙ length-append xs begins.0)

-- of two beginnings of one list the shorter one begins the other
pub prefix_between : {A : Type 0} (xs ys all : List A) → IsPrefix xs all → IsPrefix ys all → length xs ≤ length ys → IsPrefix xs ys
prefix_between [] ys all first second shorter = (ys, refl)
prefix_between (x ∷ xs) [] all first second shorter = absurd (omega arith)
prefix_between (x ∷ xs) (y ∷ ys) [] first second shorter = absurd (cc (first.1))
prefix_between (x ∷ xs) (y ∷ ys) (z ∷ all) first second shorter =
    let tail = prefix_between xs ys all (first.0, cc (first.1)) (second.0, cc (second.1)) (omega arith) in
    (tail.0, cc (first.1, second.1, tail.1))

-- a beginning that is not shorter is the whole list
pub prefix_all : {A : Type 0} (xs ys : List A) → IsPrefix xs ys → length ys ≤ length xs → xs ≡ ys
prefix_all [] [] begins longer = refl
prefix_all [] (y ∷ ys) begins longer = absurd (omega arith)
prefix_all (x ∷ xs) [] begins longer = absurd (cc (begins.1))
prefix_all (x ∷ xs) (y ∷ ys) begins longer = let tail = prefix_all xs ys (begins.0, cc (begins.1)) (omega arith) in cc (begins.1, tail)
