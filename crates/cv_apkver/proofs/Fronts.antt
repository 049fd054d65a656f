-- What comes before and after a byte in a text, by its place.
use Rattle.std.proofs.Common.{◌≡◌, ℕ, Bool, not, List, length, take, drop, Some, None, ◌==◌, refl, ap, ◌∙◌, add-one, ◌<◌, ◌+◌, ◌-◌, length-drop, drop-cons, arith}
use Rattle.std.proofs.lemmas.List.Quantifiers.{position-Some}
use Rattle.std.specs.List.{position}
use Rattle.std.proofs.lemmas.List.{take_all}
use Rattle.cv_order.proofs.Fronts.{after_none, after_some, front_none, front_some}
use Rattle.cv_apkver.specs.Parts.{before, after, rest_of}

-- the byte, and all others
abbrev is : ℕ → ℕ → Bool
is c x = x == c

abbrev but : ℕ → ℕ → Bool
but c x = not (x == c)

pub before_some : (c : ℕ) (xs : List ℕ) (i : ℕ) → position (λ x. x == c) xs ≡ Some i → before c xs ≡ take i xs
before_some c xs = front_some (but c) (is c) (λ x. refl) xs

pub before_none : (c : ℕ) (xs : List ℕ) → position (λ x. x == c) xs ≡ None → before c xs ≡ xs
before_none c xs = front_none (but c) (is c) (λ x. refl) xs

-- after the item at a place
next_of : (xs : List ℕ) (i : ℕ) → i < length xs → rest_of (drop i xs) ≡ Some (take (length xs - (i + 1)) (drop (i + 1) xs))
next_of xs i h =
    let all : take (length xs - (i + 1)) (drop (i + 1) xs) ≡ drop (i + 1) xs = take_all _ (drop (i + 1) xs) (omega (arith, length-drop (i + 1) xs)) in
    rw (all, add-one, drop-cons xs i 0 h) refl

pub rest_some : (c : ℕ) (xs : List ℕ) (i : ℕ) → position (λ x. x == c) xs ≡ Some i → after c xs ≡ Some (take (length xs - (i + 1)) (drop (i + 1) xs))
rest_some c xs i h = ap rest_of (after_some (but c) (is c) (λ x. refl) xs i h) ∙ next_of xs i (position-Some (is c) xs i 0 h).0

pub rest_none : (c : ℕ) (xs : List ℕ) → position (λ x. x == c) xs ≡ None → after c xs ≡ None
rest_none c xs h = ap rest_of (after_none (but c) (is c) (λ x. refl) xs h)
