-- The places of layers among facts.
use Rattle.std.specs.Prelude.{◌≡◌, ℕ, ◌<◌, ◌≤◌, Bool, true, false, not, filter, cond, List, [], ◌∷◌, All, length, map, slice_index_or}
use Rattle.std.proofs.Common.{zero, suc, ap, arith, get_or, subst, sym, ◌∙◌}
use Rattle.std.proofs.lemmas.List.Elements.{All-from_recursion}
use Rattle.std.proofs.lemmas.List.{length-map}
use Rattle.cv_base.specs.Texts.{has_text, same}
use Rattle.cv_facts.specs.Reduction.{Known}
use Rattle.cv_scan.specs.Distinct.{distinct}
use Rattle.cv_scan.proofs.Seen.{all_seen}

-- the digest of the facts at a place
pub digest_at : (facts : List Known) (k : ℕ) (known : Known) (layer : List ℕ) → k < length facts → known ≡ get_or facts k known → known.digest ≡ layer
    → slice_index_or (map (λ (f : Known). f.digest) facts) k [] ≡ layer
digest_at [] k known layer lt at e = absurd (omega (arith, lt))
digest_at (f ∷ facts) zero known layer lt at e = sym (ap (λ (x : Known). x.digest) at) ∙ e
digest_at (f ∷ facts) (suc k) known layer lt at e = digest_at facts k known layer (omega (arith, lt)) at e

-- the facts of the distinct layers of an image have all its layers
pub all_known : (digests layers : List (List ℕ)) → digests ≡ distinct layers → All (λ layer. has_text digests layer ≡ true) layers
all_known digests layers h =
    subst (λ ds. All (λ layer. has_text ds layer ≡ true) layers) (sym h) (All-from_recursion (λ layer. has_text (distinct layers) layer ≡ true) layers (all_seen layers))

at_most_filter : {A : Type 0} (p : A → Bool) (xs : List A) → length (filter p xs) ≤ length xs
at_most_filter p [] = omega arith
at_most_filter p (x ∷ xs) = by_test (p x) (at_most_filter p xs) where
  by_test : (b : Bool) → length (filter p xs) ≤ length xs → length (cond b (x ∷ filter p xs) (filter p xs)) ≤ suc (length xs)
  by_test true h = omega (arith, h)
  by_test false h = omega (arith, h)

at_most_distinct : (layers : List (List ℕ)) → length (distinct layers) ≤ length layers
at_most_distinct [] = omega arith
at_most_distinct (layer ∷ layers) =
    let one = at_most_filter (λ other. not (same layer other)) (distinct layers) in
    let two = at_most_distinct layers in
    omega (arith, one, two)

-- there are no more facts than layers
pub at_most_facts : (facts : List Known) (layers : List (List ℕ)) (n : ℕ) → map (λ (f : Known). f.digest) facts ≡ distinct layers → length layers ≤ n → length facts ≤ n
at_most_facts facts layers n h k =
    let one = length-map facts (λ (f : Known). f.digest) in
    let two : length (map (λ (f : Known). f.digest) facts) ≡ length (distinct layers) = ap length h in
    let three = at_most_distinct layers in
    omega (arith, k, one, two, three)
