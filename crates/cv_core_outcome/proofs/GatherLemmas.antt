-- The facts of an image's layers.
use Rattle.std.specs.Prelude.{◌≡◌, ℕ, suc, ◌+◌, ◌<◌, ◌≤◌, not, cond, List, [], ◌∷◌, ◌++◌, drop, length, Option, Some, None, slice_index_or, refl}
use Rattle.std.specs.List.{All, cons_option, filter_map, range_with_len}
use Rattle.std.specs.Option.{is_some}
use Rattle.std.proofs.Common.{append_assoc, arith, ap, get_or, sym, ◌∙◌}
use Rattle.std.proofs.lemmas.List.{at_drop_more}
use Rattle.std.proofs.lemmas.List.FromFn.{fill_by_all, get_or-range_with_len, length-range_with_len}
use Rattle.cv_facts.specs.Reduction.{Known}
use Rattle.cv_coalesce.specs.Coalesced.{at_places}
use Rattle.cv_core_machine.specs.State.{value_at}
use Rattle.cv_core_outcome.specs.Outcome.{FactTable, first_unknown, known_layers}

-- the items at all places of a list are the list
pub all_places : {A : Type 0} (other : A) (items : List A) (n : ℕ) → length items ≡ n → at_places other items (range_with_len 0 n) ≡ items
all_places other items n h = sym (fill_by_all (λ k. slice_index_or items k other) items n other h (λ k below. refl))

-- the places of a list are below its length
pub places_within : (n : ℕ) → All (λ k. k < n) (range_with_len 0 n)
places_within n = λ k d h. omega (arith, get_or-range_with_len 0 n k d (omega (arith, h, length-range_with_len 0 n)), h, length-range_with_len 0 n)

one_more : {Y : Type 0} (found : Option Y) (ys : List Y) (n : ℕ) → length ys ≤ n → length (cons_option found ys) ≤ n + 1
one_more None ys n h = omega (arith, h)
one_more (Some y) ys n h = omega (arith, h)

at_most : {X Y : Type 0} (f : X → Option Y) (xs : List X) → length (filter_map f xs) ≤ length xs
at_most f [] = omega arith
at_most f (x ∷ xs) = omega (arith, one_more (f x) (filter_map f xs) (length xs) (at_most f xs))

-- there are at most as many facts as layers
pub known_at_most : (facts : FactTable) (layers : List (List ℕ)) (n : ℕ) → length layers ≤ n → length (known_layers facts layers) ≤ n
known_at_most facts layers n h = omega (arith, at_most (value_at facts) layers, h)

known_more : (found : Option Known) (l : List ℕ) (others : List Known) (layers : List (List ℕ)) (rest : Option (List ℕ)) → cond (not (is_some found)) (Some l) rest ≡ None
    → (rest ≡ None → length others ≡ length layers) → length (cons_option found others) ≡ length (l ∷ layers)
known_more None l others layers rest e h = absurd (cc e)
known_more (Some known) l others layers rest e h = λ i. suc (h e i)

-- there are as many facts as layers, if none of these lacks them
pub all_known : (facts : FactTable) (layers : List (List ℕ)) → first_unknown facts layers ≡ None → length (known_layers facts layers) ≡ length layers
all_known facts [] e = refl
all_known facts (l ∷ ls) e = known_more (value_at facts l) l (known_layers facts ls) ls (first_unknown facts ls) e (all_known facts ls)

-- the facts of the layers from the next one on
known_next : (facts : FactTable) (layers : List (List ℕ)) (i : ℕ) (l : List ℕ) → i < length layers → l ≡ get_or layers i l
    → known_layers facts (drop i layers) ≡ cons_option (value_at facts l) (known_layers facts (drop (i + 1) layers))
known_next facts layers i l h is =
    at_drop_more (known_layers facts) layers i l h ∙ ap (λ x. cons_option (value_at facts x) (known_layers facts (drop (i + 1) layers))) (sym is)

-- the next layer has no facts
pub known_skipped : (facts : FactTable) (layers : List (List ℕ)) (i : ℕ) (l : List ℕ) (known all : List Known) → i < length layers → l ≡ get_or layers i l → None ≡ value_at facts l
    → known ++ known_layers facts (drop i layers) ≡ all → known ++ known_layers facts (drop (i + 1) layers) ≡ all
known_skipped facts layers i l known all h is none so_far =
    ap (λ rest. known ++ rest) (sym (known_next facts layers i l h is ∙ ap (λ found. cons_option found (known_layers facts (drop (i + 1) layers))) (sym none))) ∙ so_far

-- the next layer has these facts
pub known_pushed : (facts : FactTable) (layers : List (List ℕ)) (i : ℕ) (l : List ℕ) (known all pushed : List Known) (k : Known) → i < length layers → l ≡ get_or layers i l
    → Some k ≡ value_at facts l → pushed ≡ known ++ k ∷ [] → known ++ known_layers facts (drop i layers) ≡ all → pushed ++ known_layers facts (drop (i + 1) layers) ≡ all
known_pushed facts layers i l known all pushed k h is some is_pushed so_far =
    let rest = known_layers facts (drop (i + 1) layers) in
    ap (λ front. front ++ rest) is_pushed ∙ append_assoc known (k ∷ []) rest
    ∙ ap (λ others. known ++ others) (sym (known_next facts layers i l h is ∙ ap (λ found. cons_option found rest) (sym some))) ∙ so_far
