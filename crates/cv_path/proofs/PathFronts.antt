-- The first components of a path, by its text.
use Rattle.std.proofs.Common.{◌≡◌, ℕ, zero, suc, ◌-◌, Bool, true, false, cond, ◌==◌, List, [], ◌∷◌, take, refl, sym, ◌∙◌, ap, subst, arith}
use Rattle.std.specs.List.{list_all, slice_split, onto_first}
use Rattle.std.proofs.lemmas.Bool.Decides.{nat_tests}
use Rattle.std.proofs.lemmas.List.Splits.{slice_split-cons_no, slice_split-cons_yes}
use Rattle.cv_path.specs.Path.{Path, IsPath, components, is_name, is_slash, path_cmp}
use Rattle.cv_path.specs.Texts.{is_cons}
use Rattle.cv_path.specs.code.PathText.{HasNoNul, front_text, is_end, slashes_after, text_cmp}
use Rattle.cv_path.proofs.PathLemmas.{order_components, split_cons}
use Rattle.cv_path.proofs.PathReads.{names, path_no_nul}

onto_front : (k x : ℕ) (s : Path) → is_cons s ≡ true → onto_first x (take (suc k) s) ≡ take (suc k) (onto_first x s)
onto_front k x [] h = cc
onto_front k x (c ∷ cs) h = refl

abbrev nothing : Path
nothing = []

take_none : (k : ℕ) → take k nothing ≡ nothing
take_none zero = refl
take_none (suc k) = refl

front_no : (k x : ℕ) (xs : List ℕ) → is_slash x ≡ false → front_text k (x ∷ xs) ≡ x ∷ front_text k xs
front_no k x xs e = rw e refl

front_yes : (k x : ℕ) (xs : List ℕ) → is_slash x ≡ true → front_text (suc k) (x ∷ xs) ≡ x ∷ front_text k xs
front_yes k x xs e =
    let more : (suc k == 0) ≡ false = grind (arith, nat_tests) in
    let less : suc k - 1 ≡ k = omega arith in
    rw (e, more, less) refl

split_front : (k : ℕ) (t : List ℕ) → slice_split is_slash (front_text k t) ≡ take (suc k) (slice_split is_slash t)
split_front k [] = ap (λ s. [] ∷ s) (sym (take_none k))
split_front k (x ∷ xs) = by k (is_slash x) refl (λ j. split_front j xs) where
  by : (j : ℕ) (b : Bool) → is_slash x ≡ b → ((i : ℕ) → slice_split is_slash (front_text i xs) ≡ take (suc i) (slice_split is_slash xs))
      → slice_split is_slash (front_text j (x ∷ xs)) ≡ take (suc j) (slice_split is_slash (x ∷ xs))
  by zero true e rest = rw e refl
  by (suc j) true e rest =
      ap (slice_split is_slash) (front_yes j x xs e)
      ∙ slice_split-cons_yes is_slash x (front_text j xs) e
      ∙ ap (λ s. [] ∷ s) (rest j)
      ∙ ap (take (suc (suc j))) (sym (slice_split-cons_yes is_slash x xs e))
  by j false e rest =
      ap (slice_split is_slash) (front_no j x xs e)
      ∙ slice_split-cons_no is_slash x (front_text j xs) e
      ∙ ap (onto_first x) (rest j)
      ∙ onto_front j x (slice_split is_slash xs) (split_cons xs)
      ∙ ap (take (suc j)) (sym (slice_split-cons_no is_slash x xs e))

-- a path does not begin with a slash
first_byte : (x : ℕ) (xs : List ℕ) → IsPath (components (x ∷ xs)) → is_slash x ≡ false
first_byte x xs h = by (is_slash x) (names (components (x ∷ xs)) h) where
  by : (b : Bool) → list_all is_name (cond b ([] ∷ slice_split is_slash xs) (onto_first x (slice_split is_slash xs))) ≡ true → b ≡ false
  by true k = cc
  by false k = refl

front_some : (k x : ℕ) (xs : List ℕ) → is_slash x ≡ false → components (front_text k (x ∷ xs)) ≡ slice_split is_slash (front_text k (x ∷ xs))
front_some k x xs e = rw e refl

pub front_components : (k : ℕ) (t : List ℕ) → IsPath (components t) → components (front_text k t) ≡ take (suc k) (components t)
front_components k [] h = refl
front_components k (x ∷ xs) h = front_some k x xs (first_byte x xs h) ∙ split_front k (x ∷ xs)

front_no_nul : (k : ℕ) (t : List ℕ) → HasNoNul t → HasNoNul (front_text k t)
front_no_nul k [] h = tt
front_no_nul k (x ∷ xs) h = by (is_end x k) (front_no_nul (slashes_after x k) xs h.1) where
  by : (b : Bool) → HasNoNul (front_text (slashes_after x k) xs) → HasNoNul (cond b [] (x ∷ front_text (slashes_after x k) xs))
  by true rest = tt
  by false rest = (h.0, rest)

-- the order of two texts is that of their paths
pub order_paths : (t u : List ℕ) (p q : Path) → components t ≡ p → components u ≡ q → IsPath p → IsPath q → text_cmp t u ≡ path_cmp p q
order_paths t u p q e f h k =
    rw (sym e, sym f) (order_components t u (path_no_nul t (subst IsPath (sym e) h)) (path_no_nul u (subst IsPath (sym f) k)))

-- and that of a text and of the front of another one
pub order_front : (depth : ℕ) (t u : List ℕ) (p q : Path) → (depth ≡ 0 → ⊥) → components t ≡ p → components u ≡ q → IsPath p → IsPath q
    → text_cmp t (front_text (depth - 1) u) ≡ path_cmp p (take depth q)
order_front depth t u p q some e f h i =
    let one : IsPath (components t) = subst IsPath (sym e) h in
    let two : IsPath (components u) = subst IsPath (sym f) i in
    let number : suc (depth - 1) ≡ depth = omega (arith, some) in
    order_components t (front_text (depth - 1) u) (path_no_nul t one) (front_no_nul (depth - 1) u (path_no_nul u two))
    ∙ ap (path_cmp (components t)) (front_components (depth - 1) u two)
    ∙ rw (number, e, f) refl
