-- Paths of package files, by the components of their texts.
use Rattle.std.proofs.Common.{◌≡◌, ℕ, Bool, true, false, cond, List, [], ◌∷◌, refl, sym, ap, ◌∙◌}
use Rattle.std.specs.List.{slice_split, onto_first}
use Rattle.cv_path.specs.Path.{Path, components, is_slash, path_text, same_path}
use Rattle.cv_path.specs.Place.{is_npm, names_package}
use Rattle.cv_path.specs.Texts.{same}
use Rattle.cv_path.proofs.Bools.{both_ways}
use Rattle.cv_path.proofs.PathLemmas.{join_components}
use Rattle.cv_path.proofs.Same.{path_is, path_self, same_is, same_self}

four_by : (a b c : List ℕ) (x : ℕ) (s : Path) (e : Bool) → names_package (a ∷ b ∷ c ∷ cond e ([] ∷ s) (onto_first x s)) ≡ false
four_by a b c x s true = refl
four_by a b c x [] false = refl
four_by a b c x (h ∷ r) false = refl

-- more than three parts name no package
pub too_deep : (a b c t : List ℕ) → names_package (a ∷ b ∷ c ∷ slice_split is_slash t) ≡ false
too_deep a b c [] = refl
too_deep a b c (x ∷ xs) = four_by a b c x (slice_split is_slash xs) (is_slash x)

-- the empty text ends in no such file, as one part or as none
pub npm_components : (t : List ℕ) → is_npm (slice_split is_slash t) ≡ is_npm (components t)
npm_components [] = refl
npm_components (x ∷ xs) = refl

-- two texts are the same if their components are
pub same_components : (t u : List ℕ) (p : Path) → components t ≡ p → same t u ≡ same_path p (components u)
same_components t u p e = both_ways (same t u) (same_path p (components u)) one other where
  one : same t u ≡ true → same_path p (components u) ≡ true
  one h = let equal : p ≡ components u = sym e ∙ ap components (same_is t u h) in rw equal (path_self (components u))

  other : same_path p (components u) ≡ true → same t u ≡ true
  other h =
      let equal : t ≡ u = sym (join_components t) ∙ ap path_text (e ∙ path_is p (components u) h) ∙ join_components u in
      rw equal (same_self u)
