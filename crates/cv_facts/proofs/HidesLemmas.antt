-- The lists of what a layer hides, entry by entry.
use Rattle.std.specs.Prelude.{◌≡◌, ℕ, ◌+◌, ◌<◌, Bool, true, false, if◌then◌else◌, filter, List, [], ◌∷◌, ◌++◌, drop, get_or, length, map, Option, None, Some, refl}
use Rattle.std.specs.List.{cons_option, filter_map}
use Rattle.std.proofs.Common.{ap, append_assoc, sym, ◌∙◌}
use Rattle.std.proofs.lemmas.List.{drop_more}
use Rattle.cv_base.specs.Path.{Path}
use Rattle.cv_base.specs.declared.tree.ListEntry.{ListEntry}
use Rattle.cv_overlay.specs.Mark.{Outline, listed}

-- the paths that are made of the entries that pass a test, from the first entry and from the others
pub kept_cons : (path : Outline → Path) (test : Outline → Bool) (x : Outline) (rest : List Outline)
    → map path (filter test (x ∷ rest)) ≡ map path (filter test (x ∷ [])) ++ map path (filter test rest)
kept_cons path test x rest = by_test (test x) where
  by_test : (b : Bool) → map path (if b then x ∷ filter test rest else filter test rest) ≡ map path (if b then x ∷ [] else []) ++ map path (filter test rest)
  by_test true = refl
  by_test false = refl

-- and the paths that are found in entries
pub found_cons : (f : Outline → Option Path) (x : Outline) (rest : List Outline) → filter_map f (x ∷ rest) ≡ filter_map f (x ∷ []) ++ filter_map f rest
found_cons f x rest = by_found (f x) where
  by_found : (o : Option Path) → cons_option o (filter_map f rest) ≡ cons_option o [] ++ filter_map f rest
  by_found None = refl
  by_found (Some p) = refl

-- one more entry was added
pub one_more : (list : List Outline → List Path) → ((x : Outline) (rest : List Outline) → list (x ∷ rest) ≡ list (x ∷ []) ++ list rest)
    → (es : List ListEntry) (i : ℕ) (x : ListEntry) (old new all : List Path) → i < length es → x ≡ get_or es i x
    → new ≡ old ++ list (listed x ∷ []) → old ++ list (map listed (drop i es)) ≡ all → new ++ list (map listed (drop (i + 1) es)) ≡ all
one_more list splits es i x old new all lt at n h =
    let rest = map listed (drop (i + 1) es) in
    ap (λ (xs : List Path). xs ++ list rest) n
    ∙ append_assoc old (list (listed x ∷ [])) (list rest)
    ∙ ap (λ (xs : List Path). old ++ xs) (sym (splits (listed x) rest))
    ∙ ap (λ (y : ListEntry). old ++ list (listed y ∷ rest)) at
    ∙ ap (λ (xs : List ListEntry). old ++ list (map listed xs)) (sym (drop_more es i x lt))
    ∙ h
