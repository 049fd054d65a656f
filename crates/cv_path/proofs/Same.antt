-- Texts and paths that are the same are equal, and in the order of paths no two different paths are equal.
use Rattle.std.specs.Prelude.{◌≡◌, ℕ, true, ◌==◌, List, [], ◌∷◌, refl}
use Rattle.std.specs.Cmp.{IsTotalOrder}
use Rattle.std.specs.Cmp.Lexicographic.{lists_ties, lists_total, nat_list_cmp_total, same_text, slice_cmp, texts_ties}
use Rattle.std.specs.Ordering.{is_eq, nat_cmp}
use Rattle.std.specs.declared.cmp.Ordering.TheVariants.{Equal}
use Rattle.std.proofs.Common.{ap, arith, sym, ◌∙◌}
use Rattle.std.proofs.lemmas.Bool.Decides.{nat_tests}
use Rattle.std.proofs.lemmas.Bool.{and_from}
use Rattle.cv_path.specs.Path.{Path, path_cmp, same_path}
use Rattle.cv_path.specs.Texts.{same}
use Rattle.cv_path.proofs.Bools.{and_left, and_right}

-- the same texts are equal
pub same_is : (x y : List ℕ) → same x y ≡ true → x ≡ y
same_is x y h = same_text x y (sym h)

pub same_self : (x : List ℕ) → same x x ≡ true
same_self [] = refl
same_self (x ∷ xs) = and_from (x == x) (same xs xs) (grind (arith, nat_tests)) (same_self xs)

-- the same paths are equal
pub path_is : (p q : Path) → same_path p q ≡ true → p ≡ q
path_is [] [] h = refl
path_is [] (y ∷ ys) h = cc
path_is (x ∷ xs) [] h = cc
path_is (x ∷ xs) (y ∷ ys) h =
    let first = same_is x y (and_left (same x y) (same_path xs ys) h) in
    let rest = path_is xs ys (and_right (same x y) (same_path xs ys) h) in
    cc

pub path_self : (p : Path) → same_path p p ≡ true
path_self [] = refl
path_self (x ∷ xs) = and_from (same x x) (same_path xs xs) (same_self x) (path_self xs)

-- the order of paths is total, and paths that it holds equal are equal
pub path_total : IsTotalOrder path_cmp
path_total = lists_total nat_list_cmp_total

pub tied_path : (p q : Path) → path_cmp p q ≡ Equal → p ≡ q
tied_path p q h = path_is p q (lists_ties (slice_cmp nat_cmp) texts_ties p q ∙ ap is_eq h)
