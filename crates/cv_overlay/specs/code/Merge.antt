-- Two lists of entries in path order laid on one another, as lists.
use Rattle.std.specs.Prelude.{List, [], ◌∷◌, Option, Some, None}
use Rattle.std.specs.declared.cmp.Ordering.{Ordering}
use Rattle.std.specs.declared.cmp.Ordering.TheVariants.{Less, Equal, Greater}
use Rattle.cv_base.specs.Path.{path_cmp}
use Rattle.cv_base.specs.declared.tree.TreeEntry.{TreeEntry}

-- what comes first of two, by the order of their paths: the lower one, or the upper one, which takes the place of a
-- lower one at its path
abbrev pub first_of_two : Ordering → TreeEntry → TreeEntry → List TreeEntry → List TreeEntry → List TreeEntry → List TreeEntry
first_of_two Less x y before dropped after = x ∷ before
first_of_two Equal x y before dropped after = dropped
first_of_two Greater x y before dropped after = y ∷ after

-- the lower and the upper entries in one list, in path order. At a path of both the upper one stands
abbrev pub merged : List TreeEntry → List TreeEntry → List TreeEntry
merged [] ys = ys
merged (x ∷ xs) [] = x ∷ xs
merged (x ∷ xs) (y ∷ ys) = first_of_two (path_cmp x.path y.path) x y (merged xs (y ∷ ys)) (merged xs (y ∷ ys)) (merged (x ∷ xs) ys)

-- the order of the first entries, if both lists have one
abbrev pub order_of_fronts : List TreeEntry → List TreeEntry → Option Ordering
order_of_fronts [] ys = None
order_of_fronts (x ∷ xs) [] = None
order_of_fronts (x ∷ xs) (y ∷ ys) = Some (path_cmp x.path y.path)
