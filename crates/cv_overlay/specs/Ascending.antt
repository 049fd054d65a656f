-- The order of the entries of a root (defined by this project).
use Rattle.std.specs.Prelude.{◌≡◌, List, [], ◌∷◌}
use Rattle.std.specs.declared.cmp.Ordering.TheVariants.{Less}
use Rattle.std.specs.List.{AllByRecursion}
use Rattle.cv_base.specs.Path.{path_cmp}
use Rattle.cv_base.specs.declared.tree.TreeEntry.{TreeEntry}

-- entries strictly ascend by their paths
abbrev pub AreAscending : List TreeEntry → Type 0
AreAscending [] = Unit {0}
AreAscending (e ∷ es) = AllByRecursion (λ later. path_cmp e.path later.path ≡ Less) es × AreAscending es
