-- The entries of a generated layer stand in path order.
use Rattle.std.proofs.Common.{◌≡◌, ℕ, ◌<◌, Bool, true, List, [], ◌∷◌, refl}
use Rattle.std.specs.Prelude.{◌&&◌}
use Rattle.std.specs.Ordering.{is_lt}
use Rattle.cv_base.specs.Path.{path_cmp}
use Rattle.cv_desk_drill.specs.Generated.{npm_package, opaque_tree, package_tree, status_file, system_tree}
use Rattle.cv_desk.specs.Stored.{Stored}
use Rattle.cv_desk_drill.specs.code.GeneratedDistinct.{holds_of_all}
use Rattle.cv_desk_drill.specs.code.GeneratedLaws.{below_at}

-- each path is below the next one
abbrev ascends : List Stored → Bool
ascends [] = true
ascends (a ∷ []) = true
ascends (a ∷ b ∷ rest) = is_lt (path_cmp a.path b.path) && ascends (b ∷ rest)

-- role 0
system_ascends : (s : ℕ) → ascends (system_tree s) ≡ true
system_ascends s = refl

-- role 1
status_ascends : (bytes : List ℕ) → ascends (status_file bytes) ≡ true
status_ascends bytes = refl

all_ascend : (n : ℕ) → n < 100 → ascends (package_tree n) ≡ true
unfolding npm_package
all_ascend = below_at 100 (λ n. ascends (package_tree n)) refl

-- role 2, also where the numbers begin at 0 again
packages_ascend : (s : ℕ) → ascends (package_tree s) ≡ true
packages_ascend = holds_of_all ascends all_ascend

-- role 3
opaque_ascends : ascends opaque_tree ≡ true
opaque_ascends = refl
