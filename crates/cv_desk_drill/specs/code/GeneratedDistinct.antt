-- No path stands twice in a generated layer.
use Rattle.std.specs.Prelude.{◌≡◌, ℕ, ◌%◌, ◌<◌, Bool, true, List, [], ◌∷◌, ◌++◌, take, Some, refl}
use Rattle.std.proofs.Common.{ap, arith, ◌∙◌}
use Rattle.cv_desk.specs.Stored.{Stored, is_distinct, IsDistinctIn}
use Rattle.cv_desk_drill.specs.Generated.{by_name, generated, name_number, npm_package, packages, package_tree, version_number}
use Rattle.cv_desk_drill.specs.code.GeneratedLaws.{below_at, of_roles}
use Rattle.cv_desk_drill.specs.code.GeneratedNames.{by_name_same}

-- The npm packages of a number are those of its last two digits.

package_same : (s k : ℕ) → npm_package (name_number s k) (version_number s k) ≡ npm_package (name_number (s % 100) k) (version_number (s % 100) k)
package_same s k =
    let name : name_number s k ≡ name_number (s % 100) k = omega arith in
    let version : version_number s k ≡ version_number (s % 100) k = omega arith in
    ap (λ n. npm_package n (version_number s k)) name ∙ ap (npm_package (name_number (s % 100) k)) version

packages_same : (s : ℕ) (ks : List ℕ) → packages s ks ≡ packages (s % 100) ks
packages_same s [] = refl
packages_same s (k ∷ ks) =
    ap (λ entries. entries ++ packages s ks) (package_same s k)
    ∙ ap (λ entries. npm_package (name_number (s % 100) k) (version_number (s % 100) k) ++ entries) (packages_same s ks)

-- the entries below the directory of all npm packages
entries_same : (s : ℕ) → packages s (by_name s) ≡ packages (s % 100) (by_name (s % 100))
entries_same s = packages_same s (by_name s) ∙ ap (packages (s % 100)) (by_name_same s)

-- a test that holds of the trees of the numbers below 100 holds of the tree of each number
pub holds_of_all : (test : List Stored → Bool) → ((n : ℕ) → n < 100 → test (package_tree n) ≡ true) → (s : ℕ) → test (package_tree s) ≡ true
holds_of_all test below_100 s =
    ap (λ entries. test (take 2 (package_tree 0) ++ entries)) (entries_same s) ∙ below_100 (s % 100) (omega arith)

-- Each role.

all_packages : (n : ℕ) → n < 100 → is_distinct (package_tree n) ≡ true
unfolding npm_package
all_packages = below_at 100 (λ n. is_distinct (package_tree n)) refl

pub generated_distinct : (digest : List ℕ) → IsDistinctIn (Some (generated digest))
generated_distinct = of_roles (λ found. IsDistinctIn (Some found)) (λ s. refl) (λ s. refl) (holds_of_all is_distinct all_packages) refl tt
