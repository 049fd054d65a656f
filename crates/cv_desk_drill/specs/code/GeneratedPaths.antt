-- The path of each entry of a generated layer is read from a text.
use Rattle.std.specs.Prelude.{ℕ, ◌<◌, List, [], ◌∷◌, codes, Some, refl}
use Rattle.std.specs.List.{AllByRecursion}
use Rattle.std.proofs.Common.{arith}
use Rattle.cv_seq.proofs.AllItems.{all_both}
use Rattle.cv_desk.specs.Stored.{ArePathsIn, IsRead, Stored}
use Rattle.cv_desk_drill.specs.Generated.{by_name, generated, manifest_text, name_number, npm_package, package_text, package_tree, packages, paragraphs, status_file, thirty, twenty, version_number}
use Rattle.cv_desk_drill.specs.code.GeneratedLaws.{manifest_reads, of_roles, package_reads}

-- the path of each of these entries is read from a text
abbrev HavePaths : List Stored → Type 0
HavePaths entries = AllByRecursion (λ (e : Stored). IsRead e.path) entries

package_paths : (name version : ℕ) → name < 100 → HavePaths (npm_package name version)
unfolding npm_package
package_paths name version l = ((package_text name, package_reads name l), ((manifest_text name, manifest_reads name l), tt))

packages_paths : (s : ℕ) (ks : List ℕ) → HavePaths (packages s ks)
packages_paths s [] = tt
packages_paths s (k ∷ ks) =
    let low : name_number s k < 100 = omega arith in
    all_both (λ (e : Stored). IsRead e.path) (npm_package (name_number s k) (version_number s k)) (packages s ks)
    (package_paths (name_number s k) (version_number s k) low) (packages_paths s ks)

tree_paths : (s : ℕ) → HavePaths (package_tree s)
tree_paths s = ((codes "app", refl), ((codes "app/node_modules", refl), packages_paths s (by_name s)))

-- the directories of the status file, and the status file
status_paths : (bytes : List ℕ) → HavePaths (status_file bytes)
status_paths bytes = ((codes "var", refl), ((codes "var/lib", refl), ((codes "var/lib/dpkg", refl), ((codes "var/lib/dpkg/status", refl), tt))))

pub generated_paths : (digest : List ℕ) → ArePathsIn (Some (generated digest))
generated_paths = of_roles (λ found. ArePathsIn (Some found))
    (λ s. ((codes "etc", refl), ((codes "etc/os-release", refl), status_paths (paragraphs s twenty)))) (λ s. status_paths (paragraphs s thirty)) tree_paths
    ((codes "app", refl), ((codes "app/node_modules", refl), ((codes "app/node_modules/.wh..wh..opq", refl), tt))) tt
