-- Layers that their digests spell (defined by this project, for drills). A digest's byte 0 is a role, bytes 1 to 4 are a
-- number, the most significant byte first, and bytes 5 to 31 are 0. Every other digest, and every role above 3, has no layer.
use Rattle.std.specs.Prelude.{ℕ, ◌+◌, ◌*◌, ◌/◌, ◌%◌, ◌==◌, if◌then◌else◌, slice_index, List, [], ◌∷◌, ◌++◌, drop, codes, decimal, Option, Some, None}
use Rattle.std.specs.List.{list_all}
use Rattle.std.specs.Ordering.{nat_cmp}
use Rattle.std.specs.declared.cmp.Ordering.{Ordering}
use Rattle.cv_base.specs.InOrder.{in_order}
use Rattle.cv_base.specs.Path.{components}
use Rattle.cv_desk.specs.Stored.{Dir, File, Stored}

-- a directory at a path with this text
abbrev pub directory : List ℕ → Stored
directory text = record { path = components text; item = Dir }

-- a file at a path with this text
abbrev pub file : List ℕ → List ℕ → Stored
file text bytes = record { path = components text; item = File bytes }

-- a number below 100 in two digits
abbrev pub two_digits : ℕ → List ℕ
two_digits n = (48 + n / 10) ∷ (48 + n % 10) ∷ []

-- the number in the name of package k
abbrev pub name_number : ℕ → ℕ → ℕ
name_number s k = (s + k) % 100

-- the number in the version of package k
abbrev pub version_number : ℕ → ℕ → ℕ
version_number s k = (s + 7 * k) % 50

-- the paragraph of a package in the status file of dpkg, by the numbers in its name and its version
unfoldable pub paragraph : ℕ → ℕ → List ℕ
paragraph name version =
    codes "Package: p" ++ two_digits name ++ codes "\nStatus: install ok installed\nArchitecture: amd64\nVersion: 1." ++ decimal version ++ codes "-1\n\n"

-- the paragraphs of several packages
abbrev pub paragraphs : ℕ → List ℕ → List ℕ
paragraphs s [] = []
paragraphs s (k ∷ ks) = paragraph (name_number s k) (version_number s k) ++ paragraphs s ks

-- the package.json of an npm package, by the numbers in its name and its version
unfoldable pub manifest : ℕ → ℕ → List ℕ
manifest name version = codes "{\"name\":\"n" ++ two_digits name ++ codes "\",\"version\":\"1." ++ decimal version ++ codes ".0\"}"

-- the text of the directory of the npm package with this number
abbrev pub package_text : ℕ → List ℕ
package_text n = codes "app/node_modules/n" ++ two_digits n

-- the text of the path of its package.json
abbrev pub manifest_text : ℕ → List ℕ
manifest_text n = package_text n ++ codes "/package.json"

-- the entries of an npm package
unfoldable pub npm_package : ℕ → ℕ → List Stored
npm_package name version = directory (package_text name) ∷ file (manifest_text name) (manifest name version) ∷ []

-- the entries of several npm packages
abbrev pub packages : ℕ → List ℕ → List Stored
packages s [] = []
packages s (k ∷ ks) = npm_package (name_number s k) (version_number s k) ++ packages s ks

-- 0 to 9
abbrev pub ten : List ℕ
ten = 0 ∷ 1 ∷ 2 ∷ 3 ∷ 4 ∷ 5 ∷ 6 ∷ 7 ∷ 8 ∷ 9 ∷ []

-- 0 to 19
abbrev pub twenty : List ℕ
twenty = ten ++ 10 ∷ 11 ∷ 12 ∷ 13 ∷ 14 ∷ 15 ∷ 16 ∷ 17 ∷ 18 ∷ 19 ∷ []

-- 0 to 29
abbrev pub thirty : List ℕ
thirty = twenty ++ 20 ∷ 21 ∷ 22 ∷ 23 ∷ 24 ∷ 25 ∷ 26 ∷ 27 ∷ 28 ∷ 29 ∷ []

-- the order of two packages, by the numbers in their names
abbrev pub name_cmp : ℕ → ℕ → ℕ → Ordering
name_cmp s j k = nat_cmp (name_number s j) (name_number s k)

-- ten packages in the order of the numbers in their names
abbrev pub by_name : ℕ → List ℕ
by_name s = in_order (name_cmp s) ten

-- the directories of the status file, and the status file
abbrev pub status_file : List ℕ → List Stored
status_file bytes = directory (codes "var") ∷ directory (codes "var/lib") ∷ directory (codes "var/lib/dpkg") ∷ file (codes "var/lib/dpkg/status") bytes ∷ []

-- role 0: a Debian system of 20 packages
abbrev pub system_tree : ℕ → List Stored
system_tree s =
    directory (codes "etc") ∷ file (codes "etc/os-release") (codes "ID=debian\nVERSION_ID=\"12\"\n") ∷ status_file (paragraphs s twenty)

-- role 2: ten npm packages in path order
abbrev pub package_tree : ℕ → List Stored
package_tree s =
    directory (codes "app") ∷ directory (codes "app/node_modules") ∷ packages s (by_name s)

-- role 3: all npm packages of lower layers are hidden
abbrev pub opaque_tree : List Stored
opaque_tree = directory (codes "app") ∷ directory (codes "app/node_modules") ∷ file (codes "app/node_modules/.wh..wh..opq") [] ∷ []

-- the tree of a role and a number
abbrev pub role_tree : ℕ → ℕ → Option (List Stored)
role_tree role s =
    if role == 0 then Some (system_tree s)
    else (if role == 1 then Some (status_file (paragraphs s thirty))
    else (if role == 2 then Some (package_tree s)
    else (if role == 3 then Some opaque_tree else None)))

-- the number of four bytes, the most significant one first
abbrev pub number_of : ℕ → ℕ → ℕ → ℕ → ℕ
number_of a b c d = ((a * 256 + b) * 256 + c) * 256 + d

-- the tree of a digest
abbrev pub generated : List ℕ → Option (List Stored)
generated digest =
    if list_all (λ byte. byte == 0) (drop 5 digest)
    then role_tree (slice_index digest 0) (number_of (slice_index digest 1) (slice_index digest 2) (slice_index digest 3) (slice_index digest 4))
    else None
