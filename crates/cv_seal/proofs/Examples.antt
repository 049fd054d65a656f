-- The definitions, computed on examples.
use Rattle.std.proofs.Common.{◌≡◌, ℕ, List, [], ◌∷◌, ◌++◌, codes, map, true, false, refl}
use Rattle.sha2.specs.Sha256.{sha256}
use Rattle.cv_base.specs.Path.{components}
use Rattle.cv_base.specs.declared.tree.Kind.{Kind}
use Rattle.cv_base.specs.declared.tree.Kind.TheVariants.{Dir, File, Other}
use Rattle.cv_base.specs.declared.tree.ListEntry.{ListEntry}
use Rattle.cv_desk.specs.Stored.{Item, Stored}
use Rattle.cv_desk.specs.Stored as stored
use Rattle.cv_seal.specs.Seal.{SealedEntry, entry_bytes, is_summed, summed_bytes}
use Rattle.cv_seal.specs.Tree.{sealed, tree_seal}

-- an entry of a listing
abbrev listed : List ℕ → Kind → ℕ → ListEntry
listed path kind size = record { path = components path; kind = kind; size = size }

-- an entry without contents
abbrev bare : List ℕ → Kind → ℕ → SealedEntry
bare path kind size = record { entry = listed path kind size; content = [] }

-- an entry of a stored tree
abbrev stored_at : List ℕ → Item → Stored
stored_at path item = record { path = components path; item = item }

-- a layer of the directory `a` alone is summed as 21 bytes
directory : summed_bytes (bare (codes "a") Dir 0 ∷ []) ≡ codes "cvwatch seal 1\nd" ++ 0 ∷ 0 ∷ 0 ∷ 1 ∷ codes "a"
directory = refl

-- a file at one of the places is summed with its size and its bytes
package_file : entry_bytes (listed (codes "etc/os-release") File 3) (codes "ID=")
    ≡ codes "f" ++ 0 ∷ 0 ∷ 0 ∷ 14 ∷ codes "etc/os-release" ++ 0 ∷ 0 ∷ 0 ∷ 0 ∷ 0 ∷ 0 ∷ 0 ∷ 3 ∷ codes "ID="
package_file = refl

-- any other file is summed with its size alone, here 2 ^ 32 + 258, and a link without a size
other_file : (entry_bytes (listed (codes "bin/a") File 4294967554) (codes "ELF") ≡ codes "f" ++ 0 ∷ 0 ∷ 0 ∷ 5 ∷ codes "bin/a" ++ 0 ∷ 0 ∷ 0 ∷ 1 ∷ 0 ∷ 0 ∷ 1 ∷ 2 ∷ [])
    × (entry_bytes (listed (codes "etc/os-release") Other 0) [] ≡ codes "o" ++ 0 ∷ 0 ∷ 0 ∷ 14 ∷ codes "etc/os-release")
other_file = (refl, refl)

-- the seven places
places : (is_summed (listed (codes "var/lib/dpkg/status") File 1) ≡ true) × (is_summed (listed (codes "var/lib/dpkg/status.d/base") File 1) ≡ true)
    × (is_summed (listed (codes "lib/apk/db/installed") File 1) ≡ true) × (is_summed (listed (codes "usr/lib/apk/db/installed") File 1) ≡ true)
    × (is_summed (listed (codes "etc/os-release") File 1) ≡ true) × (is_summed (listed (codes "usr/lib/os-release") File 1) ≡ true)
    × (is_summed (listed (codes "app/node_modules/x/package.json") File 1) ≡ true)
places = (refl, refl, refl, refl, refl, refl, refl)

-- a whiteout and an opaque mark in the folder of status files count by their paths, as any file there
marks : (is_summed (listed (codes "var/lib/dpkg/status.d/.wh.base") File 0) ≡ true) × (is_summed (listed (codes "var/lib/dpkg/status.d/.wh..wh..opq") File 0) ≡ true)
    × (is_summed (listed (codes "var/lib/dpkg/.wh.status") File 0) ≡ false)
marks = (refl, refl, refl)

-- no other place, nothing but a file, and no file above the limit
not_summed : (is_summed (listed (codes "usr/lib/python3/dist-packages/x-1.dist-info/METADATA") File 1) ≡ false) × (is_summed (listed (codes "var/lib/dpkg/status") Dir 0) ≡ false)
    × (is_summed (listed (codes "var/lib/dpkg/status") File 33554432) ≡ true) × (is_summed (listed (codes "var/lib/dpkg/status") File 33554433) ≡ false)
not_summed = (refl, refl, refl, refl)

-- a stored tree: a directory, a mark, a file that is summed without its bytes, and one that is summed with them
abbrev tree : List Stored
tree =
    stored_at (codes "etc") stored.Dir ∷ stored_at (codes "etc/.wh.x") (stored.File []) ∷ stored_at (codes "etc/a") (stored.File (codes "A"))
    ∷ stored_at (codes "etc/os-release") (stored.File (codes "ID=")) ∷ []

stored_tree : summed_bytes (map sealed tree)
    ≡ codes "cvwatch seal 1\nd" ++ 0 ∷ 0 ∷ 0 ∷ 3 ∷ codes "etcf" ++ 0 ∷ 0 ∷ 0 ∷ 9 ∷ codes "etc/.wh.x" ++ 0 ∷ 0 ∷ 0 ∷ 0 ∷ 0 ∷ 0 ∷ 0 ∷ 0
    ∷ codes "f" ++ 0 ∷ 0 ∷ 0 ∷ 5 ∷ codes "etc/a" ++ 0 ∷ 0 ∷ 0 ∷ 0 ∷ 0 ∷ 0 ∷ 0 ∷ 1
    ∷ codes "f" ++ 0 ∷ 0 ∷ 0 ∷ 14 ∷ codes "etc/os-release" ++ 0 ∷ 0 ∷ 0 ∷ 0 ∷ 0 ∷ 0 ∷ 0 ∷ 3 ∷ codes "ID="
stored_tree = refl

-- the seal of a tree is the SHA-256 of these bytes
directory_seal : tree_seal (stored_at (codes "a") stored.Dir ∷ []) ≡ sha256 (codes "cvwatch seal 1\nd" ++ 0 ∷ 0 ∷ 0 ∷ 1 ∷ codes "a")
unfolding tree_seal
directory_seal = refl
