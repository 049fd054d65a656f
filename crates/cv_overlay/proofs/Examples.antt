-- The definitions of marks, faults and laying, computed on small trees.
use Rattle.std.specs.Prelude.{◌≡◌, ℕ, nat_lt, true, false, List, [], ◌∷◌, codes, length, replicate, Option, Some, None, refl}
use Rattle.std.proofs.lemmas.List.{length-map, length-replicate}
use Rattle.cv_base.specs.Path.{components}
use Rattle.cv_base.specs.declared.limits.TheConstants.{MAX_ENTRIES}
use Rattle.cv_base.specs.declared.tree.Content.TheVariants.{Bytes}
use Rattle.cv_base.specs.declared.tree.Node.{Node}
use Rattle.cv_base.specs.declared.tree.Node.TheVariants as node
use Rattle.cv_base.specs.declared.tree.TreeEntry.{TreeEntry}
use Rattle.cv_overlay.specs.Fault.{tree_fault}
use Rattle.cv_overlay.specs.Lay.{root_of}
use Rattle.cv_overlay.specs.Mark.{mark_of, outline, target_of}
use Rattle.cv_overlay.specs.declared.fault.TreeFault.TheVariants.{Unsorted, NoParent, BadMark, TooMany}
use Rattle.cv_overlay.specs.declared.mark.Mark.TheVariants.{Reserved, Opaque, Whiteout, Bad, Plain}

abbrev dir : List ℕ → TreeEntry
dir text = record { path = components text; node = node.Dir }

abbrev file : List ℕ → List ℕ → TreeEntry
file text bytes = record { path = components text; node = node.File (Bytes bytes) }

abbrev link : List ℕ → TreeEntry
link text = record { path = components text; node = node.Other }

abbrev at : List (List TreeEntry) → List ℕ → Option Node
at trees text = root_of trees (components text)

-- Marks.

plnk : (mark_of (components (codes ".wh..wh.plnk")) true ≡ Reserved) × (mark_of (components (codes ".wh..wh.plnk/7")) false ≡ Reserved)
plnk = (refl, refl)

opaque_mark : (mark_of (components (codes "a/.wh..wh..opq")) false ≡ Opaque) × (mark_of (components (codes ".wh..wh..opq")) false ≡ Opaque)
opaque_mark = (refl, refl)

opaque_dir : (mark_of (components (codes "a/.wh..wh..opq")) true ≡ Reserved) × (mark_of (components (codes ".wh..wh.x/.wh..wh..opq")) false ≡ Reserved)
opaque_dir = (refl, refl)

whiteout : (mark_of (components (codes "a/.wh.x")) false ≡ Whiteout) × (target_of (components (codes "a/.wh.x")) ≡ components (codes "a/x"))
whiteout = (refl, refl)

top_whiteout : (mark_of (components (codes ".wh..wh")) false ≡ Whiteout) × (target_of (components (codes ".wh..wh")) ≡ components (codes ".wh"))
top_whiteout = (refl, refl)

bad_marks : (mark_of (components (codes ".wh.")) false ≡ Bad) × (mark_of (components (codes "a/.wh..")) false ≡ Bad) × (mark_of (components (codes "a/.wh...")) false ≡ Bad) × (mark_of (components (codes "a/.wh.x")) true ≡ Bad)
bad_marks = (refl, refl, refl, refl)

below_a_mark : (mark_of (components (codes ".wh.x/y")) false ≡ Plain) × (mark_of (components (codes "a/.whx")) false ≡ Plain)
below_a_mark = (refl, refl)

-- Faults.

parent_is_a_file : tree_fault (file (codes "a") [] ∷ file (codes "a/b") [] ∷ []) ≡ Some (NoParent 1)
parent_is_a_file = refl

falling : tree_fault (dir (codes "b") ∷ dir (codes "a") ∷ []) ≡ Some (Unsorted 1)
falling = refl

twice : tree_fault (dir (codes "a") ∷ dir (codes "a") ∷ []) ≡ Some (Unsorted 1)
twice = refl

no_target : tree_fault (file (codes ".wh.") [] ∷ []) ≡ Some (BadMark 0)
no_target = refl

marked_dir : tree_fault (dir (codes ".wh.x") ∷ []) ≡ Some (BadMark 0)
marked_dir = refl

reserved_dir : tree_fault (dir (codes ".wh..wh.plnk") ∷ file (codes ".wh..wh.plnk/7") [] ∷ []) ≡ None
reserved_dir = refl

first_of_two : tree_fault (dir (codes "a") ∷ file (codes "b/c") [] ∷ dir (codes "a") ∷ []) ≡ Some (NoParent 1)
first_of_two = refl

-- an entry that is out of order, without a parent and with a bad mark: its order comes first, and then its parent
two_faults : (tree_fault (dir (codes "b") ∷ file (codes "a/.wh.") [] ∷ []) ≡ Some (Unsorted 1)) × (tree_fault (dir (codes "a") ∷ file (codes "b/.wh.") [] ∷ []) ≡ Some (NoParent 1))
two_faults = (refl, refl)

-- a layer of too many entries is refused before all else, whatever its entries are
too_many : (entries : List TreeEntry) → nat_lt MAX_ENTRIES (length entries) ≡ true → tree_fault entries ≡ Some TooMany
too_many entries h = rw (length-map entries outline, h) refl

repeated : (count : ℕ) (e : TreeEntry) → nat_lt MAX_ENTRIES count ≡ true → tree_fault (replicate count e) ≡ Some TooMany
repeated count e h = too_many (replicate count e) (rw (length-replicate count e) h)

-- as one of a million and one entries that all have one path
one_too_many : tree_fault (replicate 1000001 (dir (codes "a"))) ≡ Some TooMany
one_too_many = repeated 1000001 (dir (codes "a")) refl

-- Laying.

abbrev base : List TreeEntry
base =
    dir (codes "etc") ∷ link (codes "etc/os-release") ∷ dir (codes "var") ∷ dir (codes "var/lib") ∷ dir (codes "var/lib/dpkg")
    ∷ file (codes "var/lib/dpkg/status") (codes "1") ∷ []

abbrev folders : List TreeEntry → List TreeEntry
folders rest = dir (codes "var") ∷ dir (codes "var/lib") ∷ dir (codes "var/lib/dpkg") ∷ rest

-- a whiteout hides the file below it, and the rest stays
whited_out : (at (base ∷ folders (file (codes "var/lib/dpkg/.wh.status") [] ∷ []) ∷ []) (codes "var/lib/dpkg/status") ≡ None) × (at (base ∷ folders (file (codes "var/lib/dpkg/.wh.status") [] ∷ []) ∷ []) (codes "etc/os-release") ≡ Some node.Other)
whited_out = (refl, refl)

-- a whiteout does not hide what its own layer has
own_layer : at (base ∷ folders (file (codes "var/lib/dpkg/.wh.status") [] ∷ file (codes "var/lib/dpkg/status") (codes "2") ∷ []) ∷ []) (codes "var/lib/dpkg/status") ≡ Some (node.File (Bytes (codes "2")))
own_layer = refl

-- a whiteout hides all below its target
whited_out_below : at (base ∷ (dir (codes "var") ∷ file (codes "var/.wh.lib") [] ∷ []) ∷ []) (codes "var/lib/dpkg/status") ≡ None
whited_out_below = refl

-- an opaque mark hides what lies in the folders of its directory, and not the directory
opaque_below : (at (base ∷ (file (codes ".wh..wh..opq") [] ∷ dir (codes "var") ∷ []) ∷ []) (codes "var/lib/dpkg/status") ≡ None) × (at (base ∷ (dir (codes "var") ∷ file (codes "var/.wh..wh..opq") [] ∷ []) ∷ []) (codes "var") ≡ Some node.Dir)
opaque_below = (refl, refl)

-- a file hides what lower layers have below its path
covered : (at (base ∷ (file (codes "var") [] ∷ []) ∷ []) (codes "var/lib/dpkg/status") ≡ None) × (at (base ∷ (file (codes "var") [] ∷ []) ∷ []) (codes "var") ≡ Some (node.File (Bytes [])))
covered = (refl, refl)

-- a directory hides nothing of lower layers
met : at (base ∷ folders [] ∷ []) (codes "var/lib/dpkg/status") ≡ Some (node.File (Bytes (codes "1")))
met = refl

-- the topmost of three layers gives the file back
given_back : at (base ∷ folders (file (codes "var/lib/dpkg/.wh.status") [] ∷ []) ∷ base ∷ []) (codes "var/lib/dpkg/status") ≡ Some (node.File (Bytes (codes "1")))
given_back = refl

-- a reserved folder with a file in it
abbrev plnk_folder : List TreeEntry
plnk_folder = dir (codes ".wh..wh.plnk") ∷ file (codes ".wh..wh.plnk/7") [] ∷ dir (codes "a") ∷ []

-- nothing of it is laid, the entry beside it is, and it hides nothing
reserved_is_ignored : (at (plnk_folder ∷ []) (codes ".wh..wh.plnk") ≡ None) × (at (plnk_folder ∷ []) (codes ".wh..wh.plnk/7") ≡ None)
    × (at (plnk_folder ∷ []) (codes "a") ≡ Some node.Dir) × (at ((dir (codes "b") ∷ []) ∷ plnk_folder ∷ []) (codes "b") ≡ Some node.Dir)
reserved_is_ignored = (refl, refl, refl, refl)
