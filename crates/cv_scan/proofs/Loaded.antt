-- A root as it is loaded has the packages and the fault of the whole root: what loading leaves out is ignored, or refused
-- in the same way.
use Rattle.std.specs.Prelude.{◌≡◌, ℕ, Bool, true, false, nat_lt, is_none, if◌then◌else◌, List, [], ◌∷◌, length, map, Option, Some, None, refl}
use Rattle.std.specs.List.{cons_option}
use Rattle.std.proofs.Common.{ap}
use Rattle.cv_base.specs.Path.{Path}
use Rattle.cv_base.specs.Place.{place_of}
use Rattle.cv_base.specs.declared.limits.TheConstants.{PACKAGE_FILE_LIMIT}
use Rattle.cv_path.specs.declared.places.Place.{Place}
use Rattle.cv_base.specs.declared.tree.Content.{Content}
use Rattle.cv_base.specs.declared.tree.Content.TheVariants.{Bytes, TooLarge, Unread}
use Rattle.cv_base.specs.declared.tree.Node.{Node}
use Rattle.cv_base.specs.declared.tree.Node.TheVariants as node
use Rattle.cv_base.specs.declared.tree.TreeEntry.{TreeEntry}
use Rattle.cv_desk.specs.Loaded.{content_of, loaded, node_of, whole, whole_node}
use Rattle.cv_desk.specs.Stored.{Dir, File, Item, Other, Stored}
use Rattle.cv_overlay.specs.Fault.{fault, tree_fault}
use Rattle.cv_overlay.specs.Mark.{is_dir_node, outline}
use Rattle.cv_packages.specs.Files.{file_of, files_found}
use Rattle.cv_packages.specs.Found.{found_at}
use Rattle.cv_packages.specs.Packages.{assembled, packages}
use Rattle.cv_packages.specs.declared.found.Found.TheVariants as found

-- what loading makes of a node of a root
abbrev pub load_content : Path → Content → Content
load_content path (Bytes bytes) = content_of path bytes
load_content path TooLarge = TooLarge
load_content path Unread = Unread

abbrev pub load_node : Path → Node → Node
load_node path node.Dir = node.Dir
load_node path (node.File content) = node.File (load_content path content)
load_node path node.Other = node.Other

abbrev pub load_entry : TreeEntry → TreeEntry
load_entry e = record { path = e.path; node = load_node e.path e.node }

item_is : (path : Path) (item : Item) → node_of path item ≡ load_node path (whole_node item)
item_is path Dir = refl
item_is path (File bytes) = refl
item_is path Other = refl

-- a layer as it is loaded is the whole layer, of which so much is left out
pub loaded_is : (es : List Stored) → map loaded es ≡ map load_entry (map whole es)
loaded_is [] = refl
loaded_is (e ∷ es) = λ i. record { path = e.path; node = item_is e.path e.item i } ∷ loaded_is es i

-- a package file has the same as it is loaded
file_same : (path : Path) (place : Option Place) (bytes : List ℕ)
    → file_of path place (node.File (if is_none place then Unread else (if nat_lt PACKAGE_FILE_LIMIT (length bytes) then TooLarge else Bytes bytes)))
    ≡ file_of path place (node.File (Bytes bytes))
file_same path None bytes = refl
file_same path (Some place) bytes = by_test (nat_lt PACKAGE_FILE_LIMIT (length bytes)) refl where
  by_test : (b : Bool) → nat_lt PACKAGE_FILE_LIMIT (length bytes) ≡ b
      → file_of path (Some place) (node.File (if b then TooLarge else Bytes bytes)) ≡ Some (record { path = path; found = if b then found.TooLarge else found_at place bytes })
  by_test true h = refl
  by_test false h = ap (λ b. Some (record { path = path; found = if b then found.TooLarge else found_at place bytes })) h

file_loaded : (path : Path) (n : Node) → file_of path (place_of path) (load_node path n) ≡ file_of path (place_of path) n
file_loaded path node.Dir = refl
file_loaded path (node.File (Bytes bytes)) = file_same path (place_of path) bytes
file_loaded path (node.File TooLarge) = refl
file_loaded path (node.File Unread) = refl
file_loaded path node.Other = refl

files_loaded : (es : List TreeEntry) → files_found (map load_entry es) ≡ files_found es
files_loaded [] = refl
files_loaded (e ∷ es) = λ i. cons_option (file_loaded e.path e.node i) (files_loaded es i)

-- a root as it is loaded has the packages of the whole root
pub loaded_packages : (es : List TreeEntry) → packages (map load_entry es) ≡ packages es
unfolding packages
loaded_packages es = ap assembled (files_loaded es)

-- Paths and kinds are those of the whole root.

pub dir_loaded : (path : Path) (n : Node) → is_dir_node (load_node path n) ≡ is_dir_node n
dir_loaded path node.Dir = refl
dir_loaded path (node.File content) = refl
dir_loaded path node.Other = refl

outlines_loaded : (es : List TreeEntry) → map outline (map load_entry es) ≡ map outline es
outlines_loaded [] = refl
outlines_loaded (e ∷ es) = λ i. record { path = e.path; is_dir = dir_loaded e.path e.node i } ∷ outlines_loaded es i

-- and so is its fault
pub loaded_fault : (es : List TreeEntry) → tree_fault (map load_entry es) ≡ tree_fault es
loaded_fault es = ap fault (outlines_loaded es)
