-- The definitions, computed on small images.
use Rattle.std.specs.Prelude.{◌≡◌, ℕ, false, List, [], ◌∷◌, ◌++◌, codes, map, Some, None, Ok, Err, refl}
use Rattle.std.specs.Option.{option_or}
use Rattle.std.proofs.Common.{ap}
use Rattle.cv_base.specs.Path.{components}
use Rattle.cv_base.specs.declared.advisory.Advisory.{Advisory}
use Rattle.cv_base.specs.declared.finding.Finding.{Finding}
use Rattle.cv_base.specs.declared.tree.Content.{Content}
use Rattle.cv_base.specs.declared.tree.Content.TheVariants.{Bytes}
use Rattle.cv_base.specs.declared.tree.Node.TheVariants as node
use Rattle.cv_base.specs.declared.tree.TreeEntry.{TreeEntry}
use Rattle.cv_desk.specs.Loaded.{whole}
use Rattle.cv_desk.specs.Stored.{Dir, File, Stored}
use Rattle.cv_match.specs.Affects.{affects, fixed}
use Rattle.cv_match.specs.Findings.{findings}
use Rattle.cv_base.specs.declared.fault.What.TheVariants as what
use Rattle.cv_overlay.specs.declared.fault.ImageFault.TheVariants.{NoLayer, BadTree, BadSeal, BadFile}
use Rattle.cv_overlay.specs.declared.fault.TreeFault.TheVariants.{BadMark, Unsorted}
use Rattle.cv_packages.specs.Packages.{packages}
use Rattle.cv_scan.specs.Root.{root_entries}
use Rattle.cv_scan.specs.Layers.{distinct}
use Rattle.cv_scan.specs.Image.{bad_seal_from, image_packages, packages_unless, seal_fault}
use Rattle.cv_scan.specs.Scan.{scan, with_findings}
use Rattle.cv_seal.specs.Tree.{tree_seal}
use Rattle.cv_packages.proofs.Examples.{zlib_of}

abbrev dir : List ℕ → TreeEntry
dir text = record { path = components text; node = node.Dir }

abbrev file : List ℕ → Content → TreeEntry
file text content = record { path = components text; node = node.File content }

abbrev stored_dir : List ℕ → Stored
stored_dir text = record { path = components text; item = Dir }

abbrev stored_file : List ℕ → List ℕ → Stored
stored_file text bytes = record { path = components text; item = File bytes }

-- Roots.

abbrev base : List TreeEntry
base = dir (codes "app") ∷ file (codes "app/old") (Bytes (codes "1")) ∷ file (codes "app/status") (Bytes (codes "2")) ∷ dir (codes "etc") ∷ []

-- one layer is its own root
one : root_entries (base ∷ []) ≡ base
unfolding root_entries
one = refl

-- a whiteout is gone with what it hides, a new entry stands at its place, and of two at one path the upper one stays
two : root_entries
    (base ∷ (dir (codes "app") ∷ file (codes "app/.wh.old") (Bytes []) ∷ file (codes "app/new") (Bytes []) ∷ file (codes "app/status") (Bytes (codes "3")) ∷ []) ∷ [])
    ≡ dir (codes "app") ∷ file (codes "app/new") (Bytes []) ∷ file (codes "app/status") (Bytes (codes "3")) ∷ dir (codes "etc") ∷ []
unfolding root_entries
two = refl

-- Seals: each stated seal is compared with that of its own tree, and the first that differs is named.

abbrev a_seal : List ℕ
a_seal = 1 ∷ []

abbrev another_seal : List ℕ
another_seal = 2 ∷ []

-- no seal is stated, or that of the tree
good_seals : (bad_seal_from 0 (None ∷ Some another_seal ∷ []) (a_seal ∷ another_seal ∷ []) ≡ None) × (seal_fault 0 None a_seal ≡ None)
good_seals = (refl, refl)

-- the second of two layers has the seal that is stated for the first
bad_seal : bad_seal_from 0 (None ∷ Some a_seal ∷ Some a_seal ∷ []) (a_seal ∷ another_seal ∷ another_seal ∷ []) ≡ Some (BadSeal 1 a_seal another_seal)
bad_seal = refl

-- Scans.

abbrev falling : List Stored
falling = stored_dir (codes "b") ∷ stored_dir (codes "a") ∷ []

abbrev with_status : List ℕ → List Stored
with_status bytes = stored_dir (codes "var") ∷ stored_dir (codes "var/lib") ∷ stored_dir (codes "var/lib/dpkg") ∷ stored_file (codes "var/lib/dpkg/status") bytes ∷ []

abbrev no_colon : List ℕ
no_colon = codes "Package: a\nStatus: install ok installed\nnocolon\n"

-- a missing layer is named before a bad tree, wherever the two stand
absent : (scan (None ∷ []) (None ∷ []) [] ≡ Err (NoLayer 0)) × (scan (Some falling ∷ None ∷ None ∷ []) (None ∷ None ∷ None ∷ []) [] ≡ Err (NoLayer 1))
unfolding scan image_packages
absent = (refl, refl)

-- the first bad tree is named before a bad file, and before another seal
bad_tree : (scan (Some (with_status no_colon) ∷ Some falling ∷ Some falling ∷ []) (None ∷ None ∷ None ∷ []) [] ≡ Err (BadTree 1 (Unsorted 1)))
    × (scan (Some (with_status no_colon) ∷ Some falling ∷ []) (Some a_seal ∷ Some a_seal ∷ []) [] ≡ Err (BadTree 1 (Unsorted 1)))
unfolding scan image_packages
bad_tree = (refl, refl)

-- a mark without a name
bad_mark : scan (Some (stored_file (codes ".wh.") [] ∷ []) ∷ []) (None ∷ []) [] ≡ Err (BadTree 0 (BadMark 0))
unfolding scan image_packages
bad_mark = refl

-- the first bad line of a package file that no layer hides, and one that is hidden is ignored
bad_line : (scan (Some (with_status no_colon) ∷ []) (None ∷ []) [] ≡ Err (BadFile (components (codes "var/lib/dpkg/status")) 3 what.NoColon))
    × (scan (Some (with_status no_colon) ∷ Some (stored_file (codes ".wh.var") [] ∷ []) ∷ []) (None ∷ None ∷ []) [] ≡ Ok [])
unfolding scan image_packages root_entries packages findings
bad_line = (refl, refl)

-- another seal is named before a package file that is refused
seal_first : tree_seal (with_status no_colon) ≡ another_seal
    → scan (Some (with_status no_colon) ∷ []) (Some a_seal ∷ []) [] ≡ Err (BadSeal 0 a_seal another_seal)
unfolding scan image_packages
seal_first h = ap (λ found. with_findings [] (packages_unless (option_or (seal_fault 0 (Some a_seal) found) None) (map whole (with_status no_colon) ∷ []))) h

-- a layer that is named twice is one layer, at its first place
twice : distinct (codes "a" ∷ codes "b" ∷ codes "a" ∷ []) ≡ codes "a" ∷ codes "b" ∷ []
twice = refl

abbrev zlib : List ℕ
zlib = codes "Package: zlib" ++ 10 ∷ codes "Status: install ok installed" ++ 10 ∷ codes "Version: 1" ++ 10 ∷ []

-- a record that affects zlib 1
abbrev pub listed : List ℕ → Advisory
listed id = record {
  id = id;
  modified = codes "m";
  withdrawn = false;
  affected = record { «package» = Some (record { ecosystem = codes "unknown"; name = codes "zlib" }); ranges = []; versions = codes "1" ∷ [] } ∷ [];
}

abbrev finding : List ℕ → Finding
finding id = record {
  «package» = zlib_of (codes "unknown");
  feed = codes "f";
  advisory = id;
  fixed = None;
}

-- a package that is listed twice has one finding for each record, in the order of their ids
found : scan (Some (with_status (zlib ++ 10 ∷ zlib)) ∷ []) (None ∷ []) ((codes "f", listed (codes "X-2") ∷ listed (codes "X-1") ∷ []) ∷ [])
    ≡ Ok (finding (codes "X-1") ∷ finding (codes "X-2") ∷ [])
unfolding scan image_packages root_entries packages findings affects fixed
found = refl
