-- The scan of an image of which no seal is stated, by the entries of its trees.
use Rattle.std.specs.Prelude.{ℕ, List, Option, Result, Ok, Err}
use Rattle.cv_base.specs.declared.advisory.Advisory.{Advisory}
use Rattle.cv_base.specs.declared.package.Package.{Package}
use Rattle.cv_base.specs.declared.tree.TreeEntry.{TreeEntry}
use Rattle.cv_overlay.specs.declared.fault.ImageFault.{ImageFault}
use Rattle.cv_scan.specs.Image.{bad_tree_from, packages_unless, trees_from}
use Rattle.cv_scan.specs.Scan.{Scanned, with_findings}

-- the packages of an image that has all these trees
abbrev pub plain_packages_of : List (List TreeEntry) → Result (List Package) ImageFault
plain_packages_of trees = packages_unless (bad_tree_from 0 trees) trees

-- the packages if no tree is missing, or else the first that is
abbrev pub plain_layers : Result (List (List TreeEntry)) ImageFault → Result (List Package) ImageFault
plain_layers (Err bad) = Err bad
plain_layers (Ok trees) = plain_packages_of trees

-- the packages of an image: takes the tree of each of its layers, if it has one, the base first
unfoldable pub plain_packages : List (Option (List TreeEntry)) → Result (List Package) ImageFault
plain_packages layers = plain_layers (trees_from 0 layers)

-- the scan of an image of these trees with these feeds
unfoldable pub plain_scan : List (Option (List TreeEntry)) → List (List ℕ × List Advisory) → Scanned
plain_scan layers feeds = with_findings feeds (plain_packages layers)
