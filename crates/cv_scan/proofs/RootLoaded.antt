-- The root of an image whose layers were loaded is the root of the whole layers, of which so much is left out; and so is
-- its scan.
use Rattle.std.specs.Prelude.{◌≡◌, ℕ, ◌+◌, Bool, true, false, ◌&&◌, ◌||◌, not, if◌then◌else◌, List, [], ◌∷◌, ◌++◌, map, Option, Some, None, Result, Ok, Err, refl}
use Rattle.std.specs.List.{cons_option, flat_map}
use Rattle.std.specs.Option.{option_map, option_or}
use Rattle.std.proofs.Common.{ap, ◌∙◌}
use Rattle.cv_base.specs.InOrder.{in_order}
use Rattle.cv_base.specs.Path.{Path, is_above, path_cmp, same_path}
use Rattle.cv_base.specs.declared.advisory.Advisory.{Advisory}
use Rattle.cv_base.specs.declared.tree.Node.{Node}
use Rattle.cv_base.specs.declared.tree.TreeEntry.{TreeEntry}
use Rattle.cv_base.proofs.Same.{path_is}
use Rattle.cv_overlay.specs.Lay.{hides, hides_by, is_plain, lay, plain_at, root_from, root_of}
use Rattle.cv_overlay.specs.Mark.{mark, mark_of}
use Rattle.cv_overlay.specs.declared.fault.ImageFault.{ImageFault}
use Rattle.cv_overlay.specs.declared.mark.Mark.{Mark}
use Rattle.cv_overlay.specs.declared.mark.Mark.TheVariants.{Reserved, Opaque, Whiteout, Bad, Plain}
use Rattle.cv_packages.specs.Packages.{packages}
use Rattle.cv_scan.specs.Root.{entries_at, paths_of, root_entries}
use Rattle.cv_scan.specs.Image.{as_image, bad_tree_from, or_bad, packages_unless, trees_from, with_tree}
use Rattle.cv_scan.specs.Scan.{with_findings}
use Rattle.cv_scan.specs.code.Plain.{plain_layers, plain_packages, plain_scan}
use Rattle.cv_scan.proofs.Loaded.{dir_loaded, load_entry, load_node, loaded_fault, loaded_packages}

abbrev path_in : TreeEntry → Path
path_in e = e.path

mark_loaded : (e : TreeEntry) → mark (load_entry e) ≡ mark e
mark_loaded e = ap (mark_of e.path) (dir_loaded e.path e.node)

-- What a tree has at a path.

plain_loaded : (tree : List TreeEntry) (p : Path) → plain_at (map load_entry tree) p ≡ option_map (load_node p) (plain_at tree p)
plain_loaded [] p = refl
plain_loaded (e ∷ es) p =
    ap (λ m. if is_plain m && same_path e.path p then Some (load_node e.path e.node) else plain_at (map load_entry es) p) (mark_loaded e)
    ∙ by_tests (is_plain (mark e)) (same_path e.path p) refl (plain_loaded es p)
  where
    by_tests : (m s : Bool) → same_path e.path p ≡ s → plain_at (map load_entry es) p ≡ option_map (load_node p) (plain_at es p)
        → (if m && s then Some (load_node e.path e.node) else plain_at (map load_entry es) p) ≡ option_map (load_node p) (if m && s then Some e.node else plain_at es p)
    by_tests true true f rest = ap (λ q. Some (load_node q e.node)) (path_is e.path p f)
    by_tests true false f rest = rest
    by_tests false s f rest = rest

-- What it hides.

hides_mark : (m : Mark) (e : TreeEntry) (p : Path) → hides_by m (load_entry e) p ≡ hides_by m e p
hides_mark Whiteout e p = refl
hides_mark Opaque e p = refl
hides_mark Plain e p = ap (λ b. not b && is_above e.path p) (dir_loaded e.path e.node)
hides_mark Reserved e p = refl
hides_mark Bad e p = refl

hides_entry : (e : TreeEntry) (p : Path) → hides_by (mark (load_entry e)) (load_entry e) p ≡ hides_by (mark e) e p
hides_entry e p = ap (λ m. hides_by m (load_entry e) p) (mark_loaded e) ∙ hides_mark (mark e) e p

hides_loaded : (tree : List TreeEntry) (p : Path) → hides (map load_entry tree) p ≡ hides tree p
hides_loaded [] p = refl
hides_loaded (e ∷ es) p = λ i. hides_entry e p i || hides_loaded es p i

-- Laid.

or_loaded : (p : Path) (found : Option Node) (b : Bool) (one two : Option Node) → one ≡ option_map (load_node p) two
    → option_or (option_map (load_node p) found) (if b then None else one) ≡ option_map (load_node p) (option_or found (if b then None else two))
or_loaded p (Some n) b one two h = refl
or_loaded p None true one two h = refl
or_loaded p None false one two h = h

abbrev AreLoaded : (Path → Option Node) → (Path → Option Node) → Type 0
AreLoaded one two = (p : Path) → one p ≡ option_map (load_node p) (two p)

lay_loaded : (one two : Path → Option Node) (tree : List TreeEntry) → AreLoaded one two → AreLoaded (lay one (map load_entry tree)) (lay two tree)
lay_loaded one two tree h p =
    (λ i. option_or (plain_loaded tree p i) (if hides_loaded tree p i then None else one p))
    ∙ or_loaded p (plain_at tree p) (hides tree p) (one p) (two p) (h p)

from_loaded : (one two : Path → Option Node) (trees : List (List TreeEntry)) → AreLoaded one two → AreLoaded (root_from one (map (map load_entry) trees)) (root_from two trees)
from_loaded one two [] h = h
from_loaded one two (tree ∷ trees) h = from_loaded (lay one (map load_entry tree)) (lay two tree) trees (lay_loaded one two tree h)

-- The entries.

entry_by : (p : Path) (found : Option Node)
    → option_map (λ n. record { path = p; node = n }) (option_map (load_node p) found) ≡ option_map load_entry (option_map (λ n. record { path = p; node = n }) found)
entry_by p None = refl
entry_by p (Some n) = refl

cons_loaded : (found : Option TreeEntry) (es : List TreeEntry) → cons_option (option_map load_entry found) (map load_entry es) ≡ map load_entry (cons_option found es)
cons_loaded None es = refl
cons_loaded (Some e) es = refl

entries_loaded : (one two : Path → Option Node) (ps : List Path) → AreLoaded one two → entries_at one ps ≡ map load_entry (entries_at two ps)
entries_loaded one two [] h = refl
entries_loaded one two (p ∷ ps) h =
    (λ i. cons_option ((ap (option_map (λ (n : Node). record { path = p; node = n })) (h p) ∙ entry_by p (two p)) i) (entries_loaded one two ps h i))
    ∙ cons_loaded (option_map (λ (n : Node). record { path = p; node = n }) (two p)) (entries_at two ps)

tree_paths : (tree : List TreeEntry) → map path_in (map load_entry tree) ≡ map path_in tree
tree_paths [] = refl
tree_paths (e ∷ es) = ap (λ ps. e.path ∷ ps) (tree_paths es)

all_paths : (trees : List (List TreeEntry)) → flat_map (map path_in) (map (map load_entry) trees) ≡ flat_map (map path_in) trees
all_paths [] = refl
all_paths (tree ∷ trees) = λ i. tree_paths tree i ++ all_paths trees i

-- the root of layers that were loaded
pub root_loaded : (trees : List (List TreeEntry)) → root_entries (map (map load_entry) trees) ≡ map load_entry (root_entries trees)
unfolding root_entries
root_loaded trees =
    ap (λ ps. entries_at (root_of (map (map load_entry) trees)) (in_order path_cmp ps)) (all_paths trees)
    ∙ entries_loaded (root_of (map (map load_entry) trees)) (root_of trees) (paths_of trees) (from_loaded (λ p. None) (λ p. None) trees (λ p. refl))

-- The scan.

abbrev pub load_layer : Option (List TreeEntry) → Option (List TreeEntry)
load_layer = option_map (map load_entry)

abbrev load_trees : Result (List (List TreeEntry)) ImageFault → Result (List (List TreeEntry)) ImageFault
load_trees (Ok trees) = Ok (map (map load_entry) trees)
load_trees (Err bad) = Err bad

with_loaded : (tree : List TreeEntry) (found : Result (List (List TreeEntry)) ImageFault) → with_tree (map load_entry tree) (load_trees found) ≡ load_trees (with_tree tree found)
with_loaded tree (Ok trees) = refl
with_loaded tree (Err bad) = refl

trees_loaded : (index : ℕ) (layers : List (Option (List TreeEntry))) → trees_from index (map load_layer layers) ≡ load_trees (trees_from index layers)
trees_loaded index [] = refl
trees_loaded index (None ∷ layers) = refl
trees_loaded index (Some tree ∷ layers) =
    ap (with_tree (map load_entry tree)) (trees_loaded (index + 1) layers) ∙ with_loaded tree (trees_from (index + 1) layers)

bad_loaded : (index : ℕ) (trees : List (List TreeEntry)) → bad_tree_from index (map (map load_entry) trees) ≡ bad_tree_from index trees
bad_loaded index [] = refl
bad_loaded index (tree ∷ trees) = λ i. or_bad index (loaded_fault tree i) (bad_loaded (index + 1) trees i)

good_loaded : (bad : Option ImageFault) (trees : List (List TreeEntry)) → packages_unless bad (map (map load_entry) trees) ≡ packages_unless bad trees
good_loaded (Some bad) trees = refl
good_loaded None trees = ap as_image (ap packages (root_loaded trees) ∙ loaded_packages (root_entries trees))

layers_loaded : (found : Result (List (List TreeEntry)) ImageFault) → plain_layers (load_trees found) ≡ plain_layers found
layers_loaded (Err bad) = refl
layers_loaded (Ok trees) =
    ap (λ bad. packages_unless bad (map (map load_entry) trees)) (bad_loaded 0 trees) ∙ good_loaded (bad_tree_from 0 trees) trees

-- the packages of layers that were loaded
packages_loaded : (layers : List (Option (List TreeEntry))) → plain_packages (map load_layer layers) ≡ plain_packages layers
unfolding plain_packages
packages_loaded layers = ap plain_layers (trees_loaded 0 layers) ∙ layers_loaded (trees_from 0 layers)

-- and their scan
pub scan_loaded : (layers : List (Option (List TreeEntry))) (feeds : List (List ℕ × List Advisory)) → plain_scan (map load_layer layers) feeds ≡ plain_scan layers feeds
unfolding plain_scan
scan_loaded layers feeds = ap (with_findings feeds) (packages_loaded layers)
