-- The scan of an image of which no seal is stated rests on the entries of its trees alone.
use Rattle.std.specs.Prelude.{◌≡◌, ℕ, ◌+◌, List, [], ◌∷◌, map, Option, Some, None, Result, Ok, Err, refl}
use Rattle.std.specs.Option.{option_map, option_or}
use Rattle.std.proofs.Common.{ap, sym, ◌∙◌}
use Rattle.cv_base.specs.declared.advisory.Advisory.{Advisory}
use Rattle.cv_base.specs.declared.tree.TreeEntry.{TreeEntry}
use Rattle.cv_desk.specs.Loaded.{whole}
use Rattle.cv_desk.specs.Stored.{Stored}
use Rattle.cv_overlay.specs.declared.fault.ImageFault.{ImageFault}
use Rattle.cv_seal.specs.Tree.{tree_seal}
use Rattle.cv_scan.specs.Image.{bad_tree_from, image_packages, packages_layers, packages_unless, trees_from, with_tree}
use Rattle.cv_scan.specs.Scan.{scan, with_findings}
use Rattle.cv_scan.specs.Seals.{bad_seal_from, no_seals}
use Rattle.cv_scan.specs.code.Plain.{plain_layers, plain_packages, plain_scan}

-- layers with all that is stored of them
abbrev pub whole_layers : List (Option (List Stored)) → List (Option (List TreeEntry))
whole_layers layers = map (option_map (map whole)) layers

abbrev whole_trees : Result (List (List Stored)) ImageFault → Result (List (List TreeEntry)) ImageFault
whole_trees (Ok trees) = Ok (map (map whole) trees)
whole_trees (Err bad) = Err bad

with_whole : (tree : List Stored) (found : Result (List (List Stored)) ImageFault) → with_tree (map whole tree) (whole_trees found) ≡ whole_trees (with_tree tree found)
with_whole tree (Ok trees) = refl
with_whole tree (Err bad) = refl

trees_whole : (index : ℕ) (layers : List (Option (List Stored))) → trees_from index (whole_layers layers) ≡ whole_trees (trees_from index layers)
trees_whole index [] = refl
trees_whole index (None ∷ layers) = refl
trees_whole index (Some tree ∷ layers) = ap (with_tree (map whole tree)) (trees_whole (index + 1) layers) ∙ with_whole tree (trees_from (index + 1) layers)

-- where no seal is stated, none is bad
none_bad : (index : ℕ) (layers : List (List ℕ)) (found : List (List ℕ)) → bad_seal_from index (no_seals layers) found ≡ None
none_bad index [] found = refl
none_bad index (layer ∷ layers) [] = refl
none_bad index (layer ∷ layers) (seal ∷ found) = none_bad (index + 1) layers found

or_none : (bad : Option ImageFault) → option_or bad None ≡ bad
or_none None = refl
or_none (Some bad) = refl

layers_whole : (layers : List (List ℕ)) (found : Result (List (List Stored)) ImageFault) → packages_layers (no_seals layers) found ≡ plain_layers (whole_trees found)
layers_whole layers (Err bad) = refl
layers_whole layers (Ok trees) =
    ap (λ bad. packages_unless bad (map (map whole) trees)) (ap (option_or (bad_tree_from 0 (map (map whole) trees))) (none_bad 0 layers (map tree_seal trees)) ∙ or_none (bad_tree_from 0 (map (map whole) trees)))

packages_whole : (layers : List (List ℕ)) (stored : List (Option (List Stored))) → image_packages stored (no_seals layers) ≡ plain_packages (whole_layers stored)
unfolding image_packages plain_packages
packages_whole layers stored = layers_whole layers (trees_from 0 stored) ∙ ap plain_layers (sym (trees_whole 0 stored))

-- the scan of layers without seals
pub scan_whole : (layers : List (List ℕ)) (stored : List (Option (List Stored))) (feeds : List (List ℕ × List Advisory)) → scan stored (no_seals layers) feeds ≡ plain_scan (whole_layers stored) feeds
unfolding scan plain_scan
scan_whole layers stored feeds = ap (with_findings feeds) (packages_whole layers stored)
