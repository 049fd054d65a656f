-- The packages of an image by the shapes of its layers are those of its root.
use Rattle.std.specs.Prelude.{◌≡◌, ℕ, ◌+◌, List, [], ◌∷◌, map, Option, Some, None, Result, Ok, Err, IfOk, IfSome, refl}
use Rattle.std.specs.List.{cons_option, filter_map}
use Rattle.std.specs.Option.{option_or}
use Rattle.std.proofs.Common.{ap, sym, ◌∙◌}
use Rattle.cv_base.specs.declared.advisory.Advisory.{Advisory}
use Rattle.cv_base.specs.declared.package.Package.{Package}
use Rattle.cv_base.specs.declared.tree.TreeEntry.{TreeEntry}
use Rattle.cv_desk.specs.Loaded.{whole}
use Rattle.cv_desk.specs.Stored.{Stored}
use Rattle.cv_facts.specs.Reduction.{reduction_of, shape_by, shape_of}
use Rattle.cv_facts.specs.declared.reduction.Reduction.{Reduction}
use Rattle.cv_facts.specs.declared.reduction.Shape.{Shape}
use Rattle.cv_overlay.specs.Fault.{tree_fault}
use Rattle.cv_overlay.specs.declared.fault.ImageFault.{ImageFault}
use Rattle.cv_overlay.specs.declared.fault.TreeFault.{TreeFault}
use Rattle.cv_overlay.proofs.MergeLemmas.{good_ascends}
use Rattle.cv_packages.specs.Packages.{assembled, packages}
use Rattle.cv_packages.specs.declared.error.FileFault.{FileFault}
use Rattle.cv_seal.specs.Tree.{tree_seal}
use Rattle.cv_seq.specs.declared.memory.NoMemory.{NoMemory}
use Rattle.cv_scan.specs.Root.{root_entries}
use Rattle.cv_scan.specs.Scan.{scan, with_findings}
use Rattle.cv_scan.specs.Image.{as_image, bad_seal_from, bad_tree_from, image_packages, or_bad, packages_layers, packages_unless, seal_fault, trees_from, with_tree}
use Rattle.cv_coalesce.specs.Coalesced.{bad_from, coalesced, missing_fault, missing_from, or_packages, other_seal_from, reduction_in, reductions, seal_fault_in, tree_fault_in, with_packages}
use Rattle.cv_coalesce.specs.Gathered.{gathered}
use Rattle.cv_coalesce.specs.Image.{answer_of}
use Rattle.cv_coalesce.specs.declared.image.ImagePackages.{ImagePackages}
use Rattle.cv_coalesce.specs.code.Trees.{AllAscend}
use Rattle.cv_coalesce.proofs.ReadLemmas.{files_are}

-- Shapes of layers.

-- the layers that are there
abbrev stored_in : List (Option (List Stored)) → List (List Stored)
stored_in layers = filter_map (λ (layer : Option (List Stored)). layer) layers

-- and their trees
abbrev trees_in : List (Option (List Stored)) → List (List TreeEntry)
trees_in layers = map (map whole) (stored_in layers)

abbrev stored_by : Option ImageFault → List (List Stored) → Result (List (List Stored)) ImageFault
stored_by None layers = Ok layers
stored_by (Some bad) layers = Err bad

more_by : (missing : Option ImageFault) (layer : List Stored) (layers : List (List Stored)) → with_tree layer (stored_by missing layers) ≡ stored_by missing (layer ∷ layers)
more_by None layer layers = refl
more_by (Some bad) layer layers = refl

present : (index : ℕ) (fault : Option TreeFault) (layer : List Stored) → missing_fault index (shape_by fault layer) ≡ None
present index None layer = refl
present index (Some bad) layer = refl

-- a missing layer is named by both
stored_are : (index : ℕ) (layers : List (Option (List Stored))) → trees_from index layers ≡ stored_by (missing_from index (map shape_of layers)) (stored_in layers)
stored_are index [] = refl
stored_are index (None ∷ layers) = refl
stored_are index (Some layer ∷ layers) =
    let missing = missing_from (index + 1) (map shape_of layers) in
    ap (with_tree layer) (stored_are (index + 1) layers)
    ∙ more_by missing layer (stored_in layers)
    ∙ ap (λ (here : Option ImageFault). stored_by (option_or here missing) (layer ∷ stored_in layers)) (sym (present index (tree_fault (map whole layer)) layer))

rest_present : (index : ℕ) (fault : Option TreeFault) (layer : List Stored) (rest : Option ImageFault)
    → option_or (missing_fault index (shape_by fault layer)) rest ≡ None → rest ≡ None
rest_present index None layer rest h = h
rest_present index (Some bad) layer rest h = h

one_bad : (index : ℕ) (fault : Option TreeFault) (layer : List Stored) (some other : Option ImageFault)
    → some ≡ other → option_or (tree_fault_in index (shape_by fault layer)) some ≡ or_bad index fault other
one_bad index None layer some other h = h
one_bad index (Some bad) layer some other h = refl

-- where no layer is missing, a tree that is not good is named by both
bad_are : (index : ℕ) (layers : List (Option (List Stored))) → missing_from index (map shape_of layers) ≡ None
    → bad_from index (map shape_of layers) ≡ bad_tree_from index (trees_in layers)
bad_are index [] h = refl
bad_are index (None ∷ layers) h = cc
bad_are index (Some layer ∷ layers) h =
    one_bad index (tree_fault (map whole layer)) layer (bad_from (index + 1) (map shape_of layers)) (bad_tree_from (index + 1) (trees_in layers))
    (bad_are (index + 1) layers (rest_present index (tree_fault (map whole layer)) layer (missing_from (index + 1) (map shape_of layers)) h))

good_by : (index : ℕ) (fault : Option TreeFault) (rest : Option ImageFault) → or_bad index fault rest ≡ None → (fault ≡ None) × (rest ≡ None)
good_by index None rest h = (refl, h)
good_by index (Some bad) rest h = cc

-- where all trees are good, they ascend
ascend : (index : ℕ) (trees : List (List TreeEntry)) → bad_tree_from index trees ≡ None → AllAscend trees
ascend index [] h = tt
ascend index (tree ∷ trees) h =
    let parts = good_by index (tree_fault tree) (bad_tree_from (index + 1) trees) h in
    (good_ascends tree parts.0, ascend (index + 1) trees parts.1)

-- and the layers have their reductions
reduced : (index : ℕ) (layers : List (Option (List Stored))) → bad_tree_from index (trees_in layers) ≡ None
    → reductions (map shape_of layers) ≡ map reduction_of (stored_in layers)
reduced index [] h = refl
reduced index (None ∷ layers) h = reduced index layers h
reduced index (Some layer ∷ layers) h =
    let parts = good_by index (tree_fault (map whole layer)) (bad_tree_from (index + 1) (trees_in layers)) h in
    ap (λ (fault : Option TreeFault). cons_option (reduction_in (shape_by fault layer)) (reductions (map shape_of layers))) parts.0
    ∙ ap (λ (rs : List Reduction). reduction_of layer ∷ rs) (reduced (index + 1) layers parts.1)

-- and a layer with another seal is named by both, if none is missing
seals_are : (index : ℕ) (seals : List (Option (List ℕ))) (layers : List (Option (List Stored))) → missing_from index (map shape_of layers) ≡ None → bad_tree_from index (trees_in layers) ≡ None
    → other_seal_from index seals (map shape_of layers) ≡ bad_seal_from index seals (map tree_seal (stored_in layers))
seals_are index [] layers h k = refl
seals_are index (stated ∷ seals) [] h k = refl
seals_are index (stated ∷ seals) (None ∷ layers) h k = cc
seals_are index (stated ∷ seals) (Some layer ∷ layers) h k =
    let parts = good_by index (tree_fault (map whole layer)) (bad_tree_from (index + 1) (trees_in layers)) k in
    ap (λ (fault : Option TreeFault). option_or (seal_fault_in index stated (shape_by fault layer)) (other_seal_from (index + 1) seals (map shape_of layers))) parts.0
    ∙ ap (option_or (seal_fault index stated (tree_seal layer)))
    (seals_are (index + 1) seals layers (rest_present index (tree_fault (map whole layer)) layer (missing_from (index + 1) (map shape_of layers)) h) parts.1)

-- The packages.

packed : (found : Result (List Package) FileFault) → with_packages found ≡ answer_of (as_image found)
packed (Ok ps) = refl
packed (Err refused) = refl

good_image : (layers : List (Option (List Stored))) → bad_tree_from 0 (trees_in layers) ≡ None
    → with_packages (assembled (gathered (reductions (map shape_of layers)))) ≡ answer_of (as_image (packages (root_entries (trees_in layers))))
unfolding packages
good_image layers h =
    ap (λ (rs : List Reduction). with_packages (assembled (gathered rs))) (reduced 0 layers h)
    ∙ ap (λ fs. with_packages (assembled fs)) (files_are (stored_in layers) (ascend 0 (trees_in layers) h))
    ∙ packed (packages (root_entries (trees_in layers)))

by_seal : (layers : List (Option (List Stored))) (other : Option ImageFault) → bad_tree_from 0 (trees_in layers) ≡ None
    → or_packages other (reductions (map shape_of layers)) ≡ answer_of (packages_unless other (trees_in layers))
by_seal layers None h = good_image layers h
by_seal layers (Some bad) h = refl

by_bad : (layers : List (Option (List Stored))) (seals : List (Option (List ℕ))) (bad : Option ImageFault) → missing_from 0 (map shape_of layers) ≡ None → bad_tree_from 0 (trees_in layers) ≡ bad
    → or_packages (option_or bad (other_seal_from 0 seals (map shape_of layers))) (reductions (map shape_of layers))
    ≡ answer_of (packages_unless (option_or bad (bad_seal_from 0 seals (map tree_seal (stored_in layers)))) (trees_in layers))
by_bad layers seals None h k =
    ap (λ (other : Option ImageFault). or_packages other (reductions (map shape_of layers))) (seals_are 0 seals layers h k)
    ∙ by_seal layers (bad_seal_from 0 seals (map tree_seal (stored_in layers))) k
by_bad layers seals (Some bad) h k = refl

by_missing : (layers : List (Option (List Stored))) (seals : List (Option (List ℕ))) (missing : Option ImageFault) → missing_from 0 (map shape_of layers) ≡ missing
    → or_packages (option_or (option_or missing (bad_from 0 (map shape_of layers))) (other_seal_from 0 seals (map shape_of layers))) (reductions (map shape_of layers))
    ≡ answer_of (packages_layers seals (stored_by missing (stored_in layers)))
by_missing layers seals None h =
    ap (λ (bad : Option ImageFault). or_packages (option_or bad (other_seal_from 0 seals (map shape_of layers))) (reductions (map shape_of layers))) (bad_are 0 layers h)
    ∙ by_bad layers seals (bad_tree_from 0 (trees_in layers)) h refl
by_missing layers seals (Some bad) h = refl

-- the packages of layers of these shapes are those of the image of what is stored
pub stored_image : (stored : List (Option (List Stored))) (seals : List (Option (List ℕ))) → coalesced (map shape_of stored) seals ≡ answer_of (image_packages stored seals)
unfolding coalesced image_packages
stored_image stored seals =
    by_missing stored seals (missing_from 0 (map shape_of stored)) refl
    ∙ ap (λ found. answer_of (packages_layers seals found)) (sym (stored_are 0 stored))

-- an answer by the shapes of what is stored is one from what is stored
pub answered : (layers : Option (List (Option (List Stored)))) (shapes : List Shape) (seals : List (Option (List ℕ))) (r : Result ImagePackages NoMemory)
    → IfSome layers (λ stored. shapes ≡ map shape_of stored) → IfOk r (λ found. found ≡ coalesced shapes seals)
    → IfSome layers (λ stored. IfOk r (λ found. found ≡ answer_of (image_packages stored seals)))
answered None shapes seals r h k = tt
answered (Some stored) shapes seals (Ok found) h k = k ∙ ap (λ (ss : List Shape). coalesced ss seals) h ∙ stored_image stored seals
answered (Some stored) shapes seals (Err error) h k = tt

-- The scan.

-- the scan of an image is the findings of its packages
pub scan_is : (stored : List (Option (List Stored))) (seals : List (Option (List ℕ))) (feeds : List (List ℕ × List Advisory)) → scan stored seals feeds ≡ with_findings feeds (image_packages stored seals)
unfolding scan
scan_is stored seals feeds = refl
