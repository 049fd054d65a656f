-- Outcomes by the facts of Indexed layers are those of the machine.
use Rattle.std.specs.Prelude.{◌≡◌, ℕ, ◌+◌, not, cond, List, [], ◌∷◌, ◌++◌, filter, map, Option, Some, None, IsSome, Result, Ok, Err, refl}
use Rattle.std.specs.List.{cons_option, flat_map, sum_by}
use Rattle.std.specs.Option.{is_none, is_some, unwrap_or}
use Rattle.std.proofs.Common.{ap, arith, sym, ◌∙◌}
use Rattle.std.proofs.lemmas.List.Sums.{sum_by-cons}
use Rattle.cv_base.specs.declared.finding.Row.{Row}
use Rattle.cv_base.specs.declared.«package».Package.{Package}
use Rattle.cv_base.specs.declared.«package».PackageName.{PackageName}
use Rattle.cv_desk.specs.Stored.{Stored}
use Rattle.cv_overlay.specs.declared.fault.ImageFault.{ImageFault}
use Rattle.cv_facts.specs.Reduction.{IsRight, Known, shape_of}
use Rattle.cv_facts.specs.declared.reduction.Shape.{Shape}
use Rattle.cv_coalesce.specs.Coalesced.{coalesced}
use Rattle.cv_coalesce.specs.Image.{answer_of, image_findings, image_packages}
use Rattle.cv_coalesce.specs.declared.image.ImagePackages.{ImagePackages}
use Rattle.cv_coalesce.specs.declared.image.ImagePackages.TheVariants as packages
use Rattle.cv_coalesce.proofs.ImageLemmas.{scan_is, stored_image}
use Rattle.cv_core_machine.specs.Answer.{pending_report, report_at}
use Rattle.cv_core_machine.specs.Board.{board_of}
use Rattle.cv_core_machine.specs.Layers.{first_pending, is_indexed, is_indexed_as}
use Rattle.cv_findings.specs.Pairs.{pair_count}
use Rattle.cv_findings.specs.Rematch.{touched_packages}
use Rattle.cv_core_machine.specs.Matching.{packages_in, packages_or_none, touched_pairs}
use Rattle.cv_core_machine.specs.Rows.{rows_of as machine_rows, scan_rows}
use Rattle.cv_core_machine.specs.Scans.{StatesEveryLayer, Trees, image_scan, trees_of}
use Rattle.cv_core_machine.specs.State.{Feeds, Images, Layers, State, value_at}
use Rattle.cv_core_machine.specs.declared.image.Image.{Image}
use Rattle.cv_tree.specs.Entries.{costs_of, map_values, remade_entries, rows_of}
use Rattle.cv_core_outcome.specs.Facts.{pending_layer}
use Rattle.cv_core_outcome.specs.Outcome.{FactTable, first_unknown, has_facts, known_layers, known_shapes, matched, outcome_at, outcome_by}
use Rattle.cv_core_outcome.specs.Truth.{AreFactsOf, report_with}
use Rattle.cv_core_outcome.specs.Update.{rematch_pairs, rematched, update_rows}
use Rattle.cv_core_outcome.specs.declared.outcome.Outcome.TheVariants.{Pending}

-- The facts of an image's layers.

-- the first layer without facts is the first that is not Indexed
pub first_same : (table : Layers) (facts : FactTable) (layers : List (List ℕ)) → ((layer : List ℕ) → has_facts facts layer ≡ is_indexed_as (value_at table layer))
    → first_unknown facts layers ≡ first_pending table layers
first_same table facts [] h = refl
first_same table facts (l ∷ ls) h = λ i. cond (not (h l i)) (Some l) (first_same table facts ls h i)

stored_known : (found : Option (Option (List Stored))) → IsSome found → found ≡ Some (unwrap_or found None)
stored_known None h = absurd (cc h)
stored_known (Some stored) h = refl

-- right facts have the shape of the layer's tree
right_shape : (tree : List ℕ → Option (Option (List Stored))) (known : Known) (layer : List ℕ) → StatesEveryLayer tree → known.digest ≡ layer → IsRight tree known
    → known.shape ≡ shape_of (trees_of tree layer)
right_shape tree known layer all own right = right (trees_of tree layer) (ap tree own ∙ stored_known (tree layer) (all layer))

shapes_more : (tree : List ℕ → Option (Option (List Stored))) (found : Option Known) (l : List ℕ) (ls : List (List ℕ)) (others : List Known) (first : Option (List ℕ))
    → ((known : Known) → found ≡ Some known → known.shape ≡ shape_of (trees_of tree l)) → cond (not (is_some found)) (Some l) first ≡ None
    → (first ≡ None → map (λ (known : Known). known.shape) others ≡ map shape_of (map (trees_of tree) ls))
    → map (λ (known : Known). known.shape) (cons_option found others) ≡ map shape_of (map (trees_of tree) (l ∷ ls))
shapes_more tree None l ls others first own e rest = absurd (cc e)
shapes_more tree (Some known) l ls others first own e rest = λ i. own known refl i ∷ rest e i

-- if all layers have facts, their shapes are those of the layers' trees
shapes_are : (tree : List ℕ → Option (Option (List Stored))) (table : Layers) (facts : FactTable) (layers : List (List ℕ)) → StatesEveryLayer tree → AreFactsOf tree table facts
    → first_unknown facts layers ≡ None → known_shapes facts layers ≡ map shape_of (map (trees_of tree) layers)
shapes_are tree table facts [] all are e = refl
shapes_are tree table facts (l ∷ ls) all are e =
    shapes_more tree (value_at facts l) l ls (known_layers facts ls) (first_unknown facts ls)
    (λ known is. right_shape tree known l all (are.own l known is) (are.right l known is)) e (shapes_are tree table facts ls all are)

-- Images that wait for a layer.

waits_first : (first : Option (List ℕ)) (feeds : Feeds) (found : ImagePackages) → pending_layer (outcome_by first feeds found) ≡ first
waits_first (Some l) feeds found = refl
waits_first None feeds (packages.Good ps) = refl
waits_first None feeds (packages.Bad fault) = refl

-- an image waits for the first of its layers that is not Indexed
pub waiting_is : (tree : List ℕ → Option (Option (List Stored))) (table : Layers) (facts : FactTable) (feeds : Feeds) (image : Image) → AreFactsOf tree table facts
    → pending_layer (outcome_at facts feeds image) ≡ first_pending table image.layers
waiting_is tree table facts feeds image are =
    waits_first (first_unknown facts image.layers) feeds (coalesced (known_shapes facts image.layers) image.seals) ∙ first_same table facts image.layers are.indexed

-- and then its outcome is this layer alone
pub pending_is : (tree : List ℕ → Option (Option (List Stored))) (table : Layers) (facts : FactTable) (feeds : Feeds) (image : Image) (layer : List ℕ) → AreFactsOf tree table facts
    → first_pending table image.layers ≡ Some layer → outcome_at facts feeds image ≡ Pending layer
pending_is tree table facts feeds image layer are first =
    ap (λ (f : Option (List ℕ)). outcome_by f feeds (coalesced (known_shapes facts image.layers) image.seals)) (first_same table facts image.layers are.indexed ∙ first)

-- The outcome of an image.

-- the packages of an image as its trees have them, or why it has none
abbrev tree_packages : Trees → Image → Result (List Package) ImageFault
tree_packages trees image = image_packages (map trees image.layers) image.seals

-- packages are not asked for where a layer has no facts
pub by_first : (first : Option (List ℕ)) (feeds : Feeds) (ones others : ImagePackages) → (first ≡ None → ones ≡ others) → outcome_by first feeds ones ≡ outcome_by first feeds others
by_first (Some l) feeds ones others h = refl
by_first None feeds ones others h = ap (matched feeds) (h refl)

-- the outcome by the facts of the Indexed layers is that by the trees
pub outcome_is : (tree : List ℕ → Option (Option (List Stored))) (table : Layers) (facts : FactTable) (feeds : Feeds) (image : Image) → StatesEveryLayer tree → AreFactsOf tree table facts
    → outcome_at facts feeds image ≡ outcome_by (first_pending table image.layers) feeds (answer_of (tree_packages (trees_of tree) image))
outcome_is tree table facts feeds image all are =
    let layers = image.layers in
    by_first (first_unknown facts layers) feeds (coalesced (known_shapes facts layers) image.seals) (answer_of (tree_packages (trees_of tree) image))
    (λ e.
    ap (λ (shapes : List Shape). coalesced shapes image.seals) (shapes_are tree table facts layers all are e)
    ∙ stored_image (map (trees_of tree) layers) image.seals)
    ∙ ap (λ (first : Option (List ℕ)). outcome_by first feeds (answer_of (tree_packages (trees_of tree) image))) (first_same table facts layers are.indexed)

report_by : (first : Option (List ℕ)) (generation : ℕ) (feeds : Feeds) (found : Result (List Package) ImageFault)
    → report_with generation (outcome_by first feeds (answer_of found)) ≡ pending_report first generation (image_findings feeds found)
report_by (Some l) generation feeds found = refl
report_by None generation feeds (Ok ps) = refl
report_by None generation feeds (Err bad) = refl

-- and so is the report
pub report_is : (tree : List ℕ → Option (Option (List Stored))) (state : State) (facts : FactTable) (image : Image) → StatesEveryLayer tree → AreFactsOf tree state.layers facts
    → report_with state.generation (outcome_at facts state.feeds image) ≡ report_at (Some image) (trees_of tree) state
report_is tree state facts image all are =
    ap (report_with state.generation) (outcome_is tree state.layers facts state.feeds image all are)
    ∙ report_by (first_pending state.layers image.layers) state.generation state.feeds (tree_packages (trees_of tree) image)
    ∙ ap (pending_report (first_pending state.layers image.layers) state.generation) (sym (scan_is (map (trees_of tree) image.layers) image.seals state.feeds))

all_reported : (tree : List ℕ → Option (Option (List Stored))) (state : State) (facts : FactTable) (images : Images) → StatesEveryLayer tree → AreFactsOf tree state.layers facts
    → map_values (report_with state.generation) (map_values (outcome_at facts state.feeds) images)
    ≡ map (λ (image : List ℕ × Image). (image.0, report_at (Some image.1) (trees_of tree) state)) images
all_reported tree state facts [] all are = refl
all_reported tree state facts (image ∷ images) all are = λ i. (image.0, report_is tree state facts image.1 all are i) ∷ all_reported tree state facts images all are i

-- the reports of all images are those of a board
pub board_is : (tree : List ℕ → Option (Option (List Stored))) (state : State) (facts : FactTable) → StatesEveryLayer tree → AreFactsOf tree state.layers facts
    → map_values (report_with state.generation) (map_values (outcome_at facts state.feeds) state.images) ≡ (board_of (trees_of tree) state).reports
board_is tree state facts all are = all_reported tree state facts state.images all are

-- Updates.

rematched_by : (first : Option (List ℕ)) (before after : Feeds) (found : ImagePackages) → rematched after (outcome_by first before found) ≡ outcome_by first after found
rematched_by (Some l) before after found = refl
rematched_by None before after (packages.Good ps) = refl
rematched_by None before after (packages.Bad fault) = refl

-- a recomputed outcome is that with the feeds after the update
pub rematched_is : (facts : FactTable) (before after : Feeds) (image : Image) → rematched after (outcome_at facts before image) ≡ outcome_at facts after image
rematched_is facts before after image = rematched_by (first_unknown facts image.layers) before after (coalesced (known_shapes facts image.layers) image.seals)

pub all_rematched : (facts : FactTable) (before after : Feeds) (images : Images)
    → remade_entries (λ _. rematched after) (map_values (outcome_at facts before) images) ≡ map_values (outcome_at facts after) images
all_rematched facts before after [] = refl
all_rematched facts before after (image ∷ images) = λ i. (image.0, rematched_is facts before after image.1 i) ∷ all_rematched facts before after images i

-- the rows of one image before those of others
rows_more : (first : Option (List ℕ)) (image : List ℕ × Image) (others : Images) (rows : (List ℕ × Image) → List Row) (before after : Feeds)
    (found : Result (List Package) ImageFault) (rest : List Row)
    → rows image ≡ scan_rows image.0 (image_findings before found) (image_findings after found) → rest ≡ flat_map rows others
    → update_rows after image.0 (outcome_by first before (answer_of found)) ++ rest ≡ flat_map rows (cond (is_none first) (image ∷ others) others)
rows_more (Some l) image others rows before after found rest e h = h
rows_more None image others rows before after (Ok ps) rest e h = λ i. sym e i ++ h i
rows_more None image others rows before after (Err bad) rest e h = λ i. sym e i ++ h i

-- the rows of images by their scans
abbrev two_scans : Trees → Feeds → Feeds → (List ℕ × Image) → List Row
two_scans trees before after image = scan_rows image.0 (image_scan trees before image.1) (image_scan trees after image.1)

rows_are : (tree : List ℕ → Option (Option (List Stored))) (table : Layers) (facts : FactTable) (before after : Feeds) (images : Images) → StatesEveryLayer tree → AreFactsOf tree table facts
    → rows_of (update_rows after) (map_values (outcome_at facts before) images)
    ≡ flat_map (two_scans (trees_of tree) before after) (filter (λ (image : List ℕ × Image). is_indexed table image.1.layers) images)
rows_are tree table facts before after [] all are = refl
rows_are tree table facts before after (image ∷ images) all are =
    let rest = rows_of (update_rows after) (map_values (outcome_at facts before) images) in
    ap (λ o. update_rows after image.0 o ++ rest) (outcome_is tree table facts before image.1 all are)
    ∙ rows_more (first_pending table image.1.layers) image (filter (λ (image : List ℕ × Image). is_indexed table image.1.layers) images) (two_scans (trees_of tree) before after)
    before after (tree_packages (trees_of tree) image.1) rest
    (λ i. scan_rows image.0 (scan_is (map (trees_of tree) image.1.layers) image.1.seals before i) (scan_is (map (trees_of tree) image.1.layers) image.1.seals after i))
    (rows_are tree table facts before after images all are)

-- the rows that an update adds are those of the machine
pub rows_machine : (tree : List ℕ → Option (Option (List Stored))) (state : State) (facts : FactTable) (after : Feeds) → StatesEveryLayer tree → AreFactsOf tree state.layers facts
    → rows_of (update_rows after) (map_values (outcome_at facts state.feeds) state.images) ≡ machine_rows (trees_of tree) state after
rows_machine tree state facts after all are = rows_are tree state.layers facts state.feeds after state.images all are

-- the pairs of one image before those of others
pairs_more : (first : Option (List ℕ)) (image : List ℕ × Image) (others : Images) (pairs : (List ℕ × Image) → ℕ) (before after : Feeds) (touched : List PackageName)
    (found : Result (List Package) ImageFault) (rest : ℕ)
    → pairs image ≡ pair_count (touched_packages touched (packages_or_none found)) after → rest ≡ sum_by pairs others
    → rematch_pairs touched after (outcome_by first before (answer_of found)) + rest ≡ sum_by pairs (cond (is_none first) (image ∷ others) others)
pairs_more (Some l) image others pairs before after touched found rest e h = omega (arith, h)
pairs_more None image others pairs before after touched (Ok ps) rest e h = (λ i. sym e i + h i) ∙ sym (sum_by-cons pairs image others)
pairs_more None image others pairs before after touched (Err bad) rest e h = (λ i. sym e i + h i) ∙ sym (sum_by-cons pairs image others)

-- the pairs of an image that an update tries
abbrev image_pairs : Trees → Feeds → List PackageName → (List ℕ × Image) → ℕ
image_pairs trees after touched image = pair_count (touched_packages touched (packages_in trees image.1)) after

pairs_are : (tree : List ℕ → Option (Option (List Stored))) (table : Layers) (facts : FactTable) (before after : Feeds) (touched : List PackageName) (images : Images)
    → StatesEveryLayer tree → AreFactsOf tree table facts
    → costs_of (λ _. rematch_pairs touched after) (map_values (outcome_at facts before) images)
    ≡ sum_by (image_pairs (trees_of tree) after touched) (filter (λ (image : List ℕ × Image). is_indexed table image.1.layers) images)
pairs_are tree table facts before after touched [] all are = refl
pairs_are tree table facts before after touched (image ∷ images) all are =
    let rest = costs_of (λ _. rematch_pairs touched after) (map_values (outcome_at facts before) images) in
    ap (λ o. rematch_pairs touched after o + rest) (outcome_is tree table facts before image.1 all are)
    ∙ pairs_more (first_pending table image.1.layers) image (filter (λ (image : List ℕ × Image). is_indexed table image.1.layers) images) (image_pairs (trees_of tree) after touched)
    before after touched (tree_packages (trees_of tree) image.1) rest refl (pairs_are tree table facts before after touched images all are)

-- the pairs that an update tries are those of the machine
pub pairs_machine : (tree : List ℕ → Option (Option (List Stored))) (state : State) (facts : FactTable) (after : Feeds) (touched : List PackageName) → StatesEveryLayer tree
    → AreFactsOf tree state.layers facts
    → costs_of (λ _. rematch_pairs touched after) (map_values (outcome_at facts state.feeds) state.images) ≡ touched_pairs (trees_of tree) state after touched
pairs_machine tree state facts after touched all are = pairs_are tree state.layers facts state.feeds after touched state.images all are
