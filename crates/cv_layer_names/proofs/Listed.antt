-- Each package of an image has its name among those of some layer.
use Rattle.std.specs.Prelude.{◌≡◌, ℕ, Bool, true, false, not, ◌&&◌, ◌||◌, List, [], ◌∷◌, ◌++◌, map, get_or, Option, Some, None, Result, Ok, Err}
use Rattle.std.specs.Cmp.Lexicographic.{nat_list_cmp_total, texts_ties}
use Rattle.std.specs.List.{All, AllByRecursion, flat_map, list_any}
use Rattle.std.specs.List.Sorted.{IsStrictlySortedBy}
use Rattle.std.specs.Ordering.{is_eq}
use Rattle.std.specs.declared.cmp.Ordering.TheVariants.{Equal}
use Rattle.std.proofs.Common.{ap, refl, ◌∙◌}
use Rattle.std.proofs.lemmas.List.Elements.{All-append, All-cons, All-filter, All-head, All-nil, All-same, All-tail, All-weaker}
use Rattle.std.proofs.lemmas.List.Folds.{list_any-append, list_any_at}
use Rattle.cv_base.specs.InOrder.{in_order}
use Rattle.cv_base.specs.Texts.{has_text, same}
use Rattle.cv_base.specs.declared.«package».Package.{Package}
use Rattle.cv_base.proofs.InOrder.{all_order, any_order, in_order_sorted}
use Rattle.cv_base.proofs.Same.{same_is, same_self}
use Rattle.cv_coalesce.specs.Coalesced.{coalesced, first_fault, or_packages, reductions, with_packages}
use Rattle.cv_coalesce.specs.Gathered.{all_visible, file_cmp, gathered, visible}
use Rattle.cv_coalesce.specs.Hides.{is_hidden}
use Rattle.cv_coalesce.specs.declared.image.ImagePackages.TheVariants.{Good}
use Rattle.cv_facts.specs.declared.reduction.Reduction.{Reduction}
use Rattle.cv_facts.specs.declared.reduction.Shape.{Shape}
use Rattle.cv_facts.specs.declared.reduction.Shape.TheVariants.{BadTree, NoLayer, Reduced}
use Rattle.cv_match.specs.Affects.{key_name}
use Rattle.cv_match.specs.Findings.{text_cmp}
use Rattle.cv_overlay.specs.declared.fault.ImageFault.{ImageFault}
use Rattle.cv_packages.specs.Packages.{assembled, counted, is_etc_os, is_usr_os, system}
use Rattle.cv_packages.specs.declared.error.FileFault.{FileFault}
use Rattle.cv_packages.specs.declared.found.FileFound.{FileFound}
use Rattle.cv_layer_names.specs.Names.{file_names, layer_names, some_layer_has}
use Rattle.cv_layer_names.proofs.FileNames.{names_of_all}

-- the names of a layer are sorted, each once
pub names_sorted : (shape : Shape) → IsStrictlySortedBy text_cmp (layer_names shape)
unfolding IsStrictlySortedBy
names_sorted NoLayer = tt
names_sorted (BadTree fault) = tt
names_sorted (Reduced r) = in_order_sorted nat_list_cmp_total (flat_map file_names r.files)

-- A layer's names are those of its files.

pub or_left : (a b : Bool) → a ≡ true → (a || b) ≡ true
or_left a b h = rw h refl

pub or_right : (a b : Bool) → b ≡ true → (a || b) ≡ true
or_right true b h = refl
or_right false b h = h

tied : (n p q : List ℕ) → text_cmp p q ≡ Equal → same p n ≡ same q n
tied n p q h = ap (λ (t : List ℕ). same t n) (same_is p q (texts_ties p q ∙ ap is_eq h))

-- a name is among names in order exactly where it is among them
ordered_has : (names : List (List ℕ)) (n : List ℕ) → has_text names n ≡ true → has_text (in_order text_cmp names) n ≡ true
ordered_has names n h = any_order (λ (other : List ℕ). same other n) (tied n) names ∙ h

own_names : (names : List (List ℕ)) → All (λ n. has_text names n ≡ true) names
own_names names = λ k d l. list_any_at (λ (other : List ℕ). same other (get_or names k d)) names k d l (same_self (get_or names k d))

front_has : (xs ys : List (List ℕ)) (n : List ℕ) → has_text xs n ≡ true → has_text (xs ++ ys) n ≡ true
front_has xs ys n h = list_any-append (λ (other : List ℕ). same other n) xs ys ∙ or_left (has_text xs n) (has_text ys n) h

back_has : (xs ys : List (List ℕ)) (n : List ℕ) → has_text ys n ≡ true → has_text (xs ++ ys) n ≡ true
back_has xs ys n h = list_any-append (λ (other : List ℕ). same other n) xs ys ∙ or_right (has_text xs n) (has_text ys n) h

-- all names of a file pass a test
abbrev AllPass : (List ℕ → Bool) → FileFound → Type 0
AllPass test file = All (λ n. test n ≡ true) (file_names file)

passes_more : (test more : List ℕ → Bool) → ((n : List ℕ) → test n ≡ true → more n ≡ true) → (files : List FileFound) → All (AllPass test) files → All (AllPass more) files
passes_more test more h files = All-weaker (AllPass test) (AllPass more) (λ file. All-weaker (λ n. test n ≡ true) (λ n. more n ≡ true) h (file_names file)) files

files_have : (files : List FileFound) → All (AllPass (has_text (flat_map file_names files))) files
files_have [] = All-nil (AllPass (has_text []))
files_have (file ∷ files) =
    let rest = flat_map file_names files in
    All-cons (AllPass (has_text (file_names file ++ rest))) file files
    (All-weaker (λ n. has_text (file_names file) n ≡ true) (λ n. has_text (file_names file ++ rest) n ≡ true) (front_has (file_names file) rest) (file_names file) (own_names (file_names file)))
    (passes_more (has_text rest) (has_text (file_names file ++ rest)) (back_has (file_names file) rest) files (files_have files))

layer_has : (r : Reduction) → All (AllPass (has_text (layer_names (Reduced r)))) r.files
layer_has r =
    passes_more (has_text (flat_map file_names r.files)) (has_text (layer_names (Reduced r))) (ordered_has (flat_map file_names r.files)) r.files (files_have r.files)

-- all names of the files of a layer pass a test
abbrev FilesPass : (List ℕ → Bool) → Reduction → Type 0
FilesPass test r = All (AllPass test) r.files

layers_more : (test more : List ℕ → Bool) → ((n : List ℕ) → test n ≡ true → more n ≡ true) → (rs : List Reduction) → All (FilesPass test) rs → All (FilesPass more) rs
layers_more test more h rs = All-weaker (FilesPass test) (FilesPass more) (λ r. passes_more test more h r.files) rs

-- each name of a layer's files is among those of some layer
layers_have : (shapes : List Shape) → All (FilesPass (some_layer_has shapes)) (reductions shapes)
layers_have [] = All-nil (FilesPass (some_layer_has []))
layers_have (NoLayer ∷ shapes) = layers_more (some_layer_has shapes) (some_layer_has (NoLayer ∷ shapes)) (λ n h. h) (reductions shapes) (layers_have shapes)
layers_have (BadTree bad ∷ shapes) = layers_more (some_layer_has shapes) (some_layer_has (BadTree bad ∷ shapes)) (λ n h. h) (reductions shapes) (layers_have shapes)
layers_have (Reduced r ∷ shapes) =
    let all = some_layer_has (Reduced r ∷ shapes) in
    All-cons (FilesPass all) r (reductions shapes)
    (passes_more (has_text (layer_names (Reduced r))) all (λ n. or_left (has_text (layer_names (Reduced r)) n) (some_layer_has shapes n)) r.files (layer_has r))
    (layers_more (some_layer_has shapes) all (λ n. or_right (has_text (layer_names (Reduced r)) n) (some_layer_has shapes n)) (reductions shapes) (layers_have shapes))

-- Files of an image.

visible_files : (P : FileFound → Type 0) (rs : List Reduction) → All (λ (r : Reduction). All P r.files) rs → All P (all_visible rs)
visible_files P [] h = All-nil P
visible_files P (r ∷ rs) h =
    All-append P (visible rs r.files) (all_visible rs)
    (All-filter (λ (f : FileFound). not (is_hidden rs f.path)) P r.files (All-head (λ (q : Reduction). All P q.files) r rs h))
    (visible_files P rs (All-tail (λ (q : Reduction). All P q.files) r rs h))

-- what holds of the files of all layers holds of those that count
counted_files : (P : FileFound → Type 0) (rs : List Reduction) → All (λ (r : Reduction). All P r.files) rs → All P (counted (gathered rs))
counted_files P rs h =
    All-filter (λ (f : FileFound). not (list_any is_etc_os (gathered rs) && is_usr_os f)) P (gathered rs) (all_order file_cmp P (all_visible rs) (visible_files P rs h))

flat_passes : (test : List ℕ → Bool) (files : List FileFound) → All (AllPass test) files → All (λ n. test n ≡ true) (flat_map file_names files)
flat_passes test [] h = All-nil (λ n. test n ≡ true)
flat_passes test (file ∷ files) h =
    All-append (λ n. test n ≡ true) (file_names file) (flat_map file_names files) (All-head (AllPass test) file files h) (flat_passes test files (All-tail (AllPass test) file files h))

-- Packages of an image.

good_by : (answer : Result (List Package) FileFault) (found : List Package) → with_packages answer ≡ Good found → answer ≡ Ok found
good_by (Ok packages) found h = cc
good_by (Err refused) found h = cc

good_layers : (fault : Option ImageFault) (layers : List Reduction) (found : List Package) → or_packages fault layers ≡ Good found → assembled (gathered layers) ≡ Ok found
good_layers (Some bad) layers found h = cc
good_layers None layers found h = good_by (assembled (gathered layers)) found h

good_files : (shapes : List Shape) (seals : List (Option (List ℕ))) (found : List Package) → coalesced shapes seals ≡ Good found → assembled (gathered (reductions shapes)) ≡ Ok found
unfolding coalesced
good_files shapes seals found h = good_layers (first_fault shapes seals) (reductions shapes) found h

unmapped : (test : List ℕ → Bool) (packages : List Package) → All (λ n. test n ≡ true) (map key_name packages) → AllByRecursion (λ p. test (key_name p) ≡ true) packages
unmapped test [] h = tt
unmapped test (p ∷ ps) h =
    (All-head (λ n. test n ≡ true) (key_name p) (map key_name ps) h, unmapped test ps (All-tail (λ n. test n ≡ true) (key_name p) (map key_name ps) h))

-- each package of an image has its name among those of some layer
pub listed : (shapes : List Shape) (seals : List (Option (List ℕ))) (found : List Package) → coalesced shapes seals ≡ Good found
    → AllByRecursion (λ p. some_layer_has shapes (key_name p) ≡ true) found
listed shapes seals found h =
    let files = counted (gathered (reductions shapes)) in
    let test = some_layer_has shapes in
    let names : map key_name found ≡ flat_map file_names files = names_of_all (system files) files found (good_files shapes seals found h) in
    unmapped test found
    (All-same (λ n. test n ≡ true) (map key_name found) (flat_map file_names files) names
    (flat_passes test files (counted_files (AllPass test) (reductions shapes) (layers_have shapes))))
