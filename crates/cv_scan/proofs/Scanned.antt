-- An image is scanned as it is stored, whatever loading leaves out.
use Rattle.std.specs.Prelude.{◌≡◌, ℕ, ◌+◌, Bool, true, false, ◌||◌, if◌then◌else◌, List, [], ◌∷◌, length, map, Option, Some, None, Result, Ok, Err, IfSome, refl}
use Rattle.std.specs.List.{AllByRecursion}
use Rattle.std.specs.Option.{option_map}
use Rattle.std.specs.Result.{result_unwrap_or}
use Rattle.std.proofs.Common.{ap, sym, subst, ◌∙◌}
use Rattle.std.proofs.lemmas.Option.{same_Some}
use Rattle.cv_base.specs.Answer.{Gives}
use Rattle.cv_base.specs.Texts.{has_text, same}
use Rattle.cv_base.specs.declared.advisory.Advisory.{Advisory}
use Rattle.cv_base.specs.declared.finding.Finding.{Finding}
use Rattle.cv_base.specs.declared.tree.TreeEntry.{TreeEntry}
use Rattle.cv_base.proofs.Same.{same_is}
use Rattle.cv_desk.specs.Loaded.{loaded, whole}
use Rattle.cv_desk.specs.Stored.{Stored}
use Rattle.cv_overlay.specs.declared.fault.ImageFault.{ImageFault}
use Rattle.cv_scan.proofs.Seen.{AreSeen, all_seen}
use Rattle.cv_scan.specs.Layers.{IsScanAnswer, IsScanned, distinct, is_desk_fault, no_seals, stored_layers, with_stored}
use Rattle.cv_scan.specs.code.Layers.{IsLoaded, is_image_memory, refusing, tree_in}
use Rattle.cv_scan.specs.code.Plain.{plain_scan}
use Rattle.cv_scan.specs.Scan.{Scanned, scan}
use Rattle.cv_scan.specs.declared.layer_error.ImageError.{ImageError}
use Rattle.cv_scan.specs.declared.layer_error.ImageError.TheVariants as error
use Rattle.cv_scan.specs.declared.loader.LoadedLayer.{LoadedLayer}
use Rattle.cv_seq.specs.Cause.{CausedBy}
use Rattle.cv_scan.proofs.Loaded.{loaded_is}
use Rattle.cv_scan.proofs.PlainScans.{scan_whole, whole_layers}
use Rattle.cv_scan.proofs.RootLoaded.{load_layer, scan_loaded}
use Rattle.cv_scan.proofs.ScanAnswers.{read_answer}

abbrev layer_in : LoadedLayer → List ℕ
layer_in x = x.layer

-- Each layer was loaded as it is stored.

abbrev pub load_stored : Option (List Stored) → Option (List TreeEntry)
load_stored = option_map (map loaded)

known_some : (known : Option (Option (List Stored))) (stored : Option (List Stored)) (found : Option (List TreeEntry)) → IfSome known (λ s. found ≡ load_stored s) → known ≡ Some stored → found ≡ load_stored stored
known_some None stored found h k = cc
known_some (Some s) stored found h k = h ∙ ap load_stored (same_Some s stored k)

found_layer : (trees : List ℕ → Option (Option (List Stored))) (xs : List LoadedLayer) (layer : List ℕ) (stored : Option (List Stored))
    → AllByRecursion (IsLoaded trees) xs → has_text (map layer_in xs) layer ≡ true → trees layer ≡ Some stored → tree_in xs layer ≡ load_stored stored
found_layer trees [] layer stored all h k = cc
found_layer trees (x ∷ xs) layer stored all h k = by_test (same x.layer layer) refl h (λ l. found_layer trees xs layer stored all.1 l k) where
  by_test : (b : Bool) → same x.layer layer ≡ b → (b || has_text (map layer_in xs) layer) ≡ true
      → (has_text (map layer_in xs) layer ≡ true → tree_in xs layer ≡ load_stored stored)
      → (if b then option_map (λ tree. tree.entries) x.tree else tree_in xs layer) ≡ load_stored stored
  by_test true e l rest =
      known_some (trees x.layer) stored (option_map (λ tree. tree.entries) x.tree) all.0 (ap trees (same_is x.layer layer e) ∙ k)
  by_test false e l rest = rest l

-- if the desk's type names all layers, they were found as they are stored
abbrev AreFound : List LoadedLayer → List (List ℕ) → Option (List (Option (List Stored))) → Type 0
AreFound xs layers known = IfSome known (λ stored. map (tree_in xs) layers ≡ map load_stored stored)

found_more : (xs : List LoadedLayer) (layer : List ℕ) (layers : List (List ℕ)) (here : Option (Option (List Stored))) (others : Option (List (Option (List Stored))))
    → IfSome here (λ stored. tree_in xs layer ≡ load_stored stored) → AreFound xs layers others → AreFound xs (layer ∷ layers) (with_stored here others)
found_more xs layer layers None others h k = tt
found_more xs layer layers (Some stored) None h k = tt
found_more xs layer layers (Some stored) (Some rest) h k = λ i. h i ∷ k i

found_here : (trees : List ℕ → Option (Option (List Stored))) (xs : List LoadedLayer) (layer : List ℕ) (here : Option (Option (List Stored)))
    → AllByRecursion (IsLoaded trees) xs → has_text (map layer_in xs) layer ≡ true → trees layer ≡ here → IfSome here (λ stored. tree_in xs layer ≡ load_stored stored)
found_here trees xs layer None all h k = tt
found_here trees xs layer (Some stored) all h k = found_layer trees xs layer stored all h k

found_all : (trees : List ℕ → Option (Option (List Stored))) (xs : List LoadedLayer) (layers : List (List ℕ))
    → AllByRecursion (IsLoaded trees) xs → AreSeen (map layer_in xs) layers → AreFound xs layers (stored_layers trees layers)
found_all trees xs [] all h = refl
found_all trees xs (layer ∷ layers) all h =
    found_more xs layer layers (trees layer) (stored_layers trees layers) (found_here trees xs layer (trees layer) all h.0 refl) (found_all trees xs layers all h.1)

-- The scan.

layer_is : (stored : Option (List Stored)) → load_stored stored ≡ load_layer (option_map (map whole) stored)
layer_is None = refl
layer_is (Some es) = ap Some (loaded_is es)

layers_are : (stored : List (Option (List Stored))) → map load_stored stored ≡ map load_layer (whole_layers stored)
layers_are [] = refl
layers_are (layer ∷ layers) = λ i. layer_is layer i ∷ layers_are layers i

scan_is : (xs : List LoadedLayer) (layers : List (List ℕ)) (stored : List (Option (List Stored))) (feeds : List (List ℕ × List Advisory))
    → map (tree_in xs) layers ≡ map load_stored stored → plain_scan (map (tree_in xs) layers) feeds ≡ scan stored (no_seals layers) feeds
scan_is xs layers stored feeds h =
    ap (λ ls. plain_scan ls feeds) (h ∙ layers_are stored) ∙ scan_loaded (whole_layers stored) feeds ∙ sym (scan_whole layers stored feeds)

ok_is : (scanned : Scanned) (found : List Finding) → refusing scanned ≡ Ok found → scanned ≡ Ok found
ok_is (Ok xs) found h = ap Ok (ap (λ (r : Result (List Finding) ImageError). result_unwrap_or r []) h)
ok_is (Err bad) found h = cc

-- the refusal of an image, if there is one
abbrev bad_or : ImageFault → Result (List Finding) ImageError → ImageFault
bad_or other (Ok found) = other
bad_or other (Err (error.Bad bad)) = bad
bad_or other (Err (error.Desk layer)) = other
bad_or other (Err error.NoMemory) = other

bad_is : (scanned : Scanned) (bad : ImageFault) → refusing scanned ≡ Err (error.Bad bad) → scanned ≡ Err bad
bad_is (Ok xs) bad h = cc
bad_is (Err other) bad h = ap Err (ap (bad_or other) h)

given_is : (answer : Result (List Finding) ImageError) (scanned : Scanned) → Gives is_image_memory (λ found. found) answer (refusing scanned) → IsScanned answer scanned
given_is (Ok found) scanned h = ok_is scanned found h
given_is (Err (error.Bad bad)) scanned h = bad_is scanned bad h
given_is (Err (error.Desk layer)) scanned h = tt
given_is (Err error.NoMemory) scanned h = tt

by_stored : (xs : List LoadedLayer) (layers : List (List ℕ)) (known : Option (List (Option (List Stored)))) (feeds : List (List ℕ × List Advisory)) (answer : Result (List Finding) ImageError)
    → AreFound xs layers known → Gives is_image_memory (λ found. found) answer (refusing (plain_scan (map (tree_in xs) layers) feeds))
    → IfSome known (λ stored. IsScanned answer (scan stored (no_seals layers) feeds))
by_stored xs layers None feeds answer h k = tt
by_stored xs layers (Some stored) feeds answer h k =
    given_is answer (scan stored (no_seals layers) feeds) (subst (λ scanned. Gives is_image_memory (λ found. found) answer (refusing scanned)) (scan_is xs layers stored feeds h) k)

-- an answer from what was loaded is one from what is stored
scanned_stored : (trees : List ℕ → Option (Option (List Stored))) (xs : List LoadedLayer) (layers : List (List ℕ)) (feeds : List (List ℕ × List Advisory)) (answer : Result (List Finding) ImageError)
    → map layer_in xs ≡ distinct layers → AllByRecursion (IsLoaded trees) xs
    → Gives is_image_memory (λ found. found) answer (refusing (plain_scan (map (tree_in xs) layers) feeds))
    → IfSome (stored_layers trees layers) (λ stored. IsScanned answer (scan stored (no_seals layers) feeds))
scanned_stored trees xs layers feeds answer h all k =
    by_stored xs layers (stored_layers trees layers) feeds answer
    (found_all trees xs layers all (subst (λ ds. AreSeen ds layers) (sym h) (all_seen layers))) k

loaded_unblamed : (scanned : Scanned) (answer : Result (List Finding) ImageError) → Gives is_image_memory (λ found. found) answer (refusing scanned) → is_desk_fault answer ≡ false
loaded_unblamed scanned (Ok found) h = refl
loaded_unblamed scanned (Err (error.Bad bad)) h = refl
loaded_unblamed (Ok found) (Err (error.Desk layer)) h = cc
loaded_unblamed (Err bad) (Err (error.Desk layer)) h = cc
loaded_unblamed scanned (Err error.NoMemory) h = refl

-- the answer from layers that were loaded
pub loaded_answer : {D : Type 0} (trees : List ℕ → Option (Option (List Stored))) (listings faults : D → ℕ) (before now : D) (xs : List LoadedLayer) (layers : List (List ℕ)) (feeds : List (List ℕ × List Advisory)) (answer : Result (List Finding) ImageError)
    → listings now ≡ listings before + length (distinct layers) → CausedBy (faults before) (faults now) false
    → map layer_in xs ≡ distinct layers → AllByRecursion (IsLoaded trees) xs
    → Gives is_image_memory (λ found. found) answer (refusing (plain_scan (map (tree_in xs) layers) feeds))
    → IsScanAnswer trees listings faults before now layers (no_seals layers) feeds answer
loaded_answer trees listings faults before now xs layers feeds answer h k l all given =
    read_answer trees listings faults before now layers (no_seals layers) feeds answer h k (loaded_unblamed (plain_scan (map (tree_in xs) layers) feeds) answer given) (scanned_stored trees xs layers feeds answer l all given)
