-- The parts of a scan as the code puts them together.
use Rattle.std.specs.Prelude.{◌≡◌, ℕ, ◌+◌, ◌≤◌, suc, ⊤, List, [], ◌∷◌, length, map, MatchBool, Option, Some, None, Result, Ok, Err, IfOk, refl}
use Rattle.std.proofs.Common.{ap, sym, subst, arith, ◌∙◌}
use Rattle.std.proofs.lemmas.List.{length-map}
use Rattle.cv_base.specs.Answer.{Gives}
use Rattle.cv_base.specs.Path.{Path}
use Rattle.cv_base.specs.declared.limits.TheConstants.{MAX_LAYERS}
use Rattle.cv_base.specs.declared.advisory.Advisory.{Advisory}
use Rattle.cv_base.specs.declared.finding.Finding.{Finding}
use Rattle.cv_base.specs.declared.tree.TreeEntry.{TreeEntry}
use Rattle.cv_overlay.specs.Lay.{node_at, root_of}
use Rattle.cv_overlay.specs.Ascending.{AreAscending}
use Rattle.cv_overlay.specs.declared.fault.ImageFault.{ImageFault}
use Rattle.cv_scan.specs.code.Layers.{is_image_memory, refusing}
use Rattle.cv_packages.specs.Packages.{packages}
use Rattle.cv_scan.specs.code.Plain.{plain_layers, plain_packages, plain_packages_of, plain_scan}
use Rattle.cv_scan.specs.Image.{as_image, bad_tree_from, packages_unless, trees_from, with_tree}
use Rattle.cv_scan.specs.Scan.{Scanned, with_findings}
use Rattle.cv_scan.specs.declared.layer_error.ImageError.{ImageError}
use Rattle.cv_scan.specs.declared.layer_error.ImageError.TheVariants as error
use Rattle.cv_scan.proofs.Laid.{laid_entries}

abbrev Feeds : Type 0
Feeds = List (List ℕ × List Advisory)

abbrev Answers : Result (List Finding) ImageError → Scanned → Type 0
Answers answer scanned = Gives is_image_memory (λ found. found) answer (refusing scanned)

-- From the layers to their trees.

trees_ok : (found : Result (List (List TreeEntry)) ImageFault) (trees : List (List TreeEntry)) → refusing found ≡ Ok trees → found ≡ Ok trees
trees_ok (Ok ts) trees h = ap Ok (ap trees_or h) where
  trees_or : Result (List (List TreeEntry)) ImageError → List (List TreeEntry)
  trees_or (Ok ts) = ts
  trees_or (Err e) = []
trees_ok (Err bad) trees h = cc

pub layers_good : (layers : List (Option (List TreeEntry))) (trees : List (List TreeEntry)) (feeds : Feeds) (answer : Result (List Finding) ImageError)
    → refusing (trees_from 0 layers) ≡ Ok trees → Answers answer (with_findings feeds (plain_packages_of trees)) → Answers answer (plain_scan layers feeds)
unfolding plain_scan plain_packages
layers_good layers trees feeds answer h k =
    subst (λ found. Answers answer (with_findings feeds (plain_layers found))) (sym (trees_ok (trees_from 0 layers) trees h)) k

layers_by : (found : Result (List (List TreeEntry)) ImageFault) (e : ImageError) (feeds : Feeds) → refusing found ≡ Err e → refusing (with_findings feeds (plain_layers found)) ≡ Err e
layers_by (Ok trees) e feeds h = cc
layers_by (Err bad) e feeds h = ap Err (ap (error_or e) h) where
  error_or : ImageError → Result (List (List TreeEntry)) ImageError → ImageError
  error_or other (Ok ts) = other
  error_or other (Err f) = f

memory_or : (e : ImageError) (P Q : Type 0) → (P → Q) → MatchBool (is_image_memory e) ⊤ P → MatchBool (is_image_memory e) ⊤ Q
memory_or (error.Bad bad) P Q f h = f h
memory_or (error.Desk layer) P Q f h = f h
memory_or error.NoMemory P Q f h = h

pub layers_bad : (layers : List (Option (List TreeEntry))) (feeds : Feeds) (e : ImageError)
    → MatchBool (is_image_memory e) ⊤ (refusing (trees_from 0 layers) ≡ Err e) → MatchBool (is_image_memory e) ⊤ (refusing (plain_scan layers feeds) ≡ Err e)
unfolding plain_scan plain_packages
layers_bad layers feeds e h =
    memory_or e (refusing (trees_from 0 layers) ≡ Err e) (refusing (with_findings feeds (plain_layers (trees_from 0 layers))) ≡ Err e) (λ k. layers_by (trees_from 0 layers) e feeds k) h

count_more : (tree : List TreeEntry) (found : Result (List (List TreeEntry)) ImageFault) (n : ℕ) → IfOk found (λ ts. length ts ≡ n) → IfOk (with_tree tree found) (λ ts. length ts ≡ suc n)
count_more tree (Ok ts) n h = ap suc h
count_more tree (Err bad) n h = tt

-- there are as many trees as layers
count_from : (index : ℕ) (layers : List (Option (List TreeEntry))) → IfOk (trees_from index layers) (λ ts. length ts ≡ length layers)
count_from index [] = refl
count_from index (None ∷ layers) = tt
count_from index (Some tree ∷ layers) = count_more tree (trees_from (index + 1) layers) (length layers) (count_from (index + 1) layers)

pub trees_within : {A B : Type 0} (f : A → Option (List TreeEntry)) (g : B → List TreeEntry) (layers : List A) (trees : List B) → refusing (trees_from 0 (map f layers)) ≡ Ok (map g trees)
    → length layers ≤ MAX_LAYERS → length trees ≤ MAX_LAYERS
trees_within f g layers trees h within =
    let counted : length (map g trees) ≡ length (map f layers) = subst (λ found. IfOk found (λ ts. length ts ≡ length (map f layers))) (trees_ok (trees_from 0 (map f layers)) (map g trees) h) (count_from 0 (map f layers)) in
    let one = length-map layers f in
    let two = length-map trees g in
    omega (arith, counted, one, two)

-- From the trees to the root.

pub trees_good : (trees : List (List TreeEntry)) (root entries : List TreeEntry) (feeds : Feeds) (answer : Result (List Finding) ImageError)
    → bad_tree_from 0 trees ≡ None → entries ≡ root → AreAscending root → ((p : Path) → node_at root p ≡ root_of trees p)
    → Answers answer (with_findings feeds (as_image (packages entries))) → Answers answer (with_findings feeds (plain_packages_of trees))
trees_good trees root entries feeds answer good same ascending laid h =
    subst (λ bad. Answers answer (with_findings feeds (packages_unless bad trees))) (sym good)
    (subst (λ es. Answers answer (with_findings feeds (as_image (packages es)))) (same ∙ laid_entries trees root ascending laid) h)
