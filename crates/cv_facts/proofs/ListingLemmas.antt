-- The shape of a layer that is indexed from its listing and its reads is that of the layer as it is stored.
use Rattle.std.specs.Prelude.{◌≡◌, ℕ, ◌+◌, ◌<◌, Bool, true, false, nat_lt, is_none, if◌then◌else◌, List, [], ◌∷◌, ◌++◌, drop, get_or, length, map, Option, Some, None, Result, Ok, Err, IfOk, IfSome, refl}
use Rattle.std.specs.List.{cons_option}
use Rattle.std.specs.Option.{option_map, option_to_list}
use Rattle.std.proofs.Common.{ap, append_assoc, sym, ◌∙◌}
use Rattle.std.proofs.lemmas.List.{drop_more}
use Rattle.cv_base.specs.Path.{Path}
use Rattle.cv_base.specs.Place.{place_of}
use Rattle.cv_base.specs.declared.limits.TheConstants.{PACKAGE_FILE_LIMIT}
use Rattle.cv_path.specs.declared.places.Place.{Place}
use Rattle.cv_base.specs.declared.tree.Content.TheVariants.{Bytes, TooLarge, Unread}
use Rattle.cv_base.specs.declared.tree.ListEntry.{ListEntry}
use Rattle.cv_base.specs.declared.tree.Node.TheVariants as node
use Rattle.cv_base.specs.declared.tree.TreeEntry.{TreeEntry}
use Rattle.cv_desk.specs.Loaded.{loaded, whole, whole_node}
use Rattle.cv_desk.specs.code.Loaded.{loaded_by}
use Rattle.cv_desk.specs.Stored.{Dir, File, IsDistinctIn, Item, Other, Stored, kind_of, listed as listed_entry}
use Rattle.cv_desk.proofs.LoadedLayers.{loaded_whole}
use Rattle.cv_overlay.specs.Fault.{fault, list_fault, tree_fault}
use Rattle.cv_overlay.specs.Lay.{is_plain}
use Rattle.cv_overlay.specs.Mark.{Outline, is_dir_kind, is_dir_node, listed, mark_of, outline}
use Rattle.cv_overlay.specs.declared.fault.TreeFault.{TreeFault}
use Rattle.cv_seal.specs.Tree.{tree_seal}
use Rattle.cv_packages.specs.Files.{file_of}
use Rattle.cv_packages.specs.Found.{found_at}
use Rattle.cv_packages.specs.declared.found.FileFound.{FileFound}
use Rattle.cv_packages.specs.declared.found.Found.TheVariants as found
use Rattle.cv_facts.specs.Files.{own_file, own_files}
use Rattle.cv_facts.specs.Reduction.{reduction_with, shape_by, shape_of}
use Rattle.cv_facts.specs.code.Listing.{found_shape, listed_file, listed_files, listed_seal, listed_shape, listed_shape_by}
use Rattle.cv_facts.proofs.SealLemmas.{seal_known}
use Rattle.cv_facts.proofs.PlacedLemmas.{kind_is}
use Rattle.cv_facts.specs.declared.error.IndexError.{IndexError}
use Rattle.cv_facts.specs.declared.reduction.Shape.{Shape}
use Rattle.cv_facts.specs.declared.reduction.Shape.TheVariants.{BadTree, Reduced}

-- What a layer hides, and its fault.

dir_is : (item : Item) → is_dir_kind (kind_of item) ≡ is_dir_node (whole_node item)
dir_is Dir = refl
dir_is (File bytes) = refl
dir_is Other = refl

pub outlines_are : (es : List Stored) → map listed (map listed_entry es) ≡ map outline (map whole es)
outlines_are [] = refl
outlines_are (e ∷ es) = λ i. record { path = e.path; is_dir = dir_is e.item i } ∷ outlines_are es i

-- Its files.

file_by : (path : Path) (place : Option Place) (large : Bool) (bytes : List ℕ) → nat_lt PACKAGE_FILE_LIMIT (length bytes) ≡ large
    → file_of path place (node.File (if is_none place then Unread else (if large then TooLarge else Bytes bytes))) ≡ file_of path place (node.File (Bytes bytes))
file_by path None large bytes h = refl
file_by path (Some pl) true bytes h =
    ap (λ (b : Bool). Some (record { path = path; found = if b then found.TooLarge else found_at pl bytes })) (sym h)
file_by path (Some pl) false bytes h = refl

own_by : (m : Bool) (one other : Option FileFound) → one ≡ other → (if m then one else None) ≡ (if m then other else None)
own_by true one other h = h
own_by false one other h = refl

own_item : (path : Path) (item : Item) → own_file (loaded (record { path = path; item = item })) ≡ own_file (whole (record { path = path; item = item }))
own_item path Dir = refl
own_item path (File bytes) = own_by (is_plain (mark_of path false)) _ _ (file_by path (place_of path) (nat_lt PACKAGE_FILE_LIMIT (length bytes)) bytes refl)
own_item path Other = refl

own_loaded : (es : List Stored) → own_files (map loaded es) ≡ own_files (map whole es)
own_loaded [] = refl
own_loaded (e ∷ es) = λ i. cons_option (own_item e.path e.item i) (own_loaded es i)

files_by : (tree : Option (List Stored)) (entries : List ListEntry) → listed_files tree entries ≡ own_files (map (loaded_by tree) entries)
files_by tree [] = refl
files_by tree (e ∷ es) = λ i. cons_option (kind_is tree e.path e.kind i) (files_by tree es i)

files_are : (es : List Stored) → IsDistinctIn (Some (Some es)) → listed_files (Some es) (map listed_entry es) ≡ own_files (map whole es)
files_are es h = files_by (Some es) (map listed_entry es) ∙ ap own_files (loaded_whole es h) ∙ own_loaded es

onto : (o : Option FileFound) (rest : List FileFound) → option_to_list o ++ rest ≡ cons_option o rest
onto None rest = refl
onto (Some f) rest = refl

-- no files so far, with those of all entries, are all
pub none_listed : (tree : Option (Option (List Stored))) (es : List ListEntry) (fs : List FileFound) → fs ≡ [] → IfSome tree (λ t. fs ++ listed_files t es ≡ listed_files t es)
none_listed None es fs h = tt
none_listed (Some t) es fs h = ap (λ (gs : List FileFound). gs ++ listed_files t es) h

-- the files so far, with those of the entries that remain, are all
pub one_listed : (tree : Option (Option (List Stored))) (es : List ListEntry) (i : ℕ) (x : ListEntry) (old new : List FileFound) (file : Option FileFound)
    → i < length es → x ≡ get_or es i x → new ≡ old ++ option_to_list file → IfSome tree (λ t. file ≡ listed_file t x)
    → IfSome tree (λ t. old ++ listed_files t (drop i es) ≡ listed_files t es) → IfSome tree (λ t. new ++ listed_files t (drop (i + 1) es) ≡ listed_files t es)
one_listed None es i x old new file lt at n h k = tt
one_listed (Some t) es i x old new file lt at n h k =
    let rest = drop (i + 1) es in
    let here : drop i es ≡ x ∷ rest = drop_more es i x lt ∙ ap (λ (y : ListEntry). y ∷ rest) (sym at) in
    ap (λ (fs : List FileFound). fs ++ listed_files t rest) n
    ∙ append_assoc old (option_to_list file) (listed_files t rest)
    ∙ ap (λ (f : Option FileFound). old ++ (option_to_list f ++ listed_files t rest)) h
    ∙ ap (λ (fs : List FileFound). old ++ fs) (onto (listed_file t x) (listed_files t rest))
    ∙ ap (λ (ys : List ListEntry). old ++ listed_files t ys) (sym here)
    ∙ k

-- The shape.

abbrev shape_from : Option TreeFault → List Outline → List FileFound → List ℕ → Shape
shape_from (Some bad) outlines files seal = BadTree bad
shape_from None outlines files seal = Reduced (reduction_with outlines files seal)

listed_from : (bad : Option TreeFault) (tree : Option (List Stored)) (entries : List ListEntry)
    → listed_shape_by bad tree entries ≡ shape_from bad (map listed entries) (listed_files tree entries) (listed_seal tree entries)
listed_from None tree entries = refl
listed_from (Some bad) tree entries = refl

stored_from : (bad : Option TreeFault) (es : List Stored) → shape_from bad (map outline (map whole es)) (own_files (map whole es)) (tree_seal es) ≡ shape_by bad es
stored_from None es = refl
stored_from (Some bad) es = refl

shape_is : (es : List Stored) → IsDistinctIn (Some (Some es)) → listed_shape (Some es) (map listed_entry es) ≡ shape_of (Some es)
shape_is es h =
    listed_from (list_fault (map listed_entry es)) (Some es) (map listed_entry es)
    ∙ (λ i. shape_from (fault (outlines_are es i)) (outlines_are es i) (files_are es h i) (seal_known es h i))
    ∙ stored_from (tree_fault (map whole es)) es

pub shape_found : (tree : Option (Option (List Stored))) → IsDistinctIn tree → (found : Option (List ListEntry)) (r : Result Shape IndexError)
    → IfSome tree (λ t. found ≡ option_map (map listed_entry) t) → IfSome tree (λ t. IfOk r (λ s. s ≡ found_shape t found))
    → IfSome tree (λ t. IfOk r (λ s. s ≡ shape_of t))
shape_found None d found r h k = tt
shape_found (Some t) d found (Err e) h k = tt
shape_found (Some None) d found (Ok s) h k = k ∙ ap (found_shape None) h
shape_found (Some (Some es)) d found (Ok s) h k = k ∙ ap (found_shape (Some es)) h ∙ shape_is es d
