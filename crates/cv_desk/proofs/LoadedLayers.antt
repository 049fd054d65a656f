-- A layer that is loaded by its listing and its reads is the layer as it is loaded.
use Rattle.std.proofs.Common.{◌≡◌, ℕ, Bool, true, false, ◌&&◌, not, cond, nat_lt, List, [], ◌∷◌, ◌++◌, map, length, Option, Some, None, is_none, refl, sym, ◌∙◌, ap}
use Rattle.std.specs.Prelude.{IfOk, IfSome, Result, Ok, Err}
use Rattle.std.specs.Option.{option_map}
use Rattle.std.specs.List.{AllByRecursion, list_all, list_any}
use Rattle.std.proofs.lemmas.Bool.{or_parts}
use Rattle.std.proofs.lemmas.List.{map-append}
use Rattle.std.proofs.lemmas.List.Folds.{list_all-append}
use Rattle.cv_base.specs.Path.{Path, same_path}
use Rattle.cv_base.specs.Place.{place_of}
use Rattle.cv_base.specs.declared.limits.TheConstants.{PACKAGE_FILE_LIMIT}
use Rattle.cv_base.specs.declared.tree.Content.TheVariants.{Bytes, TooLarge, Unread}
use Rattle.cv_base.specs.declared.tree.ListEntry.{ListEntry}
use Rattle.cv_base.specs.declared.tree.Node.TheVariants as node
use Rattle.cv_base.specs.declared.tree.Tree.{Tree}
use Rattle.cv_base.specs.declared.tree.TreeEntry.{TreeEntry}
use Rattle.cv_path.proofs.Same.{path_self}
use Rattle.cv_desk.specs.declared.desk.DeskFault.{DeskFault}
use Rattle.cv_desk.specs.Loaded.{answered, loaded, node_of}
use Rattle.cv_desk.specs.code.Loaded.{loaded_by, loaded_kind}
use Rattle.cv_desk.specs.Stored.{Item, Dir, File, Other, Stored, IsDistinctIn, is_distinct, item_at, kind_of, listed}

-- each of these entries is found at its path
abbrev AreFound : List Stored → List Stored → Type 0
AreFound all es = AllByRecursion (λ e. item_at all e.path ≡ Some e.item) es

-- an entry of another path in front hides none
after : (e : Stored) (all es : List Stored) → list_any (λ f. same_path e.path f.path) es ≡ false → AreFound all es → AreFound (e ∷ all) es
after e all [] h found = tt
after e all (f ∷ fs) h found = (
  rw (or_parts (same_path e.path f.path) (list_any (λ g. same_path e.path g.path) fs) h).0 found.0,
  after e all fs (or_parts (same_path e.path f.path) (list_any (λ g. same_path e.path g.path) fs) h).1 found.1,
)

not_false : (b c : Bool) → not b && c ≡ true → (b ≡ false) × (c ≡ true)
not_false true c h = cc
not_false false c h = (refl, h)

found_all : (es : List Stored) → is_distinct es ≡ true → AreFound es es
found_all [] h = tt
found_all (e ∷ es) h =
    let parts = not_false (list_any (λ f. same_path e.path f.path) es) (is_distinct es) h in
    (rw (path_self e.path) refl, after e es es parts.0 (found_all es parts.1))

file_by : (path : Path) (bytes : List ℕ) (none large : Bool)
    → cond none (node.File Unread) (answered (cond large Rattle.cv_desk.specs.declared.desk.FileRead.TheVariants.TooLarge (Rattle.cv_desk.specs.declared.desk.FileRead.TheVariants.Bytes bytes)))
    ≡ node.File (cond none Unread (cond large TooLarge (Bytes bytes)))
file_by path bytes true large = refl
file_by path bytes false true = refl
file_by path bytes false false = refl

item_loaded : (path : Path) (item : Item) → loaded_kind path (kind_of item) (Some item) ≡ node_of path item
item_loaded path Dir = refl
item_loaded path (File bytes) = file_by path bytes (is_none (place_of path)) (nat_lt PACKAGE_FILE_LIMIT (length bytes))
item_loaded path Other = refl

entry_loaded : (all : List Stored) (e : Stored) → item_at all e.path ≡ Some e.item → loaded_by (Some all) (listed e) ≡ loaded e
entry_loaded all e h =
    let is : loaded_kind e.path (kind_of e.item) (item_at all e.path) ≡ node_of e.path e.item = rw h (item_loaded e.path e.item) in
    λ i. record { path = e.path; node = is i }

entries_loaded : (all es : List Stored) → AreFound all es → map (loaded_by (Some all)) (map listed es) ≡ map loaded es
entries_loaded all [] h = refl
entries_loaded all (e ∷ es) h = λ i. entry_loaded all e h.0 i ∷ entries_loaded all es h.1 i

-- the whole layer
pub loaded_whole : (es : List Stored) → is_distinct es ≡ true → map (loaded_by (Some es)) (map listed es) ≡ map loaded es
loaded_whole es h = entries_loaded es es (found_all es h)

-- one more entry is loaded
pub entries_snoc : (tree : Option (Option (List Stored))) (out longer : List TreeEntry) (es : List ListEntry) (o : TreeEntry) (e : ListEntry) → longer ≡ out ++ o ∷ []
    → IfSome tree (λ t. out ≡ map (loaded_by t) es) → IfSome tree (λ t. o ≡ loaded_by t e) → IfSome tree (λ t. longer ≡ map (loaded_by t) (es ++ e ∷ []))
entries_snoc None out longer es o e more h k = tt
entries_snoc (Some t) out longer es o e more h k =
    more ∙ ap (λ xs. xs ++ o ∷ []) h ∙ ap (λ x. map (loaded_by t) es ++ x ∷ []) k ∙ sym (map-append (loaded_by t) es (e ∷ []))

-- the last entry was read too
pub all_snoc : {X : Type 0} (p : X → Bool) (xs : List X) (x : X) → list_all p xs ≡ true → p x ≡ true → list_all p (xs ++ x ∷ []) ≡ true
all_snoc p xs x h k = list_all-append p xs (x ∷ []) ∙ rw (h, k) refl

-- the entries of what was loaded
abbrev entries_in : Option Tree → Option (List TreeEntry)
entries_in found = option_map (λ tree. tree.entries) found

-- what is loaded of a layer, if there is one
pub load_known : (tree : Option (Option (List Stored))) → IsDistinctIn tree → (found : Option (List ListEntry)) (r : Result (Option Tree) DeskFault)
    → IfSome tree (λ t. found ≡ option_map (map listed) t) → IfSome tree (λ t. IfOk r (λ out. entries_in out ≡ option_map (map (loaded_by t)) found))
    → IfSome tree (λ t. IfOk r (λ out. entries_in out ≡ option_map (map loaded) t))
load_known None d found r h k = tt
load_known (Some t) d found (Err e) h k = tt
load_known (Some None) d found (Ok out) h k = k ∙ ap (option_map (map (loaded_by None))) h
load_known (Some (Some es)) d found (Ok out) h k = k ∙ ap (option_map (map (loaded_by (Some es)))) h ∙ ap Some (loaded_whole es d)
