-- The seal of a layer, from its listing and its reads.
use Rattle.std.specs.Prelude.{◌≡◌, ℕ, ◌+◌, ◌<◌, ◌≤◌, ◌==◌, Bool, true, false, ◌&&◌, nat_le, nat_lt, is_none, if◌then◌else◌, List, [], ◌∷◌, ◌++◌, get_or, length, map, take, Option, Some, None, IfSome, refl}
use Rattle.std.proofs.Common.{ap, sym, subst, arith, ◌∙◌}
use Rattle.std.proofs.lemmas.Bool.{eq-eqb, le-ltb, leb-true}
use Rattle.std.proofs.lemmas.List.{map-append, take_all, take_more}
use Rattle.cv_base.proofs.Bools.{and_left, and_right}
use Rattle.cv_base.specs.Path.{Path}
use Rattle.cv_base.specs.Place.{place_of}
use Rattle.cv_base.specs.declared.limits.TheConstants.{PACKAGE_FILE_LIMIT}
use Rattle.cv_path.specs.declared.places.Place.{Place}
use Rattle.cv_base.specs.declared.tree.Content.TheVariants as content
use Rattle.cv_base.specs.declared.tree.Kind.TheVariants as kind
use Rattle.cv_base.specs.declared.tree.ListEntry.{ListEntry}
use Rattle.cv_base.specs.declared.tree.Node.{Node}
use Rattle.cv_base.specs.declared.tree.Node.TheVariants as node
use Rattle.cv_base.specs.declared.tree.TreeEntry.{TreeEntry}
use Rattle.cv_desk.proofs.LoadedLayers.{loaded_whole}
use Rattle.cv_desk.specs.Loaded.{answered, loaded, loaded_file, node_of}
use Rattle.cv_desk.specs.code.Loaded.{loaded_by}
use Rattle.cv_desk.specs.Stored.{Dir, File, IsDistinctIn, Item, Other, Stored, file_read, item_in, listed}
use Rattle.cv_desk.specs.declared.desk.FileRead.{FileRead}
use Rattle.cv_desk.specs.declared.desk.FileRead.TheVariants as read
use Rattle.cv_seal.specs.Seal.{SealedEntry, is_sealed_place, is_summed, seal_of, sealed_entry}
use Rattle.cv_seal.specs.Taken.{HasTaken}
use Rattle.cv_seal.specs.Tree.{sealed, tree_seal}
use Rattle.cv_seal.specs.declared.seal.Seal.{Seal}
use Rattle.cv_seq.proofs.AllItems.{zip_more}
use Rattle.cv_facts.specs.Sealed.{IsSealOf, IsSealed, sealed_read, sealed_with}
use Rattle.cv_facts.specs.code.Listing.{HasSealed, HasSealedAll, listed_seal, listed_sealed}

-- A layer that is known.

bytes_alone : (found : FileRead) (bytes : List ℕ) → answered found ≡ node.File (content.Bytes bytes) → found ≡ read.Bytes bytes
bytes_alone (read.Bytes xs) bytes h = cc
bytes_alone read.TooLarge bytes h = cc
bytes_alone read.NotFile bytes h = cc

-- a file at a place and within the limit was read whole
read_whole : (place : Option Place) (large : Bool) (found : FileRead) (bytes : List ℕ) → is_sealed_place place ≡ true → large ≡ false
    → (if is_none place then node.File content.Unread else answered found)
    ≡ node.File (if is_none place then content.Unread else (if large then content.TooLarge else content.Bytes bytes))
    → found ≡ read.Bytes bytes
read_whole None large found bytes p l h = cc
read_whole (Some pl) true found bytes p l h = cc
read_whole (Some pl) false found bytes p l h = bytes_alone found bytes h

within : (n m : ℕ) → nat_le n m ≡ true → nat_lt m n ≡ false
within n m h = le-ltb m n (leb-true n m h)

same_length : (n : ℕ) → (n == n) ≡ true
same_length n = eq-eqb n n refl

-- as many bytes as the entry is listed with
same_bytes : (path : Path) (bytes : List ℕ) → (length bytes == length bytes) ≡ true
    → sealed_read (record { path = path; kind = kind.File; size = length bytes }) (read.Bytes bytes) ≡ record { entry = record { path = path; kind = kind.File; size = length bytes }; content = bytes }
same_bytes path bytes h = rw h refl

one_known : (tree : Option (List Stored)) (path : Path) (item : Item) → loaded_by tree (listed (record { path = path; item = item })) ≡ loaded (record { path = path; item = item })
    → listed_sealed tree (listed (record { path = path; item = item })) ≡ sealed (record { path = path; item = item })
one_known tree path Dir h = refl
one_known tree path Other h = refl
one_known tree path (File bytes) h = by_sum (is_sealed_place (place_of path) && nat_le (length bytes) PACKAGE_FILE_LIMIT) refl where
  by_sum : (b : Bool) → (is_sealed_place (place_of path) && nat_le (length bytes) PACKAGE_FILE_LIMIT) ≡ b
      → (if b then sealed_read (record { path = path; kind = kind.File; size = length bytes }) (file_read (item_in tree path) PACKAGE_FILE_LIMIT) else sealed_entry (record { path = path; kind = kind.File; size = length bytes }) None)
      ≡ record { entry = record { path = path; kind = kind.File; size = length bytes }; content = if b then bytes else [] }
  by_sum false s = refl
  by_sum true s =
      let whole : file_read (item_in tree path) PACKAGE_FILE_LIMIT ≡ read.Bytes bytes =
      read_whole (place_of path) (nat_lt PACKAGE_FILE_LIMIT (length bytes)) (file_read (item_in tree path) PACKAGE_FILE_LIMIT) bytes
      (and_left (is_sealed_place (place_of path)) (nat_le (length bytes) PACKAGE_FILE_LIMIT) s)
      (within (length bytes) PACKAGE_FILE_LIMIT (and_right (is_sealed_place (place_of path)) (nat_le (length bytes) PACKAGE_FILE_LIMIT) s))
      (ap (λ (e : TreeEntry). e.node) h) in
      ap (sealed_read (record { path = path; kind = kind.File; size = length bytes })) whole ∙ same_bytes path bytes (same_length (length bytes))

heads : {X : Type 0} (x y : X) (xs ys : List X) → x ∷ xs ≡ y ∷ ys → (x ≡ y) × (xs ≡ ys)
heads x y xs ys h = (cc, cc)

all_known : (tree : Option (List Stored)) (es : List Stored) → map (loaded_by tree) (map listed es) ≡ map loaded es → map (listed_sealed tree) (map listed es) ≡ map sealed es
all_known tree [] h = refl
all_known tree (e ∷ es) h =
    let parts = heads (loaded_by tree (listed e)) (loaded e) (map (loaded_by tree) (map listed es)) (map loaded es) h in
    λ i. one_known tree e.path e.item parts.0 i ∷ all_known tree es parts.1 i

-- the seal of its listing is that of its tree
pub seal_known : (es : List Stored) → IsDistinctIn (Some (Some es)) → listed_seal (Some es) (map listed es) ≡ tree_seal es
unfolding listed_seal tree_seal
seal_known es h = ap seal_of (all_known (Some es) es (loaded_whole es h))

-- Entries that are sealed one by one.

none_known : (tree : Option (Option (List Stored))) → IfSome tree (λ t. [] ≡ map (listed_sealed t) [])
none_known None = tt
none_known (Some t) = refl

pub none_sealed : (tree : Option (Option (List Stored))) (es : List ListEntry) (seal : Seal) → HasTaken seal [] → HasSealedAll tree (take 0 es) seal
none_sealed tree es seal h = record { sealed = []; taken = h; entries_sealed = tt; known = none_known tree }

more_known : (tree : Option (Option (List Stored))) (es : List ListEntry) (x : ListEntry) (done : List SealedEntry) (found : FileRead)
    → IfSome tree (λ t. done ≡ map (listed_sealed t) es) → IfSome tree (λ t. found ≡ file_read (item_in t x.path) PACKAGE_FILE_LIMIT)
    → IfSome tree (λ t. done ++ sealed_with found x ∷ [] ≡ map (listed_sealed t) (es ++ x ∷ []))
more_known None es x done found h k = tt
more_known (Some t) es x done found h k =
    ap (λ (xs : List SealedEntry). xs ++ sealed_with found x ∷ []) h
    ∙ ap (λ (f : FileRead). map (listed_sealed t) es ++ sealed_with f x ∷ []) k
    ∙ sym (map-append (listed_sealed t) es (x ∷ []))

-- one more entry
pub one_sealed : (tree : Option (Option (List Stored))) (es : List ListEntry) (i : ℕ) (x : ListEntry) (old new : Seal) → i < length es → x ≡ get_or es i x
    → HasSealedAll tree (take i es) old → HasSealed tree x old new → HasSealedAll tree (take (i + 1) es) new
one_sealed tree es i x old new lt at all one =
    let here : take (i + 1) es ≡ take i es ++ x ∷ [] = take_more es i x lt ∙ ap (λ (y : ListEntry). take i es ++ y ∷ []) (sym at) in
    subst (λ (xs : List ListEntry). HasSealedAll tree xs new) (sym here) (record {
      sealed = all.sealed ++ sealed_with one.found x ∷ [];
      taken = one.sealed all.sealed all.taken;
      entries_sealed = zip_more IsSealed (take i es) all.sealed x (sealed_with one.found x) all.entries_sealed (one.found, refl);
      known = more_known tree (take i es) x all.sealed one.found all.known one.known;
    })

-- all entries
pub whole_listing : (tree : Option (Option (List Stored))) (es : List ListEntry) (i : ℕ) (seal : Seal) → length es ≤ i → HasSealedAll tree (take i es) seal → HasSealedAll tree es seal
whole_listing tree es i seal n h = subst (λ (xs : List ListEntry). HasSealedAll tree xs seal) (take_all i es n) h

pub seal_listed : (tree : Option (Option (List Stored))) (es : List ListEntry) (seal : Seal) (digest : List ℕ) → HasSealedAll tree es seal
    → ((taken : List SealedEntry) → HasTaken seal taken → digest ≡ seal_of taken) → IfSome tree (λ t. digest ≡ listed_seal t es)
unfolding listed_seal
seal_listed None es seal digest all finished = tt
seal_listed (Some t) es seal digest all finished = finished all.sealed all.taken ∙ ap seal_of all.known

pub seal_any : (tree : Option (Option (List Stored))) (es : List ListEntry) (seal : Seal) (digest : List ℕ) → HasSealedAll tree es seal
    → ((taken : List SealedEntry) → HasTaken seal taken → digest ≡ seal_of taken) → IsSealOf es digest
seal_any tree es seal digest all finished = record { sealed = all.sealed; entries_sealed = all.entries_sealed; seal_is = finished all.sealed all.taken }

-- An entry that is not read.

unread_known : (tree : Option (Option (List Stored))) (path : Path) → (found : FileRead) × IfSome tree (λ t. found ≡ file_read (item_in t path) PACKAGE_FILE_LIMIT)
unread_known None path = (read.NotFile, tt)
unread_known (Some t) path = (file_read (item_in t path) PACKAGE_FILE_LIMIT, refl)

pub unread_sealed : (tree : Option (Option (List Stored))) (entry : ListEntry) (old new : Seal) → is_summed entry ≡ false
    → ((taken : List SealedEntry) → HasTaken old taken → HasTaken new (taken ++ sealed_entry entry None ∷ [])) → HasSealed tree entry old new
unread_sealed tree entry old new h one =
    let any = unread_known tree entry.path in
    record {
      found = any.0;
      known = any.1;
      sealed = λ taken held. subst (λ (b : Bool). HasTaken new (taken ++ (if b then sealed_read entry any.0 else sealed_entry entry None) ∷ [])) (sym h) (one taken held);
    }
