-- What each event leaves is what the machine has after it, and is kept.
use Rattle.std.specs.Prelude.{◌≡◌, ℕ, Bool, true, false, ◌||◌, ◌&&◌, cond, nat_lt, List, [], length, Some, None, unwrap_or, refl}
use Rattle.std.specs.Cmp.Lexicographic.{nat_list_cmp_total}
use Rattle.std.specs.BTreeMap.{is_at}
use Rattle.std.specs.Map.{keys_of}
use Rattle.std.specs.Option.{is_some}
use Rattle.cv_match.specs.Findings.{text_cmp}
use Rattle.std.specs.List.Sorted.{IsStrictlySortedBy}
use Rattle.std.proofs.Common.{ap, subst, sym, ◌∙◌}
use Rattle.cv_base.specs.Texts.{has_text, same}
use Rattle.cv_base.specs.declared.manifest.Manifest.{Manifest}
use Rattle.cv_base.proofs.Same.{same_is}
use Rattle.cv_core_records.specs.declared.reply.Reply.TheVariants as reply
use Rattle.cv_core_machine.specs.Laws.{IsConsistent}
use Rattle.cv_core_machine.specs.Layers.{is_claimed_as, is_named}
use Rattle.cv_core_machine.specs.State.{Images, Layers, State, value_at, with_value, without_value}
use Rattle.cv_core_machine.specs.Step.{drop_at, entered, image_of, remaining}
use Rattle.cv_core_machine.specs.declared.image.Image.{Image}
use Rattle.cv_core_machine.specs.declared.status.Status.{Status}
use Rattle.cv_core_machine.specs.declared.status.Status.TheVariants as status
use Rattle.cv_core_machine.proofs.Consistent.{claim_consistent, cut_right, drop_consistent, either, layers_changed, opening_consistent, put_right, register_consistent}
use Rattle.cv_core_machine.proofs.Entries.{sorted_cut, sorted_put}
use Rattle.cv_core_machine.proofs.LayerTables.{value_put, value_cut}
use Rattle.cv_core_registry.specs.Registrations.{IsRegular, Leads, Registrations, alone, holding, users_of}
use Rattle.cv_core_registry.specs.code.Tables.{without_unused}
use Rattle.cv_core_registry.specs.code.Users.{ArePut, AreTaken, ImageSet, IsKept, Users, names, uses}
use Rattle.cv_core_registry.proofs.TableLemmas.{left_remaining}
use Rattle.cv_core_registry.proofs.UserLemmas.{keys_users, used_named}

-- with another table, the sets stay right
pub kept_layers : (images : Images) (before after : Layers) (users : Users) (limit : ℕ) → IsKept images before users limit
    → IsRegular (record { images = images; layers = after; limit = limit }) → IsKept images after users limit
kept_layers images before after users limit k regular = record { regular = regular; named = k.named }

-- an empty registry
pub kept_none : (images : Images) (layers : Layers) (users : Users) (limit : ℕ) → images ≡ [] → layers ≡ [] → users ≡ [] → IsKept images layers users limit
kept_none images layers users limit a b c = rw (a, b, c) record {
  regular = opening_consistent (record { images = limit; feeds = 0 });
  named = λ l q. refl;
}

-- the images that name a layer, by its set
pub users_none : (images : Images) (layers : Layers) (users : Users) (limit : ℕ) (layer : List ℕ) (items : List (List ℕ)) → IsKept images layers users limit
    → None ≡ value_at users layer → items ≡ [] → items ≡ users_of images layer
unfolding IsStrictlySortedBy
users_none images layers users limit layer items k found is =
    is ∙ keys_users images layer [] k.regular.images tt (λ q. ap (λ f. is_some (value_at (unwrap_or f []) q)) found ∙ k.named layer q)

pub users_some : (images : Images) (layers : Layers) (users : Users) (limit : ℕ) (layer : List ℕ) (set : ImageSet) → IsKept images layers users limit
    → Some set ≡ value_at users layer → IsStrictlySortedBy text_cmp (keys_of set) → keys_of set ≡ users_of images layer
users_some images layers users limit layer set k found sorted =
    keys_users images layer set k.regular.images sorted (λ q. ap (λ f. is_some (value_at (unwrap_or f []) q)) found ∙ k.named layer q)

-- Register

names_put : (images : Images) (image : List ℕ) (kept : Image) (users after : Users) → value_at images image ≡ None
    → ((l q : List ℕ) → uses users l q ≡ names (value_at images q) l) → ArePut kept.layers image users after
    → (l q : List ℕ) → uses after l q ≡ names (value_at (with_value images image kept) q) l
names_put images image kept users after new named put l q = put l q ∙ by_test (same image q) refl where
  by_test : (b : Bool) → same image q ≡ b → (has_text kept.layers l && same image q || uses users l q) ≡ names (value_at (with_value images image kept) q) l
  by_test true key =
      let unused : uses users l q ≡ false = named l q ∙ ap (λ k. names (value_at images k) l) (sym (same_is image q key)) ∙ ap (λ found. names found l) new in
      ap (λ b. has_text kept.layers l && b || uses users l q) key ∙ ap (λ u. has_text kept.layers l && true || u) unused ∙ only (has_text kept.layers l)
      ∙ sym (ap (λ found. names found l) (value_put images image kept q ∙ ap (λ b. cond b (Some kept) (value_at images q)) key)) where
        only : (b : Bool) → (b && true || false) ≡ b
        only true = refl
        only false = refl
  by_test false key =
      ap (λ b. has_text kept.layers l && b || uses users l q) key ∙ ap (λ b. b || uses users l q) (none (has_text kept.layers l)) ∙ named l q
      ∙ sym (ap (λ found. names found l) (value_put images image kept q ∙ ap (λ b. cond b (Some kept) (value_at images q)) key)) where
        none : (b : Bool) → (b && false) ≡ false
        none true = refl
        none false = refl

pub kept_registered : (images next : Images) (table after : Layers) (users more : Users) (limit : ℕ) (m : Manifest) → IsKept images table users limit
    → value_at images m.hash ≡ None → nat_lt (length images) limit ≡ true → next ≡ with_value images m.hash (image_of m) → after ≡ entered table m.layers
    → ArePut m.layers m.hash users more → IsKept next after more limit
kept_registered images next table after users more limit m k new room a b put = rw (a, b) record {
  regular = subst
      (λ (b : Bool). IsConsistent (either b (record now { images = with_value images m.hash (image_of m); layers = entered table m.layers }, reply.Registered) (now, reply.TooManyImages)).0)
      room (register_consistent None now m new k.regular);
  named = names_put images m.hash (image_of m) users more new k.named put;
} where
  now : State
  now = alone (record { images = images; layers = table; limit = limit })

pub kept_added : (images next : Images) (table after : Layers) (users more : Users) (limit : ℕ) (m : Manifest) (layers : List (List ℕ)) (kept : Image) → IsKept images table users limit
    → value_at images m.hash ≡ None → nat_lt (length images) limit ≡ true → layers ≡ m.layers → kept ≡ image_of m → next ≡ with_value images m.hash kept
    → after ≡ entered table layers → ArePut layers m.hash users more → IsKept next after more limit
kept_added images next table after users more limit m layers kept k new room same copy a b put =
    kept_registered images next table after users more limit m k new room (a ∙ ap (with_value images m.hash) copy) (b ∙ ap (entered table) same)
    (subst (λ (ls : List (List ℕ)). ArePut ls m.hash users more) same put)

-- DropImage

names_taken : (images : Images) (image : List ℕ) (kept : Image) (users after : Users) → IsStrictlySortedBy text_cmp (keys_of images)
    → value_at images image ≡ Some kept → ((l q : List ℕ) → uses users l q ≡ names (value_at images q) l) → AreTaken kept.layers image users after
    → (l q : List ℕ) → uses after l q ≡ names (value_at (without_value images image) q) l
names_taken images image kept users after h found named taken l q = taken l q ∙ by_test (same image q) refl where
  by_test : (b : Bool) → same image q ≡ b → cond (has_text kept.layers l && same image q) false (uses users l q) ≡ names (value_at (without_value images image) q) l
  by_test true key =
      let used : uses users l q ≡ has_text kept.layers l =
      named l q ∙ ap (λ k. names (value_at images k) l) (sym (same_is image q key)) ∙ ap (λ f. names f l) found in
      ap (λ b. cond (has_text kept.layers l && b) false (uses users l q)) key ∙ ap (cond (has_text kept.layers l && true) false) used ∙ none (has_text kept.layers l)
      ∙ sym (ap (λ f. names f l) (value_cut images image q h ∙ ap (λ b. cond b None (value_at images q)) key)) where
        none : (b : Bool) → cond (b && true) false b ≡ false
        none true = refl
        none false = refl
  by_test false key =
      ap (λ b. cond (has_text kept.layers l && b) false (uses users l q)) key ∙ whole (has_text kept.layers l) ∙ named l q
      ∙ sym (ap (λ f. names f l) (value_cut images image q h ∙ ap (λ b. cond b None (value_at images q)) key)) where
        whole : (b : Bool) → cond (b && false) false (uses users l q) ≡ uses users l q
        whole true = refl
        whole false = refl

-- an image is taken out of the sets of its layers
taken_out : (users fewer : Users) (image : List ℕ) (kept : Image) (layers : List (List ℕ)) → layers ≡ kept.layers → AreTaken layers image users fewer
    → AreTaken kept.layers image users fewer
taken_out users fewer image kept layers same taken = subst (λ (ls : List (List ℕ)). AreTaken ls image users fewer) same taken

pub dropped_table : (images : Images) (table : Layers) (users fewer : Users) (limit : ℕ) (image : List ℕ) (kept : Image) (layers : List (List ℕ)) → IsKept images table users limit
    → value_at images image ≡ Some kept → layers ≡ kept.layers → AreTaken layers image users fewer
    → without_unused table layers fewer ≡ remaining table kept.layers (without_value images image)
dropped_table images table users fewer limit image kept layers k found same taken =
    ap (λ (ls : List (List ℕ)). without_unused table ls fewer) same
    ∙ left_remaining table kept.layers fewer (without_value images image) k.regular.layers
    (λ q.
    used_named (without_value images image) fewer q (sorted_cut text_cmp (is_at (text_cmp image)) images k.regular.images)
    (names_taken images image kept users fewer k.regular.images found k.named (taken_out users fewer image kept layers same taken)))

pub kept_dropped : (images next : Images) (table after : Layers) (users fewer : Users) (limit : ℕ) (image : List ℕ) (kept : Image) (layers : List (List ℕ)) → IsKept images table users limit
    → value_at images image ≡ Some kept → layers ≡ kept.layers → next ≡ without_value images image → after ≡ without_unused table layers fewer
    → AreTaken layers image users fewer → IsKept next after fewer limit
kept_dropped images next table after users fewer limit image kept layers k found same a b taken =
    rw (a, b, dropped_table images table users fewer limit image kept layers k found same taken) record {
      regular = drop_consistent (Some kept) (alone (record { images = images; layers = table; limit = limit })) image found k.regular;
      named = names_taken images image kept users fewer k.regular.images found k.named (taken_out users fewer image kept layers same taken);
    }

-- registrations of these parts
abbrev pub having : Images → Layers → ℕ → Registrations
having images layers limit = record { images = images; layers = layers; limit = limit }

pub dropped_leads : (images next : Images) (table after : Layers) (users fewer : Users) (limit : ℕ) (image : List ℕ) (kept : Image) (layers : List (List ℕ)) (before made : Registrations)
    → IsKept images table users limit → having images table limit ≡ before → value_at images image ≡ Some kept → layers ≡ kept.layers → next ≡ without_value images image
    → after ≡ without_unused table layers fewer → AreTaken layers image users fewer → made ≡ having next after limit
    → Leads (λ state. drop_at (Some kept) state image) before (made, reply.Dropped)
dropped_leads images next table after users fewer limit image kept layers before made k was found same a b taken is =
    subst (λ (r : Registrations). Leads (λ state. drop_at (Some kept) state image) r (made, reply.Dropped)) was
    (λ state. ap (λ (r : Registrations). (holding state r, reply.Dropped)) (sym (is ∙ parts))) where
      parts : having next after limit ≡ having (without_value images image) (remaining table kept.layers (without_value images image)) limit
      parts = rw (a, b, dropped_table images table users fewer limit image kept layers k found same taken) refl

-- Claim, Indexed, Fault, Memory

pub claimed_regular : (r : Registrations) (layer : List ℕ) (worker : ℕ) → IsRegular r → IsRegular (record r { layers = with_value r.layers layer (status.Claimed worker) })
claimed_regular r layer worker h = claim_consistent (Some status.Queued) (alone r) layer worker h

pub finished_regular : (r : Registrations) (layer : List ℕ) (next : Status) → is_named r.images layer ≡ true → IsRegular r
    → IsRegular (record r { layers = with_value r.layers layer next })
finished_regular r layer next named h =
    layers_changed (alone r) (with_value r.layers layer next) h (sorted_put nat_list_cmp_total r.layers layer next h.layers)
    (put_right r.images r.layers layer next h.table (ap (λ b. b || is_claimed_as next) named))

pub discarded_regular : (r : Registrations) (layer : List ℕ) → is_named r.images layer ≡ false → IsRegular r
    → IsRegular (record r { layers = without_value r.layers layer })
discarded_regular r layer unnamed h =
    layers_changed (alone r) (without_value r.layers layer) h (sorted_cut text_cmp (is_at (text_cmp layer)) r.layers h.layers)
    (cut_right r.images r.layers layer h.layers h.table unnamed)
