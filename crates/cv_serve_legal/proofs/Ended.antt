-- At the end of a legal transcript without faults all layers are Indexed.
use Rattle.std.specs.Prelude.{◌≡◌, ℕ, ◌<◌, ◌⊎◌, Bool, true, false, ◌||◌, cond, List, [], ◌∷◌, ◌++◌, Option, Some, None, refl}
use Rattle.std.specs.BTreeMap.{is_at}
use Rattle.std.specs.Cmp.{eq_by_cmp_equiv}
use Rattle.std.specs.Cmp.Lexicographic.{nat_list_cmp_total, texts_ties}
use Rattle.std.specs.List.{AllByRecursion, flat_map}
use Rattle.std.specs.List.Sorted.{IsStrictlySortedBy}
use Rattle.std.specs.Map.{keys_of}
use Rattle.std.specs.Option.{is_some}
use Rattle.std.specs.Ordering.{is_eq}
use Rattle.std.proofs.Common.{ap, arith, inl, inr, subst, sym, ◌∙◌}
use Rattle.std.proofs.lemmas.Grind.{flat_map-append}
use Rattle.std.proofs.lemmas.List.{append-nil}
use Rattle.std.proofs.lemmas.List.Concat.{flat_map-cons}
use Rattle.std.proofs.lemmas.Map.{lookup-none}
use Rattle.std.proofs.lemmas.Map.Entries.{none_past_head}
use Rattle.std.proofs.lemmas.Map.Keys.{IsDistinct-from_sorted}
use Rattle.cv_base.specs.Texts.{has_text, same}
use Rattle.cv_base.proofs.Same.{same_self}
use Rattle.cv_match.specs.Findings.{text_cmp}
use Rattle.cv_transcript.specs.declared.entry.Entry.{Entry}
use Rattle.cv_core_machine.specs.Layers.{queued}
use Rattle.cv_core_machine.specs.Scans.{Trees}
use Rattle.cv_core_machine.specs.State.{Images, State, value_at}
use Rattle.cv_core_machine.specs.declared.image.Image.{Image}
use Rattle.cv_core_machine.specs.declared.limits.TheConstants.{MAX_FEEDS, MAX_IMAGES}
use Rattle.cv_core_machine.specs.declared.status.Status.{Status}
use Rattle.cv_core_machine.specs.declared.status.Status.TheVariants as status
use Rattle.cv_core_machine.proofs.Consistent.{opening_consistent}
use Rattle.cv_serve_legal.specs.Legal.{AreLast, AreLegal, AreLegalRounds, IsLegal}
use Rattle.cv_serve_legal.specs.Parts.{times}
use Rattle.cv_serve_legal.specs.Replay.{Moment, beginning}
use Rattle.cv_serve_legal.specs.Rounds.{Round, round_limits, rounds_of}
use Rattle.cv_serve_legal.specs.Complete.{AreAllIndexed, AreDivided, ArePendingRecent, AreRoundEntries, HasNoFault}
use Rattle.cv_serve_legal.proofs.Pending.{all_pending, both_kept}
use Rattle.cv_serve_legal.proofs.Settled.{IsBetween, between_after, last_registers, queued_times, recent_after}
use Rattle.cv_serve_legal.proofs.Steps.{image_names, named_found}

-- ---- the images of a state

-- what holds of each image that is found holds of all
all_found : (Q : List ℕ → Image → Type 0) (images : Images) → IsStrictlySortedBy text_cmp (keys_of images)
    → ((image : List ℕ) (registered : Image) → value_at images image ≡ Some registered → Q image registered)
    → AllByRecursion (λ (image : List ℕ × Image). Q image.0 image.1) images
unfolding IsStrictlySortedBy
all_found Q [] sorted each = tt
all_found Q (first ∷ images) sorted each = (each first.0 first.1 at_first, all_found Q images sorted.1 (λ image registered found. each image registered (later image registered found))) where
  at_first : value_at (first ∷ images) first.0 ≡ Some first.1
  at_first = ap (λ b. cond b (Some first.1) (value_at images first.0)) (sym (texts_ties first.0 first.0) ∙ same_self first.0)

  later : (image : List ℕ) (registered : Image) → value_at images image ≡ Some registered → value_at (first ∷ images) image ≡ Some registered
  later image registered found = by_test (is_eq (text_cmp image first.0)) refl where
    by_test : (b : Bool) → is_eq (text_cmp image first.0) ≡ b → cond b (Some first.1) (value_at images image) ≡ Some registered
    by_test true is =
        let none : value_at images image ≡ None =
        lookup-none (is_at (text_cmp image)) images (none_past_head (eq_by_cmp_equiv nat_list_cmp_total) image first images (IsDistinct-from_sorted text_cmp (keys_of (first ∷ images)) sorted) is) in
        absurd (cc (none, found))
    by_test false is = found

-- what holds of each layer of a list holds of all
all_layers : (P : List ℕ → Type 0) (layers : List (List ℕ)) → ((layer : List ℕ) → has_text layers layer ≡ true → P layer) → AllByRecursion P layers
all_layers P [] each = tt
all_layers P (first ∷ layers) each =
    (each first (ap (λ b. b || has_text layers first) (same_self first)), all_layers P layers (λ layer has. each layer (later (same first layer) layer has))) where
      later : (b : Bool) (layer : List ℕ) → has_text layers layer ≡ true → (b || has_text layers layer) ≡ true
      later true layer has = refl
      later false layer has = has

-- ---- after the last round

rounds_between : (trees : Trees) (workers : ℕ) (before : Moment) (rounds : List Round) (entries : List Entry) (after : Moment)
    → AreLegalRounds trees workers before rounds entries after → IsBetween before.state → IsBetween after.state
rounds_between trees workers before [] entries after h known = subst (λ m. IsBetween m.state) (sym h.1) known
rounds_between trees workers before (round ∷ rounds) entries after h known =
    rounds_between trees workers h.0 rounds h.2 after h.5 (between_after trees workers before round h.1 h.0 h.4 known)

-- each layer of a registered image is Indexed if none is Queued
none_waits : (state : State) → IsBetween state → queued state.layers ≡ [] → (image : List ℕ) (registered : Image) (layer : List ℕ)
    → value_at state.images image ≡ Some registered → has_text registered.layers layer ≡ true → value_at state.layers layer ≡ Some status.Indexed
none_waits state known none image registered layer found has = by_status (value_at state.layers layer) refl where
  by_status : (found : Option Status) → value_at state.layers layer ≡ found → found ≡ Some status.Indexed
  by_status None is =
      let some : is_some (value_at state.layers layer) ≡ true =
      named_found state layer known.consistent (image_names state.images image registered layer found has) in
      absurd (cc (some, is))
  by_status (Some status.Queued) is =
      let some : 0 < times layer (queued state.layers) = queued_times state.layers layer is in
      let zero_times : times layer (queued state.layers) ≡ 0 = ap (λ waiting. times layer waiting) none in
      absurd (omega (arith, some, zero_times))
  by_status (Some (status.Claimed worker)) is = absurd (known.unclaimed layer worker is)
  by_status (Some status.Indexed) is = refl

ends_indexed : (waiting : List (List ℕ)) (trees : Trees) (workers : ℕ) (before : Moment) (entries : List Entry) (after : Moment)
    → queued before.state.layers ≡ waiting → AreLast waiting trees workers before entries after → IsBetween before.state → HasNoFault entries
    → (image : List ℕ) (registered : Image) (layer : List ℕ) → value_at after.state.images image ≡ Some registered → has_text registered.layers layer ≡ true
    → value_at after.state.layers layer ≡ Some status.Indexed
ends_indexed [] trees workers before entries after none h known kept image registered layer found has =
    ap (λ m. value_at m.state.layers layer) h.1
    ∙ none_waits before.state known none image registered layer (ap (λ m. value_at m.state.images image) (sym h.1) ∙ found) has
ends_indexed (first ∷ waiting) trees workers before entries after some h known kept image registered layer found has =
    recent_after trees workers before [] entries after h known kept image registered layer (last_registers image trees workers before entries after h) found has

last_between : (waiting : List (List ℕ)) (trees : Trees) (workers : ℕ) (before : Moment) (entries : List Entry) (after : Moment)
    → AreLast waiting trees workers before entries after → IsBetween before.state → IsBetween after.state
last_between [] trees workers before entries after h known = subst (λ m. IsBetween m.state) (sym h.1) known
last_between (layer ∷ layers) trees workers before entries after h known = between_after trees workers before [] entries after h known

begins : IsBetween beginning.state
begins = record {
  consistent = opening_consistent (record { images = MAX_IMAGES; feeds = MAX_FEEDS });
  unclaimed = λ layer worker is. absurd (cc is);
}

pub all_indexed : (trees : Trees) (workers : ℕ) (rounds : List Round) (entries : List Entry) (after : Moment)
    → AreLegal trees workers beginning rounds entries after → HasNoFault entries → AreAllIndexed after.state
all_indexed trees workers rounds entries after h kept =
    all_found (λ image registered. AllByRecursion (λ layer. value_at after.state.layers layer ≡ Some status.Indexed) registered.layers) after.state.images at_end.consistent.images
    (λ image registered found. all_layers (λ layer. value_at after.state.layers layer ≡ Some status.Indexed) registered.layers
    (λ layer has. ends_indexed (queued h.between.state.layers) trees workers h.between h.last after refl h.further between last_kept image registered layer found has)) where
      between : IsBetween h.between.state
      between = rounds_between trees workers beginning rounds h.first h.between h.input begins

      at_end : IsBetween after.state
      at_end = last_between (queued h.between.state.layers) trees workers h.between h.last after h.further between

      last_kept : HasNoFault h.last
      last_kept = (both_kept h.first h.last (subst (λ es. HasNoFault es) h.parts kept)).1

-- the state to which a legal output leads
pub all_ended : (trees : Trees) (input output : List ℕ) (workers : ℕ) (state : State) → (legal : IsLegal trees input output workers state)
    → HasNoFault legal.entries → AreAllIndexed state
all_ended trees input output workers state legal kept =
    subst (λ s. AreAllIndexed s) legal.reached
    (all_indexed trees workers (rounds_of round_limits input true) legal.entries legal.after legal.legal kept)

-- ---- rounds

pub pending_from : (trees : Trees) (workers : ℕ) (rounds : List Round) (entries : List Entry) (after : Moment)
    → (division : AreDivided trees workers beginning rounds entries after) → HasNoFault entries → ArePendingRecent [] division.parts
pending_from trees workers rounds entries after division kept =
    all_pending trees workers beginning (rounds ++ division.further) [] division.parts after division.legal begins
    (λ image registered layer other found has. absurd (cc found)) (subst (λ es. HasNoFault es) division.joined kept)

-- entries, round by round
record Parts (trees : Trees) (workers : ℕ) (before : Moment) (rounds : List Round) (entries : List Entry) (after : Moment) : Type 0 where
  parts : List (List Entry)
  joined : entries ≡ flat_map (λ part. part) parts
  legal : AreRoundEntries trees workers before rounds parts after

parts_of : (trees : Trees) (workers : ℕ) (before : Moment) (rounds : List Round) (entries : List Entry) (after : Moment)
    → AreLegalRounds trees workers before rounds entries after → Parts trees workers before rounds entries after
parts_of trees workers before [] entries after h = record { parts = []; joined = h.0; legal = h.1 }
parts_of trees workers before (round ∷ rounds) entries after h =
    let later : Parts trees workers h.0 rounds h.2 after = parts_of trees workers h.0 rounds h.2 after h.5 in
    record {
      parts = h.1 ∷ later.parts;
      joined = h.3 ∙ ap (λ es. h.1 ++ es) later.joined ∙ sym (flat_map-cons (λ (part : List Entry). part) h.1 later.parts);
      legal = (h.0, h.4, later.legal);
    }

rounds_both : (trees : Trees) (workers : ℕ) (before between after : Moment) (rounds further : List Round) (parts more : List (List Entry))
    → AreRoundEntries trees workers before rounds parts between → AreRoundEntries trees workers between further more after
    → AreRoundEntries trees workers before (rounds ++ further) (parts ++ more) after
rounds_both trees workers before between after [] further [] more h k = subst (λ m. AreRoundEntries trees workers m further more after) h k
rounds_both trees workers before between after [] further (entries ∷ parts) more h k = absurd h
rounds_both trees workers before between after (round ∷ rounds) further [] more h k = absurd h
rounds_both trees workers before between after (round ∷ rounds) further (entries ∷ parts) more h k =
    (h.0, h.1, rounds_both trees workers h.0 between after rounds further parts more h.2 k)

-- what comes after the rounds of the input
record Further (trees : Trees) (workers : ℕ) (before : Moment) (entries : List Entry) (after : Moment) : Type 0 where
  further : List Round
  one : (further ≡ []) ⊎ (further ≡ [] ∷ [])
  parts : List (List Entry)
  joined : entries ≡ flat_map (λ part. part) parts
  legal : AreRoundEntries trees workers before further parts after

further_of : (waiting : List (List ℕ)) (trees : Trees) (workers : ℕ) (before : Moment) (entries : List Entry) (after : Moment)
    → AreLast waiting trees workers before entries after → Further trees workers before entries after
further_of [] trees workers before entries after h = record { further = []; one = inl refl; parts = []; joined = h.0; legal = h.1 }
further_of (layer ∷ layers) trees workers before entries after h = record {
  further = [] ∷ [];
  one = inr refl;
  parts = entries ∷ [];
  joined = sym (flat_map-cons (λ (part : List Entry). part) entries [] ∙ append-nil entries);
  legal = (after, h, refl);
}

pub divided : (trees : Trees) (workers : ℕ) (before : Moment) (rounds : List Round) (entries : List Entry) (after : Moment)
    → AreLegal trees workers before rounds entries after → AreDivided trees workers before rounds entries after
divided trees workers before rounds entries after h = record {
  further = last.further;
  one = last.one;
  parts = first.parts ++ last.parts;
  joined =
      h.parts ∙ ap (λ es. es ++ h.last) first.joined ∙ ap (λ es. flat_map (λ part. part) first.parts ++ es) last.joined
      ∙ sym (flat_map-append (λ (part : List Entry). part) first.parts last.parts);
  legal = rounds_both trees workers before h.between after rounds last.further first.parts last.parts first.legal last.legal;
} where
  first : Parts trees workers before rounds h.first h.between
  first = parts_of trees workers before rounds h.first h.between h.input

  last : Further trees workers h.between h.last after
  last = further_of (queued h.between.state.layers) trees workers h.between h.last after h.further
