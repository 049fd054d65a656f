-- An image that is registered after entries that do not register it was registered before them, and its layers come further.
use Rattle.std.specs.Prelude.{◌≡◌, ℕ, ◌≤◌, ◌<◌, ◌⊎◌, Bool, true, false, cond, List, [], ◌∷◌, filter, length, Some, refl}
use Rattle.std.specs.List.{cons_option, list_any}
use Rattle.std.proofs.Common.{ap, arith, inl, inr, subst, sym, ◌∙◌}
use Rattle.std.proofs.lemmas.Bool.{or_parts}
use Rattle.cv_base.specs.Texts.{has_text, same}
use Rattle.cv_base.proofs.Same.{same_is}
use Rattle.cv_transcript.specs.Order.{events_of}
use Rattle.cv_transcript.specs.declared.entry.Entry.{Entry}
use Rattle.cv_transcript.specs.declared.entry.Entry.TheVariants as entry
use Rattle.cv_core_machine.specs.History.{act_name}
use Rattle.cv_core_machine.specs.Laws.{IsConsistent}
use Rattle.cv_core_machine.specs.Layers.{is_named}
use Rattle.cv_core_machine.specs.Scans.{Trees}
use Rattle.cv_core_machine.specs.State.{State, value_at}
use Rattle.cv_core_machine.specs.Step.{claim_at, step}
use Rattle.cv_core_machine.specs.declared.event.MachineEvent.{MachineEvent}
use Rattle.cv_core_machine.specs.declared.event.MachineEvent.TheVariants as act
use Rattle.cv_core_machine.specs.declared.image.Image.{Image}
use Rattle.cv_core_machine.proofs.Consistent.{step_consistent}
use Rattle.cv_serve_legal.specs.Parts.{claim_in, claims_of, times}
use Rattle.cv_serve_legal.specs.Replay.{Moment, Replays, moment_after}
use Rattle.cv_serve_legal.specs.declared.parsed_line.Requested.{Requested}
use Rattle.cv_serve_legal.specs.Complete.{HasNoFault, gives_back, is_fault, registers, registers_by}
use Rattle.cv_serve_legal.proofs.Steps.{Rises, claim_settles, image_names, image_stood, layer_rises, rank}

-- what is known of an image that is registered after entries that do not register it, and of a layer of it with this number of claims among
-- them
pub record Stood (before after : State) (image : List ℕ) (registered : Image) (layer : List ℕ) (claims : ℕ) : Type 0 where
  pub stood : value_at before.images image ≡ Some registered
  pub rises : Rises (value_at before.layers layer) (value_at after.layers layer)
  pub claimed : 0 < claims → 2 ≤ rank (value_at after.layers layer)

-- the state after entries is consistent
pub consistent_after : (trees : Trees) (requested : List Requested) (before after : Moment) (entries : List Entry) → Replays trees requested before entries after
    → IsConsistent before.state → IsConsistent after.state
consistent_after trees requested before after [] h c = subst (λ m. IsConsistent m.state) (sym h) c
consistent_after trees requested before after (entry.Refused line error ∷ entries) h c = absurd h
consistent_after trees requested before after (entry.Read read ∷ entries) h c = consistent_after trees requested before after entries h.1 c
consistent_after trees requested before after (entry.Event event ∷ entries) h c =
    consistent_after trees requested (moment_after trees before h.1.act) after entries (subst (λ m. Replays trees requested m entries after) h.1.next h.2)
    (step_consistent trees before.state h.1.act c)

-- a claim of a layer is this event, or comes later
claim_now : (trees : Trees) (s : State) (a : MachineEvent) (layer : List ℕ) (later : List (List ℕ)) → IsConsistent s → is_named s.images layer ≡ true
    → 0 < times layer (cons_option (claim_in (act_name a)) later) → (2 ≤ rank (value_at (step trees s a).0.layers layer)) ⊎ (0 < times layer later)
claim_now trees s (act.Register manifest) layer later h named some = inr some
claim_now trees s (act.DropImage image) layer later h named some = inr some
claim_now trees s (act.Indexed other worker) layer later h named some = inr some
claim_now trees s (act.Fault other worker) layer later h named some = inr some
claim_now trees s (act.Memory other worker) layer later h named some = inr some
claim_now trees s (act.Update feed records) layer later h named some = inr some
claim_now trees s (act.Patch feed base records remove) layer later h named some = inr some
claim_now trees s (act.Ack number) layer later h named some = inr some
claim_now trees s (act.Claim other worker) layer later h named some = by_test (same layer other) refl some where
  by_test : (b : Bool) → same layer other ≡ b → 0 < length (cond b (other ∷ filter (same layer) later) (filter (same layer) later))
      → (2 ≤ rank (value_at (claim_at (value_at s.layers other) s other worker).0.layers layer)) ⊎ (0 < times layer later)
  by_test true key some =
      inl (subst (λ k. 2 ≤ rank (value_at (claim_at (value_at s.layers k) s k worker).0.layers layer)) (same_is layer other key) (claim_settles s layer worker h named))
  by_test false key some = inr some

-- one event, and then the rest
stood_on : (trees : Trees) (s : State) (a : MachineEvent) (last : State) (image : List ℕ) (registered : Image) (layer : List ℕ) (later : List (List ℕ)) → IsConsistent s
    → registers_by image (act_name a) (step trees s a).1 ≡ false → gives_back (act_name a) ≡ false → has_text registered.layers layer ≡ true
    → Stood (step trees s a).0 last image registered layer (times layer later)
    → Stood s last image registered layer (times layer (cons_option (claim_in (act_name a)) later))
stood_on trees s a last image registered layer later h other kept has rest = record {
  stood = stood;
  rises = let first = layer_rises trees s a layer h kept named (image_names (step trees s a).0.images image registered layer rest.stood has) in let second = rest.rises in omega (arith, first, second);
  claimed = λ some. by_claim (claim_now trees s a layer later h named some);
} where
  stood : value_at s.images image ≡ Some registered
  stood = image_stood trees s a image registered h other rest.stood

  named : is_named s.images layer ≡ true
  named = image_names s.images image registered layer stood has

  by_claim : (2 ≤ rank (value_at (step trees s a).0.layers layer)) ⊎ (0 < times layer later) → 2 ≤ rank (value_at last.layers layer)
  by_claim (inl now) = let second = rest.rises in omega (arith, now, second)
  by_claim (inr some) = rest.claimed some

pub has_stood : (trees : Trees) (requested : List Requested) (before after : Moment) (entries : List Entry) (image : List ℕ) (registered : Image) (layer : List ℕ)
    → Replays trees requested before entries after → IsConsistent before.state → HasNoFault entries → list_any (registers image) entries ≡ false
    → value_at after.state.images image ≡ Some registered → has_text registered.layers layer ≡ true
    → Stood before.state after.state image registered layer (times layer (claims_of (events_of entries)))
has_stood trees requested before after [] image registered layer h c kept other stands has = record {
  stood = ap (λ m. value_at m.state.images image) (sym h) ∙ stands;
  rises = let same_rank = ap (λ m. rank (value_at m.state.layers layer)) h in omega (arith, same_rank);
  claimed = λ some. omega (arith, some);
}
has_stood trees requested before after (entry.Refused line error ∷ entries) image registered layer h c kept other stands has = absurd h
has_stood trees requested before after (entry.Read read ∷ entries) image registered layer h c kept other stands has =
    has_stood trees requested before after entries image registered layer h.1 c kept other stands has
has_stood trees requested before after (entry.Event event ∷ entries) image registered layer h c kept other stands has =
    subst (λ k. Stood before.state after.state image registered layer (times layer (cons_option k (claims_of (events_of entries))))) (sym (ap (λ e. claim_in e.act) h.1.is))
    (stood_on trees before.state a after.state image registered layer (claims_of (events_of entries)) c
    (sym (ap (λ e. registers_by image e.act e.reply) h.1.is) ∙ both.0)
    (sym (ap (λ e. gives_back e.act) h.1.is) ∙ faults.0) has
    (has_stood trees requested next after entries image registered layer (subst (λ m. Replays trees requested m entries after) h.1.next h.2)
    (step_consistent trees before.state a c) faults.1 both.1 stands has)) where
      a : MachineEvent
      a = h.1.act

      next : Moment
      next = moment_after trees before a

      both : (registers_by image event.act event.reply ≡ false) × (list_any (registers image) entries ≡ false)
      both = or_parts (registers_by image event.act event.reply) (list_any (registers image) entries) other

      faults : (gives_back event.act ≡ false) × HasNoFault entries
      faults = or_parts (gives_back event.act) (list_any is_fault entries) kept
