-- Between rounds no layer is Claimed: each worker ends in the round what it claimed there.
use Rattle.std.specs.Prelude.{◌≡◌, ℕ, ◌==◌, Bool, true, false, cond, nat_lt, List, [], ◌∷◌, length, Option, Some, None, option_and_then, refl}
use Rattle.std.specs.List.{cons_option}
use Rattle.std.specs.Option.{option_or}
use Rattle.std.proofs.Common.{ap, subst, sym, ◌∙◌}
use Rattle.std.proofs.lemmas.Bool.{eq-eqb, eqb-true}
use Rattle.std.proofs.lemmas.Option.{same_Some}
use Rattle.cv_base.specs.Texts.{has_text, same}
use Rattle.cv_base.specs.declared.manifest.Manifest.{Manifest}
use Rattle.cv_base.proofs.Same.{same_is, same_self}
use Rattle.cv_core_records.specs.declared.event.Act.{Act}
use Rattle.cv_core_records.specs.declared.event.Act.TheVariants as name
use Rattle.cv_core_records.specs.declared.event.By.{By}
use Rattle.cv_core_records.specs.declared.event.By.TheVariants as by
use Rattle.cv_core_records.specs.declared.event.EventEntry.{EventEntry}
use Rattle.cv_core_records.specs.declared.reply.Reply.{Reply}
use Rattle.cv_core_records.specs.declared.reply.Reply.TheVariants as reply
use Rattle.cv_request.specs.declared.request.Act.{Act as RequestAct}
use Rattle.cv_request.specs.declared.request.Act.TheVariants as request
use Rattle.cv_transcript.specs.Order.{events_of}
use Rattle.cv_transcript.specs.declared.entry.Entry.{Entry}
use Rattle.cv_transcript.specs.declared.entry.Entry.TheVariants as entry
use Rattle.cv_core_machine.specs.History.{act_name}
use Rattle.cv_core_machine.specs.Laws.{IsConsistent}
use Rattle.cv_core_machine.specs.Layers.{is_claimed_as, is_claimed_by, is_named}
use Rattle.cv_core_machine.specs.Scans.{Trees}
use Rattle.cv_core_machine.specs.State.{Layers, State, notification_at, value_at, with_value, without_value}
use Rattle.cv_core_machine.specs.Step.{claim_at, drop_at, entered, finish, image_of, register_at, step}
use Rattle.cv_core_machine.specs.declared.event.MachineEvent.{MachineEvent}
use Rattle.cv_core_machine.specs.declared.event.MachineEvent.TheVariants as act
use Rattle.cv_core_machine.specs.declared.image.Image.{Image}
use Rattle.cv_core_machine.specs.declared.status.Status.{Status}
use Rattle.cv_core_machine.specs.declared.status.Status.TheVariants as status
use Rattle.cv_core_machine.proofs.Consistent.{either, step_consistent}
use Rattle.cv_core_machine.proofs.LayerTables.{entered_found, remaining_found, staying, stays, value_put, value_cut}
use Rattle.cv_serve_legal.specs.Parts.{event_by, events_by}
use Rattle.cv_serve_legal.specs.Replay.{IsEvent, Moment, Replays, event_of, moment_after, requested_at, submitted, worker_event}
use Rattle.cv_serve_legal.specs.Turns.{FitsWork, Works, work_after}
use Rattle.cv_serve_legal.specs.declared.parsed_line.Requested.{Requested}
use Rattle.cv_serve_legal.proofs.Steps.{ack_leaves, patch_leaves, update_leaves}

-- no layer is Claimed
abbrev pub NoneClaimed : Layers → Type 0
NoneClaimed table = (layer : List ℕ) (worker : ℕ) → value_at table layer ≡ Some (status.Claimed worker) → ⊥

-- the layer at which each worker works
abbrev Work : Type 0
Work = ℕ → Option (List ℕ)

-- a layer that is Claimed by a worker is the one at which it works
abbrev IsAtWork : Layers → Work → Type 0
IsAtWork table work = (layer : List ℕ) (worker : ℕ) → value_at table layer ≡ Some (status.Claimed worker) → work worker ≡ Some layer

-- ---- events of lanes

-- an event that a request submits
abbrev is_of_lane : MachineEvent → Bool
is_of_lane (act.Register manifest) = true
is_of_lane (act.DropImage image) = true
is_of_lane (act.Claim layer worker) = false
is_of_lane (act.Indexed layer worker) = false
is_of_lane (act.Fault layer worker) = false
is_of_lane (act.Memory layer worker) = false
is_of_lane (act.Update feed records) = true
is_of_lane (act.Patch feed base records remove) = true
is_of_lane (act.Ack number) = true

event_is_of_lane : (requested : RequestAct) (a : MachineEvent) → event_of requested ≡ Some a → is_of_lane a ≡ true
event_is_of_lane (request.Register manifest) a is = sym (ap (λ x. is_of_lane x) (same_Some (act.Register manifest) a is))
event_is_of_lane (request.DropImage image) a is = sym (ap (λ x. is_of_lane x) (same_Some (act.DropImage image) a is))
event_is_of_lane (request.Update feed records) a is = sym (ap (λ x. is_of_lane x) (same_Some (act.Update feed records) a is))
event_is_of_lane (request.Patch feed base records remove) a is = sym (ap (λ x. is_of_lane x) (same_Some (act.Patch feed base records remove) a is))
event_is_of_lane (request.Report image) a is = absurd (cc is)
event_is_of_lane (request.Page number size page) a is = absurd (cc is)
event_is_of_lane request.List a is = absurd (cc is)
event_is_of_lane (request.Ack number) a is = sym (ap (λ x. is_of_lane x) (same_Some (act.Ack number) a is))

lane_event : (requested : Option RequestAct) (a : MachineEvent) → option_and_then event_of requested ≡ Some a → is_of_lane a ≡ true
lane_event None a is = absurd (cc is)
lane_event (Some requested) a is = event_is_of_lane requested a is

-- a layer that is Claimed where one may have entered Queued
or_claimed : (found : Option Status) (b : Bool) (worker : ℕ) → option_or found (cond b (Some status.Queued) None) ≡ Some (status.Claimed worker)
    → found ≡ Some (status.Claimed worker)
or_claimed None true worker is = absurd (cc is)
or_claimed None false worker is = absurd (cc is)
or_claimed (Some status) b worker is = is

stay_claimed : (here there : Bool) (found : Option Status) (worker : ℕ) → staying here there found ≡ Some (status.Claimed worker) → found ≡ Some (status.Claimed worker)
stay_claimed here there None worker is = absurd (cc is)
stay_claimed here there (Some one) worker is = by_test (stays here there one) is where
  by_test : (b : Bool) → cond b (Some one) None ≡ Some (status.Claimed worker) → Some one ≡ Some (status.Claimed worker)
  by_test true is = is
  by_test false is = absurd (cc is)

register_claimed : (found : Option Image) (s : State) (m : Manifest) (q : List ℕ) (worker : ℕ)
    → value_at (register_at found s m).0.layers q ≡ Some (status.Claimed worker) → value_at s.layers q ≡ Some (status.Claimed worker)
register_claimed (Some kept) s m q worker is = is
register_claimed None s m q worker is = by_room (nat_lt (length s.images) s.limits.images) is where
  now : State
  now = record s { images = with_value s.images m.hash (image_of m); layers = entered s.layers m.layers }

  by_room : (b : Bool) → value_at (either b (now, reply.Registered) (s, reply.TooManyImages)).0.layers q ≡ Some (status.Claimed worker)
      → value_at s.layers q ≡ Some (status.Claimed worker)
  by_room true is = or_claimed (value_at s.layers q) (has_text m.layers q) worker (sym (entered_found s.layers m.layers q) ∙ is)
  by_room false is = is

drop_claimed : (found : Option Image) (s : State) (dropped q : List ℕ) (worker : ℕ) → IsConsistent s
    → value_at (drop_at found s dropped).0.layers q ≡ Some (status.Claimed worker) → value_at s.layers q ≡ Some (status.Claimed worker)
drop_claimed None s dropped q worker h is = is
drop_claimed (Some registered) s dropped q worker h is =
    let others = without_value s.images dropped in
    stay_claimed (has_text registered.layers q) (is_named others q) (value_at s.layers q) worker (sym (remaining_found s.layers registered.layers others q h.layers) ∙ is)

-- a lane's event claims no layer
lane_claimed : (trees : Trees) (s : State) (a : MachineEvent) (q : List ℕ) (worker : ℕ) → IsConsistent s → is_of_lane a ≡ true
    → value_at (step trees s a).0.layers q ≡ Some (status.Claimed worker) → value_at s.layers q ≡ Some (status.Claimed worker)
lane_claimed trees s (act.Register manifest) q worker h lane is = register_claimed (value_at s.images manifest.hash) s manifest q worker is
lane_claimed trees s (act.DropImage image) q worker h lane is = drop_claimed (value_at s.images image) s image q worker h is
lane_claimed trees s (act.Claim layer other) q worker h lane is = absurd (cc lane)
lane_claimed trees s (act.Indexed layer other) q worker h lane is = absurd (cc lane)
lane_claimed trees s (act.Fault layer other) q worker h lane is = absurd (cc lane)
lane_claimed trees s (act.Memory layer other) q worker h lane is = absurd (cc lane)
lane_claimed trees s (act.Update feed records) q worker h lane is = ap (λ table. value_at table q) (sym (update_leaves trees s feed records).1) ∙ is
lane_claimed trees s (act.Patch feed base records remove) q worker h lane is =
    ap (λ table. value_at table q) (sym (patch_leaves trees s feed base records remove).1) ∙ is
lane_claimed trees s (act.Ack number) q worker h lane is =
    ap (λ table. value_at table q) (sym (ack_leaves (notification_at s.notifications number) s number).1) ∙ is

-- ---- events of workers

-- the layers at which the workers work, after an event of one of them
abbrev work_next : Work → ℕ → Option (List ℕ) → Work
work_next work worker layer other = cond (worker == other) layer (work other)

-- what a worker does not touch stays its own or another one's
others_stay : (work : Work) (worker other : ℕ) (before : Option (List ℕ)) (layer : Option (List ℕ)) (q : List ℕ) → work worker ≡ before → work other ≡ Some q
    → (worker ≡ other → before ≡ Some q → ⊥) → work_next work worker layer other ≡ Some q
others_stay work worker other before layer q mine is none = by_test (worker == other) refl where
  by_test : (b : Bool) → (worker == other) ≡ b → cond b layer (work other) ≡ Some q
  by_test true key = absurd (none (eqb-true worker other key) (sym mine ∙ ap work (eqb-true worker other key) ∙ is))
  by_test false key = is

claim_at_work : (found : Option Status) (s : State) (layer : List ℕ) (worker : ℕ) (work : Work) → value_at s.layers layer ≡ found → IsAtWork s.layers work
    → work worker ≡ None
    → IsAtWork (claim_at found s layer worker).0.layers (work_next work worker (work_after (name.Claim layer) (claim_at found s layer worker).1))
claim_at_work None s layer worker work is h free q other claimed =
    others_stay work worker other None _ q free (h q other claimed) (λ w e. absurd (cc e))
claim_at_work (Some (status.Claimed one)) s layer worker work is h free q other claimed =
    others_stay work worker other None _ q free (h q other claimed) (λ w e. absurd (cc e))
claim_at_work (Some status.Indexed) s layer worker work is h free q other claimed =
    others_stay work worker other None _ q free (h q other claimed) (λ w e. absurd (cc e))
claim_at_work (Some status.Queued) s layer worker work is h free q other claimed = by_test (same layer q) refl where
  put : value_at (with_value s.layers layer (status.Claimed worker)) q ≡ cond (same layer q) (Some (status.Claimed worker)) (value_at s.layers q)
  put = value_put s.layers layer (status.Claimed worker) q

  worker_in : Option Status → ℕ
  worker_in (Some (status.Claimed one)) = one
  worker_in _ = 0

  by_test : (b : Bool) → same layer q ≡ b → work_next work worker (Some layer) other ≡ Some q
  by_test true key =
      let mine : Some (status.Claimed worker) ≡ Some (status.Claimed other) =
      sym (put ∙ ap (λ b. cond b (Some (status.Claimed worker)) (value_at s.layers q)) key) ∙ claimed in
      ap (λ b. cond b (Some layer) (work other)) (eq-eqb worker other (ap worker_in mine)) ∙ ap (λ k. Some k) (same_is layer q key)
  by_test false key =
      others_stay work worker other None (Some layer) q free
      (h q other (sym (put ∙ ap (λ b. cond b (Some (status.Claimed worker)) (value_at s.layers q)) key) ∙ claimed)) (λ w e. absurd (cc e))

unclaimed_last : (next : Status) (worker : ℕ) → is_claimed_as next ≡ false → Some next ≡ Some (status.Claimed worker) → ⊥
unclaimed_last next worker free is =
    let claimed : is_claimed_as next ≡ true = ap (λ x. is_claimed_as x) (same_Some next (status.Claimed worker) is) in absurd (cc (free, claimed))

finish_at_work : (s : State) (layer : List ℕ) (worker : ℕ) (next : Status) (said : Reply) (work : Work) → IsConsistent s → IsAtWork s.layers work
    → is_claimed_as next ≡ false → work worker ≡ Some layer → IsAtWork (finish s layer worker next said).0.layers (work_next work worker None)
finish_at_work s layer worker next said work h at free mine q other claimed =
    by_tests (is_claimed_by worker (value_at s.layers layer)) (is_named s.images layer) (same layer q) refl refl claimed where
      put : value_at (with_value s.layers layer next) q ≡ cond (same layer q) (Some next) (value_at s.layers q)
      put = value_put s.layers layer next q

      cut : value_at (without_value s.layers layer) q ≡ cond (same layer q) None (value_at s.layers q)
      cut = value_cut s.layers layer q h.layers

      -- another layer is Claimed as before
      apart : same layer q ≡ false → value_at s.layers q ≡ Some (status.Claimed other) → work_next work worker None other ≡ Some q
      apart key before = others_stay work worker other (Some layer) None q mine (at q other before)
          (λ w e. let yes : same layer q ≡ true = ap (λ k. same layer k) (sym (same_Some layer q e)) ∙ same_self layer in absurd (cc (yes, key)))

      by_tests : (claims named key : Bool) → is_claimed_by worker (value_at s.layers layer) ≡ claims → same layer q ≡ key
          → value_at (either claims (either named (record s { layers = with_value s.layers layer next }, said) (record s { layers = without_value s.layers layer }, reply.Discarded)) (s, reply.NotClaimed)).0.layers q ≡ Some (status.Claimed other)
          → work_next work worker None other ≡ Some q
      by_tests true true true here key claimed =
          absurd (unclaimed_last next other free (sym (put ∙ ap (λ b. cond b (Some next) (value_at s.layers q)) key) ∙ claimed))
      by_tests true true false here key claimed = apart key (sym (put ∙ ap (λ b. cond b (Some next) (value_at s.layers q)) key) ∙ claimed)
      by_tests true false true here key claimed =
          let gone : value_at (without_value s.layers layer) q ≡ None = cut ∙ ap (λ b. cond b None (value_at s.layers q)) key in
          absurd (cc (gone, claimed))
      by_tests true false false here key claimed = apart key (sym (cut ∙ ap (λ b. cond b None (value_at s.layers q)) key) ∙ claimed)
      by_tests false named key here is claimed = others_stay work worker other (Some layer) None q mine (at q other claimed) (λ w e.
          let yes : is_claimed_by worker (value_at s.layers layer) ≡ true =
          ap (λ k. is_claimed_by worker (value_at s.layers k)) (same_Some layer q e) ∙ ap (λ f. is_claimed_by worker f) claimed ∙ eq-eqb other worker (sym w) in
          absurd (cc (yes, here)))

-- ---- events of a round

-- the worker of an event
abbrev worker_of : MachineEvent → ℕ
worker_of (act.Claim layer worker) = worker
worker_of (act.Indexed layer worker) = worker
worker_of (act.Fault layer worker) = worker
worker_of (act.Memory layer worker) = worker
worker_of _ = 0

-- a worker that says what became of a layer works at it
abbrev IsBusy : Option (List ℕ) → List ℕ → Act → Type 0
IsBusy before layer said = FitsWork before said → before ≡ Some layer

is_busy : (before : Option (List ℕ)) (layer : List ℕ)
    → IsBusy before layer (name.Indexed layer) × IsBusy before layer (name.Fault layer) × IsBusy before layer (name.Memory layer)
is_busy None layer = (λ fits. absurd fits, λ fits. absurd fits, λ fits. absurd fits)
is_busy (Some one) layer = (λ fits. ap (λ k. Some k) (sym fits), λ fits. ap (λ k. Some k) (sym fits), λ fits. ap (λ k. Some k) (sym fits))

-- after a worker's event
worker_at_work : (trees : Trees) (s : State) (a : MachineEvent) (worker : ℕ) (work : Work) → IsConsistent s → IsAtWork s.layers work
    → worker_event worker (act_name a) ≡ Some a → FitsWork (work worker) (act_name a)
    → IsAtWork (step trees s a).0.layers (work_next work worker (work_after (act_name a) (step trees s a).1))
worker_at_work trees s (act.Register manifest) worker work h at source fits = absurd (cc source)
worker_at_work trees s (act.DropImage image) worker work h at source fits = absurd (cc source)
worker_at_work trees s (act.Claim layer other) worker work h at source fits =
    subst (λ w. IsAtWork (claim_at (value_at s.layers layer) s layer w).0.layers (work_next work worker (work_after (name.Claim layer) (claim_at (value_at s.layers layer) s layer w).1)))
    (ap worker_of (same_Some (act.Claim layer worker) (act.Claim layer other) source))
    (claim_at_work (value_at s.layers layer) s layer worker work refl at (is_free (work worker) fits)) where
      is_free : (before : Option (List ℕ)) → FitsWork before (name.Claim layer) → before ≡ None
      is_free None fits = refl
      is_free (Some one) fits = absurd fits
worker_at_work trees s (act.Indexed layer other) worker work h at source fits =
    subst (λ w. IsAtWork (finish s layer w status.Indexed reply.Entered).0.layers (work_next work worker None))
    (ap worker_of (same_Some (act.Indexed layer worker) (act.Indexed layer other) source))
    (finish_at_work s layer worker status.Indexed reply.Entered work h at refl ((is_busy (work worker) layer).0 fits))
worker_at_work trees s (act.Fault layer other) worker work h at source fits =
    subst (λ w. IsAtWork (finish s layer w status.Queued reply.Requeued).0.layers (work_next work worker None))
    (ap worker_of (same_Some (act.Fault layer worker) (act.Fault layer other) source))
    (finish_at_work s layer worker status.Queued reply.Requeued work h at refl ((is_busy (work worker) layer).1 fits))
worker_at_work trees s (act.Memory layer other) worker work h at source fits =
    subst (λ w. IsAtWork (finish s layer w status.Queued reply.Requeued).0.layers (work_next work worker None))
    (ap worker_of (same_Some (act.Memory layer worker) (act.Memory layer other) source))
    (finish_at_work s layer worker status.Queued reply.Requeued work h at refl ((is_busy (work worker) layer).2 fits))
worker_at_work trees s (act.Update feed records) worker work h at source fits = absurd (cc source)
worker_at_work trees s (act.Patch feed base records remove) worker work h at source fits = absurd (cc source)
worker_at_work trees s (act.Ack number) worker work h at source fits = absurd (cc source)

-- each worker ends its work, from the layer at which it works
abbrev EndWork : Work → List EventEntry → Type 0
EndWork work events = (worker : ℕ) → Works (work worker) (events_by worker events) None

-- where the workers are after an event, and they end their work after it
record AtWorkAfter (s : State) (events : List EventEntry) : Type 0 where
  work : Work
  at : IsAtWork s.layers work
  ends : EndWork work events

event_at_work : (trees : Trees) (requested : List Requested) (before after : Moment) (event : EventEntry) (events : List EventEntry) (work : Work)
    → IsConsistent before.state → IsAtWork before.state.layers work → EndWork work (event ∷ events) → (h : IsEvent trees requested before event after)
    → AtWorkAfter (step trees before.state h.act).0 events
event_at_work trees requested before after event events work c at ends h = by_source event.by refl where
  named : event.act ≡ act_name h.act
  named = ap (λ e. e.act) h.is

  -- the events of a worker, by who submitted the first one
  ends_by : (source : By) → event.by ≡ source → (worker : ℕ) → Works (work worker) (cons_option (event_by worker source event) (events_by worker events)) None
  ends_by source is worker = subst (λ b. Works (work worker) (cons_option (event_by worker b event) (events_by worker events)) None) is (ends worker)

  -- the event is the worker's own
  its_own : (worker : ℕ) → Works (work worker) (cons_option (event_by worker (by.Worker worker) event) (events_by worker events)) None → FitsWork (work worker) event.act
  its_own worker works = (subst (λ b. Works (work worker) (cons_option (cond b (Some event) None) (events_by worker events)) None) (eq-eqb worker worker refl) works).0

  -- or another one's
  of_other : (worker other : ℕ) (b : Bool) → Works (work other) (cons_option (cond b (Some event) None) (events_by other events)) None
      → Works (cond b (work_after event.act event.reply) (work other)) (events_by other events) None
  of_other worker other true works = works.1
  of_other worker other false works = works

  by_source : (source : By) → event.by ≡ source → AtWorkAfter (step trees before.state h.act).0 events
  by_source (by.Lane lane line) is = record {
    work = work;
    at = λ layer worker claimed.
        at layer worker (lane_claimed trees before.state h.act layer worker c
        (lane_event (requested_at requested lane line) h.act (ap (λ b. submitted requested b event.act) (sym is) ∙ h.source)) claimed);
    ends = ends_by (by.Lane lane line) is;
  }
  by_source (by.Worker worker) is = record {
    work = work_next work worker (work_after (act_name h.act) (step trees before.state h.act).1);
    at = worker_at_work trees before.state h.act worker work c at
        (ap (λ n. worker_event worker n) (sym named) ∙ ap (λ b. submitted requested b event.act) (sym is) ∙ h.source)
        (subst (λ n. FitsWork (work worker) n) named (its_own worker (ends_by (by.Worker worker) is worker)));
    ends = λ other. subst (λ k. Works (work_next work worker k other) (events_by other events) None) (ap (λ e. work_after e.act e.reply) h.is)
        (of_other worker other (worker == other) (ends_by (by.Worker worker) is other));
  }

-- after entries in which each worker ends its work no layer is Claimed
pub none_claimed : (trees : Trees) (requested : List Requested) (before after : Moment) (entries : List Entry) (work : Work) → Replays trees requested before entries after
    → IsConsistent before.state → IsAtWork before.state.layers work → EndWork work (events_of entries) → NoneClaimed after.state.layers
none_claimed trees requested before after [] work h c at ends = λ layer worker claimed.
    let busy : work worker ≡ Some layer = at layer worker (ap (λ m. value_at m.state.layers layer) (sym h) ∙ claimed) in
    let free : None ≡ work worker = ends worker in absurd (cc (busy, free))
none_claimed trees requested before after (entry.Refused line error ∷ entries) work h c at ends = absurd h
none_claimed trees requested before after (entry.Read read ∷ entries) work h c at ends = none_claimed trees requested before after entries work h.1 c at ends
none_claimed trees requested before after (entry.Event event ∷ entries) work h c at ends =
    let then : AtWorkAfter (step trees before.state h.1.act).0 (events_of entries) = event_at_work trees requested before h.0 event (events_of entries) work c at ends h.1 in
    none_claimed trees requested (moment_after trees before h.1.act) after entries then.work (subst (λ m. Replays trees requested m entries after) h.1.next h.2)
    (step_consistent trees before.state h.1.act c) then.at then.ends
