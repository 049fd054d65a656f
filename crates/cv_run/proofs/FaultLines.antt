-- Each `fault` line of a legal transcript is that of one of its workers.
use Rattle.std.proofs.Common.{◌≡◌, ℕ, ◌<◌, ◌≤◌, Bool, true, false, cond, List, [], ◌∷◌, ◌++◌, length, refl, sym, ◌∙◌, ap, subst, inl, inr, ◌⊎◌, arith, true≢false}
use Rattle.std.specs.Prelude.{⊤, ◌==◌, filter, if◌then◌else◌, Option, Some, None, option_and_then}
use Rattle.std.specs.List.{AllByRecursion, cons_option}
use Rattle.std.proofs.lemmas.Bool.{cases_lt, eq-eqb, eqb-true}
use Rattle.std.proofs.lemmas.List.Elements.{filter_map-append}
use Rattle.cv_core_records.specs.declared.event.Act.{Act}
use Rattle.cv_core_records.specs.declared.event.Act.TheVariants as name
use Rattle.cv_core_records.specs.declared.event.By.{By}
use Rattle.cv_core_records.specs.declared.event.By.TheVariants as by
use Rattle.cv_core_records.specs.declared.event.EventEntry.{EventEntry}
use Rattle.cv_request.specs.declared.request.Act.{Act as RequestAct}
use Rattle.cv_request.specs.declared.request.Act.TheVariants as request
use Rattle.cv_transcript.specs.Order.{event_in, events_of}
use Rattle.cv_transcript.specs.declared.entry.Entry.{Entry}
use Rattle.cv_transcript.specs.declared.entry.Entry.TheVariants as entry
use Rattle.cv_core_machine.specs.History.{act_name}
use Rattle.cv_core_machine.specs.Layers.{queued}
use Rattle.cv_core_machine.specs.Scans.{Trees}
use Rattle.cv_core_machine.specs.declared.event.MachineEvent.{MachineEvent}
use Rattle.cv_serve_legal.specs.Legal.{AreLast, AreLegal, AreLegalRounds}
use Rattle.cv_serve_legal.specs.Parts.{event_by, events_by}
use Rattle.cv_serve_legal.specs.Replay.{IsEvent, Moment, Replays, event_of, requested_at, submitted}
use Rattle.cv_serve_legal.specs.Round.{IsLegalRound}
use Rattle.cv_serve_legal.specs.Rounds.{Round}
use Rattle.cv_serve_legal.specs.Turns.{ClaimsBelow, FitsWork, Works}
use Rattle.cv_serve_legal.specs.declared.parsed_line.Requested.{Requested}
use Rattle.cv_serve_legal.proofs.History.{no_events}
use Rattle.cv_serve.specs.Round.{fault_count, is_fault}

-- ---- a lane submits no fault

abbrev NoFault : Option MachineEvent → Type 0
NoFault None = ⊤
NoFault (Some act) = is_fault (act_name act) ≡ false

request_fault : (act : RequestAct) → NoFault (event_of act)
request_fault (request.Register manifest) = refl
request_fault (request.DropImage image) = refl
request_fault (request.Update feed records) = refl
request_fault (request.Patch feed base records remove) = refl
request_fault (request.Report image) = tt
request_fault (request.Page number size page) = tt
request_fault request.List = tt
request_fault (request.Ack number) = refl

lane_fault : (requested : Option RequestAct) → NoFault (option_and_then event_of requested)
lane_fault None = tt
lane_fault (Some act) = request_fault act

abbrev IsOfWorker : By → Type 0
IsOfWorker (by.Lane lane line) = ⊥
IsOfWorker (by.Worker worker) = ⊤

abbrev IsBlamed : EventEntry → Type 0
IsBlamed event = is_fault event.act ≡ true → IsOfWorker event.by

source_fault : (requested : List Requested) (source : By) (named : Act) (act : MachineEvent) → submitted requested source named ≡ Some act → named ≡ act_name act
    → is_fault named ≡ true → IsOfWorker source
source_fault requested (by.Worker worker) named act from same fault = tt
source_fault requested (by.Lane lane line) named act from same fault =
    let none = subst (λ o. NoFault o) from (lane_fault (requested_at requested lane line)) in
    absurd (true≢false (sym fault ∙ ap is_fault same ∙ none))

blamed : (trees : Trees) (requested : List Requested) (before after : Moment) (event : EventEntry) → IsEvent trees requested before event after → IsBlamed event
blamed trees requested before after event h fault = source_fault requested event.by event.act h.act h.source (ap (λ (e : EventEntry). e.act) h.is) fault

all_blamed : (trees : Trees) (requested : List Requested) (before after : Moment) (entries : List Entry) → Replays trees requested before entries after
    → AllByRecursion IsBlamed (events_of entries)
all_blamed trees requested before after [] h = tt
all_blamed trees requested before after (entry.Refused line error ∷ entries) h = absurd h
all_blamed trees requested before after (entry.Event event ∷ entries) h = (blamed trees requested before h.0 event h.1, all_blamed trees requested h.0 after entries h.2)
all_blamed trees requested before after (entry.Read read ∷ entries) h = all_blamed trees requested before after entries h.1

-- ---- a worker whose number is too great has no event

module _ (workers : ℕ) where
  abbrev IsIdle : EventEntry → Type 0
  IsIdle event = FitsWork None event.act → ⊥

  unfit : (worker : ℕ) (act : Act) → workers ≤ worker → ClaimsBelow workers (by.Worker worker) act → FitsWork None act → ⊥
  unfit worker (name.Claim layer) le below fits = omega (arith, le, below)
  unfit worker (name.Register image) le below fits = fits
  unfit worker (name.DropImage image) le below fits = fits
  unfit worker (name.Indexed layer) le below fits = fits
  unfit worker (name.Fault layer) le below fits = fits
  unfit worker (name.Memory layer) le below fits = fits
  unfit worker (name.Update feed) le below fits = fits
  unfit worker (name.Patch feed) le below fits = fits
  unfit worker (name.Ack number) le below fits = fits

  all_idle : (worker : ℕ) → workers ≤ worker → (events : List EventEntry) → AllByRecursion (λ event. ClaimsBelow workers event.by event.act) events
      → AllByRecursion IsIdle (events_by worker events)
  all_idle worker le [] h = tt
  all_idle worker le (event ∷ events) h = from event.by h.0 (all_idle worker le events h.1)
    where
      same : (other : ℕ) (b : Bool) → (other == worker) ≡ b → ClaimsBelow workers (by.Worker other) event.act → AllByRecursion IsIdle (events_by worker events)
          → AllByRecursion IsIdle (cons_option (if b then Some event else None) (events_by worker events))
      same other true e below rest = (λ fits. unfit worker event.act le (subst (λ w. ClaimsBelow workers (by.Worker w) event.act) (eqb-true other worker e) below) fits, rest)
      same other false e below rest = rest

      from : (source : By) → ClaimsBelow workers source event.act → AllByRecursion IsIdle (events_by worker events)
          → AllByRecursion IsIdle (cons_option (event_by worker source event) (events_by worker events))
      from (by.Lane lane line) below rest = rest
      from (by.Worker other) below rest = same other (other == worker) refl below rest

  none_worked : (events : List EventEntry) → AllByRecursion IsIdle events → Works None events None → events ≡ []
  none_worked [] idle works = refl
  none_worked (event ∷ events) idle works = absurd (idle.0 works.0)

  -- ---- each fault is that of a worker below the number

  abbrev IsBelow : By → Type 0
  IsBelow (by.Lane lane line) = ⊥
  IsBelow (by.Worker worker) = worker < workers

  abbrev IsSound : EventEntry → Type 0
  IsSound event = is_fault event.act ≡ true → IsBelow event.by

  -- an event of a worker stands first among the events of this worker
  own_first : (worker : ℕ) (event : EventEntry) (events : List EventEntry) → event.by ≡ by.Worker worker → events_by worker (event ∷ events) ≡ event ∷ events_by worker events
  own_first worker event events e = ap (λ b. cons_option (event_by worker b event) (events_by worker events)) e
      ∙ ap (λ b. cons_option (if b then Some event else None) (events_by worker events)) (eq-eqb worker worker refl)

  rest_none : (o : Option EventEntry) (events : List EventEntry) → cons_option o events ≡ [] → events ≡ []
  rest_none None events e = e
  rest_none (Some event) events e = cc

  all_sound : (events : List EventEntry) → AllByRecursion IsBlamed events → ((worker : ℕ) → workers ≤ worker → events_by worker events ≡ []) → AllByRecursion IsSound events
  all_sound [] h none = tt
  all_sound (event ∷ events) h none =
      (λ fault. from event.by refl (h.0 fault), all_sound events h.1 (λ worker le. rest_none (event_by worker event.by event) (events_by worker events) (none worker le)))
    where
      order : (worker : ℕ) → event.by ≡ by.Worker worker → (worker < workers) ⊎ (workers ≤ worker) → worker < workers
      order worker e (inl lt) = lt
      order worker e (inr le) = let no_events = sym (own_first worker event events e) ∙ none worker le in cc

      from : (source : By) → event.by ≡ source → IsOfWorker source → IsBelow source
      from (by.Lane lane line) e of = absurd of
      from (by.Worker worker) e of = order worker e (cases_lt worker workers)

  -- ---- rounds

  abbrev AreSound : List Entry → Type 0
  AreSound entries = AllByRecursion IsSound (events_of entries)

  round_sound : (trees : Trees) (before : Moment) (lines : Round) (entries : List Entry) (after : Moment) → IsLegalRound trees workers before lines entries after → AreSound entries
  round_sound trees before lines entries after h =
      let events : events_of entries ≡ events_of h.others = ap events_of h.parts ∙ no_events h.taken h.others in
      let none = λ (worker : ℕ) (le : workers ≤ worker). none_worked (events_by worker (events_of h.others)) (all_idle worker le (events_of h.others) h.claimers) (h.works worker) in
      subst (λ es. AllByRecursion IsSound es) (sym events) (all_sound (events_of h.others) (all_blamed trees _ before after h.others h.replays) none)

  both_sound : (first later : List EventEntry) → AllByRecursion IsSound first → AllByRecursion IsSound later → AllByRecursion IsSound (first ++ later)
  both_sound [] later h k = k
  both_sound (event ∷ first) later h k = (h.0, both_sound first later h.1 k)

  joined_sound : (first later entries : List Entry) → entries ≡ first ++ later → AreSound first → AreSound later → AreSound entries
  joined_sound first later entries e h k =
      subst (λ es. AllByRecursion IsSound es) (sym (ap events_of e ∙ filter_map-append event_in first later)) (both_sound (events_of first) (events_of later) h k)

  rounds_sound : (trees : Trees) (before : Moment) (rounds : List Round) (entries : List Entry) (after : Moment) → AreLegalRounds trees workers before rounds entries after → AreSound entries
  rounds_sound trees before [] entries after h = subst (λ es. AreSound es) (sym h.0) tt
  rounds_sound trees before (round ∷ rounds) entries after (between, first, later, parts, legal, more) =
      joined_sound first later entries parts (round_sound trees before round first between legal) (rounds_sound trees between rounds later after more)

  last_sound : (layers : List (List ℕ)) (trees : Trees) (before : Moment) (entries : List Entry) (after : Moment) → AreLast layers trees workers before entries after → AreSound entries
  last_sound [] trees before entries after h = subst (λ es. AreSound es) (sym h.0) tt
  last_sound (layer ∷ layers) trees before entries after h = round_sound trees before [] entries after h

  legal_sound : (trees : Trees) (before : Moment) (rounds : List Round) (entries : List Entry) (after : Moment) → AreLegal trees workers before rounds entries after → AreSound entries
  legal_sound trees before rounds entries after h =
      joined_sound h.first h.last entries h.parts (rounds_sound trees before rounds h.first h.between h.input) (last_sound (queued h.between.state.layers) trees h.between h.last after h.further)

  -- ---- counts

  rest_zero : (o : Option EventEntry) (events : List EventEntry) → fault_count (cons_option o events) ≡ 0 → fault_count events ≡ 0
  rest_zero None events e = e
  rest_zero (Some event) events e = by_fault (is_fault event.act) e
    where
      by_fault : (b : Bool) → length (cond b (event ∷ filter (λ event. is_fault event.act) events) (filter (λ event. is_fault event.act) events)) ≡ 0 → fault_count events ≡ 0
      by_fault true e = absurd (omega (arith, e))
      by_fault false e = e

  counted : (event : EventEntry) (events : List EventEntry) → is_fault event.act ≡ true → fault_count (event ∷ events) ≡ 0 → ⊥
  counted event events fault e =
      let more : length (event ∷ filter (λ event. is_fault event.act) events) ≡ 0 = ap (λ b. length (cond b (event ∷ filter (λ event. is_fault event.act) events) (filter (λ event. is_fault event.act) events))) (sym fault) ∙ e in
      omega (arith, more)

  none_left : (events : List EventEntry) → AllByRecursion IsSound events → ((worker : ℕ) → worker < workers → fault_count (events_by worker events) ≡ 0) → fault_count events ≡ 0
  none_left [] h zero = refl
  none_left (event ∷ events) h zero =
      by_fault (is_fault event.act) refl (none_left events h.1 (λ worker lt. rest_zero (event_by worker event.by event) (events_by worker events) (zero worker lt)))
    where
      from : (source : By) → event.by ≡ source → IsBelow source → is_fault event.act ≡ true → ⊥
      from (by.Lane lane line) e below fault = below
      from (by.Worker worker) e below fault =
          counted event (events_by worker events) fault (ap fault_count (sym (own_first worker event events e)) ∙ zero worker below)

      by_fault : (b : Bool) → is_fault event.act ≡ b → fault_count events ≡ 0 → fault_count (event ∷ events) ≡ 0
      by_fault true fault rest = absurd (from event.by refl (h.0 fault) fault)
      by_fault false fault rest =
          ap (λ b. length (cond b (event ∷ filter (λ event. is_fault event.act) events) (filter (λ event. is_fault event.act) events))) fault ∙ rest

  -- if no worker has a `fault` line, there is none
  pub no_faults : (trees : Trees) (before : Moment) (rounds : List Round) (entries : List Entry) (after : Moment) → AreLegal trees workers before rounds entries after
      → ((worker : ℕ) → worker < workers → fault_count (events_by worker (events_of entries)) ≡ 0) → fault_count (events_of entries) ≡ 0
  no_faults trees before rounds entries after h zero = none_left (events_of entries) (legal_sound trees before rounds entries after h) zero
