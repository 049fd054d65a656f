-- A worker gives no layer back if its desk does not fail and it does not run out of memory.
use Rattle.std.specs.Prelude.{◌≡◌, ℕ, zero, suc, ◌+◌, ◌-◌, ◌^◌, ◌==◌, ◌<◌, ◌≤◌, ◌⊎◌, Bool, true, false, ◌||◌, cond, List, [], ◌∷◌, ◌++◌, length, Option, Some, None, Result, Ok, Err, option_and_then, refl}
use Rattle.std.specs.List.{AllByRecursion, cons_option, list_any}
use Rattle.std.proofs.Common.{ap, arith, inl, inr, subst, sym, ◌∙◌}
use Rattle.std.proofs.lemmas.Bool.{cases_lt, eq-eqb, eqb-true, or_parts}
use Rattle.std.proofs.lemmas.List.Folds.{list_any-append}
use Rattle.std.proofs.lemmas.Option.{same_Some}
use Rattle.cv_core_records.specs.declared.event.Act.{Act}
use Rattle.cv_core_records.specs.declared.event.Act.TheVariants as name
use Rattle.cv_core_records.specs.declared.event.By.{By}
use Rattle.cv_core_records.specs.declared.event.By.TheVariants as by
use Rattle.cv_core_records.specs.declared.event.EventEntry.{EventEntry}
use Rattle.cv_request.specs.declared.error.RequestError.{RequestError}
use Rattle.cv_request.specs.declared.request.Act.{Act as RequestAct}
use Rattle.cv_request.specs.declared.request.Act.TheVariants as request
use Rattle.cv_request.specs.declared.request.Request.{Request}
use Rattle.cv_transcript.specs.Order.{events_of}
use Rattle.cv_transcript.specs.declared.entry.Entry.{Entry}
use Rattle.cv_transcript.specs.declared.entry.Entry.TheVariants as entry
use Rattle.cv_core_machine.specs.History.{act_name}
use Rattle.cv_core_machine.specs.Layers.{queued}
use Rattle.cv_core_machine.specs.Scans.{Trees}
use Rattle.cv_core_machine.specs.declared.event.MachineEvent.{MachineEvent}
use Rattle.cv_core_machine.specs.declared.event.MachineEvent.TheVariants as whole
use Rattle.cv_serve_legal.specs.Legal.{AreLast, AreLegal, AreLegalRounds}
use Rattle.cv_serve_legal.specs.Parts.{event_by, events_by}
use Rattle.cv_serve_legal.specs.Replay.{Moment, Replays, beginning, event_of, requested_at, submitted}
use Rattle.cv_serve_legal.specs.Round.{IsLegalRound}
use Rattle.cv_serve_legal.specs.Rounds.{Round}
use Rattle.cv_serve_legal.specs.ParsedLine.{refusal_at, refusals, requests}
use Rattle.cv_serve_legal.specs.Turns.{ClaimsBelow, FitsWork, Works}
use Rattle.cv_serve_legal.specs.declared.parsed_line.Requested.{Requested}
use Rattle.cv_serve_legal.specs.declared.parsed_line.ParsedLine.{ParsedLine}
use Rattle.cv_serve_legal.specs.Complete.{AreAllIndexed, AreDivided, ArePendingRecent, HasNoFault, gives_back}
use Rattle.cv_serve_legal.specs.Complete as complete
use Rattle.cv_serve_round.specs.Round.{DesksCounted, RoseBy, fault_count, is_fault}
use Rattle.cv_serve.specs.Quiet.{AreQuiet, HasNoMemoryLine, IsComplete, is_memory, is_memory_line}
use Rattle.cv_serve_round.proofs.Counts.{faults_both}

-- ---- a desk that did not fail

none_rose : (times before now : ℕ) → RoseBy times before now → now ≡ before → before < 2 ^ 64 - 1 → times ≡ 0
none_rose times before now rose same low = omega (arith, rose, same, low)

counts_quiet : {D : Type 0} (listings faults : D → ℕ) (first : ℕ) (ds es : List D) (entries : List Entry) → DesksCounted listings faults first ds es entries → AreQuiet faults ds es
    → (n : ℕ) → n < length ds → fault_count (events_by (first + n) (events_of entries)) ≡ 0
counts_quiet listings faults first [] es entries counts quiet n high = absurd (omega (arith, high))
counts_quiet listings faults first (d ∷ ds) [] entries counts quiet n high = absurd counts
counts_quiet listings faults first (d ∷ ds) (e ∷ es) entries counts quiet zero high =
    let here : first ≡ first + 0 = omega arith in
    subst (λ w. fault_count (events_by w (events_of entries)) ≡ 0) here (none_rose _ (faults d) (faults e) counts.1 quiet.0 quiet.1)
counts_quiet listings faults first (d ∷ ds) (e ∷ es) entries counts quiet (suc n) high =
    let next : (first + 1) + n ≡ first + suc n = omega arith in
    subst (λ w. fault_count (events_by w (events_of entries)) ≡ 0) next (counts_quiet listings faults (first + 1) ds es entries counts.2 quiet.2 n (omega (arith, high)))

-- ---- a worker without a desk

-- the first event of a worker is a claim, so that its number is below that of workers
first_claims : (workers worker : ℕ) (events : List EventEntry) → AllByRecursion (λ event. ClaimsBelow workers event.by event.act) events
    → (head : EventEntry) (rest : List EventEntry) → events_by worker events ≡ head ∷ rest → FitsWork None head.act → worker < workers
first_claims workers worker [] below head rest is fits = absurd (cc is)
first_claims workers worker (event ∷ events) below head rest is fits = by_source (λ same. first_claims workers worker events below.1 head rest same fits) event.by refl where
  of_claim : (act : Act) (other : ℕ) → other ≡ worker → ClaimsBelow workers (by.Worker other) act → FitsWork None act → worker < workers
  of_claim (name.Claim layer) other key low fit = subst (λ w. w < workers) key low
  of_claim (name.Register image) other key low fit = absurd fit
  of_claim (name.DropImage image) other key low fit = absurd fit
  of_claim (name.Indexed layer) other key low fit = absurd fit
  of_claim (name.Fault layer) other key low fit = absurd fit
  of_claim (name.Memory layer) other key low fit = absurd fit
  of_claim (name.Update feed) other key low fit = absurd fit
  of_claim (name.Patch feed) other key low fit = absurd fit
  of_claim (name.Ack number) other key low fit = absurd fit

  first_of : List EventEntry → EventEntry
  first_of [] = event
  first_of (one ∷ more) = one

  by_test : (events_by worker events ≡ head ∷ rest → worker < workers) → (other : ℕ) (b : Bool) → (other == worker) ≡ b → event.by ≡ by.Worker other
      → cons_option (cond b (Some event) None) (events_by worker events) ≡ head ∷ rest → worker < workers
  by_test again other true key source same =
      of_claim event.act other (eqb-true other worker key) (subst (λ who. ClaimsBelow workers who event.act) source below.0)
      (subst (λ (e : EventEntry). FitsWork None e.act) (sym (ap first_of same)) fits)
  by_test again other false key source same = again same

  by_source : (events_by worker events ≡ head ∷ rest → worker < workers) → (source : By) → event.by ≡ source → worker < workers
  by_source again (by.Lane lane line) source = again (subst (λ who. cons_option (event_by worker who event) (events_by worker events) ≡ head ∷ rest) source is)
  by_source again (by.Worker other) source =
      by_test again other (other == worker) refl source (subst (λ who. cons_option (event_by worker who event) (events_by worker events) ≡ head ∷ rest) source is)

no_refused : (taken : List ParsedLine) → events_of (refusals taken) ≡ []
no_refused [] = refl
no_refused (first ∷ taken) = by_answer first.answer (no_refused taken) where
  by_answer : (answer : Result Request RequestError) → events_of (refusals taken) ≡ [] → events_of (cons_option (refusal_at first.line answer) (refusals taken)) ≡ []
  by_answer (Ok request) none = none
  by_answer (Err error) none = none

idle_round : (trees : Trees) (workers worker : ℕ) (before : Moment) (lines : Round) (entries : List Entry) (after : Moment)
    → IsLegalRound trees workers before lines entries after → workers ≤ worker → fault_count (events_by worker (events_of entries)) ≡ 0
idle_round trees workers worker before lines entries after h high =
    ap (λ es. fault_count (events_by worker (events_of es))) h.parts ∙ faults_both worker (refusals h.taken) h.others
    ∙ ap (λ n. n + fault_count (events_by worker (events_of h.others))) (ap (λ events. fault_count (events_by worker events)) (no_refused h.taken))
    ∙ ap (λ n. 0 + n) (by_own (events_by worker (events_of h.others)) refl) where
      by_own : (own : List EventEntry) → events_by worker (events_of h.others) ≡ own → fault_count (events_by worker (events_of h.others)) ≡ 0
      by_own [] is = ap fault_count is
      by_own (head ∷ rest) is =
          let low : worker < workers =
          first_claims workers worker (events_of h.others) h.claimers head rest is (subst (λ own. Works None own None) is (h.works worker)).0 in
          absurd (omega (arith, low, high))

none_both : (worker : ℕ) (xs ys : List Entry) → fault_count (events_by worker (events_of xs)) ≡ 0 → fault_count (events_by worker (events_of ys)) ≡ 0
    → fault_count (events_by worker (events_of (xs ++ ys))) ≡ 0
none_both worker xs ys h k = omega (arith, faults_both worker xs ys, h, k)

idle_rounds : (trees : Trees) (workers worker : ℕ) (before : Moment) (rounds : List Round) (entries : List Entry) (after : Moment)
    → AreLegalRounds trees workers before rounds entries after → workers ≤ worker → fault_count (events_by worker (events_of entries)) ≡ 0
idle_rounds trees workers worker before [] entries after h high = ap (λ es. fault_count (events_by worker (events_of es))) h.0
idle_rounds trees workers worker before (round ∷ rounds) entries after h high =
    ap (λ es. fault_count (events_by worker (events_of es))) h.3
    ∙ none_both worker h.1 h.2 (idle_round trees workers worker before round h.1 h.0 h.4 high) (idle_rounds trees workers worker h.0 rounds h.2 after h.5 high)

idle_last : (waiting : List (List ℕ)) (trees : Trees) (workers worker : ℕ) (before : Moment) (entries : List Entry) (after : Moment)
    → AreLast waiting trees workers before entries after → workers ≤ worker → fault_count (events_by worker (events_of entries)) ≡ 0
idle_last [] trees workers worker before entries after h high = ap (λ es. fault_count (events_by worker (events_of es))) h.0
idle_last (layer ∷ layers) trees workers worker before entries after h high = idle_round trees workers worker before [] entries after h high

idle : (trees : Trees) (workers worker : ℕ) (before : Moment) (rounds : List Round) (entries : List Entry) (after : Moment)
    → AreLegal trees workers before rounds entries after → workers ≤ worker → fault_count (events_by worker (events_of entries)) ≡ 0
idle trees workers worker before rounds entries after h high =
    ap (λ es. fault_count (events_by worker (events_of es))) h.parts
    ∙ none_both worker h.first h.last (idle_rounds trees workers worker before rounds h.first h.between h.input high)
    (idle_last (queued h.between.state.layers) trees workers worker h.between h.last after h.further high)

-- ---- no fault

abbrev AreFree : List Entry → Type 0
AreFree entries = (worker : ℕ) → fault_count (events_by worker (events_of entries)) ≡ 0

request_fault : (requested : RequestAct) (act : MachineEvent) → event_of requested ≡ Some act → is_fault (act_name act) ≡ false
request_fault (request.Register manifest) act is = sym (ap (λ a. is_fault (act_name a)) (same_Some (whole.Register manifest) act is))
request_fault (request.DropImage image) act is = sym (ap (λ a. is_fault (act_name a)) (same_Some (whole.DropImage image) act is))
request_fault (request.Update feed records) act is = sym (ap (λ a. is_fault (act_name a)) (same_Some (whole.Update feed records) act is))
request_fault (request.Patch feed base records remove) act is = sym (ap (λ a. is_fault (act_name a)) (same_Some (whole.Patch feed base records remove) act is))
request_fault (request.Report image) act is = absurd (cc is)
request_fault (request.Page number size page) act is = absurd (cc is)
request_fault request.List act is = absurd (cc is)
request_fault (request.Ack number) act is = sym (ap (λ a. is_fault (act_name a)) (same_Some (whole.Ack number) act is))

lane_fault : (requested : Option RequestAct) (act : MachineEvent) → option_and_then event_of requested ≡ Some act → is_fault (act_name act) ≡ false
lane_fault None act is = absurd (cc is)
lane_fault (Some requested) act is = request_fault requested act is

-- the events of a worker that says that its desk failed
one_fault : (worker : ℕ) (event : EventEntry) → event.by ≡ by.Worker worker → is_fault event.act ≡ true → fault_count (events_by worker (event ∷ [])) ≡ 1
one_fault worker event source fault =
    ap (λ who. fault_count (cons_option (event_by worker who event) [])) source
    ∙ ap (λ b. fault_count (cons_option (cond b (Some event) None) [])) (eq-eqb worker worker refl)
    ∙ ap (λ b. length (cond b (event ∷ []) [])) fault

not_fault : (requested : List Requested) (event : EventEntry) (act : MachineEvent) → submitted requested event.by event.act ≡ Some act → event.act ≡ act_name act
    → AreFree (entry.Event event ∷ []) → is_fault event.act ≡ false
not_fault requested event act source named free = by_test (is_fault event.act) refl where
  by_source : (who : By) → event.by ≡ who → is_fault event.act ≡ true → ⊥
  by_source (by.Lane lane line) is fault =
      let at : submitted requested (by.Lane lane line) event.act ≡ Some act = ap (λ who. submitted requested who event.act) (sym is) ∙ source in
      let none : is_fault event.act ≡ false = ap is_fault named ∙ lane_fault (requested_at requested lane line) act at in
      absurd (cc (none, fault))
  by_source (by.Worker worker) is fault = absurd (omega (arith, one_fault worker event is fault, free worker))

  by_test : (b : Bool) → is_fault event.act ≡ b → b ≡ false
  by_test false is = refl
  by_test true is = absurd (by_source event.by refl is)

not_back : (act : Act) → is_fault act ≡ false → is_memory act ≡ false → gives_back act ≡ false
not_back (name.Register image) h k = refl
not_back (name.DropImage image) h k = refl
not_back (name.Claim layer) h k = refl
not_back (name.Indexed layer) h k = refl
not_back (name.Fault layer) h k = h
not_back (name.Memory layer) h k = k
not_back (name.Update feed) h k = refl
not_back (name.Patch feed) h k = refl
not_back (name.Ack number) h k = refl

free_parts : (xs ys : List Entry) → AreFree (xs ++ ys) → AreFree xs × AreFree ys
free_parts xs ys free = (λ worker. omega (arith, faults_both worker xs ys, free worker), λ worker. omega (arith, faults_both worker xs ys, free worker))

memory_parts : (xs ys : List Entry) → HasNoMemoryLine (xs ++ ys) → HasNoMemoryLine xs × HasNoMemoryLine ys
memory_parts xs ys none = or_parts (list_any is_memory_line xs) (list_any is_memory_line ys) (sym (list_any-append is_memory_line xs ys) ∙ none)

none_joined : (xs ys : List Entry) → HasNoFault xs → HasNoFault ys → HasNoFault (xs ++ ys)
none_joined xs ys h k = list_any-append complete.is_fault xs ys ∙ ap (λ b. b || list_any complete.is_fault ys) h ∙ k

replayed_quiet : (trees : Trees) (requested : List Requested) (before : Moment) (entries : List Entry) (after : Moment) → Replays trees requested before entries after
    → AreFree entries → HasNoMemoryLine entries → HasNoFault entries
replayed_quiet trees requested before [] after h free none = refl
replayed_quiet trees requested before (entry.Refused line error ∷ entries) after h free none = absurd h
replayed_quiet trees requested before (entry.Read read ∷ entries) after h free none = replayed_quiet trees requested before entries after h.1 free none
replayed_quiet trees requested before (entry.Event event ∷ entries) after h free none =
    let frees = free_parts (entry.Event event ∷ []) entries free in
    let nones = or_parts (is_memory event.act) (list_any is_memory_line entries) none in
    let here = not_back event.act (not_fault requested event h.1.act h.1.source (ap (λ (e : EventEntry). e.act) h.1.is) frees.0) nones.0 in
    ap (λ b. b || list_any complete.is_fault entries) here ∙ replayed_quiet trees requested h.0 entries after h.2 frees.1 nones.1

refused_quiet : (taken : List ParsedLine) → HasNoFault (refusals taken)
refused_quiet [] = refl
refused_quiet (first ∷ taken) = by_answer first.answer (refused_quiet taken) where
  by_answer : (answer : Result Request RequestError) → HasNoFault (refusals taken) → HasNoFault (cons_option (refusal_at first.line answer) (refusals taken))
  by_answer (Ok request) none = none
  by_answer (Err error) none = none

round_quiet : (trees : Trees) (workers : ℕ) (before : Moment) (lines : Round) (entries : List Entry) (after : Moment)
    → IsLegalRound trees workers before lines entries after → AreFree entries → HasNoMemoryLine entries → HasNoFault entries
round_quiet trees workers before lines entries after h free none =
    let frees = free_parts (refusals h.taken) h.others (subst AreFree h.parts free) in
    let nones = memory_parts (refusals h.taken) h.others (subst HasNoMemoryLine h.parts none) in
    subst HasNoFault (sym h.parts)
    (none_joined (refusals h.taken) h.others (refused_quiet h.taken) (replayed_quiet trees (requests h.taken) before h.others after h.replays frees.1 nones.1))

rounds_quiet : (trees : Trees) (workers : ℕ) (before : Moment) (rounds : List Round) (entries : List Entry) (after : Moment)
    → AreLegalRounds trees workers before rounds entries after → AreFree entries → HasNoMemoryLine entries → HasNoFault entries
rounds_quiet trees workers before [] entries after h free none = subst HasNoFault (sym h.0) refl
rounds_quiet trees workers before (round ∷ rounds) entries after h free none =
    let frees = free_parts h.1 h.2 (subst AreFree h.3 free) in
    let nones = memory_parts h.1 h.2 (subst HasNoMemoryLine h.3 none) in
    subst HasNoFault (sym h.3)
    (none_joined h.1 h.2 (round_quiet trees workers before round h.1 h.0 h.4 frees.0 nones.0) (rounds_quiet trees workers h.0 rounds h.2 after h.5 frees.1 nones.1))

last_quiet : (waiting : List (List ℕ)) (trees : Trees) (workers : ℕ) (before : Moment) (entries : List Entry) (after : Moment)
    → AreLast waiting trees workers before entries after → AreFree entries → HasNoMemoryLine entries → HasNoFault entries
last_quiet [] trees workers before entries after h free none = subst HasNoFault (sym h.0) refl
last_quiet (layer ∷ layers) trees workers before entries after h free none = round_quiet trees workers before [] entries after h free none

legal_quiet : (trees : Trees) (workers : ℕ) (before : Moment) (rounds : List Round) (entries : List Entry) (after : Moment)
    → AreLegal trees workers before rounds entries after → AreFree entries → HasNoMemoryLine entries → HasNoFault entries
legal_quiet trees workers before rounds entries after h free none =
    let frees = free_parts h.first h.last (subst AreFree h.parts free) in
    let nones = memory_parts h.first h.last (subst HasNoMemoryLine h.parts none) in
    subst HasNoFault (sym h.parts)
    (none_joined h.first h.last (rounds_quiet trees workers before rounds h.first h.between h.input frees.0 nones.0)
    (last_quiet (queued h.between.state.layers) trees workers h.between h.last after h.further frees.1 nones.1))

-- ---- the whole service

all_free : {D : Type 0} (trees : Trees) (workers : ℕ) (listings faults : D → ℕ) (ds es : List D) (rounds : List Round) (entries : List Entry) (after : Moment)
    → AreLegal trees workers beginning rounds entries after → DesksCounted listings faults 0 ds es entries → length ds ≡ workers → AreQuiet faults ds es → AreFree entries
all_free trees workers listings faults ds es rounds entries after h counts many quiet worker = by_number (cases_lt worker workers) where
  by_number : (worker < workers) ⊎ (workers ≤ worker) → fault_count (events_by worker (events_of entries)) ≡ 0
  by_number (inl low) =
      let same : 0 + worker ≡ worker = omega arith in
      subst (λ w. fault_count (events_by w (events_of entries)) ≡ 0) same (counts_quiet listings faults 0 ds es entries counts quiet worker (omega (arith, low, many)))
  by_number (inr high) = idle trees workers worker beginning rounds entries after h high

-- what holds of legal rounds without a `fault` and a `memory`
pub record Laws : Type 0 where
  pub indexed : (trees : Trees) (workers : ℕ) (rounds : List Round) (entries : List Entry) (after : Moment) → AreLegal trees workers beginning rounds entries after
      → HasNoFault entries → AreAllIndexed after.state
  pub divided : (trees : Trees) (workers : ℕ) (before : Moment) (rounds : List Round) (entries : List Entry) (after : Moment) → AreLegal trees workers before rounds entries after
      → AreDivided trees workers before rounds entries after
  pub pending : (trees : Trees) (workers : ℕ) (rounds : List Round) (entries : List Entry) (after : Moment) (division : AreDivided trees workers beginning rounds entries after)
      → HasNoFault entries → ArePendingRecent [] division.parts

pub complete_of : {D : Type 0} (laws : Laws) (trees : Trees) (workers : ℕ) (listings faults : D → ℕ) (ds es : List D) (rounds : List Round) (entries : List Entry) (after : Moment)
    → AreLegal trees workers beginning rounds entries after → DesksCounted listings faults 0 ds es entries → length ds ≡ workers → AreQuiet faults ds es → HasNoMemoryLine entries
    → IsComplete trees workers rounds entries after
complete_of laws trees workers listings faults ds es rounds entries after h counts many quiet none =
    let kept : HasNoFault entries = legal_quiet trees workers beginning rounds entries after h (all_free trees workers listings faults ds es rounds entries after h counts many quiet) none in
    record {
      indexed = laws.indexed trees workers rounds entries after h kept;
      divided = laws.divided trees workers beginning rounds entries after h;
      pending = λ division. laws.pending trees workers rounds entries after division kept;
    }
