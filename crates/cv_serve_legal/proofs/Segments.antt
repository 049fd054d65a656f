-- Parts of the entries of a round: one after the other, and those of one request and of one claim.
use Rattle.std.specs.Prelude.{◌≡◌, ⊤, ℕ, zero, suc, ◌+◌, ◌<◌, ◌==◌, ◌⊎◌, Bool, true, false, cond, List, [], ◌∷◌, ◌++◌, filter, length, Option, Some, None, Result, Ok, Err, option_and_then, option_map, refl}
use Rattle.std.specs.List.{AllByRecursion, cons_option}
use Rattle.std.proofs.Common.{ap, append_assoc, arith, subst, sym, ◌∙◌}
use Rattle.std.proofs.lemmas.Bool.{eq-eqb, ne_eqb}
use Rattle.std.proofs.lemmas.List.{append-nil, length-append, map-append}
use Rattle.std.proofs.lemmas.List.Elements.{filter-append, filter_map-append}
use Rattle.cv_base.proofs.AllItems.{all_back, all_both, all_front}
use Rattle.cv_core_records.specs.declared.event.Act.{Act}
use Rattle.cv_core_records.specs.declared.event.Act.TheVariants as name
use Rattle.cv_core_records.specs.declared.event.By.{By}
use Rattle.cv_core_records.specs.declared.event.By.TheVariants as by
use Rattle.cv_core_records.specs.declared.event.EventEntry.{EventEntry}
use Rattle.cv_core_records.specs.declared.read.Answer.{Answer}
use Rattle.cv_core_records.specs.declared.read.Answer.TheVariants as answer
use Rattle.cv_core_records.specs.declared.read.ReadEntry.{ReadEntry}
use Rattle.cv_core_records.specs.declared.reply.Reply.{Reply}
use Rattle.cv_core_records.specs.declared.reply.Reply.TheVariants as reply
use Rattle.cv_request.specs.declared.error.RequestError.{RequestError}
use Rattle.cv_request.specs.declared.request.Act.{Act as RequestAct}
use Rattle.cv_request.specs.declared.request.Act.TheVariants as request
use Rattle.cv_request.specs.declared.request.Request.{Request}
use Rattle.cv_transcript.specs.Order.{event_in, events_of}
use Rattle.cv_transcript.specs.declared.entry.Entry.{Entry}
use Rattle.cv_transcript.specs.declared.entry.Entry.TheVariants as entry
use Rattle.cv_core_machine.specs.Answer.{answer_to}
use Rattle.cv_core_machine.specs.History.{act_name, event_entry}
use Rattle.cv_core_machine.specs.Scans.{Trees}
use Rattle.cv_core_machine.specs.Step.{step}
use Rattle.cv_core_machine.specs.declared.event.MachineEvent.{MachineEvent}
use Rattle.cv_core_machine.specs.declared.event.MachineEvent.TheVariants as whole
use Rattle.cv_serve_legal.specs.Parts.{claim_in, claims_of, event_by, events_by, is_grant}
use Rattle.cv_serve_legal.specs.Replay.{Moment, Replays, event_of, moment_after, read_of, worker_event}
use Rattle.cv_serve_legal.specs.ParsedLine.{refusal_at, refusals}
use Rattle.cv_serve_legal.specs.Turns.{ClaimsBelow, FitsWork, Works, work_after}
use Rattle.cv_serve_legal.specs.code.Segment.{IsFound, Segment, address_in, address_of, entry_at, lane_requests, lanes_from}
use Rattle.cv_serve_legal.specs.declared.parsed_line.Requested.{Requested}
use Rattle.cv_serve_legal.specs.declared.parsed_line.ParsedLine.{ParsedLine}

-- no request, no claim, no entry
pub no_entries : (trees : Trees) (workers : ℕ) (m : Moment) → Segment trees workers [] [] m [] m
no_entries trees workers m =
    record { replays = λ all found. refl; addresses = refl; claims = refl; claimers = tt; works = λ worker. refl }

-- ---- one after the other

-- two pairs of equal lists
pub two_same : {X : Type 0} (xs us ys vs : List X) → xs ≡ us → ys ≡ vs → xs ++ ys ≡ us ++ vs
two_same xs us ys vs h k = ap (λ zs. zs ++ ys) h ∙ ap (λ zs. us ++ zs) k

replays_both : (trees : Trees) (all : List Requested) (before between after : Moment) (xs ys : List Entry) → Replays trees all before xs between
    → Replays trees all between ys after → Replays trees all before (xs ++ ys) after
replays_both trees all before between after [] ys h k = subst (λ m. Replays trees all m ys after) h k
replays_both trees all before between after (entry.Refused line error ∷ xs) ys h k = absurd h
replays_both trees all before between after (entry.Event event ∷ xs) ys h k = (h.0, h.1, replays_both trees all h.0 between after xs ys h.2 k)
replays_both trees all before between after (entry.Read read ∷ xs) ys h k = (h.0, replays_both trees all before between after xs ys h.1 k)

pub works_both : (first second third : Option (List ℕ)) (xs ys : List EventEntry) → Works first xs second → Works second ys third → Works first (xs ++ ys) third
works_both first second third [] ys h k = subst (λ work. Works work ys third) h k
works_both first second third (x ∷ xs) ys h k = (h.0, works_both (work_after x.act x.reply) second third xs ys h.1 k)

events_both : (xs ys : List Entry) → events_of (xs ++ ys) ≡ events_of xs ++ events_of ys
events_both xs ys = filter_map-append event_in xs ys

claims_both : (xs ys : List Entry) → claims_of (events_of (xs ++ ys)) ≡ claims_of (events_of xs) ++ claims_of (events_of ys)
claims_both xs ys =
    ap (λ events. claims_of events) (events_both xs ys)
    ∙ filter_map-append (λ (event : EventEntry). claim_in event.act) (events_of xs) (events_of ys)

pub by_both : (worker : ℕ) (xs ys : List Entry) → events_by worker (events_of (xs ++ ys)) ≡ events_by worker (events_of xs) ++ events_by worker (events_of ys)
by_both worker xs ys =
    ap (λ events. events_by worker events) (events_both xs ys)
    ∙ filter_map-append (λ (event : EventEntry). event_by worker event.by event) (events_of xs) (events_of ys)

-- a part, and then the next
pub both : (trees : Trees) (workers : ℕ) (requested more : List Requested) (jobs further : List (List ℕ)) (before between after : Moment) (xs ys : List Entry)
    → Segment trees workers requested jobs before xs between → Segment trees workers more further between ys after
    → Segment trees workers (requested ++ more) (jobs ++ further) before (xs ++ ys) after
both trees workers requested more jobs further before between after xs ys h k = record {
  replays = λ all found. replays_both trees all before between after xs ys
      (h.replays all (all_front (IsFound all) requested more found)) (k.replays all (all_back (IsFound all) requested more found));
  addresses =
      filter_map-append address_in xs ys
      ∙ two_same _ _ _ _ h.addresses k.addresses
      ∙ sym (map-append address_of requested more);
  claims = claims_both xs ys ∙ two_same _ _ _ _ h.claims k.claims;
  claimers = subst (λ events. AllByRecursion (λ event. ClaimsBelow workers event.by event.act) events) (sym (events_both xs ys))
      (all_both (λ event. ClaimsBelow workers event.by event.act) (events_of xs) (events_of ys) h.claimers k.claimers);
  works = λ worker. subst (λ events. Works None events None) (sym (by_both worker xs ys))
      (works_both None None None (events_by worker (events_of xs)) (events_by worker (events_of ys)) (h.works worker) (k.works worker));
}

-- ---- lanes, one after the other

-- one more lane, after the others
pub lanes_next : (lane count : ℕ) (requested : List Requested) → lanes_from lane (count + 1) requested ≡ lanes_from lane count requested ++ lane_requests (lane + count) requested
lanes_next lane count requested =
    let more : count + 1 ≡ suc count = omega arith in
    ap (λ n. lanes_from lane n requested) more ∙ next lane count where
      next : (first : ℕ) (n : ℕ) → lanes_from first (suc n) requested ≡ lanes_from first n requested ++ lane_requests (first + n) requested
      next first zero =
          let same : first ≡ first + 0 = omega arith in
          append-nil (lane_requests first requested) ∙ ap (λ k. lane_requests k requested) same
      next first (suc n) =
          let same : first + 1 + n ≡ first + suc n = omega arith in
          ap (λ rest. lane_requests first requested ++ rest) (next (first + 1) n ∙ ap (λ k. lanes_from (first + 1) n requested ++ lane_requests k requested) same)
          ∙ sym (append_assoc (lane_requests first requested) (lanes_from (first + 1) n requested) (lane_requests (first + suc n) requested))

-- ---- of one request

-- an event that is no claim
abbrev NoClaim : ℕ → By → Option MachineEvent → Type 0
NoClaim workers source None = ⊤
NoClaim workers source (Some act) = (claim_in (act_name act) ≡ None) × ClaimsBelow workers source (act_name act)

-- a request submits no claim
lane_claims : (workers lane line : ℕ) (act : RequestAct) → NoClaim workers (by.Lane lane line) (event_of act)
lane_claims workers lane line (request.Register manifest) = (refl, tt)
lane_claims workers lane line (request.DropImage image) = (refl, tt)
lane_claims workers lane line (request.Update feed records) = (refl, tt)
lane_claims workers lane line (request.Patch feed base records remove) = (refl, tt)
lane_claims workers lane line (request.Report image) = tt
lane_claims workers lane line (request.Page number size page) = tt
lane_claims workers lane line request.List = tt
lane_claims workers lane line (request.Ack number) = (refl, tt)

pub one_event : (trees : Trees) (workers : ℕ) (requested : Requested) (act : MachineEvent) (before : Moment) → event_of requested.request.act ≡ Some act
    → Segment trees workers (requested ∷ []) [] before (entry_at trees before (by.Lane requested.request.lane requested.line) act ∷ []) (moment_after trees before act)
one_event trees workers requested act before is =
    let none : (claim_in (act_name act) ≡ None) × ClaimsBelow workers (by.Lane requested.request.lane requested.line) (act_name act) =
    subst (λ o. NoClaim workers (by.Lane requested.request.lane requested.line) o) is (lane_claims workers requested.request.lane requested.line requested.request.act) in
    record {
      replays = λ all found.
          (moment_after trees before act, record { act = act; source = ap (λ o. option_and_then event_of o) found.0 ∙ is; is = refl; next = refl }, refl);
      addresses = refl;
      claims = ap (λ o. cons_option o []) none.0;
      claimers = (none.1, tt);
      works = λ worker. refl;
    }

pub one_read : (trees : Trees) (workers : ℕ) (requested : Requested) (found : Answer) (before : Moment)
    → ((found ≡ answer.NoMemory) ⊎ (option_map (answer_to trees before.state) (read_of requested.request.act) ≡ Some found))
    → Segment trees workers (requested ∷ []) [] before (entry.Read (record { front = before.count; lane = requested.request.lane; line = requested.line; answer = found }) ∷ []) before
one_read trees workers requested found before is = record {
  replays = λ all known. (record { act = requested.request.act; source = known.0; front = refl; is = is }, refl);
  addresses = refl;
  claims = refl;
  claimers = tt;
  works = λ worker. refl;
}

-- ---- of one claim

-- without a grant there is no work
no_work : (layer : List ℕ) (said : Reply) → is_grant (name.Claim layer) said ≡ false → None ≡ work_after (name.Claim layer) said
no_work layer reply.Claimed is = absurd (cc is)
no_work layer _ is = refl

-- what a worker does with a layer that it claimed is no claim, ends the work and is no grant
pub record EndsWork (workers worker : ℕ) (act : Act) (said : Reply) : Type 0 where
  pub claim : claim_in act ≡ None
  pub claimer : ClaimsBelow workers (by.Worker worker) act
  pub work : None ≡ work_after act said
  pub grant : is_grant act said ≡ false

ends_work : (workers worker : ℕ) (layer : List ℕ) (act : Act) (said : Reply) → FitsWork (Some layer) act → EndsWork workers worker act said
ends_work workers worker layer (name.Indexed other) said h = record { claim = refl; claimer = tt; work = refl; grant = refl }
ends_work workers worker layer (name.Fault other) said h = record { claim = refl; claimer = tt; work = refl; grant = refl }
ends_work workers worker layer (name.Memory other) said h = record { claim = refl; claimer = tt; work = refl; grant = refl }
ends_work workers worker layer _ said h = absurd h

pub one_claim : (trees : Trees) (workers worker : ℕ) (layer : List ℕ) (before : Moment) → worker < workers
    → is_grant (name.Claim layer) (step trees before.state (whole.Claim layer worker)).1 ≡ false
    → Segment trees workers [] (layer ∷ []) before (entry_at trees before (by.Worker worker) (whole.Claim layer worker) ∷ []) (moment_after trees before (whole.Claim layer worker))
one_claim trees workers worker layer before low none = record {
  replays = λ all found.
      (moment_after trees before (whole.Claim layer worker), record { act = whole.Claim layer worker; source = refl; is = refl; next = refl }, refl);
  addresses = refl;
  claims = refl;
  claimers = (low, tt);
  works = λ other. by_worker (worker == other);
} where
  claim : EventEntry
  claim = event_entry (before.count + 1) (by.Worker worker) (whole.Claim layer worker) (step trees before.state (whole.Claim layer worker)).1

  by_worker : (b : Bool) → Works None (cons_option (cond b (Some claim) None) []) None
  by_worker true = (tt, no_work layer (step trees before.state (whole.Claim layer worker)).1 none)
  by_worker false = refl

pub claim_and_result : (trees : Trees) (workers worker : ℕ) (layer : List ℕ) (act : MachineEvent) (before : Moment) → worker < workers
    → (step trees before.state (whole.Claim layer worker)).1 ≡ reply.Claimed → worker_event worker (act_name act) ≡ Some act → FitsWork (Some layer) (act_name act)
    → Segment trees workers [] (layer ∷ []) before
    (entry_at trees before (by.Worker worker) (whole.Claim layer worker) ∷ entry_at trees (moment_after trees before (whole.Claim layer worker)) (by.Worker worker) act ∷ [])
    (moment_after trees (moment_after trees before (whole.Claim layer worker)) act)
claim_and_result trees workers worker layer act before low granted source fits = record {
  replays = λ all found. (
    between,
    record { act = whole.Claim layer worker; source = refl; is = refl; next = refl },
    (moment_after trees between act, record { act = act; source = source; is = refl; next = refl }, refl),
  );
  addresses = refl;
  claims = ap (λ o. layer ∷ cons_option o []) ends.claim;
  claimers = (low, (ends.claimer, tt));
  works = λ other. by_worker (worker == other);
} where
  between : Moment
  between = moment_after trees before (whole.Claim layer worker)

  said : Reply
  said = (step trees between.state act).1

  ends : EndsWork workers worker (act_name act) said
  ends = ends_work workers worker layer (act_name act) said fits

  claim : EventEntry
  claim = event_entry (before.count + 1) (by.Worker worker) (whole.Claim layer worker) (step trees before.state (whole.Claim layer worker)).1

  result : EventEntry
  result = event_entry (between.count + 1) (by.Worker worker) act said

  by_worker : (b : Bool) → Works None (cons_option (cond b (Some claim) None) (cons_option (cond b (Some result) None) [])) None
  by_worker true = (tt, (subst (λ r. FitsWork (work_after (name.Claim layer) r) (act_name act)) (sym granted) fits, ends.work))
  by_worker false = refl

-- ---- how many claims are granted

granted_both : (xs ys : List EventEntry)
    → length (filter (λ event. is_grant event.act event.reply) (xs ++ ys))
    ≡ length (filter (λ event. is_grant event.act event.reply) xs) + length (filter (λ event. is_grant event.act event.reply) ys)
granted_both xs ys =
    ap (λ events. length events) (filter-append (λ (event : EventEntry). is_grant event.act event.reply) xs ys)
    ∙ length-append (filter (λ event. is_grant event.act event.reply) xs) (filter (λ event. is_grant event.act event.reply) ys)

-- how many claims of a worker are granted, which is how many of its lines say `claimed`
abbrev pub grants : ℕ → List Entry → ℕ
grants worker entries = length (filter (λ event. is_grant event.act event.reply) (events_by worker (events_of entries)))

pub grants_both : (worker : ℕ) (xs ys : List Entry) → grants worker (xs ++ ys) ≡ grants worker xs + grants worker ys
grants_both worker xs ys =
    ap (λ events. length (filter (λ (event : EventEntry). is_grant event.act event.reply) events)) (by_both worker xs ys)
    ∙ granted_both (events_by worker (events_of xs)) (events_by worker (events_of ys))

pub grants_refused : (worker : ℕ) (taken : List ParsedLine) → grants worker (refusals taken) ≡ 0
grants_refused worker [] = refl
grants_refused worker (first ∷ taken) = by_answer first.answer (grants_refused worker taken) where
  by_answer : (answer : Result Request RequestError) → grants worker (refusals taken) ≡ 0
      → grants worker (cons_option (refusal_at first.line answer) (refusals taken)) ≡ 0
  by_answer (Ok request) none = none
  by_answer (Err error) none = none

pub grants_event : (w : ℕ) (trees : Trees) (before : Moment) (lane line : ℕ) (act : MachineEvent) → grants w (entry_at trees before (by.Lane lane line) act ∷ []) ≡ 0
grants_event w trees before lane line act = refl

pub grants_read : (w : ℕ) (read : ReadEntry) → grants w (entry.Read read ∷ []) ≡ 0
grants_read w read = refl

-- events, the first of which is not granted
none_granted : (first : EventEntry) (events : List EventEntry) → is_grant first.act first.reply ≡ false
    → length (filter (λ event. is_grant event.act event.reply) (first ∷ events)) ≡ length (filter (λ event. is_grant event.act event.reply) events)
none_granted first events none = ap (λ b. length (cond b (first ∷ filter (λ event. is_grant event.act event.reply) events) (filter (λ event. is_grant event.act event.reply) events))) none

-- events, the first of which is granted
one_granted : (first : EventEntry) (events : List EventEntry) → is_grant first.act first.reply ≡ true
    → length (filter (λ event. is_grant event.act event.reply) (first ∷ events)) ≡ length (first ∷ filter (λ event. is_grant event.act event.reply) events)
one_granted first events some = ap (λ b. length (cond b (first ∷ filter (λ event. is_grant event.act event.reply) events) (filter (λ event. is_grant event.act event.reply) events))) some

-- a claim that is not granted, of any worker
pub grants_claim : (w : ℕ) (trees : Trees) (before : Moment) (worker : ℕ) (layer : List ℕ)
    → is_grant (name.Claim layer) (step trees before.state (whole.Claim layer worker)).1 ≡ false
    → grants w (entry_at trees before (by.Worker worker) (whole.Claim layer worker) ∷ []) ≡ 0
grants_claim w trees before worker layer none = by_worker (worker == w) where
  claim : EventEntry
  claim = event_entry (before.count + 1) (by.Worker worker) (whole.Claim layer worker) (step trees before.state (whole.Claim layer worker)).1

  by_worker : (b : Bool) → length (filter (λ event. is_grant event.act event.reply) (cons_option (cond b (Some claim) None) [])) ≡ 0
  by_worker true = none_granted claim [] none
  by_worker false = refl

-- the entry of a claim
abbrev claimed : Trees → Moment → ℕ → List ℕ → EventEntry
claimed trees before worker layer = event_entry (before.count + 1) (by.Worker worker) (whole.Claim layer worker) (step trees before.state (whole.Claim layer worker)).1

-- the entry of an act that the worker submits after it
abbrev finished : Trees → Moment → ℕ → List ℕ → MachineEvent → EventEntry
finished trees before worker layer act = let between = moment_after trees before (whole.Claim layer worker) in event_entry (between.count + 1) (by.Worker worker) act (step trees between.state act).1

-- a claim that is granted, and its result: one of the worker
pub grants_result : (trees : Trees) (before : Moment) (worker : ℕ) (layer : List ℕ) (act : MachineEvent)
    → (step trees before.state (whole.Claim layer worker)).1 ≡ reply.Claimed → FitsWork (Some layer) (act_name act)
    → grants worker (entry_at trees before (by.Worker worker) (whole.Claim layer worker) ∷ entry_at trees (moment_after trees before (whole.Claim layer worker)) (by.Worker worker) act ∷ []) ≡ 1
grants_result trees before worker layer act granted fits = by_worker (worker == worker) (eq-eqb worker worker refl) where
  by_worker : (b : Bool) → b ≡ true
      → length (filter (λ event. is_grant event.act event.reply) (cons_option (cond b (Some (claimed trees before worker layer)) None) (cons_option (cond b (Some (finished trees before worker layer act)) None) []))) ≡ 1
  by_worker true same =
      one_granted (claimed trees before worker layer) (finished trees before worker layer act ∷ []) (ap (λ r. is_grant (name.Claim layer) r) granted)
      ∙ ap suc (none_granted (finished trees before worker layer act) [] (ends_work 0 worker layer (act_name act) (finished trees before worker layer act).reply fits).grant)
  by_worker false same = absurd (cc same)

-- and none of another worker
pub grants_others : (w : ℕ) (trees : Trees) (before : Moment) (worker : ℕ) (layer : List ℕ) (act : MachineEvent) → (worker ≡ w → ⊥)
    → grants w (entry_at trees before (by.Worker worker) (whole.Claim layer worker) ∷ entry_at trees (moment_after trees before (whole.Claim layer worker)) (by.Worker worker) act ∷ []) ≡ 0
grants_others w trees before worker layer act other = by_worker (worker == w) (ne_eqb worker w other) where
  by_worker : (b : Bool) → b ≡ false
      → length (filter (λ event. is_grant event.act event.reply) (cons_option (cond b (Some (claimed trees before worker layer)) None) (cons_option (cond b (Some (finished trees before worker layer act)) None) []))) ≡ 0
  by_worker true same = absurd (cc same)
  by_worker false same = refl
