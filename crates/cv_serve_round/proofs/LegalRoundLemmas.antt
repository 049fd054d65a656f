-- The parts of the lanes and the workers in a round make its entries a legal round.
use Rattle.std.proofs.Common.{◌≡◌, ℕ, zero, suc, ◌+◌, ◌-◌, ◌==◌, ◌≤◌, ◌<◌, ◌⊎◌, inl, inr, cond, List, [], ◌∷◌, ◌++◌, filter, get_or, length, map, None, Some, refl, ap, sym, subst, ◌∙◌, arith}
use Rattle.std.specs.List.{AllByRecursion, AllZip, cons_option}
use Rattle.std.proofs.lemmas.Bool.{cases_lt, eq-eqb, ne_eqb}
use Rattle.std.proofs.lemmas.List.{get_or_past}
use mathlib.Core.List.{IsPrefix}
use Rattle.cv_base.specs.Lines.{Line}
use Rattle.cv_base.specs.Texts.{same}
use Rattle.cv_core_records.specs.declared.event.Act.{Act}
use Rattle.cv_core_records.specs.declared.event.Act.TheVariants as name
use Rattle.cv_core_records.specs.declared.event.By.TheVariants as by
use Rattle.cv_core_records.specs.declared.event.EventEntry.{EventEntry}
use Rattle.cv_core_records.specs.declared.read.ReadEntry.{ReadEntry}
use Rattle.cv_request.specs.declared.request.Act.{Act as RequestAct}
use Rattle.cv_request.specs.declared.request.Act.TheVariants as request
use Rattle.cv_transcript.specs.Order.{AreAscending, events_of, reads_by, reads_of}
use Rattle.cv_transcript.specs.declared.entry.Entry.{Entry}
use Rattle.cv_base.proofs.AllItems.{all_weaker}
use Rattle.cv_core_machine.specs.History.{act_name}
use Rattle.cv_core_machine.specs.Layers.{queued}
use Rattle.cv_core_machine.specs.Scans.{StatesEveryLayer, trees_of}
use Rattle.cv_core_machine.specs.declared.event.MachineEvent.{MachineEvent}
use Rattle.cv_core_machine.specs.declared.event.MachineEvent.TheVariants as whole
use Rattle.cv_core_machine.specs.declared.limits.Limits.{Limits}
use Rattle.cv_serve_legal.specs.Parts.{claim_in, claims_of, events_by, lines_answered, times}
use Rattle.cv_serve_legal.specs.Replay.{event_of, submitted}
use Rattle.cv_serve_legal.specs.Round.{IsLegalRound}
use Rattle.cv_serve_legal.specs.ParsedLine.{IsTaken, lines_requested, refusals, requests}
use Rattle.cv_serve_legal.specs.Turns.{ClaimsBelow, Works}
use Rattle.cv_serve_legal.specs.code.Segment.{lane_requests}
use Rattle.cv_serve_legal.specs.Served.{LinesAscend}
use Rattle.cv_serve_legal.specs.declared.parsed_line.Requested.{Requested}
use Rattle.cv_serve_legal.specs.declared.parsed_line.ParsedLine.{ParsedLine}
use Rattle.cv_serve_legal.proofs.Assembled.{RequestsAscend, of_lane as of_this_lane, requests_ascend}
use Rattle.cv_serve_legal.proofs.History.{no_events}
use Rattle.cv_serve_legal.proofs.Order.{reads_in_order}
use Rattle.cv_pool.specs.Jobs.{lists_weigh, weigh, weigh_below}
use Rattle.cv_serve_lanes.specs.Events.{DeskTrees, IsReplayed, entries_from, state_of}
use Rattle.cv_serve_lanes.specs.Seats.{SeatView, made_by, one_if}
use Rattle.cv_serve_lanes.specs.code.Own.{Made, Placed, Submission, entry_of, of_seat}
use Rattle.cv_serve_lanes.proofs.Prefixes.{prefix_chain, prefix_length, prefix_same}
use Rattle.cv_serve_lanes.specs.Counts.{RoseBy, fault_count, grant_count}
use Rattle.cv_serve_lanes.specs.code.Lane.{Answered, Answers, IsFrom, IsWithin, LaneDid, Step, Submitted, placed_of}
use Rattle.cv_serve_lanes.specs.code.Worker.{IsByWorker, WorkerDid, layers_of}
use Rattle.cv_serve_lanes.proofs.LaneLemmas.{all_longer, from_less, within_more}
use Rattle.cv_serve_round.specs.Round.{moment_of}
use Rattle.cv_serve_round.specs.code.Parts.{FitsSeat, IsSeen, IsSourced, LanePart, WorkerPart, is_of_lane, placed_from, sum_seats}
use Rattle.cv_serve_round.proofs.LaneLineLemmas.{asks_of_lane, found_of_lane, lane_lines, lane_on_lines, lane_seen, lane_sourced, no_lane_lines, steps_ascend}
use Rattle.cv_serve_round.proofs.ReplayLemmas.{replays}
use Rattle.cv_serve_round.proofs.SeatingLemmas.{claims_by_seats, each_seat, entries_placed, first_of, jobs_weigh, lane_events, no_lane_events, no_worker_events, own_is, queue_weighs, rest_of, sum_split, sum_zero, worker_events}

-- ---- what a seat saw

-- what a seat had seen before it did something begins what it has seen
seen_before : (mid end : SeatView) (own : List Placed) (whole : List Submission) → Made mid end own → IsPrefix end.list whole → IsPrefix mid.list whole
seen_before mid end own whole made seen = prefix_chain mid.list end.list whole (made.since, sym made.list_is) seen

-- what it did are all events of its seat
own_of : (before later : List Submission) (seat : ℕ) (mid end : SeatView) (own : List Placed) → mid.index ≡ seat → length before ≤ length mid.list → IsPrefix end.list (before ++ later)
    → made_by mid.index before ≡ mid.count → made_by end.index (before ++ later) ≡ end.count → Made mid end own → own ≡ of_seat seat (length before + 1) later
own_of before later seat mid end own is long seen first last made =
    own_is before later mid end own long (seen_before mid end own (before ++ later) made seen) seen made first last
    ∙ ap (λ i. of_seat i (length before + 1) later) is

pub lane_part : (tree : DeskTrees) (limits : Limits) (before later : List Submission) (requested : List Requested) (lane : ℕ) (mid end : SeatView) (reads : List ReadEntry) → mid.index ≡ lane
    → length before ≤ length mid.list → IsPrefix end.list (before ++ later) → made_by mid.index before ≡ mid.count → made_by end.index (before ++ later) ≡ end.count
    → LaneDid tree limits (lane_requests lane requested) mid [] end reads → LanePart tree limits before later requested lane reads
lane_part tree limits before later requested lane mid end reads is long seen first last did =
    let some = did.steps in
    record {
      steps = some;
      own = own_of before later lane mid end (placed_of some) is long seen first last did.made;
      reads_are = did.reads_are;
      answers = all_longer tree limits end.list (before ++ later) (lane_requests lane requested) some seen did.within did.answers;
      from = all_weaker (IsFrom (length mid.list)) (IsFrom (length before)) some (from_less (length before) (length mid.list) long) did.from;
      within = all_weaker (IsWithin (length end.list)) (IsWithin (length (before ++ later))) some (within_more (length end.list) (length (before ++ later)) (prefix_length end.list (before ++ later) seen)) did.within;
      in_turn = did.in_turn;
    }

pub worker_part : (before later : List Submission) (worker : ℕ) (layers : List (List ℕ)) (mid end : SeatView) (l f m g : ℕ) → mid.index ≡ 8 + worker
    → length before ≤ length mid.list → IsPrefix end.list (before ++ later) → made_by mid.index before ≡ mid.count → made_by end.index (before ++ later) ≡ end.count
    → WorkerDid worker layers mid l f end m g → WorkerPart before later worker layers
worker_part before later worker layers mid end l f m g is long seen first last did = record {
  own = did.own;
  own_is = own_of before later (8 + worker) mid end did.own is long seen first last did.made;
  by_worker = did.by_worker;
  works = did.works;
  claims = did.claims;
}

-- ---- the events of a lane

-- they are of its seat
lane_fits : (lane : ℕ) (tree : DeskTrees) (limits : Limits) (list : List Submission) (asks : List Requested) (steps : List Step) → lane < 8 → AllByRecursion (λ (r : Requested). r.request.lane ≡ lane) asks
    → AllZip (Answers tree limits list) asks steps → AllByRecursion (λ (p : Placed). FitsSeat lane p.event.by) (placed_of steps)
lane_fits lane tree limits list [] [] low of h = tt
lane_fits lane tree limits list [] (step ∷ steps) low of h = absurd h
lane_fits lane tree limits list (requested ∷ asks) [] low of h = absurd h
lane_fits lane tree limits list (requested ∷ asks) (Submitted p ∷ steps) low of h = (subst (FitsSeat lane) (sym h.0.0) (of.0, low), lane_fits lane tree limits list asks steps low of.1 h.1)
lane_fits lane tree limits list (requested ∷ asks) (Answered read ∷ steps) low of h = lane_fits lane tree limits list asks steps low of.1 h.1

-- a request submits no claim
no_claim : (act : RequestAct) (event : MachineEvent) → event_of act ≡ Some event → claim_in (act_name event) ≡ None
no_claim (request.Register manifest) event is = let one : whole.Register manifest ≡ event = cc is in ap (λ e. claim_in (act_name e)) (sym one)
no_claim (request.DropImage image) event is = let one : whole.DropImage image ≡ event = cc is in ap (λ e. claim_in (act_name e)) (sym one)
no_claim (request.Update feed records) event is = let one : whole.Update feed records ≡ event = cc is in ap (λ e. claim_in (act_name e)) (sym one)
no_claim (request.Patch feed base records remove) event is = let one : whole.Patch feed base records remove ≡ event = cc is in ap (λ e. claim_in (act_name e)) (sym one)
no_claim (request.Report image) event is = absurd (cc is)
no_claim (request.Page number size page) event is = absurd (cc is)
no_claim request.List event is = absurd (cc is)
no_claim (request.Ack number) event is = let one : whole.Ack number ≡ event = cc is in ap (λ e. claim_in (act_name e)) (sym one)

-- so no event of a lane is one
lane_claims : (tree : DeskTrees) (limits : Limits) (list : List Submission) (asks : List Requested) (steps : List Step) → AllZip (Answers tree limits list) asks steps
    → claims_of (map entry_of (placed_of steps)) ≡ []
lane_claims tree limits list [] [] h = refl
lane_claims tree limits list [] (step ∷ steps) h = absurd h
lane_claims tree limits list (requested ∷ asks) [] h = absurd h
lane_claims tree limits list (requested ∷ asks) (Submitted p ∷ steps) h =
    ap (λ layer. cons_option layer (claims_of (map entry_of (placed_of steps)))) (no_claim requested.request.act p.event.act h.0.1) ∙ lane_claims tree limits list asks steps h.1
lane_claims tree limits list (requested ∷ asks) (Answered read ∷ steps) h = lane_claims tree limits list asks steps h.1

-- who claims
below_lane : (workers lane line : ℕ) (act : Act) → claim_in act ≡ None → ClaimsBelow workers (by.Lane lane line) act
below_lane workers lane line (name.Register hash) is = tt
below_lane workers lane line (name.DropImage image) is = tt
below_lane workers lane line (name.Claim layer) is = absurd (cc is)
below_lane workers lane line (name.Indexed layer) is = tt
below_lane workers lane line (name.Fault layer) is = tt
below_lane workers lane line (name.Memory layer) is = tt
below_lane workers lane line (name.Update feed) is = tt
below_lane workers lane line (name.Patch feed) is = tt
below_lane workers lane line (name.Ack number) is = tt

below_worker : (workers worker : ℕ) (act : Act) → worker < workers → ClaimsBelow workers (by.Worker worker) act
below_worker workers worker (name.Register hash) few = tt
below_worker workers worker (name.DropImage image) few = tt
below_worker workers worker (name.Claim layer) few = few
below_worker workers worker (name.Indexed layer) few = tt
below_worker workers worker (name.Fault layer) few = tt
below_worker workers worker (name.Memory layer) few = tt
below_worker workers worker (name.Update feed) few = tt
below_worker workers worker (name.Patch feed) few = tt
below_worker workers worker (name.Ack number) few = tt

lane_below : (workers : ℕ) (tree : DeskTrees) (limits : Limits) (list : List Submission) (asks : List Requested) (steps : List Step) → AllZip (Answers tree limits list) asks steps
    → AllByRecursion (λ (p : Placed). ClaimsBelow workers p.event.by (act_name p.event.act)) (placed_of steps)
lane_below workers tree limits list [] [] h = tt
lane_below workers tree limits list [] (step ∷ steps) h = absurd h
lane_below workers tree limits list (requested ∷ asks) [] h = absurd h
lane_below workers tree limits list (requested ∷ asks) (Submitted p ∷ steps) h = (
  subst (λ source. ClaimsBelow workers source (act_name p.event.act)) (sym h.0.0)
      (below_lane workers requested.request.lane requested.line (act_name p.event.act) (no_claim requested.request.act p.event.act h.0.1)),
  lane_below workers tree limits list asks steps h.1,
)
lane_below workers tree limits list (requested ∷ asks) (Answered read ∷ steps) h = lane_below workers tree limits list asks steps h.1

-- a lane from eight on has no requests
no_requests : (lane : ℕ) (requested : List Requested) → 8 ≤ lane → AllByRecursion (λ (r : Requested). r.request.lane < 8) requested → lane_requests lane requested ≡ []
no_requests lane [] high few = refl
no_requests lane (r ∷ requested) high few =
    let low : r.request.lane < 8 = few.0 in
    ap (λ found. cond found (r ∷ lane_requests lane requested) (lane_requests lane requested)) (ne_eqb r.request.lane lane (λ is. omega (arith, high, low, is)))
    ∙ no_requests lane requested high few.1

-- ---- all events

-- what holds of the events of each lane and of each worker holds of all events
each_known : (P : ℕ → Placed → Type 0) (n workers : ℕ) (later : List Submission) → AllByRecursion (λ (e : Submission). e.seat < 8 + workers) later
    → ((lane : ℕ) → lane < 8 → AllByRecursion (P lane) (of_seat lane n later)) → ((worker : ℕ) → worker < workers → AllByRecursion (P (8 + worker)) (of_seat (8 + worker) n later))
    → AllByRecursion (λ (p : Placed). P p.event.seat p) (placed_from n later)
each_known P n workers later below lanes desks = each_seat P n later (8 + workers) below (λ i less. by_order i less (cases_lt i 8)) where
  by_order : (i : ℕ) → i < 8 + workers → (i < 8) ⊎ (8 ≤ i) → AllByRecursion (P i) (of_seat i n later)
  by_order i less (inl low) = lanes i low
  by_order i less (inr high) =
      let is : 8 + (i - 8) ≡ i = omega (arith, high) in
      subst (λ (seat : ℕ). AllByRecursion (P seat) (of_seat seat n later)) is (desks (i - 8) (omega (arith, less, high)))

-- what holds of events with their numbers holds of them
all_later : (P : Submission → Type 0) (n : ℕ) (later : List Submission) → AllByRecursion (λ (p : Placed). P p.event) (placed_from n later) → AllByRecursion P later
all_later P n [] h = tt
all_later P n (e ∷ later) h = (h.0, all_later P (n + 1) later h.1)

-- and of their entries
all_entries : (P : EventEntry → Type 0) (own : List Placed) → AllByRecursion (λ (p : Placed). P (entry_of p)) own → AllByRecursion P (map entry_of own)
all_entries P [] h = tt
all_entries P (p ∷ own) h = (h.0, all_entries P own h.1)

-- ---- all reads

-- what holds of the reads of each lane holds of all reads
each_lane : (P : ReadEntry → Type 0) (reads : List ReadEntry) → ((lane : ℕ) → AllByRecursion P (reads_by lane reads)) → AllByRecursion P reads
each_lane P [] all = tt
each_lane P (read ∷ reads) all = (
  first_of P (read.lane == read.lane) read (reads_by read.lane reads) (eq-eqb read.lane read.lane refl) (all read.lane),
  each_lane P reads (λ lane. rest_of P (read.lane == lane) read (reads_by lane reads) (all lane)),
)

-- ---- a round

-- what is known of a round: the parts of its lanes and its workers, and that its entries are their events and their reads
pub record RoundParts (tree : DeskTrees) (limits : Limits) (before later : List Submission) (requested : List Requested) (others : List Entry) (workers : ℕ) (reads : ℕ → List ReadEntry) (layers : ℕ → List (List ℕ)) : Type 0 where
  pub known : StatesEveryLayer tree
  pub ascend : RequestsAscend requested
  pub in_range : AllByRecursion (λ (r : Requested). r.request.lane < 8) requested
  pub below : AllByRecursion (λ (e : Submission). e.seat < 8 + workers) later
  pub lanes : (lane : ℕ) → lane < 8 → LanePart tree limits before later requested lane (reads lane)
  pub no_lanes : (lane : ℕ) → 8 ≤ lane → reads lane ≡ []
  pub desks : (worker : ℕ) → worker < workers → WorkerPart before later worker (layers worker)
  pub events : events_of others ≡ entries_from (length before + 1) later
  pub by_lane : (lane : ℕ) → reads_by lane (reads_of others) ≡ reads lane
  pub order : AreAscending others

-- each event is of its seat
pub round_fits : (tree : DeskTrees) (limits : Limits) (before later : List Submission) (requested : List Requested) (workers : ℕ) (reads : ℕ → List ReadEntry) (layers : ℕ → List (List ℕ))
    → AllByRecursion (λ (e : Submission). e.seat < 8 + workers) later → ((lane : ℕ) → lane < 8 → LanePart tree limits before later requested lane (reads lane))
    → ((worker : ℕ) → worker < workers → WorkerPart before later worker (layers worker)) → AllByRecursion (λ (p : Placed). FitsSeat p.event.seat p.event.by) (placed_from (length before + 1) later)
round_fits tree limits before later requested workers reads layers below lanes desks = each_known (λ seat p. FitsSeat seat p.event.by) (length before + 1) workers later below of_lane of_desk where
  of_lane : (lane : ℕ) → lane < 8 → AllByRecursion (λ (p : Placed). FitsSeat lane p.event.by) (of_seat lane (length before + 1) later)
  of_lane lane low =
      let part = lanes lane low in
      subst (AllByRecursion (λ (p : Placed). FitsSeat lane p.event.by)) part.own
      (lane_fits lane tree limits (before ++ later) (lane_requests lane requested) part.steps low (of_this_lane lane requested) part.answers)

  of_desk : (worker : ℕ) → worker < workers → AllByRecursion (λ (p : Placed). FitsSeat (8 + worker) p.event.by) (of_seat (8 + worker) (length before + 1) later)
  of_desk worker low =
      let part = desks worker low in
      subst (AllByRecursion (λ (p : Placed). FitsSeat (8 + worker) p.event.by)) part.own_is
      (all_weaker (IsByWorker worker) (λ (p : Placed). FitsSeat (8 + worker) p.event.by) part.own (λ p h. subst (FitsSeat (8 + worker)) (sym h.0) refl) part.by_worker)

-- each event is that of a request, or of its worker
round_sourced : (tree : DeskTrees) (limits : Limits) (before later : List Submission) (requested : List Requested) (others : List Entry) (workers : ℕ) (reads : ℕ → List ReadEntry) (layers : ℕ → List (List ℕ))
    → RoundParts tree limits before later requested others workers reads layers → AllByRecursion (IsSourced requested) later
round_sourced tree limits before later requested others workers reads layers round =
    all_later (IsSourced requested) (length before + 1) later (each_known (λ seat p. IsSourced requested p.event) (length before + 1) workers later round.below of_lane of_desk) where
      of_lane : (lane : ℕ) → lane < 8 → AllByRecursion (λ (p : Placed). IsSourced requested p.event) (of_seat lane (length before + 1) later)
      of_lane lane low =
          let part = round.lanes lane low in
          subst (AllByRecursion (λ (p : Placed). IsSourced requested p.event)) part.own
          (lane_sourced tree limits (before ++ later) requested (lane_requests lane requested) part.steps (found_of_lane lane requested round.ascend) part.answers)

      of_desk : (worker : ℕ) → worker < workers → AllByRecursion (λ (p : Placed). IsSourced requested p.event) (of_seat (8 + worker) (length before + 1) later)
      of_desk worker low =
          let part = round.desks worker low in
          subst (AllByRecursion (λ (p : Placed). IsSourced requested p.event)) part.own_is
          (all_weaker (IsByWorker worker) (λ (p : Placed). IsSourced requested p.event) part.own (λ p h. ap (λ source. submitted requested source (act_name p.event.act)) h.0 ∙ h.1) part.by_worker)

-- each read is the answer to a request
round_seen : (tree : DeskTrees) (limits : Limits) (before later : List Submission) (requested : List Requested) (others : List Entry) (workers : ℕ) (reads : ℕ → List ReadEntry) (layers : ℕ → List (List ℕ))
    → RoundParts tree limits before later requested others workers reads layers → AllByRecursion (IsSeen (trees_of tree) limits (before ++ later) (length before) requested) (reads_of others)
round_seen tree limits before later requested others workers reads layers round = each_lane (IsSeen (trees_of tree) limits (before ++ later) (length before) requested) (reads_of others) (λ lane. by_order lane (cases_lt lane 8)) where
  by_order : (lane : ℕ) → (lane < 8) ⊎ (8 ≤ lane) → AllByRecursion (IsSeen (trees_of tree) limits (before ++ later) (length before) requested) (reads_by lane (reads_of others))
  by_order lane (inl low) =
      let part = round.lanes lane low in
      subst (AllByRecursion (IsSeen (trees_of tree) limits (before ++ later) (length before) requested)) (sym (round.by_lane lane ∙ part.reads_are))
      (lane_seen tree limits (length before) (before ++ later) (before ++ later) requested (lane_requests lane requested) part.steps round.known (prefix_same (before ++ later)) (found_of_lane lane requested round.ascend)
      part.answers part.from part.within)
  by_order lane (inr high) = subst (AllByRecursion (IsSeen (trees_of tree) limits (before ++ later) (length before) requested)) (sym (round.by_lane lane ∙ round.no_lanes lane high)) tt

-- each request has one entry, and those of a lane stand in its order
round_lines : (tree : DeskTrees) (limits : Limits) (before later : List Submission) (requested : List Requested) (others : List Entry) (workers : ℕ) (reads : ℕ → List ReadEntry) (layers : ℕ → List (List ℕ))
    → RoundParts tree limits before later requested others workers reads layers → AllByRecursion (λ (p : Placed). FitsSeat p.event.seat p.event.by) (placed_from (length before + 1) later)
    → (lane : ℕ) → lines_answered lane others ≡ lines_requested lane requested
round_lines tree limits before later requested others workers reads layers round fits lane = by_order (cases_lt lane 8) where
  by_order : (lane < 8) ⊎ (8 ≤ lane) → lines_answered lane others ≡ lines_requested lane requested
  by_order (inl low) =
      let part = round.lanes lane low in
      let asks = lane_requests lane requested in
      let of = asks_of_lane lane requested round.ascend in
      lane_lines lane asks part.steps others round.order (steps_ascend lane tree limits (before ++ later) asks part.steps of part.answers part.in_turn)
      (ap (filter (λ (event : EventEntry). is_of_lane lane event.by)) round.events ∙ (lane_events lane (length before + 1) later low fits ∙ ap (map entry_of) (sym part.own)))
      (round.by_lane lane ∙ part.reads_are) (lane_on_lines lane tree limits (before ++ later) asks part.steps of part.answers)
  by_order (inr high) =
      no_lane_lines lane others round.order
      (ap (filter (λ (event : EventEntry). is_of_lane lane event.by)) round.events ∙ no_lane_events lane (length before + 1) later high fits)
      (round.by_lane lane ∙ round.no_lanes lane high)
      ∙ sym (ap (map (λ (r : Requested). r.line)) (no_requests lane requested high round.in_range))

-- ---- claims

-- the weights of seats from this one on are those of their lists
sum_jobs : (h f : ℕ → ℕ) (first : ℕ) (jobs : List (List ℕ)) (count : ℕ) → length jobs ≡ count → ((w : ℕ) → w < count → f (first + w) ≡ weigh h (get_or jobs w [])) → sum_seats f first count ≡ lists_weigh h jobs
sum_jobs h f first [] zero many all = refl
sum_jobs h f first [] (suc count) many all = absurd (omega (arith, many))
sum_jobs h f first (js ∷ jobs) zero many all = absurd (omega (arith, many))
sum_jobs h f first (js ∷ jobs) (suc count) many all =
    let at : first ≡ first + zero = omega arith in
    let here : f first ≡ weigh h js = ap f at ∙ all zero (omega arith) in
    let rest = sum_jobs h f (first + 1) jobs count (omega (arith, many))
    (λ w low. (let next : first + 1 + w ≡ first + suc w = omega arith in ap f next) ∙ all (suc w) (omega (arith, low))) in
    omega (arith, here, rest)

-- seats below a number that weigh nothing
sum_above : (f : ℕ → ℕ) (k count total : ℕ) → ((i : ℕ) → i < k → f i ≡ 0) → sum_seats f k count ≡ total → sum_seats f 0 (k + count) ≡ total
sum_above f k count total none some =
    let low = sum_zero f 0 k (λ i from to. none i (omega (arith, to))) in
    let place : 0 + k ≡ k = omega arith in
    let high = ap (λ at. sum_seats f at count) place in
    omega (arith, sum_split f 0 k count, low, high, some)

-- each layer of the queue is claimed once
round_claims : (tree : DeskTrees) (limits : Limits) (before later : List Submission) (requested : List Requested) (others : List Entry) (workers : ℕ) (reads : ℕ → List ReadEntry) (queue jobs : List (List ℕ))
    → RoundParts tree limits before later requested others workers reads (λ worker. layers_of queue (get_or jobs worker [])) → length jobs ≡ workers
    → ((h : ℕ → ℕ) → lists_weigh h jobs ≡ weigh_below h (length queue)) → (layer : List ℕ) → times layer (claims_of (events_of others)) ≡ times layer queue
round_claims tree limits before later requested others workers reads queue jobs round many weights layer =
    ap (λ events. times layer (claims_of events)) round.events
    ∙ (claims_by_seats layer (length before + 1) later (8 + workers) round.below
    ∙ (sum_above claimed 8 workers (lists_weigh found jobs) of_lane (sum_jobs found claimed 8 jobs workers many of_desk)
    ∙ (weights found ∙ queue_weighs layer queue))) where
      claimed : ℕ → ℕ
      claimed seat = times layer (claims_of (map entry_of (of_seat seat (length before + 1) later)))

      found : ℕ → ℕ
      found job = one_if (same layer (get_or queue job []))

      of_lane : (lane : ℕ) → lane < 8 → claimed lane ≡ 0
      of_lane lane low =
          let part = round.lanes lane low in
          ap (λ own. times layer (claims_of (map entry_of own))) (sym part.own) ∙ ap (times layer) (lane_claims tree limits (before ++ later) (lane_requests lane requested) part.steps part.answers)

      of_desk : (worker : ℕ) → worker < workers → claimed (8 + worker) ≡ weigh found (get_or jobs worker [])
      of_desk worker low =
          let part = round.desks worker low in
          ap (λ own. times layer (claims_of (map entry_of own))) (sym part.own_is) ∙ (ap (times layer) part.claims ∙ jobs_weigh layer queue (get_or jobs worker []))

-- claims are of workers
round_claimers : (tree : DeskTrees) (limits : Limits) (before later : List Submission) (requested : List Requested) (others : List Entry) (workers : ℕ) (reads : ℕ → List ReadEntry) (layers : ℕ → List (List ℕ))
    → RoundParts tree limits before later requested others workers reads layers → AllByRecursion (λ (event : EventEntry). ClaimsBelow workers event.by event.act) (events_of others)
round_claimers tree limits before later requested others workers reads layers round =
    subst (AllByRecursion (λ (event : EventEntry). ClaimsBelow workers event.by event.act)) (sym (round.events ∙ entries_placed (length before + 1) later))
    (all_entries (λ (event : EventEntry). ClaimsBelow workers event.by event.act) (placed_from (length before + 1) later)
    (each_known (λ seat p. ClaimsBelow workers p.event.by (act_name p.event.act)) (length before + 1) workers later round.below of_lane of_desk)) where
      of_lane : (lane : ℕ) → lane < 8 → AllByRecursion (λ (p : Placed). ClaimsBelow workers p.event.by (act_name p.event.act)) (of_seat lane (length before + 1) later)
      of_lane lane low =
          let part = round.lanes lane low in
          subst (AllByRecursion (λ (p : Placed). ClaimsBelow workers p.event.by (act_name p.event.act))) part.own
          (lane_below workers tree limits (before ++ later) (lane_requests lane requested) part.steps part.answers)

      of_desk : (worker : ℕ) → worker < workers → AllByRecursion (λ (p : Placed). ClaimsBelow workers p.event.by (act_name p.event.act)) (of_seat (8 + worker) (length before + 1) later)
      of_desk worker low =
          let part = round.desks worker low in
          subst (AllByRecursion (λ (p : Placed). ClaimsBelow workers p.event.by (act_name p.event.act))) part.own_is
          (all_weaker (IsByWorker worker) (λ (p : Placed). ClaimsBelow workers p.event.by (act_name p.event.act)) part.own
          (λ p h. subst (λ source. ClaimsBelow workers source (act_name p.event.act)) (sym h.0) (below_worker workers worker (act_name p.event.act) low)) part.by_worker)

-- each worker ends what it claimed
round_works : (tree : DeskTrees) (limits : Limits) (before later : List Submission) (requested : List Requested) (others : List Entry) (workers : ℕ) (reads : ℕ → List ReadEntry) (layers : ℕ → List (List ℕ))
    → RoundParts tree limits before later requested others workers reads layers → AllByRecursion (λ (p : Placed). FitsSeat p.event.seat p.event.by) (placed_from (length before + 1) later)
    → (worker : ℕ) → Works None (events_by worker (events_of others)) None
round_works tree limits before later requested others workers reads layers round fits worker = by_order (cases_lt worker workers) where
  by_order : (worker < workers) ⊎ (workers ≤ worker) → Works None (events_by worker (events_of others)) None
  by_order (inl low) =
      let part = round.desks worker low in
      subst (λ events. Works None events None)
      (sym (ap (events_by worker) round.events ∙ (worker_events worker (length before + 1) later fits ∙ ap (map entry_of) (sym part.own_is)))) part.works
  by_order (inr high) =
      subst (λ events. Works None events None) (sym (ap (events_by worker) round.events ∙ no_worker_events worker (length before + 1) later workers high round.below fits)) refl

-- ---- the legal round

pub round_legal : (tree : DeskTrees) (limits : Limits) (before later : List Submission) (lines : List Line) (last : ℕ) (taken : List ParsedLine) (others : List Entry) (workers : ℕ) (reads : List (List ReadEntry))
    (queue : List (List ℕ)) (jobs : List (List ℕ)) → StatesEveryLayer tree → AllZip IsTaken lines taken → LinesAscend lines last → AllByRecursion (λ r. r.request.lane < 8) (requests taken)
    → IsReplayed tree limits (before ++ later) → AllByRecursion (λ e. e.seat < 8 + workers) later
    → ((lane : ℕ) → lane < 8 → LanePart tree limits before later (requests taken) lane (get_or reads lane [])) → length reads ≡ 8
    → ((worker : ℕ) → worker < workers → WorkerPart before later worker (layers_of queue (get_or jobs worker []))) → length jobs ≡ workers
    → ((h : ℕ → ℕ) → lists_weigh h jobs ≡ weigh_below h (length queue)) → queue ≡ queued (state_of (trees_of tree) limits before).layers
    → events_of others ≡ entries_from (length before + 1) later → ((lane : ℕ) → reads_by lane (reads_of others) ≡ get_or reads lane []) → AreAscending others
    → IsLegalRound (trees_of tree) workers (moment_of (trees_of tree) limits before) lines (refusals taken ++ others) (moment_of (trees_of tree) limits (before ++ later))
round_legal tree limits before later lines last taken others workers reads queue jobs known read ascend few replayed below lanes eight desks many weights queue_is events by_lane order =
    let requested = requests taken in
    let reads_at : ℕ → List ReadEntry = λ lane. get_or reads lane [] in
    let layers_at : ℕ → List (List ℕ) = λ worker. layers_of queue (get_or jobs worker []) in
    let round : RoundParts tree limits before later requested others workers reads_at layers_at = record {
      known = known;
      ascend = requests_ascend lines last taken read ascend;
      in_range = few;
      below = below;
      lanes = lanes;
      no_lanes = λ lane high. get_or_past reads lane [] (omega (arith, eight, high));
      desks = desks;
      events = events;
      by_lane = by_lane;
      order = order;
    } in
    let fits = round_fits tree limits before later requested workers reads_at layers_at below lanes desks in
    record {
      taken = taken;
      answers = read;
      others = others;
      parts = refl;
      replays = replays (trees_of tree) limits before later requested others order events (replayed known)
          (round_sourced tree limits before later requested others workers reads_at layers_at round) (round_seen tree limits before later requested others workers reads_at layers_at round);
      ordered = reads_in_order others order;
      lanes = round_lines tree limits before later requested others workers reads_at layers_at round fits;
      claims = λ layer. round_claims tree limits before later requested others workers reads_at queue jobs round many weights layer ∙ ap (times layer) queue_is;
      claimers = round_claimers tree limits before later requested others workers reads_at layers_at round;
      works = round_works tree limits before later requested others workers reads_at layers_at round fits;
    }

-- ---- desks

-- the events of a worker are all of its seat
desk_events : (before later : List Submission) (worker : ℕ) (others : List Entry) (taken : List ParsedLine) (own : List Placed) → own ≡ of_seat (8 + worker) (length before + 1) later
    → events_of others ≡ entries_from (length before + 1) later → AllByRecursion (λ (p : Placed). FitsSeat p.event.seat p.event.by) (placed_from (length before + 1) later)
    → events_by worker (events_of (refusals taken ++ others)) ≡ map entry_of own
desk_events before later worker others taken own is events fits =
    ap (events_by worker) (no_events taken others ∙ events) ∙ (worker_events worker (length before + 1) later fits ∙ ap (map entry_of) (sym is))

-- so it has as many granted claims, and as many faults
pub desk_counted : (before later : List Submission) (worker : ℕ) (others : List Entry) (taken : List ParsedLine) (own : List Placed) → own ≡ of_seat (8 + worker) (length before + 1) later
    → events_of others ≡ entries_from (length before + 1) later → AllByRecursion (λ (p : Placed). FitsSeat p.event.seat p.event.by) (placed_from (length before + 1) later)
    → (grant_count (events_by worker (events_of (refusals taken ++ others))) ≡ grant_count (map entry_of own))
    × (fault_count (events_by worker (events_of (refusals taken ++ others))) ≡ fault_count (map entry_of own))
desk_counted before later worker others taken own is events fits =
    let all = desk_events before later worker others taken own is events fits in (ap grant_count all, ap fault_count all)

-- a worker's desk listed a layer for each granted claim in the round's entries, and failed for each fault there
pub desk_rose : (before later : List Submission) (worker : ℕ) (layers : List (List ℕ)) (mid end : SeatView) (l f m g : ℕ) (others : List Entry) (taken : List ParsedLine) → mid.index ≡ 8 + worker
    → length before ≤ length mid.list → IsPrefix end.list (before ++ later) → made_by mid.index before ≡ mid.count → made_by end.index (before ++ later) ≡ end.count
    → WorkerDid worker layers mid l f end m g → events_of others ≡ entries_from (length before + 1) later
    → AllByRecursion (λ (p : Placed). FitsSeat p.event.seat p.event.by) (placed_from (length before + 1) later)
    → (m ≡ l + grant_count (events_by worker (events_of (refusals taken ++ others)))) × RoseBy (fault_count (events_by worker (events_of (refusals taken ++ others)))) f g
desk_rose before later worker layers mid end l f m g others taken is long seen first last did events fits =
    let part = desk_counted before later worker others taken did.own (own_of before later (8 + worker) mid end did.own is long seen first last did.made) events fits in
    (did.listed ∙ ap (λ count. l + count) (sym part.0), subst (λ (count : ℕ). RoseBy count f g) (sym part.1) did.failed)
