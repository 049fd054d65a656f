-- A round, from what its calls ensure.
use Rattle.std.specs.Prelude.{IfOk, OnOk}
use Rattle.std.proofs.Common.{◌≡◌, ℕ, zero, suc, ◌+◌, ◌<◌, ◌≤◌, ◌⊎◌, inl, inr, Result, Ok, Err, List, [], ◌∷◌, ◌++◌, drop, get_or, length, map, take, refl, ap, sym, subst, ◌∙◌, arith}
use Rattle.std.specs.List.{AllByRecursion, AllZip}
use Rattle.std.proofs.lemmas.Bool.{cases_lt}
use Rattle.std.proofs.lemmas.List.{get_or_past, length-map}
use mathlib.Core.List.{IsPrefix}
use Rattle.cv_base.specs.Lines.{Line}
use Rattle.cv_base.proofs.AllItems.{all_back}
use Rattle.cv_core_records.specs.declared.event.EventEntry.{EventEntry}
use Rattle.cv_core_records.specs.declared.read.ReadEntry.{ReadEntry}
use Rattle.cv_transcript.specs.Order.{AreAscending, AreByLane, AreOfLane, Precedes, events_of, reads_by, reads_of}
use Rattle.cv_transcript.specs.declared.entry.Entry.{Entry}
use Rattle.cv_transcript.specs.declared.entry.Entry.TheVariants as entry
use Rattle.cv_core_machine.specs.History.{event_entry}
use Rattle.cv_core_machine.specs.Layers.{queued}
use Rattle.cv_core_machine.specs.Scans.{StatesEveryLayer, trees_of}
use Rattle.cv_core_machine.specs.declared.limits.Limits.{Limits}
use Rattle.cv_serve_legal.specs.Round.{IsLegalRound}
use Rattle.cv_serve_legal.specs.ParsedLine.{IsTaken, refusals, requests}
use Rattle.cv_serve_legal.specs.code.Segment.{lane_requests}
use Rattle.cv_serve_legal.specs.Served.{LinesAscend}
use Rattle.cv_serve_legal.specs.declared.parsed_line.Requested.{Requested}
use Rattle.cv_serve_legal.specs.declared.parsed_line.ParsedLine.{ParsedLine}
use Rattle.cv_serve_legal.proofs.Assembled.{RequestsAscend, requests_ascend}
use Rattle.cv_pool.specs.Hands.{HandState, lists_of}
use Rattle.cv_pool.specs.Jobs.{lists_weigh, weigh_below}
use Rattle.cv_serve_dealing.specs.Sound.{IsSoundRequest}
use Rattle.cv_serve_dealing.specs.code.Dealt.{AreDealt}
use Rattle.cv_serve_dealing.specs.declared.lane.Lane.{Lane}
use Rattle.cv_serve_dealing.proofs.DealLemmas.{low_lanes}
use Rattle.cv_serve_lanes.specs.Events.{DeskTrees, IsReplayed, entries_from, state_of}
use Rattle.cv_serve_lanes.specs.Seats.{AreAllReceipts, AreNumbered, HaveSeen, SeatView}
use Rattle.cv_serve_lanes.specs.code.Own.{Submission}
use Rattle.cv_serve_lanes.specs.code.Lane.{LanesDid}
use Rattle.cv_serve_lanes.specs.code.Refreshed.{AreRefreshed}
use Rattle.cv_serve_lanes.specs.code.Worker.{WorkersDid, layers_of}
use Rattle.cv_serve_round.specs.Round.{DesksCounted, moment_of}
use Rattle.cv_serve_round.specs.code.Ran.{RoundRan}
use Rattle.cv_serve_round.specs.code.Begun.{AreEnded}
use Rattle.cv_serve_round.specs.code.Parts.{LanePart, WorkerPart}
use Rattle.cv_serve_round.proofs.LaneLineLemmas.{asks_of_lane, reads_in_lane}
use Rattle.cv_serve_round.proofs.LegalRoundLemmas.{round_fits, round_legal}
use Rattle.cv_serve_round.proofs.WalkLemmas.{begun, begun_drop, begun_take, desks_counted, each_lane_part, each_worker_part, ended, ended_drop, ended_take, numbered_all, numbered_lanes, numbered_workers}

-- ---- lists

pub took_many : {A : Type 0} (k m : ℕ) (xs : List A) → length xs ≡ k + m → length (take k xs) ≡ k
took_many zero m xs is = refl
took_many (suc k) m [] is = absurd (omega (arith, is))
took_many (suc k) m (x ∷ xs) is = ap suc (took_many k m xs (omega (arith, is)))

pub whole_of : {A : Type 0} (xs ys : List A) → IsPrefix xs ys → ys ≡ xs ++ drop (length xs) ys
whole_of [] ys begins = refl
whole_of (x ∷ xs) [] begins = absurd (cc (begins.1))
whole_of (x ∷ xs) (y ∷ ys) begins =
    let tail = whole_of xs ys (begins.0, cc (begins.1)) in
    let first : y ≡ x = cc (begins.1) in
    ap (λ z. z ∷ ys) first ∙ ap (λ zs. x ∷ zs) tail

-- what was written back over a list of the same length
pub front_is : {A : Type 0} (n : ℕ) (xs ys : List A) → n ≡ length xs → take n (xs ++ ys) ≡ xs
front_is zero [] ys is = refl
front_is (suc n) [] ys is = absurd (omega (arith, is))
front_is zero (x ∷ xs) ys is = absurd (omega (arith, is))
front_is (suc n) (x ∷ xs) ys is = ap (λ zs. x ∷ zs) (front_is n xs ys (omega (arith, is)))

-- ---- the lanes and the workers

module _ {D : Type 0} (listings faults : D → ℕ) (tree : DeskTrees) (limits : Limits) (before : List Submission) (requested : List Requested) (queue : List (List ℕ)) (olds mids ends : List SeatView) (lanes lanes_after : List Lane) (hands : List HandState) (ds es : List D) where
  -- what the calls up to the taking of the events ensure
  pub record Worked : Type 0 where
    pub seats : length olds ≡ 8 + length ds
    pub numbered : AreNumbered 0 olds
    pub receipts : AreAllReceipts before olds
    pub fresh : AreRefreshed before olds mids
    pub mids_many : length mids ≡ length olds
    pub ends_many : length ends ≡ length mids
    pub eight : length lanes ≡ 8
    pub dealt : AreDealt 0 requested lanes
    pub lanes_many : length lanes_after ≡ length lanes
    pub lanes_did : LanesDid tree limits (take (length lanes) mids) (take (length lanes) ends) lanes lanes_after
    pub workers_did : WorkersDid listings faults queue 0 hands (drop (length lanes) mids) (drop (length lanes) ends) ds es
    pub hands_many : length hands ≡ length ds

  -- the same, from what they ensure of the slice of the lanes
  pub worked_by : (slice : List Lane) → slice ≡ lanes → length olds ≡ 8 + length ds → AreNumbered 0 olds → AreAllReceipts before olds → AreRefreshed before olds mids → length mids ≡ length olds
      → length ends ≡ length mids → length lanes ≡ 8 → AreDealt 0 requested lanes → length lanes_after ≡ length slice → LanesDid tree limits (take (length slice) mids) (take (length slice) ends) slice lanes_after
      → WorkersDid listings faults queue 0 hands (drop (length slice) mids) (drop (length slice) ends) ds es → length hands ≡ length ds → Worked
  worked_by slice is seats numbered receipts fresh mids_many ends_many eight dealt lanes_many lanes_did workers_did hands_many = record {
    seats = seats;
    numbered = numbered;
    receipts = receipts;
    fresh = fresh;
    mids_many = mids_many;
    ends_many = ends_many;
    eight = eight;
    dealt = dealt;
    lanes_many = lanes_many ∙ ap length is;
    lanes_did = subst (λ (ls : List Lane). LanesDid tree limits (take (length ls) mids) (take (length ls) ends) ls lanes_after) is lanes_did;
    workers_did = subst (λ (ls : List Lane). WorkersDid listings faults queue 0 hands (drop (length ls) mids) (drop (length ls) ends) ds es) is workers_did;
    hands_many = hands_many;
  }

  pub ends_numbered : Worked → AreNumbered 0 ends
  ends_numbered w =
      let start = begun before 0 olds mids w.numbered w.receipts w.fresh in
      let k = length lanes in
      let mids_are : length mids ≡ k + length ds = omega (arith, w.mids_many, w.seats, w.eight) in
      let ends_are : length ends ≡ k + length ds = omega (arith, w.ends_many, mids_are) in
      numbered_all k 0 ends
      (numbered_lanes tree limits before 0 (take k mids) (take k ends) lanes lanes_after (begun_take before k 0 mids start) (took_many k (length ds) ends ends_are) (took_many k (length ds) mids mids_are)
      w.lanes_many w.lanes_did)
      (numbered_workers listings faults queue before (0 + k) 0 hands (drop k mids) (drop k ends) ds es (begun_drop before k 0 mids start) w.workers_did)

  pub ran_of : (whole : List Submission) (jobs : List (List ℕ)) (events : List EventEntry) → Worked → jobs ≡ lists_of hands → ((h : ℕ → ℕ) → lists_weigh h jobs ≡ weigh_below h (length queue))
      → IsPrefix before whole → IsReplayed tree limits whole → events ≡ entries_from (length before + 1) (drop (length before) whole) → HaveSeen whole ends → AreAllReceipts whole ends
      → AllByRecursion (λ (e : Submission). e.seat < length ends) whole → RoundRan tree limits listings faults before whole requested queue ds es events lanes_after
  ran_of whole jobs events w jobs_are weights begins replayed events_are seen receipts below =
      let later = drop (length before) whole in
      let is : whole ≡ before ++ later = whole_of before whole begins in
      let start = begun before 0 olds mids w.numbered w.receipts w.fresh in
      let end : AreEnded (before ++ later) ends = subst (λ (list : List Submission). AreEnded list ends) is (ended whole ends seen receipts) in
      let k = length lanes in
      let eight : k ≡ 8 = w.eight in
      let mids_are : length mids ≡ k + length ds = omega (arith, w.mids_many, w.seats, w.eight) in
      let ends_are : length ends ≡ k + length ds = omega (arith, w.ends_many, mids_are) in
      let seats_are : length ends ≡ 8 + length ds = omega (arith, ends_are, eight) in
      let place : 0 + k ≡ 8 + 0 = omega (arith, eight) in
      let low : AllByRecursion (λ (e : Submission). e.seat < 8 + length ds) later =
      subst (λ (n : ℕ). AllByRecursion (λ (e : Submission). e.seat < n) later) seats_are
      (all_back (λ (e : Submission). e.seat < length ends) before later (subst (AllByRecursion (λ (e : Submission). e.seat < length ends)) is below)) in
      let lanes_at = each_lane_part tree limits before later requested 0 (take k mids) (take k ends) lanes lanes_after (begun_take before k 0 mids start) (ended_take (before ++ later) k ends end) w.dealt
      (took_many k (length ds) ends ends_are) (took_many k (length ds) mids mids_are) w.lanes_many w.lanes_did in
      let lane_parts : (lane : ℕ) → lane < 8 → LanePart tree limits before later requested lane (get_or (map (λ (l : Lane). l.reads.items) lanes_after) lane []) =
      λ lane less. subst (λ (i : ℕ). LanePart tree limits before later requested i (get_or (map (λ (l : Lane). l.reads.items) lanes_after) lane [])) (omega arith) (lanes_at lane (omega (arith, less, eight))) in
      let workers_at = each_worker_part listings faults queue before later (0 + k) 0 hands (drop k mids) (drop k ends) ds es place (begun_drop before k 0 mids start) (ended_drop (before ++ later) k ends end) w.workers_did in
      let worker_parts : (worker : ℕ) → worker < length ds → WorkerPart before later worker (layers_of queue (get_or jobs worker [])) =
      λ worker less. subst (λ (js : List (List ℕ)). WorkerPart before later worker (layers_of queue (get_or js worker []))) (sym jobs_are)
      (subst (λ (i : ℕ). WorkerPart before later i (layers_of queue (get_or (lists_of hands) worker []))) (omega arith) (workers_at worker (let many = w.hands_many in omega (arith, less, many)))) in
      let fits = round_fits tree limits before later requested (length ds) (λ lane. get_or (map (λ (l : Lane). l.reads.items) lanes_after) lane []) (λ worker. layers_of queue (get_or jobs worker [])) low lane_parts worker_parts in
      record {
        later = later;
        whole_is = is;
        replayed = subst (IsReplayed tree limits) is replayed;
        below = low;
        lane_parts = lane_parts;
        eight = w.lanes_many ∙ eight;
        jobs = jobs;
        worker_parts = worker_parts;
        many = ap length jobs_are ∙ (length-map hands (λ (h : HandState). h.list) ∙ w.hands_many);
        weights = weights;
        events_are = events_are;
        desks_counted = λ others taken is_events.
            desks_counted listings faults queue before later others taken (0 + k) 0 hands (drop k mids) (drop k ends) ds es place (begun_drop before k 0 mids start) (ended_drop (before ++ later) k ends end)
            w.workers_did is_events fits;
      }

-- ---- the entries

-- the lanes' reads, by lane
reads_by_lane : (tree : DeskTrees) (limits : Limits) (before later : List Submission) (requested : List Requested) (reads : List (List ReadEntry)) → RequestsAscend requested → length reads ≡ 8
    → ((lane : ℕ) → lane < 8 → LanePart tree limits before later requested lane (get_or reads lane [])) → AreByLane reads
reads_by_lane tree limits before later requested reads ascend eight lanes lane = by_order (cases_lt lane 8) where
  by_order : (lane < 8) ⊎ (8 ≤ lane) → AreOfLane lane (get_or reads lane [])
  by_order (inl low) =
      let part = lanes lane low in
      subst (AreOfLane lane) (sym part.reads_are) (reads_in_lane lane tree limits (before ++ later) (lane_requests lane requested) part.steps (asks_of_lane lane requested ascend) part.answers part.in_turn)
  by_order (inr high) = subst (AreOfLane lane) (sym (get_or_past reads lane [] (omega (arith, eight, high)))) (record { lanes = tt; ascending = tt })

numbers_above : (first : EventEntry) (m : ℕ) (list : List Submission) → first.number < m → AllByRecursion (Precedes (entry.Event first)) (map entry.Event (entries_from m list))
numbers_above first m [] less = tt
numbers_above first m (e ∷ list) less = (less, numbers_above first (m + 1) list (omega (arith, less)))

-- events stand by their numbers
events_ascend : (m : ℕ) (list : List Submission) → AreAscending (map entry.Event (entries_from m list))
events_ascend m [] = tt
events_ascend m (e ∷ list) = (tt, numbers_above (event_entry m e.by e.act e.reply) (m + 1) list (omega arith), events_ascend (m + 1) list)

module _ {D : Type 0} (listings faults : D → ℕ) (tree : DeskTrees) (limits : Limits) (before whole : List Submission) (taken : List ParsedLine) (requested : List Requested) (queue : List (List ℕ)) (ds es : List D) (events : List EventEntry) (lanes : List Lane) (reads : List (List ReadEntry)) (refused others all : List Entry) where
  -- what the calls of a round ensure
  pub record Joined : Type 0 where
    pub ran : RoundRan tree limits listings faults before whole requested queue ds es events lanes
    pub requested_is : requested ≡ requests taken
    pub sound : AllByRecursion IsSoundRequest requested
    pub queue_is : StatesEveryLayer tree → queue ≡ queued (state_of (trees_of tree) limits before).layers
    pub reads_are : reads ≡ map (λ (l : Lane). l.reads.items) lanes
    pub events_are : events_of others ≡ events
    pub by_lane : AreByLane reads → (lane : ℕ) → reads_by lane (reads_of others) ≡ get_or reads lane []
    pub order : AreAscending (map entry.Event events) → AreByLane reads → AreAscending others
    pub refused_is : refused ≡ refusals taken
    pub all_is : all ≡ refused ++ others

  joined_is : Joined → all ≡ refusals taken ++ others
  joined_is j = j.all_is ∙ ap (λ rs. rs ++ others) j.refused_is

  pub joined_desks : Joined → DesksCounted listings faults 0 ds es all
  joined_desks j = subst (DesksCounted listings faults 0 ds es) (sym (joined_is j)) (j.ran.desks_counted others taken (j.events_are ∙ j.ran.events_are))

  pub joined_legal : Joined → StatesEveryLayer tree → (lines : List Line) (last : ℕ) → AllZip IsTaken lines taken → LinesAscend lines last
      → IsLegalRound (trees_of tree) (length ds) (moment_of (trees_of tree) limits before) lines all (moment_of (trees_of tree) limits whole)
  joined_legal j known lines last read ascend =
      let ran = j.ran in
      let later = ran.later in
      let eight : length reads ≡ 8 = ap length j.reads_are ∙ (length-map lanes (λ (l : Lane). l.reads.items) ∙ ran.eight) in
      let few : AllByRecursion (λ (r : Requested). r.request.lane < 8) (requests taken) = subst (AllByRecursion (λ (r : Requested). r.request.lane < 8)) j.requested_is (low_lanes requested j.sound) in
      let lane_parts : (lane : ℕ) → lane < 8 → LanePart tree limits before later (requests taken) lane (get_or reads lane []) =
      λ lane low. subst (λ (rs : List (List ReadEntry)). LanePart tree limits before later (requests taken) lane (get_or rs lane [])) (sym j.reads_are)
      (subst (λ (qs : List Requested). LanePart tree limits before later qs lane (get_or (map (λ (l : Lane). l.reads.items) lanes) lane [])) j.requested_is (ran.lane_parts lane low)) in
      let by = reads_by_lane tree limits before later (requests taken) reads (requests_ascend lines last taken read ascend) eight lane_parts in
      let order = j.order (subst (λ (vs : List EventEntry). AreAscending (map entry.Event vs)) (sym ran.events_are) (events_ascend (length before + 1) later)) by in
      subst (λ (es : List Entry). IsLegalRound (trees_of tree) (length ds) (moment_of (trees_of tree) limits before) lines es (moment_of (trees_of tree) limits whole)) (sym (joined_is j))
      (subst (λ (list : List Submission). IsLegalRound (trees_of tree) (length ds) (moment_of (trees_of tree) limits before) lines (refusals taken ++ others) (moment_of (trees_of tree) limits list)) (sym ran.whole_is)
      (round_legal tree limits before later lines last taken others (length ds) reads queue ran.jobs known read ascend few ran.replayed ran.below lane_parts eight ran.worker_parts ran.many ran.weights (j.queue_is known)
      (j.events_are ∙ ran.events_are) (j.by_lane by) order))

-- ---- answers

pub if_ok : {X E : Type 0} {P Q : X → Type 0} (r : Result X E) → IfOk r P → ((x : X) → P x → Q x) → IfOk r Q
if_ok (Ok x) h f = f x h
if_ok (Err e) h f = tt

pub ok_of : {X E : Type 0} {P : Type 0} (r : Result X E) → P → OnOk r P
ok_of (Ok x) h = h
ok_of (Err e) h = tt
