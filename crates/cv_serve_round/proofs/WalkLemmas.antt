-- From what lanes and workers did at their seats in turn to what is known of each by its number.
use Rattle.std.proofs.Common.{◌≡◌, ℕ, zero, suc, ◌+◌, ◌^◌, ◌<◌, ◌≤◌, ◌||◌, true, List, [], ◌∷◌, ◌++◌, drop, get_or, length, map, take, refl, ap, sym, subst, ◌∙◌, arith}
use Rattle.std.specs.List.{AllByRecursion}
use Rattle.cv_core_records.specs.declared.read.ReadEntry.{ReadEntry}
use Rattle.cv_transcript.specs.Order.{events_of}
use Rattle.cv_transcript.specs.declared.entry.Entry.{Entry}
use Rattle.cv_core_machine.specs.declared.limits.Limits.{Limits}
use Rattle.cv_serve_legal.specs.ParsedLine.{refusals}
use Rattle.cv_serve_legal.specs.code.Segment.{lane_requests}
use Rattle.cv_serve_legal.specs.declared.parsed_line.Requested.{Requested}
use Rattle.cv_serve_legal.specs.declared.parsed_line.ParsedLine.{ParsedLine}
use Rattle.cv_pool.specs.Hands.{Fill, HandState, any_done, lists_of, new_hands}
use Rattle.cv_serve_dealing.specs.code.Dealt.{AreDealt}
use Rattle.cv_serve_dealing.specs.declared.lane.Lane.{Lane}
use Rattle.cv_serve_lanes.specs.Events.{DeskTrees, entries_from}
use Rattle.cv_serve_lanes.specs.Seats.{AreAllReceipts, AreNumbered, HaveSeen, SeatView, made_by}
use Rattle.cv_serve_lanes.specs.code.Own.{Placed, Submission}
use Rattle.cv_serve_lanes.proofs.Prefixes.{prefix_length}
use Rattle.cv_serve_lanes.specs.code.Lane.{LaneDid, LanesDid}
use Rattle.cv_serve_lanes.specs.code.Refreshed.{AreRefreshed}
use Rattle.cv_serve_lanes.specs.code.Worker.{AreDone, AreHandsPrepared, HaveRoom, WorkersDid, layers_of}
use Rattle.cv_serve_round.specs.Round.{DesksCounted}
use Rattle.cv_serve_round.specs.code.Begun.{AreBegun, AreEnded}
use Rattle.cv_serve_round.specs.code.Parts.{FitsSeat, LanePart, WorkerPart, placed_from}
use Rattle.cv_serve_round.proofs.LegalRoundLemmas.{desk_rose, lane_part, worker_part}

-- ---- the seats before

pub begun : (list : List Submission) (n : ℕ) (olds mids : List SeatView) → AreNumbered n olds → AreAllReceipts list olds → AreRefreshed list olds mids → AreBegun list n mids
begun list n [] [] numbered receipts fresh = tt
begun list n [] (m ∷ mids) numbered receipts fresh = absurd fresh
begun list n (o ∷ olds) [] numbered receipts fresh = absurd fresh
begun list n (o ∷ olds) (m ∷ mids) numbered receipts fresh = (
  fresh.0 ∙ numbered.0,
  prefix_length list m.list fresh.2,
  ap (λ index. made_by index list) fresh.0 ∙ (receipts.0 ∙ sym fresh.1),
  begun list (n + 1) olds mids numbered.1 receipts.1 fresh.4,
)

pub begun_take : (list : List Submission) (k n : ℕ) (mids : List SeatView) → AreBegun list n mids → AreBegun list n (take k mids)
begun_take list zero n mids h = tt
begun_take list (suc k) n [] h = tt
begun_take list (suc k) n (m ∷ mids) h = (h.0, h.1, h.2, begun_take list k (n + 1) mids h.3)

pub begun_drop : (list : List Submission) (k n : ℕ) (mids : List SeatView) → AreBegun list n mids → AreBegun list (n + k) (drop k mids)
begun_drop list zero n mids h = subst (λ (i : ℕ). AreBegun list i mids) (omega arith) h
begun_drop list (suc k) n [] h = tt
begun_drop list (suc k) n (m ∷ mids) h = subst (λ (i : ℕ). AreBegun list i (drop k mids)) (omega arith) (begun_drop list k (n + 1) mids h.3)

-- ---- the seats after

pub ended : (list : List Submission) (ends : List SeatView) → HaveSeen list ends → AreAllReceipts list ends → AreEnded list ends
ended list [] seen receipts = tt
ended list (e ∷ ends) seen receipts = (seen.0, receipts.0, ended list ends seen.1 receipts.1)

pub ended_take : (list : List Submission) (k : ℕ) (ends : List SeatView) → AreEnded list ends → AreEnded list (take k ends)
ended_take list zero ends h = tt
ended_take list (suc k) [] h = tt
ended_take list (suc k) (e ∷ ends) h = (h.0, h.1, ended_take list k ends h.2)

pub ended_drop : (list : List Submission) (k : ℕ) (ends : List SeatView) → AreEnded list ends → AreEnded list (drop k ends)
ended_drop list zero ends h = h
ended_drop list (suc k) [] h = tt
ended_drop list (suc k) (e ∷ ends) h = ended_drop list k ends h.2

-- ---- numbers

pub numbered_lanes : (tree : DeskTrees) (limits : Limits) (list : List Submission) (n : ℕ) (mids ends : List SeatView) (lanes lanes_after : List Lane) → AreBegun list n mids
    → length ends ≡ length lanes → length mids ≡ length lanes → length lanes_after ≡ length lanes → LanesDid tree limits mids ends lanes lanes_after → AreNumbered n ends
numbered_lanes tree limits list n mids [] lanes lanes_after b many same all h = tt
numbered_lanes tree limits list n mids (e ∷ ends) [] lanes_after b many same all h = absurd (omega (arith, many))
numbered_lanes tree limits list n [] (e ∷ ends) (l ∷ lanes) lanes_after b many same all h = absurd (omega (arith, same))
numbered_lanes tree limits list n (m ∷ mids) (e ∷ ends) (l ∷ lanes) [] b many same all h = absurd (omega (arith, all))
numbered_lanes tree limits list n (m ∷ mids) (e ∷ ends) (l ∷ lanes) (k ∷ lanes_after) b many same all h =
    (h.0.1.made.index_is ∙ b.0, numbered_lanes tree limits list (n + 1) mids ends lanes lanes_after b.3 (omega (arith, many)) (omega (arith, same)) (omega (arith, all)) h.1)

pub numbered_all : (k n : ℕ) (ends : List SeatView) → AreNumbered n (take k ends) → AreNumbered (n + k) (drop k ends) → AreNumbered n ends
numbered_all zero n ends low high = subst (λ (i : ℕ). AreNumbered i ends) (omega arith) high
numbered_all (suc k) n [] low high = tt
numbered_all (suc k) n (e ∷ ends) low high = (low.0, numbered_all k (n + 1) ends low.1 (subst (λ (i : ℕ). AreNumbered i (drop k ends)) (omega arith) high))

-- ---- lanes

-- what a lane did with its requests
one_did : (tree : DeskTrees) (limits : Limits) (asks : List Requested) (mid end : SeatView) (reads reads_now : List ReadEntry) (given : List Requested) → given ≡ asks → reads ≡ []
    → LaneDid tree limits given mid reads end reads_now → LaneDid tree limits asks mid [] end reads_now
one_did tree limits asks mid end reads reads_now given is none h =
    subst (λ (rs : List ReadEntry). LaneDid tree limits asks mid rs end reads_now) none (subst (λ (qs : List Requested). LaneDid tree limits qs mid reads end reads_now) is h)

pub each_lane_part : (tree : DeskTrees) (limits : Limits) (before later : List Submission) (requested : List Requested) (n : ℕ) (mids ends : List SeatView) (lanes lanes_after : List Lane)
    → AreBegun before n mids → AreEnded (before ++ later) ends → AreDealt n requested lanes
    → length ends ≡ length lanes → length mids ≡ length lanes → length lanes_after ≡ length lanes → LanesDid tree limits mids ends lanes lanes_after
    → (k : ℕ) → k < length lanes → LanePart tree limits before later requested (n + k) (get_or (map (λ (lane : Lane). lane.reads.items) lanes_after) k [])
each_lane_part tree limits before later requested n mids ends [] lanes_after b e d many same all h k low = absurd (omega (arith, low))
each_lane_part tree limits before later requested n [] ends (l ∷ lanes) lanes_after b e d many same all h k low = absurd (omega (arith, same))
each_lane_part tree limits before later requested n (m ∷ mids) [] (l ∷ lanes) lanes_after b e d many same all h k low = absurd (omega (arith, many))
each_lane_part tree limits before later requested n (m ∷ mids) (x ∷ ends) (l ∷ lanes) [] b e d many same all h k low = absurd (omega (arith, all))
each_lane_part tree limits before later requested n (m ∷ mids) (x ∷ ends) (l ∷ lanes) (t ∷ lanes_after) b e d many same all h zero low =
    subst (λ (i : ℕ). LanePart tree limits before later requested i t.reads.items) (omega arith)
    (lane_part tree limits before later requested n m x t.reads.items b.0 b.1 e.0 b.2 e.1
    (one_did tree limits (lane_requests n requested) m x l.reads.items t.reads.items l.requested.items d.0.1 d.0.2 h.0.1))
each_lane_part tree limits before later requested n (m ∷ mids) (x ∷ ends) (l ∷ lanes) (t ∷ lanes_after) b e d many same all h (suc k) low =
    subst (λ (i : ℕ). LanePart tree limits before later requested i (get_or (map (λ (lane : Lane). lane.reads.items) lanes_after) k [])) (omega arith)
    (each_lane_part tree limits before later requested (n + 1) mids ends lanes lanes_after b.3 e.2 d.1 (omega (arith, many)) (omega (arith, same)) (omega (arith, all)) h.1 k (omega (arith, low)))

-- ---- hands

pub new_prepared : (fill : Fill) (jobs from n : ℕ) → fill.jobs ≡ jobs → AreHandsPrepared jobs (new_hands fill from n)
new_prepared fill jobs from zero is = tt
new_prepared fill jobs from (suc n) is = ((is, refl), new_prepared fill jobs (from + 1) n is)

pub new_many : (fill : Fill) (from n : ℕ) → length (new_hands fill from n) ≡ n
new_many fill from zero = refl
new_many fill from (suc n) = ap suc (new_many fill (from + 1) n)

pub done_any : (hands : List HandState) → 1 ≤ length hands → AreDone hands → any_done hands ≡ true
done_any [] some done = absurd (omega (arith, some))
done_any (h ∷ hands) some done = ap (λ b. b || any_done hands) done.0

-- ---- workers

module _ {D : Type 0} (listings faults : D → ℕ) (queue : List (List ℕ)) where
  pub room_begun : (before : List Submission) (n : ℕ) (mids : List SeatView) (desks : List D) → AreBegun before n mids → length mids ≡ length desks
      → AllByRecursion (λ desk. listings desk ≤ 2 ^ 62 + length before) desks → HaveRoom listings mids desks
  room_begun before n [] [] b same room = tt
  room_begun before n [] (d ∷ desks) b same room = absurd (omega (arith, same))
  room_begun before n (m ∷ mids) [] b same room = absurd (omega (arith, same))
  room_begun before n (m ∷ mids) (d ∷ desks) b same room =
      let here : listings d ≤ 2 ^ 62 + length before = room.0 in
      let long : length before ≤ length m.list = b.1 in
      (omega (arith, here, long), room_begun before (n + 1) mids desks b.3 (omega (arith, same)) room.1)

  pub room_ended : (whole : List Submission) (ends : List SeatView) (desks : List D) → AreEnded whole ends → HaveRoom listings ends desks
      → AllByRecursion (λ desk. listings desk ≤ 2 ^ 62 + length whole) desks
  room_ended whole [] [] e room = tt
  room_ended whole [] (d ∷ desks) e room = absurd room
  room_ended whole (x ∷ ends) [] e room = absurd room
  room_ended whole (x ∷ ends) (d ∷ desks) e room =
      let here : listings d ≤ 2 ^ 62 + length x.list = room.0 in
      let long = prefix_length x.list whole e.0 in
      (omega (arith, here, long), room_ended whole ends desks e.2 room.1)

  pub numbered_workers : (before : List Submission) (n worker : ℕ) (hands : List HandState) (mids ends : List SeatView) (desks desks_after : List D) → AreBegun before n mids
      → WorkersDid listings faults queue worker hands mids ends desks desks_after → AreNumbered n ends
  numbered_workers before n worker hands mids [] desks desks_after b h = tt
  numbered_workers before n worker [] [] (x ∷ ends) desks desks_after b h = absurd h
  numbered_workers before n worker [] (m ∷ mids) (x ∷ ends) desks desks_after b h = absurd h
  numbered_workers before n worker (k ∷ hands) [] (x ∷ ends) desks desks_after b h = absurd h
  numbered_workers before n worker (k ∷ hands) (m ∷ mids) (x ∷ ends) [] desks_after b h = absurd h
  numbered_workers before n worker (k ∷ hands) (m ∷ mids) (x ∷ ends) (d ∷ desks) [] b h = absurd h
  numbered_workers before n worker (k ∷ hands) (m ∷ mids) (x ∷ ends) (d ∷ desks) (f ∷ desks_after) b h =
      (h.0.made.index_is ∙ b.0, numbered_workers before (n + 1) (worker + 1) hands mids ends desks desks_after b.3 h.1)

  pub each_worker_part : (before later : List Submission) (n worker : ℕ) (hands : List HandState) (mids ends : List SeatView) (desks desks_after : List D) → n ≡ 8 + worker → AreBegun before n mids
      → AreEnded (before ++ later) ends → WorkersDid listings faults queue worker hands mids ends desks desks_after
      → (k : ℕ) → k < length hands → WorkerPart before later (worker + k) (layers_of queue (get_or (lists_of hands) k []))
  each_worker_part before later n worker [] mids ends desks desks_after at b e h k low = absurd (omega (arith, low))
  each_worker_part before later n worker (x ∷ hands) [] ends desks desks_after at b e h k low = absurd h
  each_worker_part before later n worker (x ∷ hands) (m ∷ mids) [] desks desks_after at b e h k low = absurd h
  each_worker_part before later n worker (x ∷ hands) (m ∷ mids) (y ∷ ends) [] desks_after at b e h k low = absurd h
  each_worker_part before later n worker (x ∷ hands) (m ∷ mids) (y ∷ ends) (d ∷ desks) [] at b e h k low = absurd h
  each_worker_part before later n worker (x ∷ hands) (m ∷ mids) (y ∷ ends) (d ∷ desks) (f ∷ desks_after) at b e h zero low =
      subst (λ (i : ℕ). WorkerPart before later i (layers_of queue x.list)) (omega arith)
      (worker_part before later worker (layers_of queue x.list) m y (listings d) (faults d) (listings f) (faults f) (b.0 ∙ at) b.1 e.0 b.2 e.1 h.0)
  each_worker_part before later n worker (x ∷ hands) (m ∷ mids) (y ∷ ends) (d ∷ desks) (f ∷ desks_after) at b e h (suc k) low =
      subst (λ (i : ℕ). WorkerPart before later i (layers_of queue (get_or (lists_of hands) k []))) (omega arith)
      (each_worker_part before later (n + 1) (worker + 1) hands mids ends desks desks_after (omega (arith, at)) b.3 e.2 h.1 k (omega (arith, low)))

  pub desks_counted : (before later : List Submission) (others : List Entry) (taken : List ParsedLine) (n worker : ℕ) (hands : List HandState) (mids ends : List SeatView) (desks desks_after : List D)
      → n ≡ 8 + worker → AreBegun before n mids → AreEnded (before ++ later) ends → WorkersDid listings faults queue worker hands mids ends desks desks_after
      → events_of others ≡ entries_from (length before + 1) later → AllByRecursion (λ (p : Placed). FitsSeat p.event.seat p.event.by) (placed_from (length before + 1) later)
      → DesksCounted listings faults worker desks desks_after (refusals taken ++ others)
  desks_counted before later others taken n worker [] [] [] [] [] at b e h events fits = tt
  desks_counted before later others taken n worker [] [] [] [] (f ∷ desks_after) at b e h events fits = absurd h
  desks_counted before later others taken n worker [] [] [] (d ∷ desks) desks_after at b e h events fits = absurd h
  desks_counted before later others taken n worker [] [] (y ∷ ends) desks desks_after at b e h events fits = absurd h
  desks_counted before later others taken n worker [] (m ∷ mids) ends desks desks_after at b e h events fits = absurd h
  desks_counted before later others taken n worker (x ∷ hands) [] ends desks desks_after at b e h events fits = absurd h
  desks_counted before later others taken n worker (x ∷ hands) (m ∷ mids) [] desks desks_after at b e h events fits = absurd h
  desks_counted before later others taken n worker (x ∷ hands) (m ∷ mids) (y ∷ ends) [] desks_after at b e h events fits = absurd h
  desks_counted before later others taken n worker (x ∷ hands) (m ∷ mids) (y ∷ ends) (d ∷ desks) [] at b e h events fits = absurd h
  desks_counted before later others taken n worker (x ∷ hands) (m ∷ mids) (y ∷ ends) (d ∷ desks) (f ∷ desks_after) at b e h events fits =
      let one = desk_rose before later worker (layers_of queue x.list) m y (listings d) (faults d) (listings f) (faults f) others taken (b.0 ∙ at) b.1 e.0 b.2 e.1 h.0 events fits in
      (one.0, one.1, desks_counted before later others taken (n + 1) (worker + 1) hands mids ends desks desks_after (omega (arith, at)) b.3 e.2 h.1 events fits)
