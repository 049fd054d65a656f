use Rattle.std.proofs.Common.{◌≡◌, ◌+◌, ◌++◌, List, drop, length, take, ap, arith, subst, sym, ◌∙◌, true}
use Rattle.std.specs.List.{AllByRecursion}
use Rattle.cv_pool.specs.Hands.{AreHandsOf, AreSameHands, HandState, any_done, lists_of}
use Rattle.cv_pool.specs.Jobs.{weigh_below}
use Rattle.cv_serve_dealing.specs.code.Dealt.{IsLanePrepared}
use Rattle.cv_serve_dealing.proofs.DealLemmas.{dealt_prepared}
use Rattle.cv_serve_lanes.specs.code.Worker.{AreHandsPrepared}
use Rattle.cv_serve_lanes.proofs.CrewLemmas.{seats_past}
use Rattle.cv_serve_round.proofs.WalkLemmas.{begun, begun_drop, done_any, ended, ended_drop, new_many, new_prepared, room_begun, room_ended}
use Rattle.cv_serve_round.proofs.WholeLemmas.{ends_numbered, front_is, ran_of, worked_by}
use Rattle.cv_serve_round.proofs.whole.run_parts.Goals as goal

pub run_all-requires-clause-same : goal.run_all-requires-clause-same
run_all-requires-clause-same g c κs within =
    let new = c.in_ok-hands.ensures in
    let value = ap length c.as_mut_slice.ensures.value in (
      ap length c.as_mut_slice-2.ensures.value ∙ (ap length new.new ∙ new_many new.fill 0 (length c.args.desks.now)),
      omega (arith, c.refresh.auto.seats, c.requires.seats.count, value, c.in_ok-lanes.ensures.count),
    )

pub run_all-requires-clause-lanes : goal.run_all-requires-clause-lanes
run_all-requires-clause-lanes g c κs within =
    subst (AllByRecursion IsLanePrepared) (sym c.as_mut_slice.ensures.value) (dealt_prepared 0 c.args.requested.items c.in_ok-lanes.lanes.items c.requires.sound c.in_ok-lanes.ensures.dealt)

pub run_all-requires-clause-hands : goal.run_all-requires-clause-hands
run_all-requires-clause-hands g c κs within =
    let new = c.in_ok-hands.ensures in
    subst (AreHandsPrepared (length c.args.queue.now)) (sym (c.as_mut_slice-2.ensures.value ∙ new.new)) (new_prepared new.fill (length c.args.queue.now) 0 (length c.args.desks.now) new.jobs_below)

pub run_all-requires-clause-room : goal.run_all-requires-clause-room
run_all-requires-clause-room g c κs within =
    let k = length c.as_mut_slice.result.now in
    let value = ap length c.as_mut_slice.ensures.value in
    let many : length c.refresh.new.seats ≡ k + length c.args.desks.now = omega (arith, c.refresh.auto.seats, c.requires.seats.count, value, c.in_ok-lanes.ensures.count) in
    room_begun g.D.Desk.listings g.D.Desk.faults c.args.queue.now c.args.hub.now (0 + k) (drop k c.refresh.new.seats) c.args.desks.now
    (begun_drop c.args.hub.now k 0 c.refresh.new.seats (begun c.args.hub.now 0 c.args.seats.now c.refresh.new.seats c.requires.seats.numbered c.requires.seats.receipts c.refresh.ensures))
    (seats_past k (length c.args.desks.now) c.refresh.new.seats many) c.requires.room

pub gather-took-requires : goal.gather-took-requires
gather-took-requires g c =
    let new = c.in_ok-hands.ensures in
    let value = c.as_mut_slice-2.ensures.value in
    let size = ap length value in
    let front = front_is c.in_ok-hands.hands.len c.run_all.new.hands (drop (length c.run_all.new.hands) c.in_ok-hands.hands.items) (c.in_ok-hands.hands.ok.0 ∙ sym (c.run_all.auto.hands ∙ size)) in
    let same = subst (λ (hs : List HandState). AreSameHands hs c.run_all.new.hands) value c.in_ok-run_all.ensures.hands.0 in
    (new.fill, subst (AreHandsOf new.fill) (sym front) (c.hand_laws.ensures.same new.fill c.in_ok-hands.hands.items c.run_all.new.hands new.all same))

pub take_events-events-requires-clause-numbered : goal.take_events-events-requires-clause-numbered
take_events-events-requires-clause-numbered g c =
    let worked = worked_by g.D.Desk.listings g.D.Desk.faults g.D.Desk.tree g.L.Identity.limits c.args.hub.now c.args.requested.items c.args.queue.now c.args.seats.now c.refresh.new.seats c.run_all.new.seats c.in_ok-lanes.lanes.items c.run_all.new.lanes c.run_all.new.hands c.args.desks.now c.run_all.new.desks
    _ c.as_mut_slice.ensures.value c.requires.seats.count c.requires.seats.numbered c.requires.seats.receipts c.refresh.ensures c.refresh.auto.seats c.run_all.auto.seats c.in_ok-lanes.ensures.count c.in_ok-lanes.ensures.dealt c.run_all.auto.lanes c.in_ok-run_all.ensures.lanes c.in_ok-run_all.ensures.workers
    (c.run_all.auto.hands ∙ (ap length c.as_mut_slice-2.ensures.value ∙ (ap length c.in_ok-hands.ensures.new ∙ new_many c.in_ok-hands.ensures.fill 0 (length c.args.desks.now)))) in
    ends_numbered g.D.Desk.listings g.D.Desk.faults g.D.Desk.tree g.L.Identity.limits c.args.hub.now c.args.requested.items c.args.queue.now c.args.seats.now c.refresh.new.seats c.run_all.new.seats c.in_ok-lanes.lanes.items c.run_all.new.lanes c.run_all.new.hands c.args.desks.now c.run_all.new.desks worked

pub returns-clause-ran : goal.returns-clause-ran
returns-clause-ran g c =
    let worked = worked_by g.D.Desk.listings g.D.Desk.faults g.D.Desk.tree g.L.Identity.limits c.args.hub.now c.args.requested.items c.args.queue.now c.args.seats.now c.refresh.new.seats c.run_all.new.seats c.in_ok-lanes.lanes.items c.run_all.new.lanes c.run_all.new.hands c.args.desks.now c.run_all.new.desks
    _ c.as_mut_slice.ensures.value c.requires.seats.count c.requires.seats.numbered c.requires.seats.receipts c.refresh.ensures c.refresh.auto.seats c.run_all.auto.seats c.in_ok-lanes.ensures.count c.in_ok-lanes.ensures.dealt c.run_all.auto.lanes c.in_ok-run_all.ensures.lanes c.in_ok-run_all.ensures.workers
    (c.run_all.auto.hands ∙ (ap length c.as_mut_slice-2.ensures.value ∙ (ap length c.in_ok-hands.ensures.new ∙ new_many c.in_ok-hands.ensures.fill 0 (length c.args.desks.now)))) in
    let new = c.in_ok-hands.ensures in
    let value = c.as_mut_slice-2.ensures.value in
    let size = ap length value in
    let old_hands = c.in_ok-hands.hands.items in
    let hands = c.run_all.new.hands in
    let kept = take c.in_ok-hands.hands.len (hands ++ drop (length hands) old_hands) in
    let front : kept ≡ hands = front_is c.in_ok-hands.hands.len hands (drop (length hands) old_hands) (c.in_ok-hands.hands.ok.0 ∙ sym (c.run_all.auto.hands ∙ size)) in
    let same = subst (λ (hs : List HandState). AreSameHands hs hands) value c.in_ok-run_all.ensures.hands.0 in
    let of : AreHandsOf new.fill kept = subst (AreHandsOf new.fill) (sym front) (c.hand_laws.ensures.same new.fill old_hands hands new.all same) in
    let many = worked.hands_many in
    let done : any_done kept ≡ true = ap any_done front ∙ done_any hands (omega (arith, many, c.requires.workers.0)) c.in_ok-run_all.ensures.hands.1 in
    let lane_size = ap length c.as_mut_slice.ensures.value in
    let lanes_front = front_is c.in_ok-lanes.lanes.len c.run_all.new.lanes (drop (length c.run_all.new.lanes) c.in_ok-lanes.lanes.items) (c.in_ok-lanes.lanes.ok.0 ∙ sym (c.run_all.auto.lanes ∙ lane_size)) in
    rw lanes_front
    (ran_of g.D.Desk.listings g.D.Desk.faults g.D.Desk.tree g.L.Identity.limits c.args.hub.now c.args.requested.items c.args.queue.now c.args.seats.now c.refresh.new.seats c.run_all.new.seats c.in_ok-lanes.lanes.items c.run_all.new.lanes c.run_all.new.hands c.args.desks.now c.run_all.new.desks c.take_events-events.new.self c.gather-took.result.lists c.take_events-events.result.items worked (c.gather-took.ensures.lists ∙ ap lists_of front)
    (λ h. c.gather-took.ensures.all new.fill of done h ∙ ap (weigh_below h) new.jobs_below)
    c.take_events-events.ensures.more c.take_events-events.ensures.replayed c.take_events-events.ensures.entries c.take_events-events.ensures.seen c.take_events-events.ensures.receipts c.take_events-events.ensures.of_seats)

pub returns-clause-seats : goal.returns-clause-seats
returns-clause-seats g c =
    let worked = worked_by g.D.Desk.listings g.D.Desk.faults g.D.Desk.tree g.L.Identity.limits c.args.hub.now c.args.requested.items c.args.queue.now c.args.seats.now c.refresh.new.seats c.run_all.new.seats c.in_ok-lanes.lanes.items c.run_all.new.lanes c.run_all.new.hands c.args.desks.now c.run_all.new.desks
    _ c.as_mut_slice.ensures.value c.requires.seats.count c.requires.seats.numbered c.requires.seats.receipts c.refresh.ensures c.refresh.auto.seats c.run_all.auto.seats c.in_ok-lanes.ensures.count c.in_ok-lanes.ensures.dealt c.run_all.auto.lanes c.in_ok-run_all.ensures.lanes c.in_ok-run_all.ensures.workers
    (c.run_all.auto.hands ∙ (ap length c.as_mut_slice-2.ensures.value ∙ (ap length c.in_ok-hands.ensures.new ∙ new_many c.in_ok-hands.ensures.fill 0 (length c.args.desks.now)))) in
    let numbered = ends_numbered g.D.Desk.listings g.D.Desk.faults g.D.Desk.tree g.L.Identity.limits c.args.hub.now c.args.requested.items c.args.queue.now c.args.seats.now c.refresh.new.seats c.run_all.new.seats c.in_ok-lanes.lanes.items c.run_all.new.lanes c.run_all.new.hands c.args.desks.now c.run_all.new.desks worked in
    rw c.take_events-events.ensures.seats (record {
      count = c.run_all.auto.seats ∙ (c.refresh.auto.seats ∙ (c.requires.seats.count ∙ ap (λ n. 8 + n) (sym c.run_all.auto.desks)));
      all = c.run_all.auto.seats ∙ (c.refresh.auto.seats ∙ c.requires.seats.all);
      numbered = numbered;
      receipts = c.take_events-events.ensures.receipts;
    })

pub returns-clause-room : goal.returns-clause-room
returns-clause-room g c =
    let k = length c.as_mut_slice.result.now in
    room_ended g.D.Desk.listings g.D.Desk.faults c.args.queue.now c.take_events-events.new.self (drop k c.run_all.new.seats) c.run_all.new.desks
    (ended_drop c.take_events-events.new.self k c.run_all.new.seats (ended c.take_events-events.new.self c.run_all.new.seats c.take_events-events.ensures.seen c.take_events-events.ensures.receipts)) c.in_ok-run_all.ensures.room
