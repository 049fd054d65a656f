use Rattle.std.proofs.Common.{◌++◌, List, ap, map, subst, sym, ◌∙◌}
use Rattle.cv_core_records.specs.declared.event.EventEntry.{EventEntry}
use Rattle.cv_transcript.specs.Order.{AreAscending}
use Rattle.cv_transcript.specs.declared.entry.Entry.{Entry}
use Rattle.cv_transcript.specs.declared.entry.Entry.TheVariants as entry
use Rattle.cv_serve_round.proofs.WholeLemmas.{Joined, if_ok, joined_desks, joined_legal, ok_of}
use Rattle.cv_serve_round.proofs.whole.run_round.Goals as goal

pub returns-clause-legal : goal.returns-clause-legal
returns-clause-legal g c = λ known lines last read ascend. if_ok c.joined.result c.joined.ensures (λ all is.
    let joined : Joined g.D.Desk.listings g.D.Desk.faults g.D.Desk.tree g.L.Identity.limits c.args.hub.now c.run_parts.new.hub c.args.taken.items c.in_ok-refused.requested.items c.as_slice.result.now c.args.desks.now c.run_parts.new.desks c.in_ok-events.events.items c.in_ok-events.lanes.items c.in_ok-reads.reads c.in_ok-refused.refused.items c.in_ok-others.others all.items = record {
      ran = c.in_ok-events.ensures.ran;
      requested_is = c.in_ok-refused.ensures.requests;
      sound = c.in_ok-refused.ensures.sound;
      queue_is = λ known. c.as_slice.ensures ∙ c.in_ok-queue.ensures known;
      reads_are = c.in_ok-reads.ensures;
      events_are = c.in_ok-others.ensures.events ∙ c.of.ensures;
      by_lane = c.in_ok-others.ensures.reads;
      order = λ ascending by. c.in_ok-others.ensures.ascending (subst (λ (events : List EventEntry). AreAscending (map entry.Event events)) (sym c.of.ensures) ascending) by;
      refused_is = c.in_ok-refused.ensures.refused;
      all_is = is ∙ ap (λ (others : List Entry). c.in_ok-refused.refused.items ++ others) c.into_vec.ensures;
    } in
    joined_legal g.D.Desk.listings g.D.Desk.faults g.D.Desk.tree g.L.Identity.limits c.args.hub.now c.run_parts.new.hub c.args.taken.items c.in_ok-refused.requested.items c.as_slice.result.now c.args.desks.now c.run_parts.new.desks c.in_ok-events.events.items c.in_ok-events.lanes.items c.in_ok-reads.reads c.in_ok-refused.refused.items c.in_ok-others.others all.items joined known lines last read ascend)

pub returns-clause-desks : goal.returns-clause-desks
returns-clause-desks g c = if_ok c.joined.result c.joined.ensures (λ all is.
    let joined : Joined g.D.Desk.listings g.D.Desk.faults g.D.Desk.tree g.L.Identity.limits c.args.hub.now c.run_parts.new.hub c.args.taken.items c.in_ok-refused.requested.items c.as_slice.result.now c.args.desks.now c.run_parts.new.desks c.in_ok-events.events.items c.in_ok-events.lanes.items c.in_ok-reads.reads c.in_ok-refused.refused.items c.in_ok-others.others all.items = record {
      ran = c.in_ok-events.ensures.ran;
      requested_is = c.in_ok-refused.ensures.requests;
      sound = c.in_ok-refused.ensures.sound;
      queue_is = λ known. c.as_slice.ensures ∙ c.in_ok-queue.ensures known;
      reads_are = c.in_ok-reads.ensures;
      events_are = c.in_ok-others.ensures.events ∙ c.of.ensures;
      by_lane = c.in_ok-others.ensures.reads;
      order = λ ascending by. c.in_ok-others.ensures.ascending (subst (λ (events : List EventEntry). AreAscending (map entry.Event events)) (sym c.of.ensures) ascending) by;
      refused_is = c.in_ok-refused.ensures.refused;
      all_is = is ∙ ap (λ (others : List Entry). c.in_ok-refused.refused.items ++ others) c.into_vec.ensures;
    } in
    joined_desks g.D.Desk.listings g.D.Desk.faults g.D.Desk.tree g.L.Identity.limits c.args.hub.now c.run_parts.new.hub c.args.taken.items c.in_ok-refused.requested.items c.as_slice.result.now c.args.desks.now c.run_parts.new.desks c.in_ok-events.events.items c.in_ok-events.lanes.items c.in_ok-reads.reads c.in_ok-refused.refused.items c.in_ok-others.others all.items joined)

pub returns-clause-seats : goal.returns-clause-seats
returns-clause-seats g c = ok_of c.joined.result c.in_ok-events.ensures.seats

pub returns-clause-room : goal.returns-clause-room
returns-clause-room g c = ok_of c.joined.result c.in_ok-events.ensures.room
