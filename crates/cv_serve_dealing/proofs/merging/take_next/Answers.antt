use Rattle.std.proofs.Common.{map, sym, ◌∙◌}
use Rattle.std.specs.VecDeque.{deque_items}
use Rattle.cv_serve_dealing.proofs.MergeLemmas.{event_taken, if_none, nothing_taken, read_not_taken, read_taken}
use Rattle.cv_serve_dealing.proofs.merging.take_next.Goals as goal

pub returns-in_err-event-clause-none : goal.returns-in_err-event-clause-none
returns-in_err-event-clause-none c =
    if_none c.from_residual.result
    (nothing_taken c.first_number-number.result c.args.events.now.items c.pop_front.new.self.items (map deque_items c.args.lanes.now) c.first_number-number.ensures
    (sym c.in_default.is ∙ c.next_lane.ensures.value) c.in_err-event.ensures.items c.in_err-event.ensures.rest)

pub returns-in_default-clause-next : goal.returns-in_default-clause-next
returns-in_default-clause-next c =
    event_taken c.first_number-number.result c.args.events.now.items c.pop_front.new.self.items c.in_ok-event.event (map deque_items c.args.lanes.now) c.first_number-number.ensures
    (sym c.in_default.is ∙ c.next_lane.ensures.value) c.in_ok-event.ensures.items

pub returns-in_err-read-clause-none : goal.returns-in_err-read-clause-none
returns-in_err-read-clause-none c =
    absurd (read_not_taken deque_items c.first_number-number.result c.args.lanes.now c.in-Some.lane c.index-lanes-lane.result c.pop_front-2.new.self c.in-Some.ensures.value
    c.in_err-read.ensures.items c.in_err-read.ensures.rest)

pub returns-clause-next : goal.returns-clause-next
returns-clause-next c =
    read_taken deque_items c.first_number-number.result c.args.events.now.items c.args.lanes.now c.in-Some.lane c.in_ok-read.read c.index-lanes-lane.result c.pop_front-2.new.self
    c.first_number-number.ensures c.in-Some.ensures.value c.in_ok-read.ensures.items
