use Rattle.std.specs.Prelude.{length, IfOk, OnErr}
use Rattle.std.proofs.Common.{ap, subst, sym, ◌∙◌}
use Rattle.std.proofs.lemmas.List.{take_at}
use Rattle.cv_core_machine.specs.Scans.{StatesEveryLayer}
use Rattle.cv_serve_round.specs.Round.{AreRoundSeats}
use Rattle.cv_serve_pushed.specs.Attempts.{notifications_after}
use Rattle.cv_serve_pushed.specs.Pushes.{MadeAttempts, StoppedAttempts, push_state}
use Rattle.cv_serve_pushed.proofs.SeatLemmas.{slice_seats, slice_viewed}
use Rattle.cv_serve_pushed.proofs.rounds.attempt.Goals as goal

pub take_events-requires-clause-numbered : goal.take_events-requires-clause-numbered
take_events-requires-clause-numbered g c =
    let seats = slice_seats c.in-Some.seat c.attempt_at-seat.result.0 c.attempt_at-seat.ensures.seat g.L.Ledger.parts c.requires.seats.0 c.args.service.now.hub c.args.service.now.seats.items c.pop.new.self.items c.as_mut_slice.result.now
    c.in-Some.ensures.items (c.as_mut_slice.ensures.value ∙ c.push_reserved.ensures.items) c.requires.seats.1 in
    seats.numbered

pub returns-clause-made : goal.returns-clause-made
returns-clause-made g c =
    let taken = c.take_events.ensures in
    let viewed = slice_viewed c.in-Some.seat c.attempt_at-seat.result.0 c.attempt_at-seat.ensures.seat g.L.Ledger.parts c.requires.seats.0 c.args.service.now.hub c.args.service.now.seats.items c.pop.new.self.items c.as_mut_slice.result.now
    c.in-Some.ensures.items (c.as_mut_slice.ensures.value ∙ c.push_reserved.ensures.items) c.requires.seats.1
    c.take_events.new.self c.attempt_at-seat.ensures.taken taken.more taken.seen taken.receipts taken.of_seats in
    subst (λ list. IfOk c.attempt_at-seat.result.1 (MadeAttempts (StatesEveryLayer g.D.Desk.tree) (notifications_after g.D.Desk.tree g.L.Identity.limits list)
    (push_state c.args.outbox.now (g.H.Hook.offers c.args.hook.now) (g.H.Hook.faults c.args.hook.now))
    (push_state c.attempt_at-seat.new.outbox (g.H.Hook.offers c.attempt_at-seat.new.hook) (g.H.Hook.faults c.attempt_at-seat.new.hook)))) viewed.1 c.attempt_at-seat.ensures.made

pub returns-clause-stopped : goal.returns-clause-stopped
returns-clause-stopped g c =
    let taken = c.take_events.ensures in
    let viewed = slice_viewed c.in-Some.seat c.attempt_at-seat.result.0 c.attempt_at-seat.ensures.seat g.L.Ledger.parts c.requires.seats.0 c.args.service.now.hub c.args.service.now.seats.items c.pop.new.self.items c.as_mut_slice.result.now
    c.in-Some.ensures.items (c.as_mut_slice.ensures.value ∙ c.push_reserved.ensures.items) c.requires.seats.1
    c.take_events.new.self c.attempt_at-seat.ensures.taken taken.more taken.seen taken.receipts taken.of_seats in
    subst (λ list. OnErr c.attempt_at-seat.result.1 (StoppedAttempts (StatesEveryLayer g.D.Desk.tree) (notifications_after g.D.Desk.tree g.L.Identity.limits list)
    (push_state c.args.outbox.now (g.H.Hook.offers c.args.hook.now) (g.H.Hook.faults c.args.hook.now))
    (push_state c.attempt_at-seat.new.outbox (g.H.Hook.offers c.attempt_at-seat.new.hook) (g.H.Hook.faults c.attempt_at-seat.new.hook)))) viewed.1 c.attempt_at-seat.ensures.stopped

pub returns-clause-events : goal.returns-clause-events
returns-clause-events g c =
    let taken = c.take_events.ensures in
    let viewed = slice_viewed c.in-Some.seat c.attempt_at-seat.result.0 c.attempt_at-seat.ensures.seat g.L.Ledger.parts c.requires.seats.0 c.args.service.now.hub c.args.service.now.seats.items c.pop.new.self.items c.as_mut_slice.result.now
    c.in-Some.ensures.items (c.as_mut_slice.ensures.value ∙ c.push_reserved.ensures.items) c.requires.seats.1
    c.take_events.new.self c.attempt_at-seat.ensures.taken taken.more taken.seen taken.receipts taken.of_seats in
    viewed.0

pub returns-clause-seats : goal.returns-clause-seats
returns-clause-seats g c = λ workers seats.
    let taken = c.take_events.ensures in
    let slice = c.as_mut_slice.result.now in
    let viewed = slice_viewed c.in-Some.seat c.attempt_at-seat.result.0 c.attempt_at-seat.ensures.seat g.L.Ledger.parts workers c.args.service.now.hub c.args.service.now.seats.items c.pop.new.self.items slice
    c.in-Some.ensures.items (c.as_mut_slice.ensures.value ∙ c.push_reserved.ensures.items) seats
    c.take_events.new.self c.attempt_at-seat.ensures.taken taken.more taken.seen taken.receipts taken.of_seats in
    subst (AreRoundSeats g.L.Ledger.parts workers c.take_events.new.self)
    (sym (take_at c.take_events.new.seats _ c.push_reserved.new.self.len (ap length taken.seats ∙ c.as_mut_slice.ensures.len) ∙ taken.seats))
    (subst (λ list. AreRoundSeats g.L.Ledger.parts workers list slice) (sym viewed.0)
    (slice_seats c.in-Some.seat c.attempt_at-seat.result.0 c.attempt_at-seat.ensures.seat g.L.Ledger.parts workers c.args.service.now.hub c.args.service.now.seats.items c.pop.new.self.items slice
    c.in-Some.ensures.items (c.as_mut_slice.ensures.value ∙ c.push_reserved.ensures.items) seats))
