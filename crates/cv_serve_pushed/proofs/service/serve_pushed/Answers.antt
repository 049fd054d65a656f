use Rattle.std.specs.Prelude.{drop, length, take, ◌++◌}
use Rattle.std.proofs.Common.{ap, arith, ◌∙◌}
use Rattle.cv_serve.proofs.WorkerDesks.{over_mine}
use Rattle.cv_serve_pushed.specs.Pushed.{PushEnds}
use Rattle.cv_serve_pushed.specs.code.Ended.{ended_by}
use Rattle.cv_serve_pushed.proofs.service.serve_pushed.Goals as goal

pub returns-clause-outcome : goal.returns-clause-outcome
returns-clause-outcome g c =
    let mine = c.split_at_mut-mine.result.0.now in
    let back = c.split_at_mut-mine.result.1.now in
    let new = c.serve_over.new.desks in
    let items = c.args.desks.now.items in
    over_mine (λ count desks desks_now ended. PushEnds g.D.Desk.tree count g.D.Desk.listings g.D.Desk.faults
    (record { remaining = g.S.Source.remaining c.args.input.now; written = g.K.Sink.contents c.args.output.now; offers = g.H.Hook.offers c.args.hook.now; faults = g.H.Hook.faults c.args.hook.now; desks = desks })
    (record { remaining = g.S.Source.remaining c.serve_over.new.input; written = g.K.Sink.contents c.serve_over.new.output; offers = g.H.Hook.offers c.serve_over.new.hook; faults = g.H.Hook.faults c.serve_over.new.hook; desks = desks_now }) ended)
    c.args.workers c.args.desks.now.len mine items new back (drop (length (new ++ back)) items) c.ended_by.result (ended_by c.serve_over.result)
    c.split_at_mut-mine.ensures.front_len (c.split_at_mut-mine.ensures.front ∙ ap (take c.args.workers) c.as_mut_slice.ensures.value) c.serve_over.auto.desks
    (omega (arith, c.requires.at_most_one_for_each_desk, ap length c.as_mut_slice.ensures.value, c.as_mut_slice.ensures.len)) c.ended_by.ensures c.serve_over.ensures.outcome
