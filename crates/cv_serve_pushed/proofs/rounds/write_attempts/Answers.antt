use Rattle.cv_core_machine.specs.Scans.{StatesEveryLayer}
use Rattle.cv_serve_pushed.specs.Attempts.{notifications_after}
use Rattle.cv_serve_pushed.specs.Pushes.{push_state}
use Rattle.cv_serve_pushed.specs.code.Pushing.{StopsAfterLines}
use Rattle.cv_serve_pushed.proofs.PushLemmas.{out_of_memory, unwritten}
use Rattle.cv_serve_pushed.proofs.rounds.write_attempts.Goals as goal

pub returns-in_err-bytes-clause-stopped : goal.returns-in_err-bytes-clause-stopped
returns-in_err-bytes-clause-stopped g c =
    let known = StatesEveryLayer g.D.Desk.tree in
    let standing = notifications_after g.D.Desk.tree g.L.Identity.limits c.args.service.now.hub in
    let before = push_state c.args.outbox.now (g.H.Hook.offers c.args.hook.now) (g.H.Hook.faults c.args.hook.now) in
    let after = push_state c.attempt.new.outbox (g.H.Hook.offers c.attempt.new.hook) (g.H.Hook.faults c.attempt.new.hook) in
    let written = g.K.Sink.contents c.args.output.now in
    out_of_memory (StopsAfterLines known standing before after written written) c.from_residual-in_err-bytes.result c.from_residual-in_err-bytes.ensures.1
    (unwritten known standing before after c.in_ok-lines.lines written written c.in_ok-lines.ensures.made)
