use Rattle.std.proofs.Common.{ap, ◌∙◌}
use Rattle.cv_core_machine.specs.Scans.{trees_of}
use Rattle.cv_serve_round.specs.Round.{moment_of}
use Rattle.cv_serve_pushed.proofs.PushLemmas.{stops_after}
use Rattle.cv_serve_pushed.proofs.rounds.PushRoundsRoundKeeper.end_round.Goals as goal

pub returns-clause-stopped : goal.returns-clause-stopped
returns-clause-stopped g c = λ before written round kept lines.
    stops_after g.H.Hook.offers g.H.Hook.faults g.D.Desk.tree written (g.K.Sink.contents c.args.output.now) (g.K.Sink.contents c.write_attempts.new.output) round
    (moment_of (trees_of g.D.Desk.tree) g.L.Identity.limits c.args.service.now.hub) lines before (c.self.inside.outbox, c.args.hook.now) (c.write_attempts.new.outbox, c.write_attempts.new.hook) c.write_attempts.result
    (ap (λ outbox. (outbox, c.args.hook.now)) c.self.view_is ∙ kept) c.write_attempts.ensures.stopped
