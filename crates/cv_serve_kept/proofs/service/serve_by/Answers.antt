use Rattle.std.specs.Prelude.{ℕ, List, Option, length}
use Rattle.std.proofs.Common.{ap, subst, sym}
use Rattle.cv_core_machine.specs.Scans.{trees_of}
use Rattle.cv_serve_legal.specs.Replay.{Moment}
use Rattle.cv_serve_round.specs.Round.{moment_of}
use Rattle.cv_serve_kept.specs.Ends.{KeptEnds}
use Rattle.cv_serve_kept.specs.Start.{IsResumed}
use Rattle.cv_serve_kept.specs.code.Stops.{end_of}
use Rattle.cv_serve_kept.proofs.Keepers.{of_file}
use Rattle.cv_serve_kept.proofs.Starting.{handed}
use Rattle.cv_serve_kept.proofs.service.serve_by.Goals as goal

pub returns-in_err-resume-clause-outcome : goal.returns-in_err-resume-clause-outcome
returns-in_err-resume-clause-outcome g c =
    let remaining = g.S.Source.remaining c.args.input.now in
    handed (λ ended. KeptEnds g.D.Desk.tree (length c.args.desks.now) g.D.Desk.listings g.D.Desk.faults
    (record { remaining = remaining; written = g.K.Sink.contents c.args.output.now; kept = of_file (g.J.Disk.contents c.args.disk.now); desks = c.args.desks.now })
    (record { remaining = remaining; written = g.K.Sink.contents c.resume.new.output; kept = of_file (g.J.Disk.contents c.resume.new.disk); desks = c.resume.new.desks }) ended)
    c.in_err-resume.field-0.0 c.from_residual.result c.from_residual.ensures.1 (c.in_err-resume.ensures.ended (length c.args.desks.now) remaining)

pub returns-clause-outcome : goal.returns-clause-outcome
returns-clause-outcome g c =
    let same = ap of_file c.resume.ensures.contents in
    let start : Moment = moment_of (trees_of g.D.Desk.tree) g.L.Identity.limits c.resume.new.service.hub in
    subst (λ (kept : Option (List (List ℕ))). KeptEnds g.D.Desk.tree (length c.args.desks.now) g.D.Desk.listings g.D.Desk.faults
    (record { remaining = g.S.Source.remaining c.args.input.now; written = g.K.Sink.contents c.args.output.now; kept = kept; desks = c.args.desks.now })
    (record { remaining = g.S.Source.remaining c.serve_rounds.new.input; written = g.K.Sink.contents c.serve_rounds.new.output; kept = of_file (g.J.Disk.contents c.serve_rounds.new.disk); desks = c.serve_rounds.new.desks })
    (end_of c.serve_rounds.result)) same
    (subst (λ (count : ℕ). KeptEnds g.D.Desk.tree count g.D.Desk.listings g.D.Desk.faults
    (record { remaining = g.S.Source.remaining c.args.input.now; written = g.K.Sink.contents c.args.output.now; kept = of_file (g.J.Disk.contents c.resume.new.disk); desks = c.args.desks.now })
    (record { remaining = g.S.Source.remaining c.serve_rounds.new.input; written = g.K.Sink.contents c.serve_rounds.new.output; kept = of_file (g.J.Disk.contents c.serve_rounds.new.disk); desks = c.serve_rounds.new.desks })
    (end_of c.serve_rounds.result)) c.resume.auto.desks
    (c.serve_rounds.ensures.outcome (g.K.Sink.contents c.args.output.now) c.args.desks.now
    (subst (λ (kept : Option (List (List ℕ))). IsResumed g.D.Desk.tree g.D.Desk.listings g.D.Desk.faults kept start (g.K.Sink.contents c.args.output.now) (g.K.Sink.contents c.resume.new.output) c.args.desks.now c.resume.new.desks)
    (sym same) c.in_ok-resume.ensures.resumed)))
