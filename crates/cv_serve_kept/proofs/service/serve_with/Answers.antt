use Rattle.std.specs.Prelude.{length, refl}
use Rattle.std.proofs.Common.{inl}
use Rattle.cv_serve_kept.specs.Ends.{KeptEnds}
use Rattle.cv_serve_kept.specs.declared.stop.Stop.TheVariants as stop
use Rattle.cv_serve_kept.proofs.Keepers.{of_file}
use Rattle.cv_serve_kept.proofs.Starting.{handed, nothing_done}
use Rattle.cv_serve_kept.proofs.service.serve_with.Goals as goal

-- no hub was made
pub returns-in_err-service-clause-outcome : goal.returns-in_err-service-clause-outcome
returns-in_err-service-clause-outcome g c =
    let remaining = g.S.Source.remaining c.args.input.now in
    let written = g.K.Sink.contents c.args.output.now in
    let kept = of_file (g.J.Disk.contents c.args.disk.now) in
    let desks = c.args.desks.now in
    handed (λ ended. KeptEnds g.D.Desk.tree (length desks) g.D.Desk.listings g.D.Desk.faults
    (record { remaining = remaining; written = written; kept = kept; desks = desks }) (record { remaining = remaining; written = written; kept = kept; desks = desks }) ended)
    stop.NoMemory c.from_residual.result c.from_residual.ensures.1
    (inl (nothing_done g.D.Desk.listings g.D.Desk.faults remaining written kept kept desks c.requires.workers.0 refl))
