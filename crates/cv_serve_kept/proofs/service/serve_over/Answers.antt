use Rattle.std.specs.Prelude.{ℕ, List, Option, Err, length}
use Rattle.std.proofs.Common.{ap, inl, subst}
use Rattle.cv_serve_kept.specs.Ends.{KeptEnds}
use Rattle.cv_serve_kept.specs.code.Stops.{end_of}
use Rattle.cv_serve_kept.specs.declared.stop.Stop.TheVariants as stop
use Rattle.cv_serve_kept.proofs.Keepers.{of_file}
use Rattle.cv_serve_kept.proofs.Resuming.{same_records}
use Rattle.cv_serve_kept.proofs.Starting.{handed, keep_ends, nothing_done}
use Rattle.cv_serve_kept.proofs.service.serve_over.Goals as goal

-- the file was not opened
pub returns-in_err-journal-clause-outcome : goal.returns-in_err-journal-clause-outcome
returns-in_err-journal-clause-outcome g c =
    let remaining = g.S.Source.remaining c.args.input.now in
    let written = g.K.Sink.contents c.args.output.now in
    let kept = of_file (g.J.Disk.contents c.args.disk.now) in
    let kept_now = of_file (g.J.Disk.contents c.open.new.disk) in
    let desks = c.args.desks.now in
    let error = c.in_err-journal.field-0.0 in
    handed (λ ended. KeptEnds g.D.Desk.tree (length desks) g.D.Desk.listings g.D.Desk.faults
    (record { remaining = remaining; written = written; kept = kept; desks = desks }) (record { remaining = remaining; written = written; kept = kept_now; desks = desks }) ended)
    (stop.Keep error) c.from_residual.result c.from_residual.ensures.1
    (keep_ends g.D.Desk.listings g.D.Desk.faults g.D.Desk.tree (length desks) _ _ error (λ full. c.in_err-journal.ensures.not_full (ap (λ e. Err e) full))
    (nothing_done g.D.Desk.listings g.D.Desk.faults remaining written kept kept_now desks c.requires.workers.0
    (same_records (g.J.Disk.contents c.args.disk.now) (g.J.Disk.contents c.open.new.disk) c.open.ensures.known c.open.ensures.same)))

-- no core was made
pub returns-in_err-core-clause-outcome : goal.returns-in_err-core-clause-outcome
returns-in_err-core-clause-outcome g c =
    let remaining = g.S.Source.remaining c.args.input.now in
    let written = g.K.Sink.contents c.args.output.now in
    let kept = of_file (g.J.Disk.contents c.args.disk.now) in
    let kept_now = of_file (g.J.Disk.contents c.open.new.disk) in
    let desks = c.args.desks.now in
    handed (λ ended. KeptEnds g.D.Desk.tree (length desks) g.D.Desk.listings g.D.Desk.faults
    (record { remaining = remaining; written = written; kept = kept; desks = desks }) (record { remaining = remaining; written = written; kept = kept_now; desks = desks }) ended)
    stop.NoMemory c.from_residual-in_err-core.result c.from_residual-in_err-core.ensures.1
    (inl (nothing_done g.D.Desk.listings g.D.Desk.faults remaining written kept kept_now desks c.requires.workers.0
    (same_records (g.J.Disk.contents c.args.disk.now) (g.J.Disk.contents c.open.new.disk) c.open.ensures.known c.open.ensures.same)))

-- the records that were found are those of before
pub returns-clause-outcome : goal.returns-clause-outcome
returns-clause-outcome g c =
    subst (λ (kept : Option (List (List ℕ))). KeptEnds g.D.Desk.tree (length c.args.desks.now) g.D.Desk.listings g.D.Desk.faults
    (record { remaining = g.S.Source.remaining c.args.input.now; written = g.K.Sink.contents c.args.output.now; kept = kept; desks = c.args.desks.now })
    (record { remaining = g.S.Source.remaining c.serve_with.new.input; written = g.K.Sink.contents c.serve_with.new.output; kept = of_file (g.J.Disk.contents c.serve_with.new.disk); desks = c.serve_with.new.desks })
    (end_of c.serve_with.result))
    (same_records (g.J.Disk.contents c.args.disk.now) (g.J.Disk.contents c.open.new.disk) c.open.ensures.known c.open.ensures.same) c.serve_with.ensures.outcome
