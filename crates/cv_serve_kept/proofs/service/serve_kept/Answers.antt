use Rattle.std.specs.Prelude.{◌≡◌, ◌⊎◌, drop, length, take, ◌++◌}
use Rattle.std.proofs.Common.{ap, arith, inl, inr, ◌∙◌}
use Rattle.cv_seq.specs.Cause.{Rose}
use Rattle.cv_core_machine.specs.Scans.{StatesEveryLayer}
use Rattle.cv_serve.specs.declared.end.ServeEnd.TheVariants as end
use Rattle.cv_serve.proofs.WorkerDesks.{over_mine}
use Rattle.cv_serve_kept.specs.Ends.{FirstRose, KeptEnds, ReportsBadKeep}
use Rattle.cv_serve_kept.specs.declared.end.KeptEnd.TheVariants as kept
use Rattle.cv_serve_kept.specs.code.Stops.{end_of}
use Rattle.cv_serve_kept.proofs.Keepers.{of_file}
use Rattle.cv_serve_kept.proofs.Reported.{reports_bad}
use Rattle.cv_serve_kept.proofs.service.serve_kept.Goals as goal

pub returns-clause-outcome : goal.returns-clause-outcome
returns-clause-outcome g c =
    let mine = c.split_at_mut-mine.result.0.now in
    let back = c.split_at_mut-mine.result.1.now in
    let new = c.serve_over.new.desks in
    let items = c.args.desks.now.items in
    over_mine (λ count desks desks_now ended. KeptEnds g.D.Desk.tree count g.D.Desk.listings g.D.Desk.faults
    (record { remaining = g.S.Source.remaining c.args.input.now; written = g.K.Sink.contents c.args.output.now; kept = of_file (g.J.Disk.contents c.args.disk.now); desks = desks })
    (record { remaining = g.S.Source.remaining c.serve_over.new.input; written = g.K.Sink.contents c.serve_over.new.output; kept = of_file (g.J.Disk.contents c.serve_over.new.disk); desks = desks_now }) ended)
    c.args.workers c.args.desks.now.len mine items new back (drop (length (new ++ back)) items) c.end_of.result (end_of c.serve_over.result)
    c.split_at_mut-mine.ensures.front_len (c.split_at_mut-mine.ensures.front ∙ ap (take c.args.workers) c.as_mut_slice.ensures.value) c.serve_over.auto.desks
    (omega (arith, c.requires.at_most_one_for_each_desk, ap length c.as_mut_slice.ensures.value, c.as_mut_slice.ensures.len)) c.end_of.ensures c.serve_over.ensures.outcome

pub returns-clause-bad_keep : goal.returns-clause-bad_keep
returns-clause-bad_keep g c =
    let mine = c.split_at_mut-mine.result.0.now in
    let back = c.split_at_mut-mine.result.1.now in
    let new = c.serve_over.new.desks in
    let items = c.args.desks.now.items in
    let kept_now = of_file (g.J.Disk.contents c.args.disk.now) in
    let wrote = Rose (g.K.Sink.faults c.args.output.now) (g.K.Sink.faults c.serve_over.new.output) in
    let keeps = Rose (g.J.Disk.faults c.args.disk.now) (g.J.Disk.faults c.serve_over.new.disk) in
    over_mine (λ count desks desks_now ended. StatesEveryLayer g.D.Desk.tree → ReportsBadKeep g.D.Desk.tree kept_now (wrote ⊎ keeps ⊎ FirstRose g.D.Desk.faults desks desks_now)
    (ended ≡ kept.BadKeep) (ended ≡ kept.Served end.NoMemory))
    c.args.workers c.args.desks.now.len mine items new back (drop (length (new ++ back)) items) c.end_of.result (end_of c.serve_over.result)
    c.split_at_mut-mine.ensures.front_len (c.split_at_mut-mine.ensures.front ∙ ap (take c.args.workers) c.as_mut_slice.ensures.value) c.serve_over.auto.desks
    (omega (arith, c.requires.at_most_one_for_each_desk, ap length c.as_mut_slice.ensures.value, c.as_mut_slice.ensures.len)) c.end_of.ensures
    (λ known. reports_bad g.D.Desk.tree known (length mine) g.D.Desk.listings g.D.Desk.faults
    (record { remaining = g.S.Source.remaining c.args.input.now; written = g.K.Sink.contents c.args.output.now; kept = kept_now; desks = mine })
    (record { remaining = g.S.Source.remaining c.serve_over.new.input; written = g.K.Sink.contents c.serve_over.new.output; kept = of_file (g.J.Disk.contents c.serve_over.new.disk); desks = new })
    (wrote ⊎ keeps ⊎ FirstRose g.D.Desk.faults mine new) (end_of c.serve_over.result) c.serve_over.ensures.outcome
    (λ is. inl (c.serve_over.ensures.write_fault is)) (λ is. inr (inl (c.serve_over.ensures.keep_fault is))) (λ is. inr (inr (c.serve_over.ensures.desk_fault is))))
