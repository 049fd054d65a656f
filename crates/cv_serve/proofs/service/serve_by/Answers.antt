use Rattle.std.specs.Prelude.{◌≡◌, ℕ, ◌^◌, List, length, Err, IfSome, refl}
use Rattle.std.proofs.Common.{ap, subst}
use Rattle.cv_io.specs.Lines.{Finished}
use Rattle.cv_io.specs.Reader.{reading}
use Rattle.cv_scan_input.specs.code.TakenParts.{IsTakenTo}
use Rattle.cv_base.specs.Lines.{numbered}
use Rattle.cv_core_machine.specs.Scans.{StatesEveryLayer, trees_of}
use Rattle.cv_serve_legal.specs.Rounds.{cut_lines, round_limits}
use Rattle.cv_serve.specs.Done.{IsServedDone, WroteDone}
use Rattle.cv_serve.specs.declared.end.Stop.TheVariants as stop
use Rattle.cv_serve.specs.code.Reading.{HasReadAll}
use Rattle.cv_serve.proofs.Ending.{all_served, begun_at, stopped_at_end, wrote_last, wrote_nothing, wrote_part}
use Rattle.cv_serve.proofs.Input.{all_taken_up, fits_all, given_all, handed_end, handed_on, reads_input}
use Rattle.cv_serve.proofs.service.serve_by.Goals as goal

pub returns-clause-done : goal.returns-clause-done
returns-clause-done g c = λ is start begin.
    let known = StatesEveryLayer g.D.Desk.tree in
    let trees = trees_of g.D.Desk.tree in
    let workers : ℕ = length c.args.desks.now in
    let listings = g.D.Desk.listings in
    let faults = g.D.Desk.faults in
    let ends = g.P.RoundKeeper.ends g.D.Desk.tree in
    let may_stop = g.P.RoundKeeper.may_stop g.D.Desk.tree in
    let remaining = g.S.Source.remaining c.args.input.now in
    let desks = c.args.desks.now in
    let lines = c.in_ok-read_lines.ensures.lines in
    let texts : List (List ℕ) = lines.0 in
    let done = lines.2 workers refl start (begun_at known trees workers start listings faults ends g.P.Keeper.notes _ _ desks ((c.args.keeper.now, c.args.disk.now), g.K.Sink.contents c.args.output.now) g.P.Keeper.none begin c.new-round.ensures) in
    let ended = c.in_ok-end_input.ensures.legal workers c.read_lines.auto.desks start (cut_lines round_limits (numbered 1 texts)) (length texts) done.more done.begun done.served in
    let all = subst (λ r. HasReadAll (reading r remaining) texts) c.in_ok-reader.ensures.value lines.1 in
    reads_input (λ bytes. IsServedDone known trees workers start listings faults ends bytes desks c.end_input.new.desks ((c.args.keeper.now, c.args.disk.now), g.K.Sink.contents c.args.output.now) ((c.end_input.new.keeper, c.end_input.new.disk), g.K.Sink.contents c.end_input.new.output)) remaining texts all
    (λ bytes e. all_served known trees workers start listings faults ends bytes texts _ _ _ _ _ desks _ _ ((c.args.keeper.now, c.args.disk.now), g.K.Sink.contents c.args.output.now) _ _ is e done ended)

pub returns-clause-input : goal.returns-clause-input
returns-clause-input g c =
    let remaining = g.S.Source.remaining c.args.input.now in
    fits_all remaining (subst (λ r. IfSome (reading r remaining) (λ whole. whole.stop ≡ Finished)) c.in_ok-reader.ensures.value c.in_ok-read_lines.ensures.stops)

pub returns-in_err-read_lines-clause-taken : goal.returns-in_err-read_lines-clause-taken
returns-in_err-read_lines-clause-taken g c = λ e.
    let remaining = g.S.Source.remaining c.args.input.now in
    let remaining_now = g.S.Source.remaining c.read_lines.new.input in
    let long = handed_on c.in_err-read_lines.field-0.0 c.from_residual-in_err-read_lines.result c.from_residual-in_err-read_lines.ensures.1 e in
    all_taken_up remaining remaining_now
    (subst (λ r. IsTakenTo r.taken (2 ^ 36) remaining remaining_now) c.in_ok-reader.ensures.value (c.in_err-read_lines.ensures.taken (ap (λ x. Err x) long)))

-- ---- what was written

pub returns-in_err-reader-clause-wrote : goal.returns-in_err-reader-clause-wrote
returns-in_err-reader-clause-wrote g c = λ start begin.
    let remaining = g.S.Source.remaining c.args.input.now in
    handed_end
    (λ ended. WroteDone (StatesEveryLayer g.D.Desk.tree) (trees_of g.D.Desk.tree) (length c.args.desks.now) start g.D.Desk.listings g.D.Desk.faults (g.P.RoundKeeper.ends g.D.Desk.tree) (g.P.RoundKeeper.may_stop g.D.Desk.tree) remaining remaining c.args.desks.now c.args.desks.now ((c.args.keeper.now, c.args.disk.now), g.K.Sink.contents c.args.output.now) ((c.args.keeper.now, c.args.disk.now), g.K.Sink.contents c.args.output.now) ended)
    stop.NoMemory c.from_residual.result c.from_residual.ensures.1
    (wrote_nothing (StatesEveryLayer g.D.Desk.tree) (trees_of g.D.Desk.tree) (length c.args.desks.now) start g.D.Desk.listings g.D.Desk.faults (g.P.RoundKeeper.ends g.D.Desk.tree) (g.P.RoundKeeper.may_stop g.D.Desk.tree) remaining remaining c.args.desks.now ((c.args.keeper.now, c.args.disk.now), g.K.Sink.contents c.args.output.now))

pub returns-in_err-read_lines-clause-wrote : goal.returns-in_err-read_lines-clause-wrote
returns-in_err-read_lines-clause-wrote g c = λ start begin.
    let known = StatesEveryLayer g.D.Desk.tree in
    let trees = trees_of g.D.Desk.tree in
    let workers : ℕ = length c.args.desks.now in
    let listings = g.D.Desk.listings in
    let faults = g.D.Desk.faults in
    let ends = g.P.RoundKeeper.ends g.D.Desk.tree in
    let may_stop = g.P.RoundKeeper.may_stop g.D.Desk.tree in
    let remaining = g.S.Source.remaining c.args.input.now in
    let remaining_now = g.S.Source.remaining c.read_lines.new.input in
    let desks = c.args.desks.now in
    handed_end
    (λ ended. WroteDone known trees workers start listings faults ends may_stop remaining remaining_now desks c.read_lines.new.desks ((c.args.keeper.now, c.args.disk.now), g.K.Sink.contents c.args.output.now) ((c.read_lines.new.keeper, c.read_lines.new.disk), g.K.Sink.contents c.read_lines.new.output) ended)
    c.in_err-read_lines.field-0.0 c.from_residual-in_err-read_lines.result c.from_residual-in_err-read_lines.ensures.1
    (c.in_err-read_lines.ensures.wrote workers refl start (begun_at known trees workers start listings faults ends g.P.Keeper.notes _ _ desks ((c.args.keeper.now, c.args.disk.now), g.K.Sink.contents c.args.output.now) g.P.Keeper.none begin c.new-round.ensures))

pub returns-in_err-end_input-clause-wrote : goal.returns-in_err-end_input-clause-wrote
returns-in_err-end_input-clause-wrote g c = λ start begin.
    let known = StatesEveryLayer g.D.Desk.tree in
    let trees = trees_of g.D.Desk.tree in
    let workers : ℕ = length c.args.desks.now in
    let listings = g.D.Desk.listings in
    let faults = g.D.Desk.faults in
    let ends = g.P.RoundKeeper.ends g.D.Desk.tree in
    let may_stop = g.P.RoundKeeper.may_stop g.D.Desk.tree in
    let remaining = g.S.Source.remaining c.args.input.now in
    let remaining_now = g.S.Source.remaining c.read_lines.new.input in
    let desks = c.args.desks.now in
    let lines = c.in_ok-read_lines.ensures.lines in
    let texts : List (List ℕ) = lines.0 in
    let done = lines.2 workers refl start (begun_at known trees workers start listings faults ends g.P.Keeper.notes _ _ desks ((c.args.keeper.now, c.args.disk.now), g.K.Sink.contents c.args.output.now) g.P.Keeper.none begin c.new-round.ensures) in
    let error = c.in_err-end_input.field-0.0 in
    let all = subst (λ r. HasReadAll (reading r remaining) texts) c.in_ok-reader.ensures.value lines.1 in
    handed_end
    (λ ended. WroteDone known trees workers start listings faults ends may_stop remaining remaining_now desks c.end_input.new.desks ((c.args.keeper.now, c.args.disk.now), g.K.Sink.contents c.args.output.now) ((c.end_input.new.keeper, c.end_input.new.disk), g.K.Sink.contents c.end_input.new.output) ended)
    (stop.Output error) c.from_residual-in_err-end_input.result c.from_residual-in_err-end_input.ensures.1
    (wrote_part known trees workers start listings faults ends may_stop remaining remaining_now _ _ _ _ error
    (stopped_at_end known trees workers start listings faults ends may_stop remaining remaining_now texts _ _ _ _ _ _ ((c.args.keeper.now, c.args.disk.now), g.K.Sink.contents c.args.output.now) _ done _ _ error (given_all remaining texts all)
    (c.in_err-end_input.ensures.stops workers c.read_lines.auto.desks start (cut_lines round_limits (numbered 1 texts)) (length texts) done.more done.begun done.served)))

pub returns-clause-wrote : goal.returns-clause-wrote
returns-clause-wrote g c = λ start begin.
    let known = StatesEveryLayer g.D.Desk.tree in
    let trees = trees_of g.D.Desk.tree in
    let workers : ℕ = length c.args.desks.now in
    let listings = g.D.Desk.listings in
    let faults = g.D.Desk.faults in
    let ends = g.P.RoundKeeper.ends g.D.Desk.tree in
    let may_stop = g.P.RoundKeeper.may_stop g.D.Desk.tree in
    let remaining = g.S.Source.remaining c.args.input.now in
    let remaining_now = g.S.Source.remaining c.read_lines.new.input in
    let desks = c.args.desks.now in
    let lines = c.in_ok-read_lines.ensures.lines in
    let texts : List (List ℕ) = lines.0 in
    let done = lines.2 workers refl start (begun_at known trees workers start listings faults ends g.P.Keeper.notes _ _ desks ((c.args.keeper.now, c.args.disk.now), g.K.Sink.contents c.args.output.now) g.P.Keeper.none begin c.new-round.ensures) in
    wrote_last known trees workers start listings faults ends may_stop remaining remaining_now texts _ _ _ _ _ _ ((c.args.keeper.now, c.args.disk.now), g.K.Sink.contents c.args.output.now) _ done _ _ _
    (c.in_ok-end_input.ensures.legal workers c.read_lines.auto.desks start (cut_lines round_limits (numbered 1 texts)) (length texts) done.more done.begun done.served)
