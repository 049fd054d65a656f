use Rattle.std.specs.Prelude.{List, OnOk, length, refl, string_bytes}
use Rattle.std.specs.Io.KnownBytes.{Appends}
use Rattle.std.proofs.Common.{inr, subst, sym, ◌∙◌}
use Rattle.cv_io.specs.Writes.{AppendsPrefix}
use Rattle.cv_io.specs.declared.write.WriteError.TheVariants as error
use Rattle.cv_core_machine.specs.Scans.{StatesEveryLayer, trees_of}
use Rattle.cv_hub_seats.specs.declared.submission.Submission.{Submission}
use Rattle.cv_serve_legal.specs.Whole.{whole_round}
use Rattle.cv_serve_round.specs.Round.{moment_of}
use Rattle.cv_serve_round.specs.code.LineParts.{RoundRun, RoundStops}
use Rattle.cv_serve_round.proofs.Counts.{at_least_none}
use Rattle.cv_serve_round.proofs.Prepared.{still_prepared}
use Rattle.cv_serve_round.proofs.WholeLemmas.{ok_of}
use Rattle.cv_serve_round.proofs.Written.{if_handed, round_run, round_stopped, round_stops_by, text_of_lines}
use Rattle.cv_serve_round.proofs.rounds.write_round.Goals as goal

pub end_round-requires-clause-seats : goal.end_round-requires-clause-seats
end_round-requires-clause-seats g c = (length c.round_lines.new.desks, c.in_ok-entries.ensures.prepared.round_seats)

pub returns-clause-prepared : goal.returns-clause-prepared
returns-clause-prepared g c =
    ok_of c.end_round.result
    (still_prepared g.D.Desk.listings g.L.Ledger.parts c.round_lines.new.service.hub c.end_round.new.service.hub c.round_lines.new.service.seats.items c.end_round.new.service.seats.items c.round_lines.new.desks
    c.in_ok-entries.ensures.prepared c.end_round.ensures.events c.end_round.ensures.seats)

-- the round was run, and what follows its lines was done
pub returns-clause-ran : goal.returns-clause-ran
returns-clause-ran g c = λ workers many.
    let known = StatesEveryLayer g.D.Desk.tree in
    let trees = trees_of g.D.Desk.tree in
    let ends = g.P.RoundKeeper.ends g.D.Desk.tree in
    let legal = c.in_ok-entries.ensures.legal workers many in
    let noted_is = c.as_slice.ensures.value ∙ c.take_all-taken.ensures.noted in
    let written = g.K.Sink.contents c.args.output.now in
    let text = text_of_lines known trees workers g.D.Desk.listings g.D.Desk.faults c.take_all-taken.result.0.items _ _ _ _ (λ line. string_bytes line) c.in_ok-entries.lines.items c.as_slice-3.result.now c.in_ok-entries.entries.items
    c.as_slice-2.result.now legal c.as_slice-3.ensures.value c.as_slice-2.ensures.value in
    subst (λ (hub : List Submission). OnOk c.end_round.result (RoundRun known trees workers g.D.Desk.listings g.D.Desk.faults (g.P.Keeper.notes c.args.round.now.noted) ends c.args.round.now.taken
    (moment_of trees g.L.Identity.limits c.args.service.now.hub) (moment_of trees g.L.Identity.limits hub) c.args.desks.now c.round_lines.new.desks
    ((c.args.keeper.now, c.args.disk.now), written) ((c.end_round.new.self, c.end_round.new.disk), g.K.Sink.contents c.end_round.new.output))) (sym c.end_round.ensures.events)
    (round_run known trees workers g.D.Desk.listings g.D.Desk.faults (g.P.Keeper.notes c.args.round.now.noted) ends (g.P.RoundKeeper.may_stop g.D.Desk.tree) _ c.take_all-taken.result.0.items c.args.round.now.taken
    c.in_ok-entries.entries.items c.as_slice-2.result.now _ _ _ _ _ _ c.take_all-taken.ensures.taken c.as_slice-2.ensures.value legal c.end_round.result
    (λ lines noted. c.end_round.ensures.ended (c.args.keeper.now, c.args.disk.now) written (whole_round lines c.as_slice-2.result.now)
    (c.in_ok-keep.ensures.kept lines (subst (λ some. g.P.Keeper.notes some lines) (sym noted_is) noted))
    (subst (Appends written (g.K.Sink.contents c.write_lines.new.output)) text c.in_ok-write_lines.ensures.ok)))

-- what follows its lines stopped
pub returns-clause-stops : goal.returns-clause-stops
returns-clause-stops g c = λ workers many.
    let known = StatesEveryLayer g.D.Desk.tree in
    let trees = trees_of g.D.Desk.tree in
    let legal = c.in_ok-entries.ensures.legal workers many in
    let noted_is = c.as_slice.ensures.value ∙ c.take_all-taken.ensures.noted in
    let written = g.K.Sink.contents c.args.output.now in
    let text = text_of_lines known trees workers g.D.Desk.listings g.D.Desk.faults c.take_all-taken.result.0.items _ _ _ _ (λ line. string_bytes line) c.in_ok-entries.lines.items c.as_slice-3.result.now c.in_ok-entries.entries.items
    c.as_slice-2.result.now legal c.as_slice-3.ensures.value c.as_slice-2.ensures.value in
    round_stops_by known trees workers g.D.Desk.listings g.D.Desk.faults (g.P.Keeper.notes c.args.round.now.noted) (g.P.RoundKeeper.ends g.D.Desk.tree) (g.P.RoundKeeper.may_stop g.D.Desk.tree) _
    c.take_all-taken.result.0.items c.args.round.now.taken c.in_ok-entries.entries.items c.as_slice-2.result.now _ _ _ _ _ _ c.take_all-taken.ensures.taken c.as_slice-2.ensures.value legal c.end_round.result
    (λ lines noted. c.end_round.ensures.stopped (c.args.keeper.now, c.args.disk.now) written (whole_round lines c.as_slice-2.result.now)
    (c.in_ok-keep.ensures.kept lines (subst (λ some. g.P.Keeper.notes some lines) (sym noted_is) noted))
    (subst (Appends written (g.K.Sink.contents c.write_lines.new.output)) text c.in_ok-write_lines.ensures.ok))

-- the lines were written in part
pub returns-in_err-write_lines-clause-stops : goal.returns-in_err-write_lines-clause-stops
returns-in_err-write_lines-clause-stops g c = λ workers many.
    let known = StatesEveryLayer g.D.Desk.tree in
    let trees = trees_of g.D.Desk.tree in
    let legal = c.in_ok-entries.ensures.legal workers many in
    let noted_is = c.as_slice.ensures.value ∙ c.take_all-taken.ensures.noted in
    let written = g.K.Sink.contents c.args.output.now in
    let written_now = g.K.Sink.contents c.write_lines.new.output in
    let error = c.in_err-write_lines.field-0.0 in
    let text = text_of_lines known trees workers g.D.Desk.listings g.D.Desk.faults c.take_all-taken.result.0.items _ _ _ _ (λ line. string_bytes line) c.in_ok-entries.lines.items c.as_slice-3.result.now c.in_ok-entries.entries.items
    c.as_slice-2.result.now legal c.as_slice-3.ensures.value c.as_slice-2.ensures.value in
    if_handed
    (λ by. RoundStops known trees workers g.D.Desk.listings g.D.Desk.faults (g.P.Keeper.notes c.args.round.now.noted) (g.P.RoundKeeper.may_stop g.D.Desk.tree) c.args.round.now.taken
    (moment_of trees g.L.Identity.limits c.args.service.now.hub) c.args.desks.now c.round_lines.new.desks
    ((c.args.keeper.now, c.args.disk.now), written) ((c.keep.new.self, c.keep.new.disk), written_now) by)
    error c.from_residual-in_err-write_lines.result c.from_residual-in_err-write_lines.ensures.1
    (round_stopped known trees workers g.D.Desk.listings g.D.Desk.faults (g.P.Keeper.notes c.args.round.now.noted) (g.P.RoundKeeper.ends g.D.Desk.tree) (g.P.RoundKeeper.may_stop g.D.Desk.tree) _
    c.take_all-taken.result.0.items c.args.round.now.taken c.in_ok-entries.entries.items c.as_slice-2.result.now _ _ _ _ _ _ c.take_all-taken.ensures.taken c.as_slice-2.ensures.value legal error
    (λ lines noted. g.met.P.RoundKeeper.stops_written g.D.Desk.tree error (c.args.keeper.now, c.args.disk.now) (c.keep.new.self, c.keep.new.disk) written written_now (whole_round lines c.as_slice-2.result.now) _
    (c.in_ok-keep.ensures.kept lines (subst (λ some. g.P.Keeper.notes some lines) (sym noted_is) noted))
    (subst (AppendsPrefix written written_now) text c.in_err-write_lines.ensures.err)))

-- the round was not kept
pub returns-in_err-keep-clause-stops : goal.returns-in_err-keep-clause-stops
returns-in_err-keep-clause-stops g c = λ workers many.
    let known = StatesEveryLayer g.D.Desk.tree in
    let trees = trees_of g.D.Desk.tree in
    let legal = c.in_ok-entries.ensures.legal workers many in
    let noted_is = c.as_slice.ensures.value ∙ c.take_all-taken.ensures.noted in
    let written = g.K.Sink.contents c.args.output.now in
    if_handed
    (λ by. RoundStops known trees workers g.D.Desk.listings g.D.Desk.faults (g.P.Keeper.notes c.args.round.now.noted) (g.P.RoundKeeper.may_stop g.D.Desk.tree) c.args.round.now.taken
    (moment_of trees g.L.Identity.limits c.args.service.now.hub) c.args.desks.now c.round_lines.new.desks
    ((c.args.keeper.now, c.args.disk.now), written) ((c.keep.new.self, c.keep.new.disk), written) by)
    error.NoMemory c.from_residual-in_err-keep.result c.from_residual-in_err-keep.ensures.1
    (round_stopped known trees workers g.D.Desk.listings g.D.Desk.faults (g.P.Keeper.notes c.args.round.now.noted) (g.P.RoundKeeper.ends g.D.Desk.tree) (g.P.RoundKeeper.may_stop g.D.Desk.tree) _
    c.take_all-taken.result.0.items c.args.round.now.taken c.in_ok-entries.entries.items c.as_slice-2.result.now _ _ _ _ _ _ c.take_all-taken.ensures.taken c.as_slice-2.ensures.value legal error.NoMemory
    (λ lines noted. g.met.P.RoundKeeper.stops_unkept g.D.Desk.tree (c.args.keeper.now, c.args.disk.now) (c.keep.new.self, c.keep.new.disk) written (whole_round lines c.as_slice-2.result.now) _
    (c.in_err-keep.ensures.not_kept lines (subst (λ some. g.P.Keeper.notes some lines) (sym noted_is) noted))))

-- the round was run in part, if at all
pub returns-in_err-entries-clause-stops : goal.returns-in_err-entries-clause-stops
returns-in_err-entries-clause-stops g c = λ workers many.
    if_handed
    (λ by. RoundStops (StatesEveryLayer g.D.Desk.tree) (trees_of g.D.Desk.tree) workers g.D.Desk.listings g.D.Desk.faults (g.P.Keeper.notes c.args.round.now.noted) (g.P.RoundKeeper.may_stop g.D.Desk.tree) c.args.round.now.taken
    (moment_of (trees_of g.D.Desk.tree) g.L.Identity.limits c.args.service.now.hub) c.args.desks.now c.round_lines.new.desks ((c.args.keeper.now, c.args.disk.now), g.K.Sink.contents c.args.output.now) ((c.args.keeper.now, c.args.disk.now), g.K.Sink.contents c.args.output.now) by)
    error.NoMemory c.from_residual.result c.from_residual.ensures.1
    (inr (record {
      counts = at_least_none g.D.Desk.listings g.D.Desk.faults 0 c.args.desks.now c.round_lines.new.desks c.round_lines.ensures.listed c.round_lines.ensures.failed;
      unkept = refl;
    }))
