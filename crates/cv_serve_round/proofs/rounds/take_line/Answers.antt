use Rattle.std.specs.Prelude.{if◌then◌else◌, ◌+◌, ◌++◌, [], ◌∷◌, length, refl, true}
use Rattle.std.proofs.Common.{ap, arith, subst, sym, ◌∙◌}
use Rattle.std.proofs.lemmas.Result.{on_ok_weaker}
use Rattle.cv_io.specs.declared.write.WriteError.TheVariants as error
use Rattle.cv_core_machine.specs.Scans.{StatesEveryLayer, trees_of}
use Rattle.cv_serve_legal.specs.Rounds.{Cut, cut_line, end_full, end_round, put_line, round_limits}
use Rattle.cv_serve_legal.proofs.Serving.{later}
use Rattle.cv_serve_round.specs.Begun.{line_at}
use Rattle.cv_serve_round.specs.Done.{StopsDone}
use Rattle.cv_serve_round.specs.Round.{moment_of}
use Rattle.cv_serve_round.proofs.Further.{before_is, blank, filled, full_is, further_done, puts, runs_to}
use Rattle.cv_serve_round.proofs.Stops.{ended_before, put_later, round_stops, stops_after, stops_to, stops_with}
use Rattle.cv_serve_round.proofs.Written.{if_err_weaker, if_err_with, if_handed}
use Rattle.cv_serve_round.proofs.rounds.take_line.Goals as goal

-- ---- an empty line

pub returns-then-is_blank-clause-further : goal.returns-then-is_blank-clause-further
returns-then-is_blank-clause-further g c = λ workers many start cut last earlier number noted served.
    on_ok_weaker c.write_round.result
    (λ ran. runs_to (StatesEveryLayer g.D.Desk.tree) (trees_of g.D.Desk.tree) workers start g.D.Desk.listings g.D.Desk.faults (g.P.RoundKeeper.ends g.D.Desk.tree) g.P.Keeper.notes cut (cut_line round_limits cut (line_at c.args.number c.args.text.now)) c.args.number
    c.args.round.now.taken c.args.round.now.bytes c.args.round.now.noted _ earlier _ _ _ _ _ _ g.P.Keeper.none noted
    (later (StatesEveryLayer g.D.Desk.tree) (trees_of g.D.Desk.tree) workers start cut last c.args.round.now.taken c.args.round.now.bytes earlier _ served c.args.number (omega (arith, number))) ran
    (blank cut (line_at c.args.number c.args.text.now) (sym c.is_blank.ensures ∙ c.if-is_blank.true))
    c.write_round.ensures.begins)
    (c.write_round.ensures.ran workers many)

pub returns-then-is_blank-clause-stops : goal.returns-then-is_blank-clause-stops
returns-then-is_blank-clause-stops g c = λ workers many start cut last earlier number noted served.
    let line = line_at c.args.number c.args.text.now in
    if_err_weaker _ _ c.write_round.result
    (λ error r. stops_to (StatesEveryLayer g.D.Desk.tree) (trees_of g.D.Desk.tree) workers g.D.Desk.listings g.D.Desk.faults (g.P.RoundKeeper.ends g.D.Desk.tree) (g.P.RoundKeeper.may_stop g.D.Desk.tree) (end_round cut).rounds (cut_line round_limits cut line).rounds earlier _ _ _ _ _ error
    (ap (λ (to : Cut). to.rounds) (sym (blank cut line (sym c.is_blank.ensures ∙ c.if-is_blank.true))))
    (round_stops (StatesEveryLayer g.D.Desk.tree) (trees_of g.D.Desk.tree) workers g.D.Desk.listings g.D.Desk.faults (g.P.RoundKeeper.ends g.D.Desk.tree) (g.P.RoundKeeper.may_stop g.D.Desk.tree) start cut last c.args.round.now.taken c.args.round.now.bytes earlier _ _ _ _ _ served
    (g.P.Keeper.notes c.args.round.now.noted) noted error r))
    (c.write_round.ensures.stops workers many)

-- ---- any other line

pub returns-clause-further : goal.returns-clause-further
returns-clause-further g c = λ workers many start cut last earlier number noted served.
    let trees = trees_of g.D.Desk.tree in
    let line = line_at c.args.number c.args.text.now in
    let cut_before = if c.is_too_long-long.result then end_round cut else cut in
    let before = c.in_ok-end_if.ensures.further workers many start cut last earlier noted served in
    let cut_now = put_line line cut_before in
    let taken_now = c.in_ok-put.ensures.taken ∙ ap (λ taken. taken ++ c.take.result ∷ []) c.note.ensures.same.0 in
    let bytes_now = c.in_ok-put.ensures.bytes ∙ ap (λ n. n + length c.args.text.now) c.note.ensures.same.1 in
    let noted_now = subst (λ some. g.P.Keeper.notes some cut_now.begun) (sym c.put.ensures.noted) (c.in_ok-note.ensures.noted cut_before.begun before.begun) in
    let begun = puts (StatesEveryLayer g.D.Desk.tree) trees workers start cut_before last c.end_if.new.round.taken c.put.new.self.taken c.end_if.new.round.bytes c.put.new.self.bytes
    (earlier ++ before.more) _ line c.take.result before.served number c.take.ensures.taken taken_now bytes_now in
    let before_at = before_is (StatesEveryLayer g.D.Desk.tree) trees workers start cut last c.args.round.now.taken c.args.round.now.bytes (length c.args.text.now) earlier _ line c.is_too_long-long.result served refl c.is_too_long-long.ensures.value in
    let full_at = full_is (StatesEveryLayer g.D.Desk.tree) trees workers start cut_now (last + 1) c.put.new.self.taken c.put.new.self.bytes (earlier ++ before.more) _ c.is_full-full.result begun c.is_full-full.ensures in
    on_ok_weaker c.end_if-2.result
    (λ after. further_done (StatesEveryLayer g.D.Desk.tree) (trees_of g.D.Desk.tree) workers start g.D.Desk.listings g.D.Desk.faults (g.P.RoundKeeper.ends g.D.Desk.tree) cut_before _ (cut_line round_limits cut line) last c.args.number (last + 1) _ _ _ _ _ _ earlier _ _ _ _ _ _ _ _ _ before after
    (filled cut line (sym c.is_blank.ensures ∙ c.if-is_blank.false) ∙ ap (λ to. end_full round_limits (put_line line to)) before_at ∙ full_at) number)
    (c.end_if-2.ensures.further workers (c.end_if.auto.desks ∙ many) start cut_now (last + 1) (earlier ++ before.more) noted_now begun)

-- the full round stops
pub returns-clause-stops : goal.returns-clause-stops
returns-clause-stops g c = λ workers many start cut last earlier number noted served.
    let trees = trees_of g.D.Desk.tree in
    let line = line_at c.args.number c.args.text.now in
    let cut_before = if c.is_too_long-long.result then end_round cut else cut in
    let before = c.in_ok-end_if.ensures.further workers many start cut last earlier noted served in
    let cut_now = put_line line cut_before in
    let taken_now = c.in_ok-put.ensures.taken ∙ ap (λ taken. taken ++ c.take.result ∷ []) c.note.ensures.same.0 in
    let bytes_now = c.in_ok-put.ensures.bytes ∙ ap (λ n. n + length c.args.text.now) c.note.ensures.same.1 in
    let noted_now = subst (λ some. g.P.Keeper.notes some cut_now.begun) (sym c.put.ensures.noted) (c.in_ok-note.ensures.noted cut_before.begun before.begun) in
    let begun = puts (StatesEveryLayer g.D.Desk.tree) trees workers start cut_before last c.end_if.new.round.taken c.put.new.self.taken c.end_if.new.round.bytes c.put.new.self.bytes
    (earlier ++ before.more) _ line c.take.result before.served number c.take.ensures.taken taken_now bytes_now in
    let before_at = before_is (StatesEveryLayer g.D.Desk.tree) trees workers start cut last c.args.round.now.taken c.args.round.now.bytes (length c.args.text.now) earlier _ line c.is_too_long-long.result served refl c.is_too_long-long.ensures.value in
    if_err_with _ _ c.end_if-2.result c.end_if-2.ensures.ended
    (λ full error r.
    let full_at = full_is (StatesEveryLayer g.D.Desk.tree) trees workers start cut_now (last + 1) c.put.new.self.taken c.put.new.self.bytes (earlier ++ before.more) _ true begun (sym full ∙ c.is_full-full.ensures) in
    stops_to (StatesEveryLayer g.D.Desk.tree) (trees_of g.D.Desk.tree) workers g.D.Desk.listings g.D.Desk.faults (g.P.RoundKeeper.ends g.D.Desk.tree) (g.P.RoundKeeper.may_stop g.D.Desk.tree) (end_round cut_now).rounds (cut_line round_limits cut line).rounds earlier _ _ _ _ _ error
    (sym (ap (λ (to : Cut). to.rounds) (filled cut line (sym c.is_blank.ensures ∙ c.if-is_blank.false) ∙ ap (λ to. end_full round_limits (put_line line to)) before_at ∙ full_at)))
    (stops_after (StatesEveryLayer g.D.Desk.tree) (trees_of g.D.Desk.tree) workers g.D.Desk.listings g.D.Desk.faults (g.P.RoundKeeper.ends g.D.Desk.tree) (g.P.RoundKeeper.may_stop g.D.Desk.tree) (end_round cut_now).rounds earlier before.more _ _ _ _ _ _ _ _
    before.tags before.counts before.done error r))
    (c.end_if-2.ensures.stops workers (c.end_if.auto.desks ∙ many) start cut_now (last + 1) (earlier ++ before.more) noted_now begun)

-- the round stops that the line would make too long
pub returns-in_err-end_if-clause-stops : goal.returns-in_err-end_if-clause-stops
returns-in_err-end_if-clause-stops g c = λ workers many start cut last earlier number noted served.
    let trees = trees_of g.D.Desk.tree in
    let line = line_at c.args.number c.args.text.now in
    if_handed
    (λ error. StopsDone (StatesEveryLayer g.D.Desk.tree) trees workers g.D.Desk.listings g.D.Desk.faults (g.P.RoundKeeper.ends g.D.Desk.tree) (g.P.RoundKeeper.may_stop g.D.Desk.tree) (cut_line round_limits cut line).rounds earlier
    (moment_of trees g.L.Identity.limits c.args.service.now.hub) c.args.desks.now c.end_if.new.desks ((c.args.keeper.now, c.args.disk.now), g.K.Sink.contents c.args.output.now) ((c.end_if.new.keeper, c.end_if.new.disk), g.K.Sink.contents c.end_if.new.output) error)
    c.in_err-end_if.field-0.0 c.from_residual.result c.from_residual.ensures.1
    (stops_to (StatesEveryLayer g.D.Desk.tree) (trees_of g.D.Desk.tree) workers g.D.Desk.listings g.D.Desk.faults (g.P.RoundKeeper.ends g.D.Desk.tree) (g.P.RoundKeeper.may_stop g.D.Desk.tree) (end_round cut).rounds (cut_line round_limits cut line).rounds earlier _ _ _ _ _ c.in_err-end_if.field-0.0
    (ended_before cut line (filled cut line (sym c.is_blank.ensures ∙ c.if-is_blank.false))
    (before_is (StatesEveryLayer g.D.Desk.tree) trees workers start cut last c.args.round.now.taken c.args.round.now.bytes (length c.args.text.now) earlier _ line true served refl (sym c.in_err-end_if.ensures.ended ∙ c.is_too_long-long.ensures.value)))
    (c.in_err-end_if.ensures.stops workers many start cut last earlier noted served))

-- the line was not noted
pub returns-in_err-note-clause-stops : goal.returns-in_err-note-clause-stops
returns-in_err-note-clause-stops g c = λ workers many start cut last earlier number noted served.
    let trees = trees_of g.D.Desk.tree in
    let line = line_at c.args.number c.args.text.now in
    let cut_before = if c.is_too_long-long.result then end_round cut else cut in
    let before = c.in_ok-end_if.ensures.further workers many start cut last earlier noted served in
    let before_at = before_is (StatesEveryLayer g.D.Desk.tree) trees workers start cut last c.args.round.now.taken c.args.round.now.bytes (length c.args.text.now) earlier _ line c.is_too_long-long.result served refl c.is_too_long-long.ensures.value in
    let all = (cut_line round_limits cut line).rounds in
    let next = put_later cut_before line in
    if_handed
    (λ error. StopsDone (StatesEveryLayer g.D.Desk.tree) trees workers g.D.Desk.listings g.D.Desk.faults (g.P.RoundKeeper.ends g.D.Desk.tree) (g.P.RoundKeeper.may_stop g.D.Desk.tree) all earlier
    (moment_of trees g.L.Identity.limits c.args.service.now.hub) c.args.desks.now c.end_if.new.desks ((c.args.keeper.now, c.args.disk.now), g.K.Sink.contents c.args.output.now) ((c.end_if.new.keeper, c.end_if.new.disk), g.K.Sink.contents c.end_if.new.output) error)
    error.NoMemory c.from_residual-in_err-note.result c.from_residual-in_err-note.ensures.1
    (stops_with (StatesEveryLayer g.D.Desk.tree) (trees_of g.D.Desk.tree) workers g.D.Desk.listings g.D.Desk.faults (g.P.RoundKeeper.ends g.D.Desk.tree) (g.P.RoundKeeper.may_stop g.D.Desk.tree) start cut_before last _ _ _ earlier _ _ _ _ _ _ all next.0 before
    (next.1 ∙ sym (ap (λ (to : Cut). to.rounds) (filled cut line (sym c.is_blank.ensures ∙ c.if-is_blank.false) ∙ ap (λ to. end_full round_limits (put_line line to)) before_at))))

-- the line was not put
pub returns-in_err-put-clause-stops : goal.returns-in_err-put-clause-stops
returns-in_err-put-clause-stops g c = λ workers many start cut last earlier number noted served.
    let trees = trees_of g.D.Desk.tree in
    let line = line_at c.args.number c.args.text.now in
    let cut_before = if c.is_too_long-long.result then end_round cut else cut in
    let before = c.in_ok-end_if.ensures.further workers many start cut last earlier noted served in
    let before_at = before_is (StatesEveryLayer g.D.Desk.tree) trees workers start cut last c.args.round.now.taken c.args.round.now.bytes (length c.args.text.now) earlier _ line c.is_too_long-long.result served refl c.is_too_long-long.ensures.value in
    let all = (cut_line round_limits cut line).rounds in
    let next = put_later cut_before line in
    if_handed
    (λ error. StopsDone (StatesEveryLayer g.D.Desk.tree) trees workers g.D.Desk.listings g.D.Desk.faults (g.P.RoundKeeper.ends g.D.Desk.tree) (g.P.RoundKeeper.may_stop g.D.Desk.tree) all earlier
    (moment_of trees g.L.Identity.limits c.args.service.now.hub) c.args.desks.now c.end_if.new.desks ((c.args.keeper.now, c.args.disk.now), g.K.Sink.contents c.args.output.now) ((c.end_if.new.keeper, c.end_if.new.disk), g.K.Sink.contents c.end_if.new.output) error)
    error.NoMemory c.from_residual-in_err-put.result c.from_residual-in_err-put.ensures.1
    (stops_with (StatesEveryLayer g.D.Desk.tree) (trees_of g.D.Desk.tree) workers g.D.Desk.listings g.D.Desk.faults (g.P.RoundKeeper.ends g.D.Desk.tree) (g.P.RoundKeeper.may_stop g.D.Desk.tree) start cut_before last _ _ _ earlier _ _ _ _ _ _ all next.0 before
    (next.1 ∙ sym (ap (λ (to : Cut). to.rounds) (filled cut line (sym c.is_blank.ensures ∙ c.if-is_blank.false) ∙ ap (λ to. end_full round_limits (put_line line to)) before_at))))
