use Rattle.std.specs.Prelude.{◌≡◌, ◌+◌, ◌<◌, ◌^◌, ℕ, List, [], ◌∷◌, ◌++◌, length, Ok, refl}
use Rattle.std.proofs.Common.{ap, arith, length-append, subst, sym, ◌∙◌}
use Rattle.std.proofs.lemmas.Bool.{false≢true}
use Rattle.cv_base.specs.Lines.{numbered}
use Rattle.cv_io.specs.Reader.{IsAhead, Narrows, Reads, Step, reading}
use Rattle.cv_scan_input.proofs.Taken.{taken_first, taken_from, taken_more}
use Rattle.cv_core_machine.specs.Scans.{StatesEveryLayer, trees_of}
use Rattle.cv_serve_legal.specs.Rounds.{Cut, cut_line, cut_lines, round_limits}
use Rattle.cv_serve_legal.proofs.Serving.{cut_more, numbered_more}
use Rattle.cv_serve_round.specs.Begun.{line_at}
use Rattle.cv_serve_round.proofs.Further.{further_done}
use Rattle.cv_serve.specs.Done.{WroteDone}
use Rattle.cv_serve.specs.declared.end.Stop.TheVariants as stop
use Rattle.cv_serve.proofs.Input.{fresh_reader, given_first, handed_end, reads_more, reads_none, short_text, taken_stop}
use Rattle.cv_serve.proofs.Ending.{stopped_at, wrote_all, wrote_before, wrote_part}
use Rattle.cv_serve.proofs.UpTo.{no_further, none_given, none_left, one_given, stop_given}
use Rattle.cv_serve.proofs.service.read_lines.Goals as goal

pub loop-text-init : goal.loop-text-init
loop-text-init g c = record {
  not_spent = c.requires.not_spent;
  lines = ([], refl, reads_none (reading c.args.reader.now (g.S.Source.remaining c.args.input.now)), none_given c.args.reader.now (g.S.Source.remaining c.args.input.now) c.requires.fresh.0 c.requires.fresh.1, λ workers many start begun. begun);
  seen = λ e. absurd (false≢true (sym c.requires.begins ∙ e));
  limits = c.requires.limits;
  taken = taken_first c.args.reader.now.taken (g.S.Source.remaining c.args.input.now);
  prepared = c.requires.prepared;
  ready = c.requires.ready;
  count = refl;
  space = omega (arith, c.requires.input);
  read_later = omega arith;
  write_later = omega arith;
}

pub loop-text-preserved : goal.loop-text-preserved
loop-text-preserved g c =
    let before = c.loop-text.invariant in
    let texts : List (List ℕ) = before.lines.0 in
    let text : List ℕ = c.in-Text.text in
    let number : ℕ = c.loop-text.number + 1 in
    let was = reading c.loop-text.reader (g.S.Source.remaining c.loop-text.input) in
    let now = reading c.next.new.self (g.S.Source.remaining c.next.new.input) in
    let read = subst (λ line. Reads was now (Ok line)) c.in-Text.is c.in_ok-text.ensures.reads in
    let narrow = subst (λ line. Narrows c.loop-text.reader c.next.new.self (Ok line)) c.in-Text.is c.in_ok-text.ensures.room in
    let step = subst (λ line. Step c.loop-text.reader c.next.new.self (g.S.Source.remaining c.loop-text.input) (g.S.Source.remaining c.next.new.input) (Ok line)) c.in-Text.is c.in_ok-text.ensures.step in
    let here : number ≡ length texts + 1 = omega (arith, before.lines.1) in
    let at : 1 + length texts ≡ number = omega (arith, before.lines.1) in
    let long : length (texts ++ text ∷ []) ≡ number = omega (arith, length-append texts (text ∷ []), before.lines.1) in
    let cut : Cut = cut_lines round_limits (numbered 1 texts) in
    let next : cut_lines round_limits (numbered 1 (texts ++ text ∷ [])) ≡ cut_line round_limits cut (line_at number c.as_slice.result.now) =
    ap (cut_lines round_limits) (numbered_more 1 texts text) ∙ cut_more round_limits (numbered 1 texts) (line_at (1 + length texts) text)
    ∙ ap (λ n. cut_line round_limits cut (line_at n text)) at ∙ ap (λ t. cut_line round_limits cut (line_at number t)) (sym c.as_slice.ensures) in
    record {
      not_spent = c.in_ok-text.ensures.spent;
      lines = (
        texts ++ text ∷ [],
        long,
        reads_more _ was now texts text before.lines.2 read,
        one_given c.loop-text.reader c.next.new.self _ _ _ texts (c.next.ensures.max_line ∙ before.limits.0) text before.lines.3 step,
        λ workers many start begun.
            let done = before.lines.4 workers many start begun in
            further_done (StatesEveryLayer g.D.Desk.tree) (trees_of g.D.Desk.tree) workers start g.D.Desk.listings g.D.Desk.faults (g.P.RoundKeeper.ends g.D.Desk.tree) cut (cut_line round_limits cut (line_at number c.as_slice.result.now)) (cut_lines round_limits (numbered 1 (texts ++ text ∷ []))) (length texts) _ number _ _ _ _ _ _ [] _ _ _ _ _ _ _ _ _ done
            (c.in_ok-take_line.ensures.further workers (before.count ∙ many) start cut (length texts) done.more here done.begun done.served) next long,
      );
      seen = c.next.ensures.step.takes.seen before.seen;
      limits = (c.next.ensures.max_line ∙ before.limits.0, c.next.ensures.max_input ∙ before.limits.1);
      taken = taken_more c.args.reader.now.taken c.loop-text.reader c.next.new.self _ _ _ c.next.result before.taken c.next.ensures.step;
      prepared = c.in_ok-take_line.ensures.prepared;
      ready = c.in_ok-take_line.ensures.ready;
      count = c.take_line.auto.desks ∙ before.count;
      space = omega (arith, before.space, narrow.0);
      read_later = omega (arith, before.read_later, c.next.ensures.cause.later);
      write_later = omega (arith, before.write_later, c.take_line.ensures.cause.later);
    }

-- the text of a line is short
pub take_line-requires-clause-fits : goal.take_line-requires-clause-fits
take_line-requires-clause-fits g c = λ lifetimes outlive.
    subst (λ text. length text < 2 ^ 32) (sym c.as_slice.ensures)
    (short_text c.loop-text.reader c.next.new.self _ _ c.in-Text.text (c.next.ensures.max_line ∙ c.loop-text.invariant.limits.0)
    (subst (λ line. Step c.loop-text.reader c.next.new.self (g.S.Source.remaining c.loop-text.input) (g.S.Source.remaining c.next.new.input) (Ok line)) c.in-Text.is c.in_ok-text.ensures.step))

pub returns-in_err-text-clause-taken : goal.returns-in_err-text-clause-taken
returns-in_err-text-clause-taken g c =
    taken_stop c.args.reader.now.taken c.loop-text.reader c.next.new.self _ _ _ c.in_err-text.field-0.0 c.from_residual.result c.loop-text.invariant.taken c.in_err-text.ensures.step
    (c.next.ensures.max_input ∙ c.loop-text.invariant.limits.1) c.from_residual.ensures.1

pub returns-in_err-text-clause-front : goal.returns-in_err-text-clause-front
returns-in_err-text-clause-front g c =
    let before = c.loop-text.invariant in
    stop_given c.loop-text.reader c.next.new.self _ _ _ before.lines.0 (c.next.ensures.max_line ∙ before.limits.0) c.in_err-text.field-0.0 c.from_residual.result before.lines.3
    c.in_err-text.ensures.step (c.next.ensures.max_input ∙ before.limits.1) c.from_residual.ensures.1

-- ---- what was written

-- the next line was not given
pub returns-in_err-text-clause-wrote : goal.returns-in_err-text-clause-wrote
returns-in_err-text-clause-wrote g c = λ workers many start begun.
    let before = c.loop-text.invariant in
    let remaining = g.S.Source.remaining c.args.input.now in
    let error = c.in_err-text.field-0.0 in
    handed_end
    (λ ended. WroteDone (StatesEveryLayer g.D.Desk.tree) (trees_of g.D.Desk.tree) workers start g.D.Desk.listings g.D.Desk.faults (g.P.RoundKeeper.ends g.D.Desk.tree) (g.P.RoundKeeper.may_stop g.D.Desk.tree) remaining (g.S.Source.remaining c.next.new.input)
    c.args.desks.now c.loop-text.desks ((c.args.keeper.now, c.args.disk.now), g.K.Sink.contents c.args.output.now) ((c.loop-text.keeper, c.loop-text.disk), g.K.Sink.contents c.loop-text.output) ended)
    (stop.Input error) c.from_residual.result c.from_residual.ensures.1
    (wrote_before (StatesEveryLayer g.D.Desk.tree) (trees_of g.D.Desk.tree) workers start g.D.Desk.listings g.D.Desk.faults (g.P.RoundKeeper.ends g.D.Desk.tree) (g.P.RoundKeeper.may_stop g.D.Desk.tree) remaining (g.S.Source.remaining c.next.new.input) before.lines.0 _ _ _ _ _ _ _ _ (before.lines.4 workers many start begun) error
    (given_first c.args.reader.now remaining _ before.lines.0
    (fresh_reader c.args.reader.now c.requires.fresh.0 c.requires.fresh.1 c.requires.begins c.requires.limits.0 c.requires.limits.1 remaining) before.lines.2)
    (none_left c.loop-text.reader c.next.new.self _ _ _ before.lines.0 (c.next.ensures.max_line ∙ before.limits.0) error before.lines.3 c.in_err-text.ensures.step (c.next.ensures.max_input ∙ before.limits.1)))

-- a round that the line ended stops
pub returns-in_err-take_line-clause-wrote : goal.returns-in_err-take_line-clause-wrote
returns-in_err-take_line-clause-wrote g c = λ workers many start begun.
    let before = c.loop-text.invariant in
    let remaining = g.S.Source.remaining c.args.input.now in
    let error = c.in_err-take_line.field-0.0 in
    let texts : List (List ℕ) = before.lines.0 in
    let text : List ℕ = c.in-Text.text in
    let number : ℕ = c.loop-text.number + 1 in
    let was = reading c.loop-text.reader (g.S.Source.remaining c.loop-text.input) in
    let now = reading c.next.new.self (g.S.Source.remaining c.next.new.input) in
    let read = subst (λ line. Reads was now (Ok line)) c.in-Text.is c.in_ok-text.ensures.reads in
    let step = subst (λ line. Step c.loop-text.reader c.next.new.self (g.S.Source.remaining c.loop-text.input) (g.S.Source.remaining c.next.new.input) (Ok line)) c.in-Text.is c.in_ok-text.ensures.step in
    let taken = one_given c.loop-text.reader c.next.new.self _ _ _ texts (c.next.ensures.max_line ∙ before.limits.0) text before.lines.3 step in
    let ahead = subst (λ line. IsAhead c.next.new.self (Ok line)) c.in-Text.is c.in_ok-text.ensures.ahead in
    let here : number ≡ length texts + 1 = omega (arith, before.lines.1) in
    let at : 1 + length texts ≡ number = omega (arith, before.lines.1) in
    let cut : Cut = cut_lines round_limits (numbered 1 texts) in
    let next : cut_lines round_limits (numbered 1 (texts ++ text ∷ [])) ≡ cut_line round_limits cut (line_at number c.as_slice.result.now) =
    ap (cut_lines round_limits) (numbered_more 1 texts text) ∙ cut_more round_limits (numbered 1 texts) (line_at (1 + length texts) text)
    ∙ ap (λ n. cut_line round_limits cut (line_at n text)) at ∙ ap (λ t. cut_line round_limits cut (line_at number t)) (sym c.as_slice.ensures) in
    let done = before.lines.4 workers many start begun in
    handed_end
    (λ ended. WroteDone (StatesEveryLayer g.D.Desk.tree) (trees_of g.D.Desk.tree) workers start g.D.Desk.listings g.D.Desk.faults (g.P.RoundKeeper.ends g.D.Desk.tree) (g.P.RoundKeeper.may_stop g.D.Desk.tree) remaining (g.S.Source.remaining c.next.new.input)
    c.args.desks.now c.take_line.new.desks ((c.args.keeper.now, c.args.disk.now), g.K.Sink.contents c.args.output.now) ((c.take_line.new.keeper, c.take_line.new.disk), g.K.Sink.contents c.take_line.new.output) ended)
    (stop.Output error) c.from_residual-in_err-take_line.result c.from_residual-in_err-take_line.ensures.1
    (wrote_part (StatesEveryLayer g.D.Desk.tree) (trees_of g.D.Desk.tree) workers start g.D.Desk.listings g.D.Desk.faults (g.P.RoundKeeper.ends g.D.Desk.tree) (g.P.RoundKeeper.may_stop g.D.Desk.tree) remaining (g.S.Source.remaining c.next.new.input) _ _ _ _ error
    (stopped_at (StatesEveryLayer g.D.Desk.tree) (trees_of g.D.Desk.tree) workers start g.D.Desk.listings g.D.Desk.faults (g.P.RoundKeeper.ends g.D.Desk.tree) (g.P.RoundKeeper.may_stop g.D.Desk.tree) remaining (g.S.Source.remaining c.next.new.input) texts _ _ _ _ _ _ _ _ done
    text (cut_line round_limits cut (line_at number c.as_slice.result.now)) _ _ error
    (given_first c.args.reader.now remaining now (texts ++ text ∷ [])
    (fresh_reader c.args.reader.now c.requires.fresh.0 c.requires.fresh.1 c.requires.begins c.requires.limits.0 c.requires.limits.1 remaining) (reads_more _ was now texts text before.lines.2 read))
    (no_further c.next.new.self remaining (g.S.Source.remaining c.next.new.input) (texts ++ text ∷ []) text taken ahead)
    (sym next)
    (c.in_err-take_line.ensures.stops workers (before.count ∙ many) start cut (length texts) done.more here done.begun done.served)))

-- all lines were given
pub returns-clause-wrote : goal.returns-clause-wrote
returns-clause-wrote g c = λ workers many start begun.
    let before = c.loop-text.invariant in
    wrote_all (StatesEveryLayer g.D.Desk.tree) (trees_of g.D.Desk.tree) workers start g.D.Desk.listings g.D.Desk.faults (g.P.RoundKeeper.ends g.D.Desk.tree) (g.P.RoundKeeper.may_stop g.D.Desk.tree) (g.S.Source.remaining c.args.input.now) (g.S.Source.remaining c.next.new.input) before.lines.0 _ _ _ _ _ _ _ _ (before.lines.4 workers many start begun)

pub returns-in_err-text-clause-limit : goal.returns-in_err-text-clause-limit
returns-in_err-text-clause-limit g c =
    taken_from c.args.reader.now.taken c.loop-text.reader c.next.new.self _ _ _ c.next.result c.loop-text.invariant.taken c.next.ensures.step
    (c.next.ensures.max_input ∙ c.loop-text.invariant.limits.1)

pub returns-in_err-take_line-clause-limit : goal.returns-in_err-take_line-clause-limit
returns-in_err-take_line-clause-limit g c =
    taken_from c.args.reader.now.taken c.loop-text.reader c.next.new.self _ _ _ c.next.result c.loop-text.invariant.taken c.next.ensures.step
    (c.next.ensures.max_input ∙ c.loop-text.invariant.limits.1)
