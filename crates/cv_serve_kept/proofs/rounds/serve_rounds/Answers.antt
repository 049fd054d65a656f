use Rattle.std.specs.Prelude.{length, refl}
use Rattle.std.proofs.Common.{ap, sym, ◌∙◌}
use Rattle.cv_core_machine.specs.Scans.{StatesEveryLayer, trees_of}
use Rattle.cv_keep_rounds.specs.Keeping.{IsKept, MayBeKept}
use Rattle.cv_serve_legal.specs.Replay.{Moment}
use Rattle.cv_serve_round.specs.Round.{moment_of}
use Rattle.cv_serve_round.specs.Written.{EndsWritten, StopsWritten}
use Rattle.cv_serve.specs.declared.end.ServeEnd.{ServeEnd}
use Rattle.cv_serve.proofs.Lines.{if_served_lines, wrote_lines}
use Rattle.cv_serve_kept.proofs.Causes.{keep_cause, keep_later}
use Rattle.cv_serve_kept.proofs.Ending.{ends_with, ends_without}
use Rattle.cv_serve_kept.proofs.rounds.serve_rounds.Goals as goal

pub returns-in-Some-clause-outcome : goal.returns-in-Some-clause-outcome
returns-in-Some-clause-outcome g c = λ written desks resumed.
    let start : Moment = moment_of (trees_of g.D.Desk.tree) g.L.Identity.limits c.args.service.now.hub in
    let keeps = IsKept g.J.Disk.contents g.J.Disk.faults in
    let may_keep = MayBeKept g.J.Disk.contents g.J.Disk.faults in
    let wrote = wrote_lines (StatesEveryLayer g.D.Desk.tree) (trees_of g.D.Desk.tree) (length c.args.desks.now) (EndsWritten keeps) (StopsWritten keeps may_keep) keeps may_keep (λ x round moment y h. h) (λ error x round moment y h. h)
    start g.D.Desk.listings g.D.Desk.faults c.args.desks.now _ _ _ (g.S.Source.remaining c.args.input.now) _ c.serve_from-end.result (c.serve_from-end.ensures.wrote start refl) in
    ends_with g.D.Desk.tree (length c.args.desks.now) g.D.Desk.listings g.D.Desk.faults g.J.Disk.contents g.J.Disk.faults start
    (g.S.Source.remaining c.args.input.now) (g.S.Source.remaining c.serve_from-end.new.input) written (g.K.Sink.contents c.args.output.now) (g.K.Sink.contents c.serve_from-end.new.output)
    desks c.args.desks.now c.serve_from-end.new.desks (c.new-keeper.result, c.args.disk.now) (c.serve_from-end.new.keeper, c.serve_from-end.new.disk)
    resumed c.serve_from-end.result c.in-Some.error (ap (λ k. k.error) c.new-keeper.ensures) (sym c.error.ensures ∙ c.in-Some.is) wrote

pub returns-in-None-clause-outcome : goal.returns-in-None-clause-outcome
returns-in-None-clause-outcome g c = λ written desks resumed.
    let start : Moment = moment_of (trees_of g.D.Desk.tree) g.L.Identity.limits c.args.service.now.hub in
    let keeps = IsKept g.J.Disk.contents g.J.Disk.faults in
    let may_keep = MayBeKept g.J.Disk.contents g.J.Disk.faults in
    let wrote = wrote_lines (StatesEveryLayer g.D.Desk.tree) (trees_of g.D.Desk.tree) (length c.args.desks.now) (EndsWritten keeps) (StopsWritten keeps may_keep) keeps may_keep (λ x round moment y h. h) (λ error x round moment y h. h)
    start g.D.Desk.listings g.D.Desk.faults c.args.desks.now _ _ _ (g.S.Source.remaining c.args.input.now) _ c.serve_from-end.result (c.serve_from-end.ensures.wrote start refl) in
    ends_without g.D.Desk.tree (length c.args.desks.now) g.D.Desk.listings g.D.Desk.faults g.J.Disk.contents g.J.Disk.faults start
    (g.S.Source.remaining c.args.input.now) (g.S.Source.remaining c.serve_from-end.new.input) written (g.K.Sink.contents c.args.output.now) (g.K.Sink.contents c.serve_from-end.new.output)
    desks c.args.desks.now c.serve_from-end.new.desks (c.new-keeper.result, c.args.disk.now) (c.serve_from-end.new.keeper, c.serve_from-end.new.disk)
    resumed c.serve_from-end.result
    (λ known is. if_served_lines (StatesEveryLayer g.D.Desk.tree) (trees_of g.D.Desk.tree) (length c.args.desks.now) (EndsWritten keeps) (StopsWritten keeps may_keep) keeps may_keep (λ x round moment y h. h) (λ error x round moment y h. h)
    start g.D.Desk.listings g.D.Desk.faults c.args.desks.now _ _ _ (g.S.Source.remaining c.args.input.now) (c.serve_from-end.ensures.done known start refl is)) wrote

-- ---- the file

pub returns-in-Some-clause-keep_cause : goal.returns-in-Some-clause-keep_cause
returns-in-Some-clause-keep_cause g c =
    let start : Moment = moment_of (trees_of g.D.Desk.tree) g.L.Identity.limits c.args.service.now.hub in
    let keeps = IsKept g.J.Disk.contents g.J.Disk.faults in
    let may_keep = MayBeKept g.J.Disk.contents g.J.Disk.faults in
    let wrote = wrote_lines (StatesEveryLayer g.D.Desk.tree) (trees_of g.D.Desk.tree) (length c.args.desks.now) (EndsWritten keeps) (StopsWritten keeps may_keep) keeps may_keep (λ x round moment y h. h) (λ error x round moment y h. h)
    start g.D.Desk.listings g.D.Desk.faults c.args.desks.now _ _ _ (g.S.Source.remaining c.args.input.now) _ c.serve_from-end.result (c.serve_from-end.ensures.wrote start refl) in
    keep_cause g.J.Disk.contents g.J.Disk.faults (StatesEveryLayer g.D.Desk.tree) (trees_of g.D.Desk.tree) (length c.args.desks.now) start g.D.Desk.listings g.D.Desk.faults
    (g.S.Source.remaining c.args.input.now) (g.S.Source.remaining c.serve_from-end.new.input) (g.K.Sink.contents c.args.output.now) (g.K.Sink.contents c.serve_from-end.new.output)
    c.args.desks.now c.serve_from-end.new.desks (c.new-keeper.result, c.args.disk.now) (c.serve_from-end.new.keeper, c.serve_from-end.new.disk)
    c.serve_from-end.result (ap (λ k. k.error) c.new-keeper.ensures) wrote ServeEnd c.in-Some.error (sym c.error.ensures ∙ c.in-Some.is)

pub returns-in-None-clause-keep_cause : goal.returns-in-None-clause-keep_cause
returns-in-None-clause-keep_cause g c =
    let start : Moment = moment_of (trees_of g.D.Desk.tree) g.L.Identity.limits c.args.service.now.hub in
    let keeps = IsKept g.J.Disk.contents g.J.Disk.faults in
    let may_keep = MayBeKept g.J.Disk.contents g.J.Disk.faults in
    let wrote = wrote_lines (StatesEveryLayer g.D.Desk.tree) (trees_of g.D.Desk.tree) (length c.args.desks.now) (EndsWritten keeps) (StopsWritten keeps may_keep) keeps may_keep (λ x round moment y h. h) (λ error x round moment y h. h)
    start g.D.Desk.listings g.D.Desk.faults c.args.desks.now _ _ _ (g.S.Source.remaining c.args.input.now) _ c.serve_from-end.result (c.serve_from-end.ensures.wrote start refl) in
    record {
      later = keep_later g.J.Disk.contents g.J.Disk.faults (StatesEveryLayer g.D.Desk.tree) (trees_of g.D.Desk.tree) (length c.args.desks.now) start g.D.Desk.listings g.D.Desk.faults
          (g.S.Source.remaining c.args.input.now) (g.S.Source.remaining c.serve_from-end.new.input) (g.K.Sink.contents c.args.output.now) (g.K.Sink.contents c.serve_from-end.new.output)
          c.args.desks.now c.serve_from-end.new.desks (c.new-keeper.result, c.args.disk.now) (c.serve_from-end.new.keeper, c.serve_from-end.new.disk)
          c.serve_from-end.result wrote;
      rose = tt;
    }
