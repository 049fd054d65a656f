use Rattle.std.proofs.Common.{◌≡◌, List, rules, subst, sym, ◌∙◌}
use Rattle.std.proofs.lemmas.List.{append-nil}
use Rattle.std.proofs.IntoIterSteps.{All-taken}
use Rattle.cv_serve_legal.specs.declared.parsed_line.Requested.{Requested}
use Rattle.cv_serve_lanes.specs.code.Lane.{LaneDid, Answered, Submitted}
use Rattle.cv_serve_lanes.proofs.LaneLemmas.{lane_more}
use Rattle.cv_serve_lanes.proofs.lanes.run_lane.Goals as goal

pub loop-one-preserved-in-Continue-1 : goal.loop-one-preserved-in-Continue-1
loop-one-preserved-in-Continue-1 g c = (
  c.loop-one.invariant.0,
  lane_more g.D.Desk.tree g.L.Identity.limits c.loop-one.yielded c.in-Some.one c.args.seat.now c.loop-one.seat c.carry_out.new.seat c.args.lane.now.reads.items c.loop-one.lane.reads.items c.push.new.self.items
      (Answered c.in-Some-carry_out.read) c.loop-one.invariant.1 c.in-Some-carry_out.ensures.read c.in_ok-push.ensures.items,
)

pub loop-one-preserved : goal.loop-one-preserved
loop-one-preserved g c =
    let one = c.in_default.ensures.event in (
      c.loop-one.invariant.0,
      lane_more g.D.Desk.tree g.L.Identity.limits c.loop-one.yielded c.in-Some.one c.args.seat.now c.loop-one.seat c.carry_out.new.seat c.args.lane.now.reads.items c.loop-one.lane.reads.items c.loop-one.lane.reads.items
          (Submitted one.0) c.loop-one.invariant.1 one.1 (sym (append-nil c.loop-one.lane.reads.items)),
    )

pub returns : goal.returns
returns g c =
    let start : c.into_iter-one-iterator.result.rest.items ≡ c.args.lane.now.requested.items = search rules in
    let all : c.loop-one.yielded ≡ c.args.lane.now.requested.items =
    All-taken c.into_iter-one-iterator.result c.loop-one.yielded (c.next.new.self, (c.loop-one.one-iterator, c.loop-one.yielded_by, c.in-None.ensures.steps))
    ∙ start in
    (c.loop-one.invariant.0, subst (λ (requested : List Requested). LaneDid g.D.Desk.tree g.L.Identity.limits requested c.args.seat.now c.args.lane.now.reads.items c.loop-one.seat c.loop-one.lane.reads.items) all c.loop-one.invariant.1)
