use Rattle.std.proofs.Common.{subst, sym}
use Rattle.std.proofs.lemmas.List.{drop_all}
use Rattle.cv_coalesce.proofs.KnownLemmas.{AreRight, right_stored}
use Rattle.cv_coalesce.proofs.shapes.shapes_of.Goals as goal

pub returns-clause-right : goal.returns-clause-right
returns-clause-right g c =
    right_stored g.D.Desk.tree c.args.facts.now c.args.layers.now
    (c.loop-layer.invariant.right (subst (AreRight g.D.Desk.tree c.args.facts.now) (sym (drop_all c.loop-layer.layer-index c.args.layers.now c.loop-layer-test.false)) tt))
