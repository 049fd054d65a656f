use Rattle.std.proofs.Common.{◌≡◌, IfOk, List, Bor, map, ap, subst, ◌∙◌}
use Rattle.cv_facts.specs.declared.reduction.Shape.{Shape}
use Rattle.cv_coalesce.specs.Coalesced.{coalesced}
use Rattle.cv_coalesce.proofs.ImageLemmas.{answered}
use Rattle.cv_coalesce.proofs.coalescer.coalesce.Goals as goal

pub returns-clause-answer : goal.returns-clause-answer
returns-clause-answer g c =
    answered _ _ c.args.seals.now c.coalesce_shapes.result c.in_ok-shapes.ensures.right
    (subst (λ (ss : List Shape). IfOk c.coalesce_shapes.result (λ found. found ≡ coalesced ss c.args.seals.now))
    (ap (map (λ (s : Bor Shape). s.now)) c.deref.ensures.value ∙ c.in_ok-shapes.ensures.shapes) c.coalesce_shapes.ensures)
