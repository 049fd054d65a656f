use Rattle.std.proofs.Common.{◌≡◌, IfOk, List, ap, arith, length, subst, sym, ◌∙◌}
use Rattle.std.proofs.lemmas.List.{length-map}
use Rattle.std.proofs.lemmas.List.FromFn.{length-range_with_len}
use Rattle.cv_facts.specs.declared.reduction.Shape.{Shape}
use Rattle.cv_facts.specs.declared.reduction.Shape.TheVariants.{NoLayer}
use Rattle.cv_coalesce.specs.Coalesced.{chosen, coalesced}
use Rattle.cv_core_outcome.proofs.GatherLemmas.{all_places, places_within}
use Rattle.cv_core_outcome.proofs.gather.packages_of.Goals as goal

pub coalesce-requires-clause-at_most_128_layers : goal.coalesce-requires-clause-at_most_128_layers
coalesce-requires-clause-at_most_128_layers g c =
    omega (arith, ap length (c.deref.ensures.value ∙ c.in_ok-places.ensures), length-range_with_len 0 (length c.args.known.now), c.requires.at_most_128_layers)

pub coalesce-requires-clause-places : goal.coalesce-requires-clause-places
coalesce-requires-clause-places g c = rw (c.deref.ensures.value, c.in_ok-places.ensures) (places_within (length c.args.known.now))

pub coalesce-requires-clause-as_many_seals : goal.coalesce-requires-clause-as_many_seals
coalesce-requires-clause-as_many_seals g c =
    c.requires.as_many_seals ∙ sym (ap length (c.deref.ensures.value ∙ c.in_ok-places.ensures) ∙ length-range_with_len 0 (length c.args.known.now))

pub returns : goal.returns
returns g c =
    subst (λ (ss : List Shape). IfOk c.coalesce.result (λ found. found ≡ coalesced ss c.args.seals.now))
    (ap (chosen _) (c.deref.ensures.value ∙ c.in_ok-places.ensures) ∙ all_places NoLayer _ (length c.args.known.now) (length-map c.args.known.now _))
    c.coalesce.ensures.shapes
