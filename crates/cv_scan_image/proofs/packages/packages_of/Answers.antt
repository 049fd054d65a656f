use Rattle.std.proofs.Common.{[], map, ap, ◌∙◌}
use Rattle.cv_coalesce.specs.Coalesced.{at_places}
use Rattle.cv_facts.specs.Reduction.{Known}
use Rattle.cv_scan_image.proofs.ListLemmas.{listed}
use Rattle.cv_scan_image.proofs.PlaceLemmas.{all_known, at_most_facts}
use Rattle.cv_scan_image.proofs.packages.packages_of.Goals as goal

pub places_of-requires-clause-at_most_128_facts : goal.places_of-requires-clause-at_most_128_facts
places_of-requires-clause-at_most_128_facts g c = at_most_facts c.args.facts.now c.args.layers.now _ c.requires.indexed c.requires.at_most_128_layers

pub places_of-requires-clause-known : goal.places_of-requires-clause-known
places_of-requires-clause-known g c = all_known (map (λ (f : Known). f.digest) c.args.facts.now) c.args.layers.now c.requires.indexed

pub returns-clause-answer : goal.returns-clause-answer
returns-clause-answer g c =
    listed g.D.Desk.tree (at_places [] (map (λ (f : Known). f.digest) c.args.facts.now) c.deref.result.now) c.args.layers.now c.args.seals.now c.in_ok-packages.packages c.good_packages.result
    (ap (at_places [] (map (λ (f : Known). f.digest) c.args.facts.now)) c.deref.ensures.value ∙ c.in_ok-places.ensures.layers) c.in_ok-packages.ensures.answer c.good_packages.ensures.answer
