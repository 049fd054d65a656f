use Rattle.std.proofs.Common.{sym, ◌∙◌}
use Rattle.cv_core_outcome.proofs.GatherLemmas.{all_known, known_at_most}
use Rattle.cv_core_outcome.proofs.image.outcome_of.Goals as goal

pub packages_of-requires-clause-at_most_128_layers : goal.packages_of-requires-clause-at_most_128_layers
packages_of-requires-clause-at_most_128_layers g c =
    rw (c.deref.ensures.value, c.in_ok-known.ensures) (known_at_most c.args.facts.now c.args.layers.now _ c.requires.at_most_128_layers)

pub packages_of-requires-clause-as_many_seals : goal.packages_of-requires-clause-as_many_seals
packages_of-requires-clause-as_many_seals g c =
    rw (c.deref.ensures.value, c.in_ok-known.ensures) (c.requires.as_many_seals ∙ sym (all_known c.args.facts.now c.args.layers.now (sym c.in_default.ensures)))
