-- The outcome of an image, from which its report is read (defined by this project): the first of its layers that has no facts, or
-- else why the image has no packages, or else its packages with their findings.
use Rattle.std.specs.Prelude.{ℕ, Bool, not, List, map, Option, Some, None}
use Rattle.std.specs.List.{filter_map, find}
use Rattle.std.specs.Option.{is_some}
use Rattle.cv_coalesce.specs.Coalesced.{coalesced}
use Rattle.cv_coalesce.specs.declared.image.ImagePackages.{ImagePackages}
use Rattle.cv_coalesce.specs.declared.image.ImagePackages.TheVariants as packages
use Rattle.cv_facts.specs.Reduction.{Known}
use Rattle.cv_facts.specs.declared.reduction.Shape.{Shape}
use Rattle.cv_findings.specs.Pairs.{pair_count}
use Rattle.cv_core_machine.specs.State.{Feeds, value_at}
use Rattle.cv_core_machine.specs.declared.image.Image.{Image}
use Rattle.cv_match.specs.Findings.{findings}
use Rattle.cv_core_outcome.specs.declared.outcome.Outcome.{Outcome}
use Rattle.cv_core_outcome.specs.declared.outcome.Outcome.TheVariants.{Bad, Good, Pending}

-- the facts of layers, each under the digest of its layer, in ascending order of the digests
abbrev pub FactTable : Type 0
FactTable = List (List ℕ × Known)

-- a layer has facts
abbrev pub has_facts : FactTable → List ℕ → Bool
has_facts facts layer = is_some (value_at facts layer)

-- the first of these layers that has no facts
abbrev pub first_unknown : FactTable → List (List ℕ) → Option (List ℕ)
first_unknown facts layers = find (λ layer. not (has_facts facts layer)) layers

-- the facts of these layers, without those that have none
abbrev pub known_layers : FactTable → List (List ℕ) → List Known
known_layers facts layers = filter_map (value_at facts) layers

-- their shapes
abbrev pub known_shapes : FactTable → List (List ℕ) → List Shape
known_shapes facts layers = map (λ (known : Known). known.shape) (known_layers facts layers)

-- the outcome of an image of these packages, or that it has none
abbrev pub matched : Feeds → ImagePackages → Outcome
matched feeds (packages.Good found) = Good found (findings found feeds)
matched feeds (packages.Bad fault) = Bad fault

-- the outcome of an image of which this layer has no facts, if there is one, or else of these packages
abbrev pub outcome_by : Option (List ℕ) → Feeds → ImagePackages → Outcome
outcome_by (Some layer) feeds found = Pending layer
outcome_by None feeds found = matched feeds found

-- the outcome of an image: takes the facts of layers, the feeds, each by its name with its records, and the image, by its layers,
-- the base first, and their stated seals
abbrev pub outcome_at : FactTable → Feeds → Image → Outcome
outcome_at facts feeds image = outcome_by (first_unknown facts image.layers) feeds (coalesced (known_shapes facts image.layers) image.seals)

-- how many pairs there are of a package of the image and a record under one of its keys
abbrev pub outcome_pairs : Feeds → Outcome → ℕ
outcome_pairs feeds (Good found matches) = pair_count found feeds
outcome_pairs feeds (Bad fault) = 0
outcome_pairs feeds (Pending layer) = 0
