-- How knowledge changes when an image is registered or dropped, a layer is indexed, or a feed is updated.
use Rattle.std.specs.Prelude.{ℕ, Bool, false, if◌then◌else◌, List, [], ◌∷◌, Option, Some, None}
use Rattle.std.specs.Option.{is_some}
use Rattle.cv_advdb.specs.Feeds.{FeedTable}
use Rattle.cv_facts.specs.Reduction.{Known}
use Rattle.cv_core_machine.specs.State.{Feeds, Images, Layers, value_at, with_value, without_value}
use Rattle.cv_core_machine.specs.declared.image.Image.{Image}
use Rattle.cv_core_outcome.specs.Facts.{waits_for}
use Rattle.cv_core_outcome.specs.Outcome.{FactTable, outcome_at, outcome_pairs}
use Rattle.cv_core_outcome.specs.Update.{rematched}
use Rattle.cv_core_outcome.specs.declared.outcome.Outcome.{Outcome}
use Rattle.cv_core_registry.specs.Registrations.{users_of}
use Rattle.cv_tree.specs.Entries.{remade_entries}
use Rattle.cv_core_inventory.specs.Knowledge.{KnowledgeView, Outcomes}

-- the facts without that of a layer, if it is not in the table
abbrev pub remaining_after : FactTable → List ℕ → Layers → FactTable
remaining_after facts layer table = if is_some (value_at table layer) then facts else without_value facts layer

-- the same for several layers
abbrev pub remaining_facts : FactTable → List (List ℕ) → Layers → FactTable
remaining_facts facts [] table = facts
remaining_facts facts (layer ∷ layers) table = remaining_facts (remaining_after facts layer table) layers table

-- there is an outcome, and it waits for a layer
abbrev pub is_waiting : List ℕ → Option Outcome → Bool
is_waiting layer None = false
is_waiting layer (Some outcome) = waits_for layer outcome

-- the outcomes with that of the image of this hash, if it is registered
abbrev pub with_outcome : (Image → Outcome) → Outcomes → List ℕ → Option Image → Outcomes
with_outcome made outcomes hash None = outcomes
with_outcome made outcomes hash (Some image) = with_value outcomes hash (made image)

-- the outcomes with that of an image recomputed, if before it waits for a layer
abbrev pub renewed : (Image → Outcome) → Images → List ℕ → Outcomes → Outcomes → List ℕ → Outcomes
renewed made images layer before outcomes image =
    if is_waiting layer (value_at before image) then with_outcome made outcomes image (value_at images image) else outcomes

-- the same for several images
abbrev pub all_renewed : (Image → Outcome) → Images → List ℕ → Outcomes → Outcomes → List (List ℕ) → Outcomes
all_renewed made images layer before outcomes [] = outcomes
all_renewed made images layer before outcomes (image ∷ users) = all_renewed made images layer before (renewed made images layer before outcomes image) users

-- how many pairs of a package and a record are tried to make the outcome of an image, if it is registered
abbrev pub pairs_of : (Image → Outcome) → Feeds → Option Image → ℕ
pairs_of made feeds None = 0
pairs_of made feeds (Some image) = outcome_pairs feeds (made image)

-- the same where the outcome is recomputed only if before it waits for a layer
abbrev pub renew_pairs : (Image → Outcome) → Feeds → Images → List ℕ → Outcomes → List ℕ → ℕ
renew_pairs made feeds images layer before image = if is_waiting layer (value_at before image) then pairs_of made feeds (value_at images image) else 0

-- a new image has its outcome under this hash
abbrev pub image_added : KnowledgeView → List ℕ → Image → KnowledgeView
image_added k hash image = record k { outcomes = with_value k.outcomes hash (outcome_at k.facts k.feeds.feeds image) }

-- an image of these layers has no outcome any more, and those of its layers that are not in the table have no facts
abbrev pub image_dropped : KnowledgeView → List ℕ → List (List ℕ) → Layers → KnowledgeView
image_dropped k image layers table = record k { facts = remaining_facts k.facts layers table; outcomes = without_value k.outcomes image }

-- a layer has these facts, and of the images those that wait for it have their outcomes recomputed
abbrev pub layer_indexed : KnowledgeView → Known → Images → KnowledgeView
layer_indexed k known images =
    let facts : FactTable = with_value k.facts known.digest known in
    record k {
      facts = facts;
      outcomes = all_renewed (outcome_at facts k.feeds.feeds) images known.digest k.outcomes k.outcomes (users_of images known.digest);
    }

-- the outcomes are those with other feeds
abbrev pub feeds_replaced : KnowledgeView → FeedTable → KnowledgeView
feeds_replaced k feeds = record k { outcomes = remade_entries (λ _. rematched feeds.feeds) k.outcomes; feeds = feeds }
