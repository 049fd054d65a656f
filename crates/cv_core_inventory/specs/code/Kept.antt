-- A registry and the knowledge that is kept beside it.
use Rattle.std.specs.Prelude.{◌≡◌, ℕ, ◌≤◌, false, List, length, Option}
use Rattle.cv_advdb.specs.Feeds.{FeedTable}
use Rattle.cv_desk.specs.Stored.{Stored}
use Rattle.cv_core_machine.specs.Layers.{is_indexed_as}
use Rattle.cv_core_machine.specs.State.{value_at, with_value, without_value}
use Rattle.cv_core_machine.specs.Step.{entered, remaining}
use Rattle.cv_core_machine.specs.declared.image.Image.{Image}
use Rattle.cv_core_machine.specs.declared.status.Status.TheVariants as status
use Rattle.cv_core_outcome.specs.Outcome.{outcome_at}
use Rattle.cv_core_outcome.specs.Truth.{AreFactsOf}
use Rattle.cv_core_registry.specs.Registrations.{Registrations}
use Rattle.cv_tree.specs.Entries.{map_values}
use Rattle.cv_core_inventory.specs.Knowledge.{AreSoundImages, KnowledgeView}
use Rattle.cv_core_inventory.specs.Holdings.{Holdings}

-- what is held by a registry and by feeds
abbrev pub holdings_of : Registrations → FeedTable → Holdings
holdings_of r table = record { images = r.images; layers = r.layers; feeds = table.feeds; limits = record { images = r.limit; feeds = table.limit } }

-- what of it a registry holds
abbrev pub registrations : Holdings → Registrations
registrations h = record { images = h.images; layers = h.layers; limit = h.limits.images }

-- the facts are those of the layers that are Indexed, the outcome of each image is that of its layers' facts, their stated seals and
-- the feeds, there are no more feeds than may be, and no image has more layers than may be, and as many seals as layers
pub record IsKept (trees : List ℕ → Option (Option (List Stored))) (r : Registrations) (k : KnowledgeView) : Type 0 where
  pub right : AreFactsOf trees r.layers k.facts
  pub made : k.outcomes ≡ map_values (outcome_at k.facts k.feeds.feeds) r.images
  pub feeds_within_limit : length k.feeds.feeds ≤ k.feeds.limit
  pub images : AreSoundImages r.images

-- the same images are registered, and the same layers are Indexed
pub record IsAlike (before after : Registrations) : Type 0 where
  pub images : after.images ≡ before.images
  pub limit : after.limit ≡ before.limit
  pub indexed : (layer : List ℕ) → is_indexed_as (value_at after.layers layer) ≡ is_indexed_as (value_at before.layers layer)

-- registrations with a new image under this hash
abbrev pub with_image : Registrations → List ℕ → Image → Registrations
with_image r hash image = record r { images = with_value r.images hash image; layers = entered r.layers image.layers }

-- registrations without an image, which has these layers
abbrev pub without_image : Registrations → List ℕ → List (List ℕ) → Registrations
without_image r image layers =
    record r { images = without_value r.images image; layers = remaining r.layers layers (without_value r.images image) }

-- a layer that was not Indexed is
pub record HasEntered (before after : Registrations) (layer : List ℕ) : Type 0 where
  pub now : after ≡ record before { layers = with_value before.layers layer status.Indexed }
  pub new : is_indexed_as (value_at before.layers layer) ≡ false
