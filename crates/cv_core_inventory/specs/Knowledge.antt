-- What is known of registered images (defined by this project).
use Rattle.std.specs.Prelude.{◌≡◌, ℕ, ◌≤◌, List, [], length, Option, Some, None}
use Rattle.std.specs.Option.{option_map}
use Rattle.cv_advdb.specs.Feeds.{FeedTable}
use Rattle.cv_base.specs.declared.limits.TheConstants.{MAX_LAYERS}
use Rattle.cv_desk.specs.Stored.{Stored}
use Rattle.cv_core_machine.specs.State.{Images, value_at}
use Rattle.cv_core_machine.specs.declared.image.Image.{Image}
use Rattle.cv_core_outcome.specs.Outcome.{FactTable, outcome_at}
use Rattle.cv_core_outcome.specs.Truth.{AreFactsOf, report_with}
use Rattle.cv_core_outcome.specs.declared.outcome.Outcome.{Outcome}
use Rattle.cv_core_records.specs.declared.read.ReportOutcome.{ReportOutcome}
use Rattle.cv_core_records.specs.declared.read.ReportOutcome.TheVariants as report
use Rattle.cv_tree.specs.Entries.{map_values}
use Rattle.cv_core_inventory.specs.Holdings.{Holdings}

-- the outcome of each image, under its hash
abbrev pub Outcomes : Type 0
Outcomes = List (List ℕ × Outcome)

-- the outcome of each registered image is that of the facts of its layers, of their stated seals and of the feeds. There are facts
-- of exactly the layers that are Indexed, and they are right for the trees of a desk's type
pub record AreOutcomesOf (trees : List ℕ → Option (Option (List Stored))) (h : Holdings) (outcomes : Outcomes) : Type 0 where
  pub facts : FactTable
  pub right : AreFactsOf trees h.layers facts
  pub made : outcomes ≡ map_values (outcome_at facts h.feeds) h.images

-- the same of one image, if it is registered
pub record IsOutcomeOf (trees : List ℕ → Option (Option (List Stored))) (h : Holdings) (image : List ℕ) (outcome : Option Outcome) : Type 0 where
  pub facts : FactTable
  pub right : AreFactsOf trees h.layers facts
  pub made : outcome ≡ option_map (outcome_at facts h.feeds) (value_at h.images image)

-- the facts of layers, the outcomes of images, and the feeds with which the outcomes are made
pub record KnowledgeView : Type 0 where
  pub facts : FactTable
  pub outcomes : Outcomes
  pub feeds : FeedTable

-- nothing, where there may be this number of feeds
abbrev pub nothing_known : ℕ → KnowledgeView
nothing_known limit = record { facts = []; outcomes = []; feeds = record { feeds = []; limit = limit } }

-- an image has no more layers than it may have, and for each of them a stated seal or none
pub record IsSoundImage (image : Image) : Type 0 where
  pub at_most_128_layers : length image.layers ≤ MAX_LAYERS
  pub as_many_seals : length image.seals ≡ length image.layers

-- so has each registered image
abbrev pub AreSoundImages : Images → Type 0
AreSoundImages images = (hash : List ℕ) (image : Image) → value_at images hash ≡ Some image → IsSoundImage image

-- the report by the outcome of an image, or that it is not registered
abbrev pub report_by : ℕ → Option Outcome → ReportOutcome
report_by generation (Some outcome) = report_with generation outcome
report_by generation None = report.NotRegistered
