-- When the facts of layers are those that the machine has Indexed, and the report that an outcome gives (defined by this project).
use Rattle.std.specs.Prelude.{◌≡◌, ℕ, List, Option, Some}
use Rattle.cv_desk.specs.Stored.{Stored}
use Rattle.cv_facts.specs.Reduction.{IsRight, Known}
use Rattle.cv_core_machine.specs.Layers.{is_indexed_as}
use Rattle.cv_core_machine.specs.State.{Layers, value_at}
use Rattle.cv_core_records.specs.declared.read.ReportOutcome.{ReportOutcome}
use Rattle.cv_core_records.specs.declared.read.ReportOutcome.TheVariants as report
use Rattle.cv_core_outcome.specs.Outcome.{FactTable, has_facts}
use Rattle.cv_core_outcome.specs.declared.outcome.Outcome.{Outcome}
use Rattle.cv_core_outcome.specs.declared.outcome.Outcome.TheVariants.{Bad, Good, Pending}

-- the facts are those of the layers that are Indexed in this table, and each is right for the trees of a desk's type and stands
-- under the digest of its layer
pub record AreFactsOf (trees : List ℕ → Option (Option (List Stored))) (table : Layers) (facts : FactTable) : Type 0 where
  pub indexed : (layer : List ℕ) → has_facts facts layer ≡ is_indexed_as (value_at table layer)
  pub own : (layer : List ℕ) (known : Known) → value_at facts layer ≡ Some known → known.digest ≡ layer
  pub right : (layer : List ℕ) (known : Known) → value_at facts layer ≡ Some known → IsRight trees known

-- the report of a registered image with this outcome, in this generation
abbrev pub report_with : ℕ → Outcome → ReportOutcome
report_with generation (Pending layer) = report.Pending layer
report_with generation (Bad fault) = report.BadImage fault
report_with generation (Good found matches) = report.Good generation matches
