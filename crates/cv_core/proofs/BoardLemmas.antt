-- A board by its parts answers as it does.
use Rattle.std.specs.Prelude.{◌≡◌, ℕ, List, Option, Some, None, unwrap_or, refl}
use Rattle.std.specs.Option.{option_map}
use Rattle.std.proofs.Common.{ap, sym, ◌∙◌}
use Rattle.cv_match.specs.Findings.{text_cmp}
use Rattle.cv_core_records.specs.declared.read.ReportOutcome.{ReportOutcome}
use Rattle.cv_core_records.specs.declared.read.ReportOutcome.TheVariants as report
use Rattle.cv_core_machine.specs.State.{value_at}
use Rattle.cv_core_outcome.specs.Truth.{report_with}
use Rattle.cv_core_outcome.specs.declared.outcome.Outcome.{Outcome}
use Rattle.cv_tree.specs.Entries.{map_values}
use Rattle.cv_tree.proofs.ValueLemmas.{mapped_at}
use Rattle.cv_core_inventory.specs.Knowledge.{Outcomes, report_by}

by_outcome : (generation : ℕ) (found : Option Outcome) → report_by generation found ≡ unwrap_or (option_map (report_with generation) found) report.NotRegistered
by_outcome generation None = refl
by_outcome generation (Some outcome) = refl

-- the report on a board
pub board_report : (outcomes : Outcomes) (generation : ℕ) (image : List ℕ) (found : Option Outcome) → found ≡ value_at outcomes image
    → report_by generation found ≡ unwrap_or (value_at (map_values (report_with generation) outcomes) image) report.NotRegistered
board_report outcomes generation image found is =
    ap (report_by generation) is ∙ by_outcome generation (value_at outcomes image)
    ∙ ap (λ (f : Option ReportOutcome). unwrap_or f report.NotRegistered) (sym (mapped_at text_cmp (report_with generation) outcomes image))
