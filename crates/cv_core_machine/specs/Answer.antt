-- The answer to a read in a state (defined by this project).
use Rattle.std.specs.Prelude.{ℕ, List, Option, Some, None, Ok, Err}
use Rattle.std.specs.Option.{option_map}
use Rattle.cv_core_records.specs.Pages.{heads, page_of}
use Rattle.cv_core_records.specs.declared.read.Answer.{Answer}
use Rattle.cv_core_records.specs.declared.read.Answer.TheVariants as answer
use Rattle.cv_core_records.specs.declared.read.ReportOutcome.{ReportOutcome}
use Rattle.cv_core_records.specs.declared.read.ReportOutcome.TheVariants as report
use Rattle.cv_scan.specs.Scan.{Scanned}
use Rattle.cv_core_machine.specs.Layers.{first_pending}
use Rattle.cv_core_machine.specs.Scans.{Trees, image_scan}
use Rattle.cv_core_machine.specs.State.{State, value_at}
use Rattle.cv_core_machine.specs.declared.image.Image.{Image}

-- a report by the scan of an image whose layers are all Indexed
abbrev pub scan_report : ℕ → Scanned → ReportOutcome
scan_report generation (Ok findings) = report.Good generation findings
scan_report generation (Err bad) = report.BadImage bad

-- a report by the first layer that is not Indexed, if there is one, or else by the scan
abbrev pub pending_report : Option (List ℕ) → ℕ → Scanned → ReportOutcome
pending_report (Some layer) generation scanned = report.Pending layer
pending_report None generation scanned = scan_report generation scanned

-- a report by what is kept of the image, if it is registered
abbrev pub report_at : Option Image → Trees → State → ReportOutcome
report_at None trees state = report.NotRegistered
report_at (Some image) trees state =
    pending_report (first_pending state.layers image.layers) state.generation (image_scan trees state.feeds image)

-- the report of an image
abbrev pub report_of : Trees → State → List ℕ → ReportOutcome
report_of trees state image = report_at (value_at state.images image) trees state

-- for which layer an image waits, by its report: none if it is not registered, and else a layer only if it is Pending of it
abbrev pub waiting_in : ReportOutcome → Option (Option (List ℕ))
waiting_in report.NotRegistered = None
waiting_in (report.Pending layer) = Some (Some layer)
waiting_in (report.Good generation findings) = Some None
waiting_in (report.BadImage bad) = Some None

-- for which layer an image waits, if it is registered: for the first of its layers that is not Indexed, if there is one
abbrev pub waiting_for : State → List ℕ → Option (Option (List ℕ))
waiting_for state image = option_map (λ (kept : Image). first_pending state.layers kept.layers) (value_at state.images image)

-- the query of a read: the report of an image, a page (the notification, the size and the page), or all notifications
pub data Read : Type 0 where
  Report : List ℕ → Read
  Page : ℕ → ℕ → ℕ → Read
  Heads : Read

-- the answer to a read
abbrev pub answer_to : Trees → State → Read → Answer
answer_to trees state (Report image) = answer.Report image (report_of trees state image)
answer_to trees state (Page notification size number) = answer.Page notification size number (page_of state.notifications notification size number)
answer_to trees state Heads = answer.List (heads state.notifications)
