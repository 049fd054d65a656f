-- What a board shows of a state (defined by this project): all that reads are answered from, with no type of a desk in it.
use Rattle.std.specs.Prelude.{ℕ, List, map, Some, unwrap_or}
use Rattle.cv_core_records.specs.Pages.{Notifications, heads, page_of}
use Rattle.cv_core_records.specs.declared.read.Answer.{Answer}
use Rattle.cv_core_records.specs.declared.read.Answer.TheVariants as answer
use Rattle.cv_core_records.specs.declared.read.ReportOutcome.{ReportOutcome}
use Rattle.cv_core_records.specs.declared.read.ReportOutcome.TheVariants as report
use Rattle.cv_core_machine.specs.Answer.{Heads, Page, Read, Report, report_at}
use Rattle.cv_core_machine.specs.Scans.{Trees}
use Rattle.cv_core_machine.specs.State.{State, value_at}
use Rattle.cv_core_machine.specs.declared.image.Image.{Image}

-- the report of each registered image, in ascending order of their hashes, and the notifications
pub record BoardView : Type 0 where
  pub reports : List (List ℕ × ReportOutcome)
  pub notifications : Notifications

-- what a board shows of a state
abbrev pub board_of : Trees → State → BoardView
board_of trees state = record {
  reports = map (λ (image : List ℕ × Image). (image.0, report_at (Some image.1) trees state)) state.images;
  notifications = state.notifications;
}

-- the answer to a read from a board
abbrev pub board_answer : BoardView → Read → Answer
board_answer board (Report image) = answer.Report image (unwrap_or (value_at board.reports image) report.NotRegistered)
board_answer board (Page notification size number) = answer.Page notification size number (page_of board.notifications notification size number)
board_answer board Heads = answer.List (heads board.notifications)
