-- A board by its parts (defined by this project).
use Rattle.std.specs.Prelude.{◌≡◌, ℕ, List}
use Rattle.std.specs.Option.{unwrap_or}
use Rattle.cv_core_machine.specs.Answer.{waiting_for, waiting_in}
use Rattle.cv_core_machine.specs.Board.{BoardView}
use Rattle.cv_core_machine.specs.State.{Notifications, State, value_at}
use Rattle.cv_core_outcome.specs.Truth.{report_with}
use Rattle.cv_core_records.specs.declared.read.ReportOutcome.TheVariants as report
use Rattle.cv_tree.specs.Entries.{map_values}
use Rattle.cv_core_inventory.specs.Knowledge.{Outcomes}

-- the board of the outcomes of all images, notifications and a generation
abbrev pub board_view : Outcomes → Notifications → ℕ → BoardView
board_view outcomes notifications generation = record { reports = map_values (report_with generation) outcomes; notifications = notifications }

-- what a board shows whatever the layers have is that of a state: which images are registered, for which layer each waits, and
-- the notifications
pub record ShowsWaiting (state : State) (board : BoardView) : Type 0 where
  pub waiting : (image : List ℕ) → waiting_in (unwrap_or (value_at board.reports image) report.NotRegistered) ≡ waiting_for state image
  pub notifications : board.notifications ≡ state.notifications
