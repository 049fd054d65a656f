-- The report that a board shows.
use Rattle.std.proofs.Common.{◌≡◌, ℕ, List, ap, ◌∙◌}
use Rattle.cv_core_records.specs.declared.read.ReportOutcome.{ReportOutcome}
use Rattle.cv_core_machine.specs.Answer.{Report, answer_to, report_of}
use Rattle.cv_core_machine.specs.Board.{BoardView, board_answer, board_of}
use Rattle.cv_core_machine.specs.Scans.{Trees}
use Rattle.cv_core_machine.specs.State.{State}
use Rattle.cv_core.specs.Reports.{report_answer}

-- that of a board of a state is the state's
pub report_is : (trees : Trees) (state : State) (image : List ℕ) (board : BoardView) (outcome : ReportOutcome) → board ≡ board_of trees state
    → report_answer image outcome ≡ board_answer board (Report image)
    → board_answer (board_of trees state) (Report image) ≡ answer_to trees state (Report image)
    → outcome ≡ report_of trees state image
report_is trees state image board outcome is answers law =
    let answer : report_answer image outcome ≡ report_answer image (report_of trees state image) = answers ∙ (ap (λ (b : BoardView). board_answer b (Report image)) is ∙ law) in
    cc answer
