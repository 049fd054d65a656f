use Rattle.std.proofs.Common.{ap, ◌∙◌}
use Rattle.std.specs.Option.{unwrap_or}
use Rattle.cv_core_records.specs.declared.read.ReportOutcome.{ReportOutcome}
use Rattle.cv_core_records.specs.declared.read.ReportOutcome.TheVariants as report
use Rattle.cv_core_machine.specs.Board.{BoardView}
use Rattle.cv_core_machine.specs.State.{value_at}
use Rattle.cv_core.specs.Reports.{report_answer}
use Rattle.cv_core.proofs.BoardLemmas.{board_report}
use Rattle.cv_core.proofs.board.Board.report.Goals as goal

pub returns : goal.returns
returns c =
    ap (λ (shows : ReportOutcome). report_answer c.args.image.now shows)
    (c.report_by.ensures ∙ board_report c.self.inside.outcomes c.self.inside.generation c.args.image.now _ c.get.ensures
    ∙ ap (λ (b : BoardView). unwrap_or (value_at b.reports c.args.image.now) report.NotRegistered) c.self.view_is)
