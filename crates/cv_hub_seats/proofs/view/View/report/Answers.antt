use Rattle.std.proofs.Common.{◌≡◌, List, ap, sym, ◌∙◌}
use Rattle.cv_core_machine.specs.Answer.{Report}
use Rattle.cv_core_machine.specs.Board.{board_of}
use Rattle.cv_core_machine.specs.Scans.{trees_of}
use Rattle.cv_core_machine.specs.State.{State}
use Rattle.cv_core.specs.Reports.{shown}
use Rattle.cv_hub_seats.specs.Events.{state_of}
use Rattle.cv_hub_seats.specs.Posts.{PostView}
use Rattle.cv_hub_seats.specs.Seats.{SeatView}
use Rattle.cv_hub_seats.specs.declared.submission.Submission.{Submission}
use Rattle.cv_hub_seats.proofs.Shown.{report_is}
use Rattle.cv_hub_seats.proofs.view.View.report.Goals as goal

pub returns : goal.returns
returns g c known =
    let trees = trees_of g.D.Desk.tree in
    let state : State = state_of trees g.L.Identity.limits c.args.self.now.list in
    let kept = c.self.invariant in
    let list : c.self.inside.entered.post.list ≡ c.args.self.now.list = sym kept.list_is ∙ ap (λ (seat : SeatView). seat.list) c.self.view_is in
    let board : c.board.result.now ≡ board_of trees state =
    c.board.ensures ∙ (ap (λ (post : PostView). post.board) c.get.ensures ∙ (kept.shows.board known ∙ ap (λ (events : List Submission). board_of trees (state_of trees g.L.Identity.limits events)) list)) in
    report_is trees state c.args.image.now c.board.result.now (shown c.report.result) board c.report.ensures (c.board_law.ensures trees state (Report c.args.image.now))
