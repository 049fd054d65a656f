use Rattle.std.proofs.Common.{◌∙◌}
use Rattle.cv_core_machine.specs.Scans.{trees_of}
use Rattle.cv_core.proofs.ReadLemmas.{board_core, board_waiting}
use Rattle.cv_core.proofs.machine.Core.board.Goals as goal

pub returns-clause-waiting : goal.returns-clause-waiting
returns-clause-waiting g c =
    board_waiting g.D.Desk.tree c.args.self.now c.inventory.result.now c.generation.result c.in_ok-outcomes.outcomes c.in_ok-notices.notices c.of.result
    c.inventory.ensures (c.in_ok-notices.ensures ∙ c.shared_notices.ensures) c.in_ok-outcomes.ensures.known c.of.ensures

pub returns-clause-board : goal.returns-clause-board
returns-clause-board g c known =
    board_core (trees_of g.D.Desk.tree) c.args.self.now c.inventory.result.now c.generation.result c.in_ok-outcomes.outcomes c.in_ok-notices.notices c.of.result
    c.inventory.ensures c.generation.ensures (c.in_ok-notices.ensures ∙ c.shared_notices.ensures) (c.in_ok-outcomes.ensures.reports known) c.of.ensures
