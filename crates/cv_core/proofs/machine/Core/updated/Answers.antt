use Rattle.std.proofs.Common.{◌+◌, ap, sym, ◌∙◌}
use Rattle.cv_core_machine.specs.Step.{notified}
use Rattle.cv_core.specs.Core.{CoreView}
use Rattle.cv_core.proofs.CoreLemmas.{regular_updated}
use Rattle.cv_core.proofs.machine.Core.updated.Goals as goal

pub of-core-requires : goal.of-core-requires
of-core-requires g c =
    let inside = c.self.inside in
    regular_updated inside.inventory c.args.inventory inside.notices c.in_ok-notices.notices inside.since c.in_ok-since.since c.args.feed inside.generation inside.count c.args.rows
    c.self.invariant c.regular_law-2.ensures
    (c.in_ok-notices.ensures ∙ ap (λ (core : CoreView). notified core.state.notifications (inside.generation + 1) c.args.rows) (sym c.self.view_is))
    c.in_ok-since.ensures
