use Rattle.std.proofs.Common.{ap, ◌∙◌}
use Rattle.cv_core_machine.specs.State.{Notifications, without_notification}
use Rattle.cv_core.specs.Core.{CoreView}
use Rattle.cv_core.proofs.CoreLemmas.{regular_acked}
use Rattle.cv_core.proofs.machine.Core.ack.Goals as goal

pub with_notices-requires-clause-regular : goal.with_notices-requires-clause-regular
with_notices-requires-clause-regular g c =
    regular_acked c.args.self.now c.ack.new.self c.args.number c.regular_law.ensures
    (c.in-Ok.ensures.gone
    ∙ ap (λ (ns : Notifications). without_notification ns c.args.number)
    (c.in_ok-notices.ensures ∙ c.value.ensures ∙ ap (λ (core : CoreView). core.state.notifications) c.self.view_is))
