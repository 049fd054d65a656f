use Rattle.std.proofs.Common.{[], ◌∷◌, subst}
use Rattle.cv_core.specs.Core.{act_of}
use Rattle.cv_keep_replay.specs.code.Alone.{Submitted}
use Rattle.cv_keep_replay.specs.code.Ready.{Named}
use Rattle.cv_keep_replay.proofs.Alone.{submitted_one}
use Rattle.cv_keep_replay.proofs.submit.submit_one.Goals as goal

pub returns-clause-submitted : goal.returns-clause-submitted
returns-clause-submitted g c =
    let applied = c.in_ok-submit.ensures.applied in
    subst (λ (one : Named). Submitted c.args.seat.now c.submit.new.seat (one ∷ [])) c.in_ok-by.ensures.event
    (submitted_one g.D.Desk.tree g.L.Identity.limits applied.0 c.args.seat.now c.submit.new.seat c.in_ok-by.by (act_of c.in_ok-by.event) _ _ _ applied.2)
