use Rattle.cv_core_machine.specs.State.{value_at}
use Rattle.cv_core_machine.proofs.NoticeLemmas.{acked_found, drop_kept, reachable_have, step_kept, step_stays, updated_counted, updated_found}
use Rattle.cv_core_machine.proofs.laws.notification_laws.Goals as goal

pub returns : goal.returns
returns c = record {
  kept = step_stays;
  others = step_kept;
  dropped = λ trees state image. drop_kept (value_at state.images image) state image;
  updated = updated_found;
  counted = updated_counted;
  acked = acked_found;
  reachable = reachable_have;
}
