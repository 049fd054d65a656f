use Rattle.cv_core_records.specs.declared.event.By.TheVariants as by
use Rattle.cv_core_machine.specs.declared.event.MachineEvent.TheVariants as whole
use Rattle.cv_serve_lanes.proofs.OwnLemmas.{made_one}
use Rattle.cv_serve_lanes.proofs.WorkerLemmas.{applied_length}
use Rattle.cv_serve_lanes.proofs.worker.claim.Goals as goal

pub returns : goal.returns
returns g c =
    let applied = c.in_ok-receipt.ensures.applied in
    let size = applied_length g.D.Desk.tree g.L.Identity.limits applied.0 c.args.seat.now c.submit.new.seat _ _ _ _ _ applied.2 in
    record {
      claimed = record {
        number = c.in_ok-receipt.receipt.number;
        reply = c.in_ok-receipt.receipt.reply;
        made = made_one g.D.Desk.tree g.L.Identity.limits applied.0 c.args.seat.now c.submit.new.seat (by.Worker c.args.worker) (whole.Claim c.args.layer c.args.worker) _ _ _ applied.2;
        granted_is = c.is_claimed.ensures c.args.layer;
        longer = size.0;
        at_most_2_63_events = size.1;
      };
    }
