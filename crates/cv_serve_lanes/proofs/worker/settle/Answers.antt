use Rattle.std.proofs.Common.{refl}
use Rattle.cv_core_records.specs.declared.event.By.TheVariants as by
use Rattle.cv_serve_lanes.specs.Core.{act_of}
use Rattle.cv_serve_lanes.specs.code.Own.{placed}
use Rattle.cv_serve_lanes.proofs.OwnLemmas.{made_one}
use Rattle.cv_serve_lanes.proofs.worker.settle.Goals as goal

pub returns : goal.returns
returns g c =
    let applied = c.in_ok-submit.ensures.applied in
    let receipt = c.in_ok-submit.field-0 in
    record {
      settled = record {
        placed = placed receipt.number (record { seat = c.args.seat.now.index; by = by.Worker c.args.worker; act = act_of c.args.event; reply = receipt.reply });
        made = made_one g.D.Desk.tree g.L.Identity.limits applied.0 c.args.seat.now c.submit.new.seat (by.Worker c.args.worker) (act_of c.args.event) _ _ _ applied.2;
        by_is = refl;
        act_is = refl;
      };
    }
