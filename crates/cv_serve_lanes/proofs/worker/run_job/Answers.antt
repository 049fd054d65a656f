use Rattle.std.proofs.Common.{sym, subst}
use Rattle.cv_core_machine.specs.History.{act_name}
use Rattle.cv_serve_lanes.specs.Counts.{RoseBy}
use Rattle.cv_serve_lanes.specs.code.Worker.{EndsWork, fault_of}
use Rattle.cv_serve_lanes.proofs.WorkerLemmas.{claim_settled, on_ok, settled_room}
use Rattle.cv_serve_lanes.proofs.worker.run_job.Goals as goal

-- the claim was granted: its layer was indexed, and the event says what became of it
pub returns-clause-did : goal.returns-clause-did
returns-clause-did g c =
    on_ok c.settle.result c.settle.ensures.settled (λ settled. claim_settled c.args.worker c.args.layer _ _ c.args.seat.now c.claim.new.seat c.settle.new.seat
    (g.D.Desk.listings c.args.desk.now) (g.D.Desk.faults c.args.desk.now) (g.D.Desk.listings c.index-event.new.desk) (g.D.Desk.faults c.index-event.new.desk)
    c.in_ok-granted.ensures.claimed c.if-not-granted.false settled
    (subst (λ act. EndsWork c.args.worker c.args.layer act) (sym settled.act_is) c.index-event.ensures.ends)
    c.index-event.ensures.listed
    (subst (λ act. RoseBy (fault_of (act_name act)) (g.D.Desk.faults c.args.desk.now) (g.D.Desk.faults c.index-event.new.desk)) (sym settled.act_is) c.index-event.ensures.failed))

-- a listing follows a claim
pub returns-clause-room : goal.returns-clause-room
returns-clause-room g c =
    on_ok c.settle.result c.settle.ensures.settled (λ settled. settled_room c.args.worker c.args.layer _ _ c.args.seat.now c.claim.new.seat c.settle.new.seat
    (g.D.Desk.listings c.args.desk.now) (g.D.Desk.listings c.index-event.new.desk) c.in_ok-granted.ensures.claimed settled c.index-event.ensures.listed c.requires.desk)
