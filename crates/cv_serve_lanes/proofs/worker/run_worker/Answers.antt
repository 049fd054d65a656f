use Rattle.std.proofs.Common.{Some, arith}
use Rattle.cv_serve_lanes.proofs.WorkerLemmas.{job_did, job_layer, same_next}
use Rattle.cv_serve_lanes.proofs.worker.run_worker.Goals as goal

-- one job more
pub loop-preserved : goal.loop-preserved
loop-preserved g c =
    let layer = c.index-queue-job.result in (
      (tt, tt),
      job_did c.args.worker c.args.queue.now c.loop.hand c.next-in-loop.new.self c.in-Some-next.job layer c.args.seat.now c.loop.seat c.run_job.new.seat
          (g.D.Desk.listings c.args.desk.now) (g.D.Desk.faults c.args.desk.now) (g.D.Desk.listings c.loop.desk) (g.D.Desk.faults c.loop.desk) (g.D.Desk.listings c.run_job.new.desk) (g.D.Desk.faults c.run_job.new.desk)
          c.in-Some-next.ensures.hand (job_layer c.args.queue.now c.args.hand.now c.loop.hand c.in-Some-next.job layer c.requires.hand c.loop.invariant.3 c.in-Some-next.ensures.below c.index-queue-job.is) c.loop.invariant.1 c.in_ok-run_job.ensures.did,
      c.in_ok-run_job.ensures.room,
      same_next c.args.hand.now c.loop.hand c.next-in-loop.new.self (Some c.in-Some-next.job) c.loop.invariant.3 c.in-Some-next.ensures.hand,
      omega (arith, c.loop.invariant.4, c.run_job.ensures.listed),
      omega (arith, c.loop.invariant.5, c.run_job.ensures.failed),
    )
