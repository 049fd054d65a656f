use Rattle.std.proofs.Common.{ap, ◌≡◌, ◌<◌, ◌%◌, rules, length, ◌∙◌}
use Rattle.std.proofs.lemmas.List.{length-set}
use Rattle.cv_pool.proofs.FillLemmas.{owners_with_job}
use Rattle.cv_pool.proofs.filling.deal.Goals as goal

pub loop-job-preserved : goal.loop-job-preserved
loop-job-preserved c =
    let same : length c.loop-job.owners ≡ length c.args.owners.now = c.loop-job.invariant.1 in
    let inside : c.loop-job.job % length c.args.owners.now < length c.loop-job.owners = search rules in (
      owners_with_job c.loop-job.owners (c.loop-job.job % length c.args.owners.now) c.loop-job.job c.deal_job.new.owner _ inside (ap (λ n. c.loop-job.job % n) same) c.loop-job.invariant.0 c.in_ok-deal_job.ensures.owner c.in_ok-deal_job.ensures.dealt,
      length-set _ _ _ ∙ same,
    )
