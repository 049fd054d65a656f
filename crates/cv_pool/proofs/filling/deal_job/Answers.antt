use Rattle.cv_pool.proofs.AccountLemmas.{pushes_job}
use Rattle.cv_pool.proofs.FillLemmas.{owner_job, jobs_with_job}
use Rattle.cv_pool.proofs.filling.deal_job.Goals as goal

pub push_as-requires-clause-pushes : goal.push_as-requires-clause-pushes
push_as-requires-clause-pushes c = pushes_job _ _ _ c.requires.shares_kept c.requires.none_ended c.requires.marked

pub returns-in-Ok-clause-owner : goal.returns-in-Ok-clause-owner
returns-in-Ok-clause-owner c = owner_job _ _ _ c.requires c.in-Ok.ensures.rule.0 c.push_as.ensures.same.1

pub returns-in-Ok-clause-dealt : goal.returns-in-Ok-clause-dealt
returns-in-Ok-clause-dealt c = jobs_with_job c.args.owner.now c.push_as.new.self c.args.job c.in-Ok.ensures.rule.0
