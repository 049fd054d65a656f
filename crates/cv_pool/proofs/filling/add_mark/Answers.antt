use Rattle.cv_pool.proofs.AccountLemmas.{pushes_end}
use Rattle.cv_pool.proofs.FillLemmas.{owner_end, jobs_with_end}
use Rattle.cv_pool.proofs.filling.add_mark.Goals as goal

pub push_as-requires-clause-pushes : goal.push_as-requires-clause-pushes
push_as-requires-clause-pushes c = pushes_end _ _ c.requires.1.shares_kept c.requires.1.none_ended

pub returns-in-Ok-clause-owner : goal.returns-in-Ok-clause-owner
returns-in-Ok-clause-owner c = λ ends owner. owner_end ends _ _ owner c.in-Ok.ensures.rule.0 c.push_as.ensures.same.1

pub returns-in-Ok-clause-dealt : goal.returns-in-Ok-clause-dealt
returns-in-Ok-clause-dealt c = jobs_with_end c.args.owner.now c.push_as.new.self c.in-Ok.ensures.rule.0
