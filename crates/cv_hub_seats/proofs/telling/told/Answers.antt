use Rattle.cv_hub_seats.proofs.Posts.{admits, forks, merges}
use Rattle.cv_hub_seats.proofs.telling.told.Goals as goal

pub reader-requires : goal.reader-requires
reader-requires g c = admits g.D.Desk.tree g.L.Identity.limits g.L.Ledger.parts g.L.Identity.book

pub tell-requires : goal.tell-requires
tell-requires g c = forks _ _ _ _ _ _

pub learn-requires-clause-rule : goal.learn-requires-clause-rule
learn-requires-clause-rule g c = merges _ _ _ _ _ _ _ _
