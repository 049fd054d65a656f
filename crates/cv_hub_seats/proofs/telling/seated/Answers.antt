use Rattle.cv_hub_seats.proofs.Posts.{admits}
use Rattle.cv_hub_seats.proofs.telling.seated.Goals as goal

pub reader-requires : goal.reader-requires
reader-requires g c = admits g.D.Desk.tree g.L.Identity.limits g.L.Ledger.parts g.L.Identity.book
