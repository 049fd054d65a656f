use Rattle.std.proofs.Common.{◌≡◌, ◌≤◌, List, length, fold, sym, subst}
use Rattle.left_right.specs.Sides.{view}
use Rattle.cv_hub_seats.specs.Posts.{PostView, Shows}
use Rattle.cv_hub_seats.proofs.Posts.{rises}
use Rattle.cv_hub.proofs.posting.published.Goals as goal

pub publish_as-next-requires : goal.publish_as-next-requires
publish_as-next-requires g c next is =
    let pending = c.loop.invariant.1 in
    let shown = c.loop.writer.desk.shown.value in
    let same : next ≡ pending.post = subst (λ (ops : List PostView). next ≡ fold (λ (before after : PostView). after) shown ops) pending.pending_is is in
    let longer : length shown.list ≤ length pending.post.list = rw pending.list_is pending.longer in
    rises g.D.Desk.tree g.L.Identity.limits g.L.Ledger.parts g.L.Identity.book c.loop.writer.desk.place.id (view c.loop.writer.desk.place) shown next
    (subst (Shows g.D.Desk.tree g.L.Identity.limits g.L.Ledger.parts g.L.Identity.book) (sym same) pending.shows) (subst (λ (p : PostView). length shown.list ≤ length p.list) (sym same) longer)
