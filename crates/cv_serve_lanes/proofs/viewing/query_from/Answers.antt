use Rattle.std.proofs.Common.{◌∙◌}
use Rattle.cv_serve_lanes.proofs.RequestLemmas.{query_answered}
use Rattle.cv_serve_lanes.proofs.viewing.query_from.Goals as goal

pub returns : goal.returns
returns g c =
    query_answered g.D.Desk.tree g.L.Identity.limits c.args.asked.2 c.args.asked.3.now c.args.seat c.close.result c.entered-view.result.list c.entered-view.result.refused c.look_up-answer.result c.read_entry-read.result
    c.entered-view.ensures.seen (c.close.ensures ∙ c.entered-view.ensures.seat) c.read_entry-read.ensures c.look_up-answer.ensures
