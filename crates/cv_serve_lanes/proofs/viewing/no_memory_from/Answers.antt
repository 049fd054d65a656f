use Rattle.std.proofs.Common.{◌∙◌}
use Rattle.cv_serve_lanes.proofs.RequestLemmas.{no_memory}
use Rattle.cv_serve_lanes.proofs.viewing.no_memory_from.Goals as goal

pub returns : goal.returns
returns g c = λ act.
    no_memory g.D.Desk.tree g.L.Identity.limits c.args.at.1 act c.args.seat c.close.result c.entered-view.result.list c.entered-view.result.refused _ c.read_entry-read.result
    c.entered-view.ensures.seen (c.close.ensures ∙ c.entered-view.ensures.seat) c.read_entry-read.ensures
