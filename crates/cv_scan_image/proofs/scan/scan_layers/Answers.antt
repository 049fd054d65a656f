use Rattle.std.proofs.Common.{◌≡◌, ◌∷◌, [], subst}
use Rattle.std.specs.Prelude.{IfOk}
use Rattle.cv_match.specs.Findings.{findings}
use Rattle.cv_scan_image.proofs.ScanLemmas.{scan_answer}
use Rattle.cv_scan_image.proofs.scan.scan_layers.Goals as goal

pub returns-in-Ok : goal.returns-in-Ok
returns-in-Ok g c =
    let feeds = (c.args.feed.now, c.args.advisories.now) ∷ [] in
    scan_answer g.D.Desk.tree g.D.Desk.listings g.D.Desk.faults _ _ c.args.layers.now c.args.seals.now feeds c.in-Ok.packages c.find_in.result c.in-Ok.ensures
    (subst (λ packages. IfOk c.find_in.result (λ found. found ≡ findings packages feeds)) c.as_slice.ensures c.find_in.ensures.found) c.find_in.ensures.memory
