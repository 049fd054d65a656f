use Rattle.std.proofs.Common.{◌∷◌, []}
use Rattle.cv_scan.specs.Layers.{no_seals}
use Rattle.cv_scan.proofs.ScanAnswers.{unread_answer}
use Rattle.cv_scan.proofs.Scanned.{loaded_answer}
use Rattle.cv_scan.proofs.scan.scan_image.Goals as goal

pub returns-in-Ok : goal.returns-in-Ok
returns-in-Ok g c =
    loaded_answer g.D.Desk.tree g.D.Desk.listings g.D.Desk.faults _ _ c.deref.result.now c.args.layers.now ((c.args.feed.now, c.args.advisories.now) ∷ []) c.scan_loaded.result
    c.in-Ok.ensures.counted c.in-Ok.ensures.cause (rw c.deref.ensures.value c.in-Ok.ensures.layers) (rw c.deref.ensures.value c.in-Ok.ensures.right) c.scan_loaded.ensures

pub returns-in-Err : goal.returns-in-Err
returns-in-Err g c =
    unread_answer g.D.Desk.tree g.D.Desk.listings g.D.Desk.faults _ _ c.args.layers.now (no_seals c.args.layers.now) ((c.args.feed.now, c.args.advisories.now) ∷ []) c.in-Err.error
    c.in-Err.ensures.failed c.in-Err.ensures.cause
