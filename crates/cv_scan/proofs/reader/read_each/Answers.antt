use Rattle.std.proofs.Common.{◌∙◌, ap, ◌+◌, length, refl}
use Rattle.std.proofs.lemmas.Option.{slice_get_read}
use Rattle.cv_scan.proofs.Failed.{failed_one}
use Rattle.cv_scan.proofs.reader.read_each.Goals as goal

pub returns-in-Err-clause-failed : goal.returns-in-Err-clause-failed
returns-in-Err-clause-failed g c =
    failed_one c.args.layers.now _ _ c.layer-item.result c.in-Err.error c.loop-layer.layer-index c.loop-layer-test.true
    (slice_get_read c.args.layers.now (length c.args.layers.now) c.loop-layer.layer-index c.layer-item.result refl c.loop-layer-test.true c.layer-item.is)
    (c.in-Err.ensures.counted ∙ ap (λ n. n + 1) c.loop-layer.invariant.counted) c.in-Err.ensures.failed
