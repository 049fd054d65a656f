use Rattle.std.proofs.Common.{◌∙◌, sym}
use Rattle.cv_base.proofs.Same.{same_is}
use Rattle.cv_scan_image.proofs.PlaceLemmas.{digest_at}
use Rattle.cv_scan_image.proofs.places.place_of.Goals as goal

pub returns-then-eq-clause-digest : goal.returns-then-eq-clause-digest
returns-then-eq-clause-digest g c =
    digest_at c.args.facts.now c.loop-index.index c.index-facts-index.result c.args.layer.now c.loop-index-test.true c.index-facts-index.is
    (sym c.digest.ensures ∙ same_is c.digest.result c.args.layer.now (sym c.eq.ensures ∙ c.if-eq.true))
