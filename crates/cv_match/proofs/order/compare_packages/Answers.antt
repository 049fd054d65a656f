use Rattle.std.proofs.Common.{◌∙◌}
use Rattle.cv_match.proofs.PackageOrder.{packages_compare}
use Rattle.cv_match.proofs.order.compare_packages.Goals as goal

pub returns : goal.returns
returns c = c.cmp.ensures ∙ packages_compare c.args.one.now c.args.other.now
