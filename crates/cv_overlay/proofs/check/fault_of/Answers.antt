use Rattle.std.proofs.Common.{◌≤◌, length, ◌∙◌, arith}
use Rattle.cv_base.specs.declared.limits.TheConstants.{MAX_ENTRIES}
use Rattle.cv_overlay.proofs.ParentLemmas.{fault_within}
use Rattle.cv_overlay.proofs.check.fault_of.Goals as goal

pub returns : goal.returns
returns g c =
    let within : length c.args.entries.now ≤ MAX_ENTRIES = omega arith in
    c.first_fault.ensures ∙ fault_within g.E.Outlined.outline c.args.entries.now within
