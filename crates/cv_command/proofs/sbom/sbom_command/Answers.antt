use Rattle.std.proofs.Common.{refl}
use Rattle.cv_base.specs.declared.manifest.Manifest.{Manifest}
use Rattle.cv_scan_input.specs.Request.{manifest_or}
use Rattle.cv_scan_input.specs.declared.input.InputLines.{InputLines}
use Rattle.cv_scan_input.specs.declared.later.Later.TheVariants.{Nothing}
use Rattle.cv_scan_output.specs.Refusal.{no_manifest_text}
use Rattle.cv_command.specs.Outcome.{ListsAtMost, SaysPackages}
use Rattle.cv_command.proofs.Ends.{error_ends, read_rose, whole_ends}
use Rattle.cv_command.proofs.OutcomeLemmas.{packages_end}
use Rattle.cv_command.proofs.sbom.sbom_command.Goals as goal

pub returns-in-Ok-clause-outcome : goal.returns-in-Ok-clause-outcome
returns-in-Ok-clause-outcome g c =
    let manifest = c.in-Ok.request.first in
    whole_ends manifest_or Nothing no_manifest_text (SaysPackages g.D.Desk.tree) ListsAtMost _ _ manifest c.in-Ok.request.records c.print_packages.result
    (packages_end g.D.Desk.tree manifest c.in-Ok.request.records _ _)
    c.in-Ok.ensures.request c.in-Ok.ensures.ended c.print_packages.ensures.printed

pub returns-in-Err-clause-outcome : goal.returns-in-Err-clause-outcome
returns-in-Err-clause-outcome g c =
    error_ends manifest_or Nothing no_manifest_text (SaysPackages g.D.Desk.tree) ListsAtMost _ _ c.in-Err.error c.print_error.result
    c.in-Err.ensures.request c.in-Err.ensures.limit c.in-Err.ensures.taken c.in-Err.ensures.unrefused c.in-Err.ensures.empty refl c.print_error.ensures.printed

pub returns-in-Err-clause-read_fault : goal.returns-in-Err-clause-read_fault
returns-in-Err-clause-read_fault g c =
    read_rose (InputLines Manifest) _ c.in-Err.error _ _ c.print_error.result _ _ c.print_error.ensures.printed c.in-Err.ensures.cause
