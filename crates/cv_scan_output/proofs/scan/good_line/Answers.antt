use Rattle.cv_scan_output.proofs.Floats.{good_has_none}
use Rattle.cv_scan_output.proofs.scan.good_line.Goals as goal

pub line_of-requires : goal.line_of-requires
line_of-requires c = rw c.in_ok-value.ensures (good_has_none c.args.image.now c.args.findings.now)
