use Rattle.cv_scan_output.proofs.Floats.{bad_image_has_none}
use Rattle.cv_scan_output.proofs.bad.bad_image_line.Goals as goal

pub line_of-requires : goal.line_of-requires
line_of-requires c = rw c.in_ok-value.ensures (bad_image_has_none c.args.image.now c.args.bad.now)
