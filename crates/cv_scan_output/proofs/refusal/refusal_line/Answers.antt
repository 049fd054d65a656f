use Rattle.cv_scan_output.proofs.RefusalFloats.{refusal_has_none}
use Rattle.cv_scan_output.proofs.refusal.refusal_line.Goals as goal

pub line_of-requires : goal.line_of-requires
line_of-requires c = rw c.in_ok-value.ensures (refusal_has_none c.args.line c.args.error.now)
