use Rattle.cv_list_output.proofs.Floats.{bad_list_has_none}
use Rattle.cv_list_output.proofs.refusal.bad_list_line.Goals as goal

pub line_of-requires : goal.line_of-requires
line_of-requires c = rw c.in_ok-value.ensures (bad_list_has_none c.args.line c.args.what)
