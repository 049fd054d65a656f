use Rattle.std.specs.Option.{option_map}
use Rattle.cv_list_output.proofs.Floats.{list_has_none}
use Rattle.cv_list_output.proofs.good.list_good_line.Goals as goal

pub line_of-requires : goal.line_of-requires
line_of-requires c = rw c.in_ok-value.ensures (list_has_none (option_map (λ digest. digest.now) c.args.image) c.args.findings.now c.args.skipped)
