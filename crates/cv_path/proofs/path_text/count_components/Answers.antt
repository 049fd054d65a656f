use Rattle.std.proofs.Common.{sym, ◌∙◌}
use Rattle.cv_path.proofs.PathReads.{count_parts}
use Rattle.cv_path.proofs.path_text.count_components.Goals as goal

pub returns-else-is_empty : goal.returns-else-is_empty
returns-else-is_empty c = rw c.count_slashes.ensures (count_parts c.args.text.now (sym c.is_empty.ensures ∙ c.if-is_empty.false))
