use Rattle.std.proofs.Common.{sym, ◌∙◌, ap}
use Rattle.cv_path.specs.Path.{path_text}
use Rattle.cv_path.proofs.PathLemmas.{join_components}
use Rattle.cv_path.proofs.path.RelPath.text.Goals as goal

pub returns-clause-value : goal.returns-clause-value
returns-clause-value c = sym (join_components _) ∙ ap path_text c.inner_text.ensures.parts
