use Rattle.cv_path.proofs.PathEnds.{name_cut}
use Rattle.cv_path.specs.Path.{parent_of}
use Rattle.cv_path.proofs.path.RelPath.folder_name.Goals as goal

pub returns-in-Some : goal.returns-in-Some
returns-in-Some c = name_cut c.parent_text-text.result.now c.in-Some.field-0-0.now c.in-Some.name.now (parent_of c.args.self.now) c.parent_text-text.ensures.parts c.parent_text-text.ensures.accepted c.in-Some.ensures.parts c.in-Some.ensures.last
