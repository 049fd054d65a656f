use Rattle.cv_path.proofs.PathEnds.{name_cut}
use Rattle.cv_path.proofs.path.RelPath.file_name.Goals as goal

pub returns-in-Some : goal.returns-in-Some
returns-in-Some c = name_cut c.text-text.result.now c.in-Some.field-0-0.now c.in-Some.name.now c.args.self.now c.text-text.ensures.parts c.text-text.ensures.accepted c.in-Some.ensures.parts c.in-Some.ensures.last
