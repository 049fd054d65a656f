use Rattle.std.proofs.Common.{◌≡◌}
use Rattle.cv_path.specs.Path.{components, parent_of}
use Rattle.cv_path.proofs.PathEnds.{parent_cut, parent_path, parent_text}
use Rattle.cv_path.proofs.path.RelPath.parent_text.Goals as goal

parts : (c : goal.In-Some) → components c.in-Some.directory.now ≡ parent_of c.args.self.now
parts c = parent_cut c.text.result.now c.in-Some.directory.now c.in-Some.field-0-1.now c.args.self.now c.text.ensures.parts c.text.ensures.accepted c.in-Some.ensures.parts c.in-Some.ensures.last

pub returns-in-Some-clause-value : goal.returns-in-Some-clause-value
returns-in-Some-clause-value c = parent_text c.in-Some.directory.now c.args.self.now (parts c)

pub returns-in-Some-clause-parts : goal.returns-in-Some-clause-parts
returns-in-Some-clause-parts c = parts c

pub returns-in-Some-clause-accepted : goal.returns-in-Some-clause-accepted
returns-in-Some-clause-accepted c = parent_path c.args.self.now c.text.ensures.accepted
