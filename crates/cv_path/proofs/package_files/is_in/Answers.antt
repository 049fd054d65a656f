use Rattle.cv_path.proofs.PlaceLemmas.{same_components}
use Rattle.cv_path.specs.Path.{parent_of}
use Rattle.cv_path.proofs.package_files.is_in.Goals as goal

pub returns : goal.returns
returns c = rw c.eq.ensures (same_components c.parent_text.result.now c.args.text.now (parent_of c.args.path.now) c.parent_text.ensures.parts)
