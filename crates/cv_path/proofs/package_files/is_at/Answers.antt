use Rattle.cv_path.proofs.PlaceLemmas.{same_components}
use Rattle.cv_path.proofs.package_files.is_at.Goals as goal

pub returns : goal.returns
returns c = rw c.eq.ensures (same_components c.text.result.now c.args.text.now c.args.path.now c.text.ensures.parts)
