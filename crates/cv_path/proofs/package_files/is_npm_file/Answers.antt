use Rattle.std.proofs.Common.{ap, ◌∙◌}
use Rattle.cv_path.proofs.PlaceLemmas.{npm_components}
use Rattle.cv_path.specs.Place.{is_npm}
use Rattle.cv_path.proofs.package_files.is_npm_file.Goals as goal

pub returns : goal.returns
returns c = rw (c.is_npm.ensures, c.as_bytes.ensures.value) (npm_components c.text.result.now ∙ ap is_npm c.text.ensures.parts)
