use Rattle.cv_pep440.proofs.Spelled.{key_of-text_of}
use Rattle.cv_pep440.proofs.order.version_key_law.Goals as goal

pub returns : goal.returns
returns c = λ written well. key_of-text_of written well
