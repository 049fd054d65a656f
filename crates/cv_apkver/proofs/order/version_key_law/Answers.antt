use Rattle.cv_apkver.proofs.Spelled.{key_of-text_of}
use Rattle.cv_apkver.proofs.order.version_key_law.Goals as goal

pub returns : goal.returns
returns c = λ written well. key_of-text_of written well
