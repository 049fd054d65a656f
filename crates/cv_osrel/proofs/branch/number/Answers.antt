use Rattle.cv_osrel.proofs.Digits.{digits_utf8}
use Rattle.cv_osrel.proofs.branch.number.Goals as goal

pub returns-in_default : goal.returns-in_default
returns-in_default c = absurd (c.in_default.ensures.cases.0 (digits_utf8 _ c.args.text.now c.split_digits.ensures.digits))
