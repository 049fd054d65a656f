use Rattle.cv_match.proofs.Keys.{found_in_about, not_affected, same_names, says_nothing}
use Rattle.cv_match.proofs.laws.key_laws.Goals as goal

pub returns : goal.returns
returns c = record { unnamed = not_affected; none = says_nothing; enough = found_in_about; names = same_names }
