use Rattle.cv_advdb.proofs.TouchedLemmas.{findings_same, one_list}
use Rattle.cv_advdb.proofs.laws.touched_laws.Goals as goal

pub returns : goal.returns
returns c = record { findings = findings_same; unique = one_list }
