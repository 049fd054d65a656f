use Rattle.cv_match.proofs.FindingsLaws.{complete, sorted, sound}
use Rattle.cv_match.proofs.laws.findings_laws.Goals as goal

pub returns : goal.returns
returns c = record { sorted = sorted; complete = complete; sound = sound }
