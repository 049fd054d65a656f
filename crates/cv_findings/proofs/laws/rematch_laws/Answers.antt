use Rattle.cv_findings.proofs.RematchLemmas.{rematched_is, rematched_kept, rows_none, untouched_same}
use Rattle.cv_findings.proofs.laws.rematch_laws.Goals as goal

pub returns : goal.returns
returns c = record { findings = rematched_is; untouched = untouched_same; kept = rematched_kept; unchanged = rows_none }
