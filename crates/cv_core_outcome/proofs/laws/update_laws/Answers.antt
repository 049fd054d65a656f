use Rattle.cv_core_outcome.proofs.AgainLemmas.{again_outcome, again_rows, outcome_stays}
use Rattle.cv_core_outcome.proofs.TruthLemmas.{all_rematched, pairs_machine, rematched_is, rows_machine}
use Rattle.cv_core_outcome.proofs.laws.update_laws.Goals as goal

pub returns : goal.returns
returns c =
    let laws = c.rematch_laws.ensures in
    record {
      image = rematched_is;
      images = all_rematched;
      rows = rows_machine;
      again = again_outcome laws.findings laws.untouched laws.unchanged;
      again_rows = again_rows laws.findings laws.untouched laws.unchanged;
      untouched = outcome_stays laws.findings laws.untouched laws.unchanged;
      pairs = pairs_machine;
    }
