use Rattle.cv_keep_record.proofs.EventLemmas.{one_list}
use Rattle.cv_keep_record.proofs.read.record_law.Goals as goal

pub returns : goal.returns
returns c = one_list
