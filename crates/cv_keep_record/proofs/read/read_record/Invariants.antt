use Rattle.std.proofs.Common.{length}
use Rattle.cv_keep_record.proofs.EventLemmas.{IsReadTo}
use Rattle.cv_keep_record.proofs.read.read_record.Given as goal

abbrev pub decreases-loop-rest : goal.decreases-loop-rest
decreases-loop-rest l = length l.rest

abbrev pub invariant-loop-rest : goal.invariant-loop-rest
invariant-loop-rest l = IsReadTo l.bytes l.events.items l.rest
