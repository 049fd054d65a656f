use Rattle.std.proofs.Common.{[], refl}
use Rattle.test_keep.proofs.tests.journal.the_first_record_is_read.Goals as goal

pub read-requires-clause-gate : goal.read-requires-clause-gate
read-requires-clause-gate g c = ([], _, refl, refl)
