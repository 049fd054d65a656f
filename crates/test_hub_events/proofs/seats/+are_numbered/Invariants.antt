use Rattle.std.proofs.Common.{length}
use Rattle.test_hub_events.proofs.seats.+are_numbered.Given as goal

abbrev pub decreases-are_numbered : goal.decreases-are_numbered
decreases-are_numbered g l = length l.seats.now
