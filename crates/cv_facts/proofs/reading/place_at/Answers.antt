use Rattle.std.proofs.Common.{sym}
use Rattle.cv_facts.proofs.PlacedLemmas.{none_at}
use Rattle.cv_facts.proofs.reading.place_at.Goals as goal

pub returns-in_default : goal.returns-in_default
returns-in_default c = none_at c.args.path.now (sym c.in_default.ensures)
