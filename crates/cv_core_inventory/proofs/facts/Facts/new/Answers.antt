use Rattle.std.proofs.Common.{refl}
use Rattle.cv_core_inventory.proofs.facts.Facts.new.Goals as goal

pub of-requires : goal.of-requires
of-requires g c = rw (c.new.ensures, c.new-2.ensures) (λ name layer. refl)
