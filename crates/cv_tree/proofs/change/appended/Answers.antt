use Rattle.std.proofs.Common.{arith}
use Rattle.cv_tree.proofs.change.appended.Goals as goal

pub returns-in_default-clause-height : goal.returns-in_default-clause-height
returns-in_default-clause-height g c =
    let none = c.in_default.ensures.none in (omega (arith, none), omega (arith, none))
