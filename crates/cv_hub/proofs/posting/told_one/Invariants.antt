use Rattle.std.proofs.Common.{◌≡◌, drop}
use Rattle.left_right.specs.Sides.{view}
use Rattle.cv_hub.proofs.posting.told_one.Given as goal

-- what is published stays, and what the writer knows of it
abbrev pub invariant-loop : goal.invariant-loop
invariant-loop g l = ((goal.iterator-loop g).can_next l.iterator' × (goal.iterator-loop g).is_finite l.iterator')
    × (l.writer.desk.shown ≡ l.fn.writer.desk.shown) × (drop l.writer.behind l.writer.log.items ≡ drop l.fn.writer.behind l.fn.writer.log.items)
    × (view l.writer.desk.place ≡ view l.fn.writer.desk.place)
