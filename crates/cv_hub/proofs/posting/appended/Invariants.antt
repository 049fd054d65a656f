use Rattle.std.proofs.Common.{◌≡◌, [], drop}
use Rattle.cv_hub.proofs.posting.appended.Given as goal

-- the operation is still there, and none is pending
abbrev pub invariant-loop : goal.invariant-loop
invariant-loop g l = ((goal.iterator-loop g).can_next l.iterator' × (goal.iterator-loop g).is_finite l.iterator')
    × (l.post ≡ l.fn.post) × (drop l.writer.behind l.writer.log.items ≡ []) × (l.writer.desk ≡ l.fn.writer.desk)
