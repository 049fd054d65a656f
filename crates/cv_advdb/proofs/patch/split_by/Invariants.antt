use Rattle.std.proofs.Common.{◌≡◌, ◌++◌, drop, filter, not}
use Rattle.cv_advdb.specs.code.Changes.{has_id}
use Rattle.cv_advdb.proofs.patch.split_by.Given as goal

-- the records so far, with those that remain, are all
abbrev pub invariant-loop-record : goal.invariant-loop-record
invariant-loop-record l =
    (l.others.items ++ filter (λ a. not (has_id l.ids.keys a)) (drop l.record-index l.records) ≡ filter (λ a. not (has_id l.ids.keys a)) l.records)
    × (l.of_these.items ++ filter (has_id l.ids.keys) (drop l.record-index l.records) ≡ filter (has_id l.ids.keys) l.records)
