use Rattle.std.proofs.Common.{◌≡◌, ◌++◌, drop, map}
use Rattle.cv_base.specs.declared.advisory.Advisory.{Advisory}
use Rattle.cv_advdb.proofs.patch.patch_ids.Given as goal

-- the ids so far, with those that remain, are all
abbrev pub invariant-loop-id : goal.invariant-loop-id
invariant-loop-id l = l.ids.items ++ drop l.id-index l.remove ≡ l.remove

abbrev pub invariant-loop-record : goal.invariant-loop-record
invariant-loop-record l = l.ids.items ++ map (λ (a : Advisory). a.id) (drop l.record-index l.records) ≡ l.remove ++ map (λ (a : Advisory). a.id) l.records
