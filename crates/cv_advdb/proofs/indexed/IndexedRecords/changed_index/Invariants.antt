use Rattle.std.proofs.Common.{◌≡◌, cond, take}
use Rattle.cv_base.specs.declared.«package».PackageName.{PackageName}
use Rattle.cv_advdb.specs.Touched.{has_name, records_under}
use Rattle.cv_advdb.specs.code.Changes.{put_together}
use Rattle.cv_advdb.specs.code.Index.{found_under}
use Rattle.cv_advdb.proofs.indexed.IndexedRecords.changed_index.Given as goal

-- the lists under the names so far are recomputed, and the others are as before
abbrev pub invariant-loop-key : goal.invariant-loop-key
invariant-loop-key l = (name : PackageName) → found_under name l.index.entries
    ≡ cond (has_name name (take l.key-index l.keys)) (put_together l.change.ids.keys (records_under name l.self) (records_under name l.change.news.items)) (records_under name l.self)
