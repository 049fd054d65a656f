use Rattle.std.proofs.Common.{◌≡◌, take}
use Rattle.std.specs.Prelude.{filter}
use Rattle.cv_base.specs.declared.«package».PackageName.{PackageName}
use Rattle.cv_match.specs.Keys.{is_named}
use Rattle.cv_advdb.specs.code.Index.{found_under}
use Rattle.cv_advdb.proofs.index.index_records.Given as goal

abbrev pub invariant-loop-record : goal.invariant-loop-record
invariant-loop-record l = (key : PackageName) → found_under key l.index.entries ≡ filter (is_named key) (take l.record-index l.records)
