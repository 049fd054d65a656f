use Rattle.std.proofs.Common.{◌≡◌, [], drop}
use Rattle.std.specs.BTreeMap.{get}
use Rattle.cv_base.specs.declared.package.PackageName.{PackageName}
use Rattle.cv_match.specs.Keys.{name_cmp}
use Rattle.cv_match_feed.specs.code.Index.{indices_in, all_added}
use Rattle.cv_match_feed.proofs.index.index_records.Given as goal

-- what was added so far, with the remaining records, is what all add
abbrev pub invariant-loop-index : goal.invariant-loop-index
invariant-loop-index l = (key : PackageName) →
    all_added key l.index (drop l.index l.advisories) (indices_in (get name_cmp l.names key)) ≡ all_added key 0 l.advisories []
