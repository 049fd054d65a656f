use Rattle.std.proofs.Common.{◌≡◌, drop}
use Rattle.std.specs.BTreeMap.{get}
use Rattle.cv_base.specs.declared.package.PackageName.{PackageName}
use Rattle.cv_match.specs.Keys.{name_cmp}
use Rattle.cv_match_feed.specs.code.Index.{added, indices_in}
use Rattle.cv_match_feed.proofs.index.add_record.Given as goal

-- what was added so far, with the remaining entries, is what all add
abbrev pub invariant-loop-entry : goal.invariant-loop-entry
invariant-loop-entry l = (key : PackageName) →
    added key l.index (drop l.entry-index l.entry-items) (indices_in (get name_cmp l.names key))
    ≡ added key l.index l.entry-items (indices_in (get name_cmp l.fn.names key))
