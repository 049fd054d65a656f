use Rattle.std.proofs.Common.{◌≡◌, ◌++◌, length}
use Rattle.std.specs.List.Sorted.{IsStrictlySortedBy}
use Rattle.cv_base.specs.declared.«package».PackageName.{PackageName}
use Rattle.cv_match.specs.Keys.{name_cmp}
use Rattle.cv_advdb.specs.Touched.{has_name}
use Rattle.cv_advdb.specs.code.Index.{found_under}
use Rattle.cv_advdb.proofs.IndexLemmas.{if_named}
use Rattle.cv_advdb.proofs.index.add_under_each.Given as goal

-- what stands under a key so far, with the record if one of the names that remain is the key, is all
abbrev pub invariant-loop-name : goal.invariant-loop-name
invariant-loop-name l = record {
  found : (key : PackageName) → found_under key l.index.entries ++ if_named (has_name key l.remaining) l.stored
      ≡ found_under key l.fn.index.entries ++ if_named (has_name key l.fn.names) l.stored;
  sorted : IsStrictlySortedBy name_cmp l.remaining;
}

abbrev pub decreases-loop-name : goal.decreases-loop-name
decreases-loop-name l = length l.remaining
