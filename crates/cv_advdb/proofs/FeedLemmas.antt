-- The records of each feed stay sorted when those of a feed are replaced.
use Rattle.std.specs.Prelude.{ℕ, List, [], ◌∷◌}
use Rattle.std.specs.BTreeMap.{insert_entry}
use Rattle.std.specs.List.Sorted.{IsStrictlySortedBy}
use Rattle.std.specs.Ordering.{match_ordering}
use Rattle.std.specs.declared.cmp.Ordering.{Ordering}
use Rattle.std.specs.declared.cmp.Ordering.TheVariants.{Less, Equal, Greater}
use Rattle.cv_base.specs.declared.advisory.Advisory.{Advisory}
use Rattle.cv_match.specs.Findings.{text_cmp}
use Rattle.cv_advdb.specs.Feeds.{AreSorted, id_cmp}

pub put_sorted : (feeds : List (List ℕ × List Advisory)) (name : List ℕ) (records : List Advisory) → AreSorted feeds → IsStrictlySortedBy id_cmp records
    → AreSorted (insert_entry text_cmp feeds name records)
put_sorted [] name records s t = (t, tt)
put_sorted (feed ∷ feeds) name records s t = by_order (text_cmp name feed.0) (put_sorted feeds name records s.1 t)
  where
    by_order : (r : Ordering) → AreSorted (insert_entry text_cmp feeds name records)
        → AreSorted (match_ordering r ((name, records) ∷ feed ∷ feeds) ((feed.0, records) ∷ feeds) (feed ∷ insert_entry text_cmp feeds name records))
    by_order Less h = (t, s)
    by_order Equal h = (t, s.1)
    by_order Greater h = (s.0, h)
