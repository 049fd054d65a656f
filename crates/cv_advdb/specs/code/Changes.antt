-- Words for the clauses of private functions: which records a patch concerns.
use Rattle.std.specs.Prelude.{◌≡◌, ℕ, Bool, true, not, List, ◌++◌, filter}
use Rattle.std.specs.BTreeMap.{is_at}
use Rattle.std.specs.List.{AllByRecursion, list_any}
use Rattle.std.specs.List.Sorted.{IsStrictlySortedBy}
use Rattle.cv_base.specs.declared.advisory.Advisory.{Advisory}
use Rattle.cv_match.specs.Findings.{text_cmp}
use Rattle.cv_advdb.specs.Feeds.{by_id, id_cmp}

-- the id of the record is one of these
abbrev pub has_id : List (List ℕ) → Advisory → Bool
has_id ids a = list_any (is_at (text_cmp a.id)) ids

-- those of other ids and the new ones, in order
abbrev pub put_together : List (List ℕ) → List Advisory → List Advisory → List Advisory
put_together ids olds news = by_id (filter (λ a. not (has_id ids a)) olds ++ news)

-- a patch of sorted records, prepared: all new ones have one of the ids, those that go are the others of these ids
pub record IsChange (olds : List Advisory) (ids : List (List ℕ)) (news gone all : List Advisory) : Type 0 where
  pub olds_sorted : IsStrictlySortedBy id_cmp olds
  pub news_sorted : IsStrictlySortedBy id_cmp news
  pub own : AllByRecursion (λ a. has_id ids a ≡ true) news
  pub gone_is : gone ≡ filter (has_id ids) olds
  pub all_is : all ≡ put_together ids olds news
