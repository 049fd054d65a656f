-- The feeds of advisories, by name, and the records under a key (defined by this project).
use Rattle.std.specs.Prelude.{ℕ, Bool, ◌&&◌, not, List, [], filter, map, unwrap_or, is_some, nat_le, length}
use Rattle.std.specs.BTreeMap.{insert_entry, is_at}
use Rattle.std.specs.Cmp.{IsTotalOrder, on_total}
use Rattle.std.specs.Cmp.Lexicographic.{nat_list_cmp_total}
use Rattle.std.specs.List.{AllByRecursion, flat_map}
use Rattle.std.specs.List.Sorted.{IsStrictlySortedBy}
use Rattle.std.specs.Map.{lookup}
use Rattle.std.specs.Ordering.{on}
use Rattle.std.specs.declared.cmp.Ordering.{Ordering}
use Rattle.cv_base.specs.InOrder.{in_order}
use Rattle.cv_base.specs.declared.advisory.Advisory.{Advisory}
use Rattle.cv_base.specs.declared.«package».PackageName.{PackageName}
use Rattle.cv_match.specs.Findings.{text_cmp}
use Rattle.cv_match.specs.Keys.{is_named}

-- the feeds, each by its name with its records, in the order of their names, and how many feeds there may be
pub record FeedTable : Type 0 where
  pub feeds : List (List ℕ × List Advisory)
  pub limit : ℕ

-- records by id
abbrev pub id_cmp : Advisory → Advisory → Ordering
id_cmp = on (λ a. a.id) text_cmp

-- the records in the order of their ids; of those that have one id the last one stays
abbrev pub by_id : List Advisory → List Advisory
by_id records = in_order id_cmp records

-- the records of each feed are in the order of their ids, each id once
abbrev pub AreSorted : List (List ℕ × List Advisory) → Type 0
AreSorted feeds = AllByRecursion (λ (feed : List ℕ × List Advisory). IsStrictlySortedBy id_cmp feed.1) feeds

-- there is a feed of this name
abbrev pub has_feed : List ℕ → List (List ℕ × List Advisory) → Bool
has_feed name feeds = is_some (lookup (is_at (text_cmp name)) feeds)

-- the records of the feed of this name, and none if there is no such feed
abbrev pub records_of : List ℕ → List (List ℕ × List Advisory) → List Advisory
records_of name feeds = unwrap_or (lookup (is_at (text_cmp name)) feeds) []

-- there are as many feeds as there may be, and the name is new
abbrev pub is_full : FeedTable → List ℕ → Bool
is_full table name = nat_le table.limit (length table.feeds) && not (has_feed name table.feeds)

-- the feeds, of which the one of this name has these records, in the order of their ids
abbrev pub replaced : FeedTable → List ℕ → List Advisory → FeedTable
replaced table name records = record { feeds = insert_entry text_cmp table.feeds name (by_id records); limit = table.limit }

-- the records that name the key, each with the name of its feed, in the order of feed and id
abbrev pub listed_under : PackageName → List (List ℕ × List Advisory) → List (List ℕ × Advisory)
listed_under key feeds = flat_map (λ (feed : List ℕ × List Advisory). map (λ a. (feed.0, a)) (filter (is_named key) feed.1)) feeds

-- ids are in a total order
pub id_total : IsTotalOrder id_cmp
id_total = on_total (λ (a : Advisory). a.id) nat_list_cmp_total
