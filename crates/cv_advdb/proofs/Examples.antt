-- Worked examples of the definitions, on feeds with records about packages of Debian 12.
use Rattle.std.specs.Prelude.{◌≡◌, ℕ, true, false, List, [], ◌∷◌, Some, codes, refl}
use Rattle.cv_base.specs.declared.advisory.Advisory.{Advisory}
use Rattle.cv_base.specs.declared.advisory.Affected.{Affected}
use Rattle.cv_base.specs.declared.«package».Package.{Package}
use Rattle.cv_base.specs.declared.«package».PackageKind.TheVariants.{Deb}
use Rattle.cv_base.specs.declared.«package».PackageName.{PackageName}
use Rattle.cv_advdb.specs.Feeds.{FeedTable, by_id, is_full, listed_under, records_of, replaced}
use Rattle.cv_advdb.specs.Patch.{is_patched, patch_count, patched, patched_records}
use Rattle.cv_advdb.specs.Touched.{has_name, is_touched, records_under}

-- a name of a package
abbrev named : List ℕ → PackageName
named name = record { ecosystem = codes "Debian:12"; name = name }

-- an entry about it
abbrev entry : List ℕ → Affected
entry name = record { «package» = Some (named name); ranges = []; versions = [] }

-- a record with these entries
abbrev with_entries : List ℕ → List ℕ → List Affected → Advisory
with_entries id modified entries = record { id = id; modified = modified; withdrawn = false; affected = entries }

abbrev first : Advisory
first = with_entries (codes "X-1") (codes "2026") (entry (codes "curl") ∷ [])

-- the same id, changed
abbrev changed : Advisory
changed = with_entries (codes "X-1") (codes "2027") (entry (codes "curl") ∷ [])

abbrev second : Advisory
second = with_entries (codes "X-2") (codes "2026") (entry (codes "bash") ∷ entry (codes "curl") ∷ entry (codes "curl") ∷ [])

abbrev tenth : Advisory
tenth = with_entries (codes "X-10") (codes "2026") (entry (codes "bash") ∷ [])

-- ids are ordered as texts
in_order_of_id : by_id (second ∷ tenth ∷ first ∷ []) ≡ first ∷ tenth ∷ second ∷ []
in_order_of_id = refl

-- of two records with one id the last one stays
last_one_stays : by_id (first ∷ second ∷ changed ∷ []) ≡ changed ∷ second ∷ []
last_one_stays = refl

-- one feed, where there may be one
abbrev one_feed : FeedTable
one_feed = record { feeds = (codes "deb", first ∷ []) ∷ []; limit = 1 }

-- there is no room for another one, and this one may be replaced
new_is_refused : is_full one_feed (codes "npm") ≡ true
new_is_refused = refl

old_is_taken : is_full one_feed (codes "deb") ≡ false
old_is_taken = refl

-- it has the new records then
is_replaced : replaced one_feed (codes "deb") (second ∷ changed ∷ []) ≡ record { feeds = (codes "deb", changed ∷ second ∷ []) ∷ []; limit = 1 }
is_replaced = refl

-- a feed that is not there has no records
none_of_another : records_of (codes "npm") one_feed.feeds ≡ []
none_of_another = refl

-- a record with two entries about one package is listed once, and feeds come by name
by_feed : listed_under (named (codes "curl")) ((codes "a", second ∷ []) ∷ (codes "b", first ∷ tenth ∷ second ∷ []) ∷ [])
    ≡ (codes "a", second) ∷ (codes "b", first) ∷ (codes "b", second) ∷ []
by_feed = refl

-- where a record about curl changes and one about bash goes, other records stand under both
under_curl : records_under (named (codes "curl")) (changed ∷ []) ≡ changed ∷ []
under_curl = refl

under_bash : records_under (named (codes "bash")) (first ∷ []) ≡ []
under_bash = refl

-- names are compared whole
has_whole_name : has_name (named (codes "curl")) (named (codes "curl3") ∷ []) ≡ false
has_whole_name = refl

-- a patch removes the record of one id, changes that of another and adds one; an id to remove that no record has is passed over
removes_and_adds : patched_records (first ∷ second ∷ []) (changed ∷ tenth ∷ []) (codes "X-2" ∷ codes "Q" ∷ []) ≡ changed ∷ tenth ∷ []
removes_and_adds = refl

-- records of which it says nothing stay
keeps_others : patched_records (first ∷ tenth ∷ []) (second ∷ []) (codes "X-10" ∷ []) ≡ first ∷ second ∷ []
keeps_others = refl

-- an id that is removed and has a new record has that one
new_one_stays : patched_records (first ∷ []) (changed ∷ []) (codes "X-1" ∷ []) ≡ changed ∷ []
new_one_stays = refl

-- and so in a table of feeds, of which the others stay
is_patched_there : patched one_feed (codes "deb") (second ∷ []) [] ≡ record { feeds = (codes "deb", first ∷ second ∷ []) ∷ []; limit = 1 }
is_patched_there = refl

-- records are counted after the patch: one of an id that stands takes the place of that one
counts_after : (patch_count one_feed (codes "deb") (second ∷ []) [] ≡ 2) × (patch_count one_feed (codes "deb") (changed ∷ []) [] ≡ 1)
counts_after = (refl, refl)

-- a patch says something of the ids that it removes and of those of its records, and of no other
says_of : (is_patched (first ∷ []) (codes "Q" ∷ []) (codes "Q") ≡ true) × (is_patched (first ∷ []) [] (codes "X-1") ≡ true) × (is_patched (first ∷ []) [] (codes "X") ≡ false)
says_of = (refl, refl, refl)

-- curl of Debian 12, which is of the source curl
abbrev curl : Package
curl = record {
  kind = Deb;
  path = [];
  name = codes "libcurl4";
  version = codes "8";
  source = codes "curl";
  source_version = codes "8";
  arch = codes "amd64";
  ecosystem = codes "Debian:12";
}

-- it is touched by the name of its source, with its whole ecosystem or the family of that
touches_source : (is_touched (named (codes "curl") ∷ []) curl ≡ true) × (is_touched (record { ecosystem = codes "Debian"; name = codes "curl" } ∷ []) curl ≡ true)
    × (is_touched (named (codes "libcurl4") ∷ []) curl ≡ false)
touches_source = (refl, refl, refl)
