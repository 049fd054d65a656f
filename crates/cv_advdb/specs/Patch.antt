-- A patch of a feed (defined by this project): records that it gets, in place of those of the same ids, and ids whose records go.
use Rattle.std.specs.Prelude.{◌≡◌, ◌<◌, ℕ, Bool, not, ◌||◌, ⊤, List, ◌++◌, filter, length, map}
use Rattle.std.specs.BTreeMap.{insert_entry}
use Rattle.cv_base.specs.Texts.{has_text}
use Rattle.cv_base.specs.declared.advisory.Advisory.{Advisory}
use Rattle.cv_base.specs.declared.limits.TheConstants.{MAX_ADVISORIES}
use Rattle.cv_match.specs.Findings.{text_cmp}
use Rattle.cv_advdb.specs.Feeds.{FeedTable, by_id, records_of}
use Rattle.cv_advdb.specs.declared.error.PatchError.{PatchError}
use Rattle.cv_advdb.specs.declared.error.PatchError.TheVariants as error

-- the patch removes the id, or has a record of it
abbrev pub is_patched : List Advisory → List (List ℕ) → List ℕ → Bool
is_patched records remove id = has_text remove id || has_text (map (λ a. a.id) records) id

-- the records of a feed after the patch: those that stood and whose ids it neither removes nor has, and its own, in the order of
-- their ids
abbrev pub patched_records : List Advisory → List Advisory → List (List ℕ) → List Advisory
patched_records olds records remove = by_id (filter (λ a. not (is_patched records remove a.id)) olds ++ records)

-- the feeds after a patch of the one of this name
abbrev pub patched : FeedTable → List ℕ → List Advisory → List (List ℕ) → FeedTable
patched table name records remove =
    record { feeds = insert_entry text_cmp table.feeds name (patched_records (records_of name table.feeds) records remove); limit = table.limit }

-- how many records the feed of this name has after a patch
abbrev pub patch_count : FeedTable → List ℕ → List Advisory → List (List ℕ) → ℕ
patch_count table name records remove = length (patched_records (records_of name table.feeds) records remove)

-- that there would be too many records is said only of a count above the limit, and it says the count
abbrev pub CountsTooMany : ℕ → PatchError → Type 0
CountsTooMany count error.NoFeed = ⊤
CountsTooMany count (error.TooManyRecords would) = (would ≡ count) × (MAX_ADVISORIES < count)
CountsTooMany count error.NoMemory = ⊤
