-- How many tries the matching of packages takes (defined by this project): one for each pair of a package and a record under
-- one of its keys.
use Rattle.std.specs.Prelude.{ℕ, List, count_by}
use Rattle.std.specs.List.{sum_by}
use Rattle.cv_base.specs.declared.advisory.Advisory.{Advisory}
use Rattle.cv_base.specs.declared.«package».Package.{Package}
use Rattle.cv_match.specs.Keys.{is_about}

-- the feeds, each by its name with its records
abbrev pub FeedList : Type 0
FeedList = List (List ℕ × List Advisory)

-- how many records of all feeds stand under a key of the package
abbrev pub about_count : FeedList → Package → ℕ
about_count feeds p = sum_by (λ (feed : List ℕ × List Advisory). count_by (is_about p) feed.1) feeds

-- how many pairs there are of a package and a record under one of its keys
abbrev pub pair_count : List Package → FeedList → ℕ
pair_count packages feeds = sum_by (about_count feeds) packages
