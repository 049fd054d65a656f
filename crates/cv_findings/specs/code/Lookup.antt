-- The findings of packages by the records under their keys, unsorted.
use Rattle.std.specs.Prelude.{ℕ, ◌+◌, Bool, false, List, [], ◌∷◌, ◌++◌, Option, Some, None, if◌then◌else◌}
use Rattle.std.specs.List.{flat_map, sum_by}
use Rattle.cv_base.specs.declared.advisory.Advisory.{Advisory}
use Rattle.cv_base.specs.declared.finding.Finding.{Finding}
use Rattle.cv_base.specs.declared.«package».Package.{Package}
use Rattle.cv_base.specs.declared.«package».PackageName.{PackageName}
use Rattle.cv_match.specs.Findings.{found}
use Rattle.cv_match.specs.Keys.{is_named, keys_of}
use Rattle.cv_advdb.specs.Feeds.{listed_under}
use Rattle.cv_findings.specs.Pairs.{FeedList}

-- the record was tried under an earlier key
abbrev pub is_tried : Option PackageName → Advisory → Bool
is_tried None a = false
is_tried (Some key) a = is_named key a

-- the finding of a record of a feed, unless the record was tried under an earlier key
abbrev pub found_once : Option PackageName → Package → List ℕ × Advisory → List Finding
found_once earlier p listed = if is_tried earlier listed.1 then [] else found p listed.0 listed.1

-- the findings of the records under a key
abbrev pub found_under : FeedList → Package → Option PackageName → PackageName → List Finding
found_under feeds p earlier key = flat_map (found_once earlier p) (listed_under key feeds)

-- and of those under one or two keys
abbrev pub found_by : FeedList → Package → List PackageName → List Finding
found_by feeds p [] = []
found_by feeds p (whole ∷ []) = found_under feeds p None whole
found_by feeds p (whole ∷ family ∷ others) = found_under feeds p None whole ++ found_under feeds p (Some whole) family

-- the findings of a package
abbrev pub looked_up : FeedList → Package → List Finding
looked_up feeds p = found_by feeds p (keys_of p)

-- one try of a record, unless it was tried under an earlier key
abbrev pub tries_once : Option PackageName → List ℕ × Advisory → ℕ
tries_once earlier listed = if is_tried earlier listed.1 then 0 else 1

-- the tries of the records under a key
abbrev pub tries_under : FeedList → Option PackageName → PackageName → ℕ
tries_under feeds earlier key = sum_by (tries_once earlier) (listed_under key feeds)

-- and of those under one or two keys
abbrev pub tries_by : FeedList → List PackageName → ℕ
tries_by feeds [] = 0
tries_by feeds (whole ∷ []) = tries_under feeds None whole
tries_by feeds (whole ∷ family ∷ others) = tries_under feeds None whole + tries_under feeds (Some whole) family
