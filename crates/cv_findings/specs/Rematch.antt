-- The findings of an image after the records of feeds have changed (defined by this project). They are those before, and only
-- those of packages with a touched key are found anew.
use Rattle.std.specs.Prelude.{◌≡◌, Bool, false, not, List, ◌++◌, filter, if◌then◌else◌}
use Rattle.std.specs.List.{list_any}
use Rattle.cv_base.specs.InOrder.{in_order}
use Rattle.cv_base.specs.declared.finding.Finding.{Finding}
use Rattle.cv_base.specs.declared.«package».Package.{Package}
use Rattle.cv_base.specs.declared.«package».PackageName.{PackageName}
use Rattle.cv_match.specs.Findings.{finding_cmp, found_in, pair_findings}
use Rattle.cv_advdb.specs.Touched.{is_touched}
use Rattle.cv_findings.specs.Pairs.{FeedList}

-- one of the packages has a touched key
abbrev pub any_touched : List PackageName → List Package → Bool
any_touched touched packages = list_any (is_touched touched) packages

-- the packages that have a touched key
abbrev pub touched_packages : List PackageName → List Package → List Package
touched_packages touched packages = filter (is_touched touched) packages

-- the findings of packages without a touched key
abbrev pub untouched_findings : List PackageName → List Finding → List Finding
untouched_findings touched found = filter (λ f. not (is_touched touched f.«package»)) found

-- the findings of the packages of an image: takes the touched keys, the feeds as they are now, the packages, and their findings
-- before. If no package has a touched key they are those before
unfoldable pub rematched : List PackageName → FeedList → List Package → List Finding → List Finding
rematched touched feeds packages before = if any_touched touched packages
    then in_order finding_cmp (untouched_findings touched before ++ pair_findings (touched_packages touched packages) feeds) else before

-- a package without a touched key has the same findings with the one feeds and the other
abbrev pub AgreeOnUntouched : List PackageName → FeedList → FeedList → Type 0
AgreeOnUntouched touched before after = (p : Package) → is_touched touched p ≡ false → found_in after p ≡ found_in before p
