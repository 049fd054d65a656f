-- An update by its touched keys: the outcomes and the rows are those of matching all packages with the feeds after it.
use Rattle.std.specs.Prelude.{◌≡◌, ℕ, Bool, true, false, cond, List, [], ◌++◌, Option, Some, None, refl}
use Rattle.std.specs.List.Sorted.{IsStrictlySortedBy}
use Rattle.std.proofs.Common.{ap, sym, ◌∙◌}
use Rattle.cv_base.specs.InOrder.{in_order}
use Rattle.cv_base.specs.declared.finding.Finding.{Finding}
use Rattle.cv_base.specs.declared.«package».Package.{Package}
use Rattle.cv_base.specs.declared.«package».PackageName.{PackageName}
use Rattle.cv_base.proofs.InOrder.{in_order_sorted}
use Rattle.cv_coalesce.specs.Coalesced.{coalesced}
use Rattle.cv_coalesce.specs.declared.image.ImagePackages.{ImagePackages}
use Rattle.cv_coalesce.specs.declared.image.ImagePackages.TheVariants as packages
use Rattle.cv_findings.specs.Pairs.{FeedList}
use Rattle.cv_findings.specs.Rematch.{AgreeOnUntouched, any_touched, rematched as rematched_findings, touched_packages, untouched_findings}
use Rattle.cv_findings.specs.Rows.{rows_of}
use Rattle.cv_core_machine.specs.State.{Feeds}
use Rattle.cv_core_machine.specs.declared.image.Image.{Image}
use Rattle.cv_match.specs.Findings.{finding_cmp, finding_total, findings, pair_findings}
use Rattle.cv_match.proofs.FindingsLaws.{sorted}
use Rattle.cv_core_outcome.specs.Outcome.{FactTable, first_unknown, known_shapes, outcome_at, outcome_by}
use Rattle.cv_core_outcome.specs.Update.{has_touched, rematched_by, rows_by, update_rows}
use Rattle.cv_core_outcome.specs.declared.outcome.Outcome.TheVariants.{Good}

-- findings that are made again are sorted, if those before are
pub rematched_sorted : (touched : List PackageName) (feeds : FeedList) (found : List Package) (before : List Finding) → IsStrictlySortedBy finding_cmp before
    → IsStrictlySortedBy finding_cmp (rematched_findings touched feeds found before)
unfolding rematched_findings
rematched_sorted touched feeds found before h = by_test (any_touched touched found) where
  again : List Finding
  again = in_order finding_cmp (untouched_findings touched before ++ pair_findings (touched_packages touched found) feeds)

  by_test : (b : Bool) → IsStrictlySortedBy finding_cmp (cond b again before)
  by_test true = in_order_sorted finding_total (untouched_findings touched before ++ pair_findings (touched_packages touched found) feeds)
  by_test false = h

-- what holds of findings that are made again
abbrev pub Again : Type 0
Again = (touched : List PackageName) (before after : FeedList) (found : List Package) → AgreeOnUntouched touched before after
    → rematched_findings touched after found (findings found before) ≡ findings found after

abbrev pub Untouched : Type 0
Untouched = (touched : List PackageName) (before after : FeedList) (found : List Package) → AgreeOnUntouched touched before after → any_touched touched found ≡ false
    → findings found after ≡ findings found before

abbrev pub Unchanged : Type 0
Unchanged = (image : List ℕ) (found : List Finding) → IsStrictlySortedBy finding_cmp found → rows_of image found found ≡ []

module _ (again : Again) (untouched : Untouched) (unchanged : Unchanged) where
  good_again : (ps : List Package) (before after : Feeds) (touched : List PackageName) → AgreeOnUntouched touched before after
      → rematched_by touched after (Good ps (findings ps before)) ≡ Good ps (findings ps after)
  good_again ps before after touched h = by_test (any_touched touched ps) refl where
    by_test : (b : Bool) → any_touched touched ps ≡ b
        → cond b (Good ps (rematched_findings touched after ps (findings ps before))) (Good ps (findings ps before)) ≡ Good ps (findings ps after)
    by_test true is = ap (Good ps) (again touched before after ps h)
    by_test false is = ap (Good ps) (sym (untouched touched before after ps h is))

  none_told : (image : List ℕ) (ps : List Package) (before after : Feeds) (touched : List PackageName) → AgreeOnUntouched touched before after → any_touched touched ps ≡ false
      → rows_of image (findings ps before) (findings ps after) ≡ []
  none_told image ps before after touched h is =
      ap (rows_of image (findings ps before)) (untouched touched before after ps h is) ∙ unchanged image (findings ps before) (sorted ps before)

  good_rows : (image : List ℕ) (ps : List Package) (before after : Feeds) (touched : List PackageName) → AgreeOnUntouched touched before after
      → rows_by touched after image (Good ps (findings ps before)) ≡ rows_of image (findings ps before) (findings ps after)
  good_rows image ps before after touched h = by_test (any_touched touched ps) refl where
    by_test : (b : Bool) → any_touched touched ps ≡ b
        → cond b (rows_of image (findings ps before) (rematched_findings touched after ps (findings ps before))) [] ≡ rows_of image (findings ps before) (findings ps after)
    by_test true is = ap (rows_of image (findings ps before)) (again touched before after ps h)
    by_test false is = sym (none_told image ps before after touched h is)

  again_by : (first : Option (List ℕ)) (before after : Feeds) (touched : List PackageName) (found : ImagePackages) → AgreeOnUntouched touched before after
      → rematched_by touched after (outcome_by first before found) ≡ outcome_by first after found
  again_by (Some l) before after touched found h = refl
  again_by None before after touched (packages.Good ps) h = good_again ps before after touched h
  again_by None before after touched (packages.Bad fault) h = refl

  rows_again_by : (image : List ℕ) (first : Option (List ℕ)) (before after : Feeds) (touched : List PackageName) (found : ImagePackages) → AgreeOnUntouched touched before after
      → rows_by touched after image (outcome_by first before found) ≡ update_rows after image (outcome_by first before found)
  rows_again_by image (Some l) before after touched found h = refl
  rows_again_by image None before after touched (packages.Good ps) h = good_rows image ps before after touched h
  rows_again_by image None before after touched (packages.Bad fault) h = refl

  stays_by : (hash : List ℕ) (first : Option (List ℕ)) (before after : Feeds) (touched : List PackageName) (found : ImagePackages) → AgreeOnUntouched touched before after
      → has_touched touched (outcome_by first before found) ≡ false
      → (outcome_by first after found ≡ outcome_by first before found) × (update_rows after hash (outcome_by first before found) ≡ [])
  stays_by hash (Some l) before after touched found h none = (refl, refl)
  stays_by hash None before after touched (packages.Good ps) h none =
      (ap (Good ps) (untouched touched before after ps h none), none_told hash ps before after touched h none)
  stays_by hash None before after touched (packages.Bad fault) h none = (refl, refl)

  -- the outcome by the touched keys is that with the feeds after the update
  pub again_outcome : (facts : FactTable) (before after : Feeds) (touched : List PackageName) (image : Image) → AgreeOnUntouched touched before after
      → rematched_by touched after (outcome_at facts before image) ≡ outcome_at facts after image
  again_outcome facts before after touched image h =
      again_by (first_unknown facts image.layers) before after touched (coalesced (known_shapes facts image.layers) image.seals) h

  -- and the rows are those of matching all
  pub again_rows : (facts : FactTable) (before after : Feeds) (touched : List PackageName) (hash : List ℕ) (image : Image) → AgreeOnUntouched touched before after
      → rows_by touched after hash (outcome_at facts before image) ≡ update_rows after hash (outcome_at facts before image)
  again_rows facts before after touched hash image h =
      rows_again_by hash (first_unknown facts image.layers) before after touched (coalesced (known_shapes facts image.layers) image.seals) h

  -- where no package has a touched key, nothing changes
  pub outcome_stays : (facts : FactTable) (before after : Feeds) (touched : List PackageName) (hash : List ℕ) (image : Image) → AgreeOnUntouched touched before after
      → has_touched touched (outcome_at facts before image) ≡ false
      → (outcome_at facts after image ≡ outcome_at facts before image) × (update_rows after hash (outcome_at facts before image) ≡ [])
  outcome_stays facts before after touched hash image h =
      stays_by hash (first_unknown facts image.layers) before after touched (coalesced (known_shapes facts image.layers) image.seals) h
