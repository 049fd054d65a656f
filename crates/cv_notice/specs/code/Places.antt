-- Where a notification stands in the list.
use Rattle.std.specs.Prelude.{◌≡◌, ℕ, ◌<◌, List, length, slice_index_or}
use Rattle.cv_base.specs.declared.finding.Row.{Row}

-- the notification at an index has the number
pub record HasNumber (standing : List (ℕ × List Row)) (number : ℕ) (index : ℕ) : Type 0 where
  pub in_range : index < length standing
  pub has : (notice : ℕ × List Row) → notice ≡ slice_index_or standing index notice → notice.0 ≡ number
