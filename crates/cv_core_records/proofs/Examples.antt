-- The definitions on a notification of five rows, by pages of two.
use Rattle.std.specs.Prelude.{◌≡◌, [], ◌∷◌, Some, None, refl}
use Rattle.cv_base.specs.declared.finding.Row.{Row}
use Rattle.cv_core_records.specs.Pages.{heads, notification_at, page_count, page_of, page_rows}
use Rattle.cv_core_records.specs.declared.read.PageOutcome.TheVariants as outcome

five : (a b c d e : Row) → page_count 2 (a ∷ b ∷ c ∷ d ∷ e ∷ []) ≡ 3
five a b c d e = refl

first : (a b c d e : Row) → page_rows 2 1 (a ∷ b ∷ c ∷ d ∷ e ∷ []) ≡ a ∷ b ∷ []
first a b c d e = refl

last : (a b c d e : Row) → page_of ((7, a ∷ b ∷ c ∷ d ∷ e ∷ []) ∷ []) 7 2 3 ≡ outcome.Rows 3 (e ∷ [])
last a b c d e = refl

none : (a b c d e : Row) → (page_of ((7, a ∷ b ∷ c ∷ d ∷ e ∷ []) ∷ []) 7 2 4 ≡ outcome.NoPage 3) × (page_of ((7, a ∷ []) ∷ []) 8 2 1 ≡ outcome.NoNotification)
none a b c d e = (refl, refl)

found : (a b : Row) → (notification_at ((1, a ∷ []) ∷ (3, b ∷ []) ∷ []) 3 ≡ Some (b ∷ [])) × (notification_at ((1, a ∷ []) ∷ (3, b ∷ []) ∷ []) 2 ≡ None)
found a b = (refl, refl)

listed : (a b c : Row) → heads ((1, a ∷ []) ∷ (3, b ∷ c ∷ []) ∷ []) ≡ record { number = 1; rows = 1 } ∷ record { number = 3; rows = 2 } ∷ []
listed a b c = refl
