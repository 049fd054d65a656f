-- The definitions on worked examples.
use Rattle.std.specs.Prelude.{◌≡◌, Err, refl}
use Rattle.cv_core_records.specs.declared.read.PageOutcome.TheVariants as outcome
use Rattle.cv_notice.specs.Pages.{shown}
use Rattle.cv_notice.specs.declared.error.PageError.TheVariants as error

-- a refusal shows its cause
refused : (shown (Err (error.NoPage 3)) ≡ outcome.NoPage 3) × (shown (Err error.NoNotification) ≡ outcome.NoNotification)
refused = (refl, refl)
