-- A page of a notification as the records of the service have it (defined by this project).
use Rattle.std.specs.Prelude.{Result, Ok, Err}
use Rattle.cv_core_records.specs.declared.read.PageOutcome.{PageOutcome}
use Rattle.cv_core_records.specs.declared.read.PageOutcome.TheVariants as outcome
use Rattle.cv_notice.specs.declared.error.PageError.{PageError}
use Rattle.cv_notice.specs.declared.error.PageError.TheVariants as error
use Rattle.cv_notice.specs.declared.pages.Page.{Page}

-- what a page shows, or why there is none
abbrev pub shown : Result Page PageError → PageOutcome
shown (Ok page) = outcome.Rows page.pages page.rows.now
shown (Err error.NoNotification) = outcome.NoNotification
shown (Err (error.NoPage pages)) = outcome.NoPage pages
