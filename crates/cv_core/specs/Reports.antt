-- Reports as the records of the service have them (defined by this project).
use Rattle.std.specs.Prelude.{ℕ, List, Result, Ok, Err}
use Rattle.cv_core_records.specs.declared.read.Answer.{Answer}
use Rattle.cv_core_records.specs.declared.read.Answer.TheVariants as answer
use Rattle.cv_core_records.specs.declared.read.ReportOutcome.{ReportOutcome}
use Rattle.cv_core_records.specs.declared.read.ReportOutcome.TheVariants as outcome
use Rattle.cv_core.specs.declared.report.Report.{Report}
use Rattle.cv_core.specs.declared.report.ReportRefusal.{ReportRefusal}
use Rattle.cv_core.specs.declared.report.ReportRefusal.TheVariants as refusal

-- what a report shows, or a refusal of one
abbrev pub shown : Result Report ReportRefusal → ReportOutcome
shown (Ok report) = outcome.Good report.generation report.findings.now
shown (Err refusal.NotRegistered) = outcome.NotRegistered
shown (Err (refusal.Pending layer)) = outcome.Pending layer
shown (Err (refusal.BadImage fault)) = outcome.BadImage fault.now

-- the answer to a read of an image's report
abbrev pub report_answer : List ℕ → ReportOutcome → Answer
report_answer image shows = answer.Report image shows
