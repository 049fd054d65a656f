-- An event as a seat submitted it, and as the list of a hub has it (defined by this project).
pub use Rattle.cv_hub_seats.specs.declared.submission.Submission.{Submission}
