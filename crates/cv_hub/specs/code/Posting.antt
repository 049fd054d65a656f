-- What the writer of a hub has published, and what it is about to publish.
use Rattle.std.specs.Prelude.{◌≡◌, ℕ, ◌≤◌, List, [], ◌∷◌, length}
use Rattle.logbook.specs.Pages.{Book}
use Rattle.cv_core_machine.specs.declared.limits.Limits.{Limits}
use Rattle.cv_hub_seats.specs.Events.{DeskTrees}
use Rattle.cv_hub_seats.specs.Posts.{PostView, Shows}
use Rattle.cv_hub_seats.specs.declared.submission.Submission.{Submission}

-- the board that is shown is of the list, no operation is pending, and the writer knows of the whole list
pub record IsPublished (list shown : List Submission) (pending : List PostView) (known : ℕ) : Type 0 where
  pub shown_is : shown ≡ list
  pub none_pending : pending ≡ []
  pub known_is : known ≡ length list

-- one operation is pending: the board of a list that is no shorter than the one that is shown
pub record IsPending (tree : DeskTrees) (limits : Limits) (parts : ℕ) (named : Book) (list shown : List Submission) (pending : List PostView) : Type 0 where
  pub post : PostView
  pub pending_is : pending ≡ post ∷ []
  pub shows : Shows tree limits parts named post
  pub list_is : post.list ≡ list
  pub longer : length shown ≤ length list
