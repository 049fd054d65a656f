-- What a door, an entered door and a view keep.
use Rattle.std.specs.Prelude.{◌≡◌, ℕ, length}
use Rattle.logbook.specs.Pages.{Book}
use Rattle.cv_core_machine.specs.declared.limits.Limits.{Limits}
use Rattle.cv_hub_seats.specs.Events.{DeskTrees}
use Rattle.cv_hub_seats.specs.Posts.{PostView, Shows}
use Rattle.cv_hub_seats.specs.Seats.{SeatView}
use Rattle.cv_hub_seats.specs.code.Book.{IsSeat}

-- of how many events a door knows that they were published, and how often it was refused
pub record DoorView : Type 0 where
  pub known : ℕ
  pub refused : ℕ

-- what an entered door reads, of how many events it knows that they were published, and how often it was refused
pub record EnteredView : Type 0 where
  pub post : PostView
  pub known : ℕ
  pub refused : ℕ

-- the seat to come has seen what is shown, and its reader knows of it
pub record IsViewed (tree : DeskTrees) (limits : Limits) (all : ℕ) (named : Book) (post : PostView) (known : ℕ) (parts amount : ℕ) (seat : SeatView) : Type 0 where
  pub shows : Shows tree limits all named post
  pub list_is : seat.list ≡ post.list
  pub known_is : known ≡ length post.list
  pub seat_is : IsSeat all parts amount seat
