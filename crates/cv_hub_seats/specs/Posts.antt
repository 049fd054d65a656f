-- What is published of a hub's list (defined by this project): a board, and the list that it is of. A reader knows how many events
-- of it were published, and what it enters has no fewer.
use Rattle.std.specs.Prelude.{◌≡◌, ℕ, ◌≤◌, List, length}
use mathlib.Core.Option.{some}
use lib.ListN.{get_elem?}
use Rattle.logbook.specs.Pages.{Book}
use Rattle.cv_core_machine.specs.Board.{BoardView, board_of}
use Rattle.cv_core_machine.specs.Scans.{StatesEveryLayer, trees_of}
use Rattle.cv_core_machine.specs.declared.limits.Limits.{Limits}
use Rattle.cv_hub_seats.specs.Events.{DeskTrees, IsListPrefix, state_of}
use Rattle.cv_hub_seats.specs.declared.submission.Submission.{Submission}

-- the board, and the list with its book
pub record PostView : Type 0 where
  pub board : BoardView
  pub book : Book
  pub list : List Submission

-- the list is a beginning of the hub's, and the board is that of the machine's state after it
pub record Shows (tree : DeskTrees) (limits : Limits) (parts : ℕ) (named : Book) (post : PostView) : Type 0 where
  pub front : IsListPrefix tree limits parts named (length post.list) post.book post.list
  pub board : StatesEveryLayer tree → post.board ≡ board_of (trees_of tree) (state_of (trees_of tree) limits post.list)

-- nobody knows of more events than this number
abbrev pub AllBelow : ℕ → List ℕ → Type 0
AllBelow n views = (place v : ℕ) → get_elem? views place ≡ some v → v ≤ n

-- the rule of what is published: it shows its list, and nobody knows of more than that
abbrev pub IsPosted : DeskTrees → Limits → ℕ → Book → PostView → List ℕ → Type 0
IsPosted tree limits parts named post views = Shows tree limits parts named post × AllBelow (length post.list) views

-- what a step tells: what was published has all that was known before, and what is published then is known after
abbrev pub Enters : DeskTrees → Limits → ℕ → Book → ℕ → PostView → PostView → ℕ → Type 0
Enters tree limits parts named before post next after = (before ≤ length post.list) × (after ≡ length next.list) × Shows tree limits parts named next
