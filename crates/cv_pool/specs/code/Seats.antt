-- A hand's seats, one at each deque of its fill (defined by this project).
use Rattle.std.specs.Prelude.{◌≡◌, ℕ, ◌+◌, Bool, false, ◌||◌, List, [], ◌∷◌, map, Option, None, Some, is_some, if◌then◌else◌}
use Rattle.std.specs.Global.{Global}
use Rattle.std.specs.List.{AllByRecursion}
use Rattle.crossbeam_deque.specs.Handles.{view, IsPassOf, stealer_deque, stealer_flavor}
use Rattle.cv_pool.specs.declared.task.Task.{Task}
use Rattle.cv_pool.specs.declared.task.Task.TheVariants.{Job, End}
use Rattle.cv_pool.specs.declared.account.Account.{Account}
use Rattle.cv_pool.specs.declared.seat.Seat.{Seat}
use Rattle.cv_pool.specs.Jobs.{weigh, option_weigh}
use Rattle.cv_pool.specs.code.Tasks.{jobs, marks}
use Rattle.cv_pool.specs.code.Accounts.{IsWithin, total}

-- the deque of a seat, and its account
abbrev pub seat_deque : Seat → (ℕ × ℕ) × Global
seat_deque s = stealer_deque s.thief

abbrev pub seat_account : Seat → Account
seat_account s = view s.pass

-- the jobs that were dealt to the deque of a seat
abbrev pub seat_jobs : Seat → List ℕ
seat_jobs s = jobs (seat_account s).pushed

-- a seat at a filled deque: its pass has one share, and took a mark or not
pub record IsSeated (s : Seat) : Type 0 where
  pub pass : IsPassOf (seat_deque s) s.pass
  pub fifo : stealer_flavor s.thief ≡ 0
  pub share : (seat_account s).shares ≡ 1
  pub full : marks (seat_account s).pushed ≡ 9
  pub ended : (seat_account s).ended ≡ (if s.more then 0 else 1)
  pub within : IsWithin (seat_account s)

-- what the jobs taken at the seats weigh
abbrev pub seats_weigh : (ℕ → ℕ) → List Seat → ℕ
seats_weigh h ss = total (λ v. weigh h v.taken) (map seat_account ss)

-- what the jobs weigh that were dealt to the deques of the seats
abbrev pub seats_dealt : (ℕ → ℕ) → List Seat → ℕ
seats_dealt h ss = total (λ v. weigh h (jobs v.pushed)) (map seat_account ss)

-- some deque may have a job, as far as the hand knows
abbrev pub any_more : List Seat → Bool
any_more [] = false
any_more (s ∷ ss) = s.more || any_more ss

-- the task that stands for an answer: a job, or a mark
abbrev pub task_of : Option ℕ → Task
task_of None = End
task_of (Some k) = Job k

-- a seat before and after an answer
pub record SeatTook (s : Seat) (answer : Option ℕ) (t : Seat) : Type 0 where
  pub deque : seat_deque t ≡ seat_deque s
  pub seated : IsSeated t
  pub pushed : (seat_account t).pushed ≡ (seat_account s).pushed
  pub weights : (h : ℕ → ℕ) → weigh h (seat_account t).taken ≡ weigh h (seat_account s).taken + option_weigh h answer
  pub more : t.more ≡ is_some answer
  pub closed : s.more ≡ false → answer ≡ None

-- seats before and after an answer
pub record SeatsTook (ss : List Seat) (answer : Option ℕ) (ts : List Seat) : Type 0 where
  pub deques : map seat_deque ts ≡ map seat_deque ss
  pub same_jobs : map seat_jobs ts ≡ map seat_jobs ss
  pub seated : AllByRecursion IsSeated ts
  pub dealt : (h : ℕ → ℕ) → seats_dealt h ts ≡ seats_dealt h ss
  pub weights : (h : ℕ → ℕ) → seats_weigh h ts ≡ seats_weigh h ss + option_weigh h answer
  pub more : any_more ts ≡ is_some answer
  pub closed : any_more ss ≡ false → answer ≡ None
