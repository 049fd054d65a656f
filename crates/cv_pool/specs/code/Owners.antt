-- The owners of a fill's deques (defined by this project).
use Rattle.std.specs.Prelude.{◌≡◌, ℕ, ◌<◌, List, [], ◌∷◌, map}
use Rattle.std.specs.Global.{Global}
use Rattle.crossbeam_deque.specs.declared.handles.Worker.{Worker}
use Rattle.crossbeam_deque.specs.Handles.{worker_deque, worker_flavor, worker_view}
use Rattle.cv_pool.specs.declared.task.Task.{Task}
use Rattle.cv_pool.specs.declared.account.Account.{Account}
use Rattle.cv_pool.specs.declared.account.EachOnce.{EachOnce}
use Rattle.cv_pool.specs.declared.seat.Seat.{Seat}
use Rattle.cv_pool.specs.Jobs.{weigh}
use Rattle.cv_pool.specs.code.Tasks.{jobs, marks}
use Rattle.cv_pool.specs.code.Accounts.{total}

-- a deque with its account
abbrev pub Owner : Type 0
Owner = Worker Task Global Account EachOnce

abbrev pub owner_deque : Owner → (ℕ × ℕ) × Global
owner_deque o = worker_deque o

abbrev pub owner_account : Owner → Account
owner_account o = worker_view o

-- an owner that has taken nothing, with some shares, of a deque to which some marks were added
pub record IsOwner (shares ends : ℕ) (o : Owner) : Type 0 where
  pub shares_kept : (owner_account o).shares ≡ shares
  pub marked : marks (owner_account o).pushed ≡ ends
  pub none_taken : (owner_account o).taken ≡ []
  pub none_ended : (owner_account o).ended ≡ 0
  pub fifo : worker_flavor o ≡ 0

-- an owner with some shares
abbrev pub HasShares : ℕ → Owner → Type 0
HasShares shares o = (owner_account o).shares ≡ shares

-- an owner whose account took a mark
abbrev pub HasEnded : Owner → Type 0
HasEnded o = 0 < (owner_account o).ended

-- what the jobs in the accounts of the owners weigh
abbrev pub owners_weigh : (ℕ → ℕ) → List Owner → ℕ
owners_weigh h os = total (λ v. weigh h v.taken) (map owner_account os)

-- what the jobs weigh that were dealt to the deques
abbrev pub owners_dealt : (ℕ → ℕ) → List Owner → ℕ
owners_dealt h os = total (λ v. weigh h (jobs v.pushed)) (map owner_account os)

-- a step was made at each deque, with an owner and the seat there, in order
abbrev pub EachSeat : (Owner → Seat → Owner → Type 0) → List Owner → List Seat → List Owner → Type 0
EachSeat step [] [] [] = Unit {0}
EachSeat step (o ∷ os) (s ∷ ss) (n ∷ ns) = step o s n × EachSeat step os ss ns
EachSeat step _ _ _ = ⊥
