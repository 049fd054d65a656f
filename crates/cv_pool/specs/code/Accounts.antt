-- The rule of one deque (defined by this project). The right to know the whole is cut into 9 shares, and a filled deque
-- has 9 marks. Each account has at least as many shares as it took marks, so a deque is empty only when each account has
-- taken a mark for each share. Only an account with all shares adds tasks.
use Rattle.std.specs.Prelude.{◌≡◌, ℕ, ◌+◌, ◌<◌, ◌≤◌, List, [], ◌∷◌, ◌++◌}
use mathlib.Core.Option.{some}
use lib.ListN.{get_elem?}
use Rattle.cv_pool.specs.declared.task.Task.{Task}
use Rattle.cv_pool.specs.declared.account.Account.{Account}
use Rattle.cv_pool.specs.Jobs.{weigh}
use Rattle.cv_pool.specs.code.Tasks.{jobs, marks, AreMarksLast}

-- the account with these parts
abbrev pub account : ℕ → List Task → List ℕ → ℕ → Account
account shares pushed taken ended = record { shares = shares; pushed = pushed; taken = taken; ended = ended }

-- the values of the accounts, added up
abbrev pub total : (Account → ℕ) → List Account → ℕ
total f [] = 0
total f (v ∷ vs) = f v + total f vs

-- each account has the fact
abbrev pub Each : (Account → Type 0) → List Account → Type 0
Each P views = (port : ℕ) (v : Account) → get_elem? views port ≡ some v → P v

-- an account of a deque to which `all` was added and in which `items` are
pub record Fits (all items : List Task) (v : Account) : Type 0 where
  pub knows_all : 0 < v.shares → v.pushed ≡ all
  pub nothing_taken : v.shares ≡ 0 → v.taken ≡ []
  pub within_shares : v.ended ≤ v.shares
  pub no_jobs_remain : 0 < v.ended → jobs items ≡ []

-- a deque and its accounts: the jobs that were added are those taken and those in it, each once, and so for the marks
pub record EachTaskOnce (items : List Task) (views : List Account) : Type 0 where
  pub all : List Task
  pub shares : total (λ v. v.shares) views ≡ 9
  pub each : Each (Fits all items) views
  pub weights : (h : ℕ → ℕ) → total (λ v. weigh h v.taken) views + weigh h (jobs items) ≡ weigh h (jobs all)
  pub ends : total (λ v. v.ended) views + marks items ≡ marks all
  pub last : AreMarksLast items

-- an account with some more tasks added
abbrev pub with_pushed : Account → List Task → Account
with_pushed v xs = account v.shares (v.pushed ++ xs) v.taken v.ended

-- an account with some more tasks taken
abbrev pub with_taken : Account → List Task → Account
with_taken v xs = account v.shares v.pushed (v.taken ++ jobs xs) (v.ended + marks xs)

-- no job was taken more often than it was added
abbrev pub IsWithin : Account → Type 0
IsWithin v = (h : ℕ → ℕ) → weigh h v.taken ≤ weigh h (jobs v.pushed)

-- two accounts joined
abbrev pub both : Account → Account → Account
both v w = account (v.shares + w.shares) v.pushed (v.taken ++ w.taken) (v.ended + w.ended)

-- the jobs taken are all that were added
abbrev pub HasAll : Account → Type 0
HasAll v = (h : ℕ → ℕ) → weigh h v.taken ≡ weigh h (jobs v.pushed)
