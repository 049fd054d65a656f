-- Jobs are the numbers below some number (defined by this project). A weight is any function of a job. Lists are compared by
-- what they weigh: if two weigh the same under every weight, each job is in both equally often, in whatever order.
use Rattle.std.specs.Prelude.{ℕ, zero, suc, ◌+◌, ◌<◌, ◌==◌, List, [], ◌∷◌, Option, None, Some, if◌then◌else◌}
use Rattle.std.specs.List.{AllByRecursion}

-- the weights of the jobs of a list, added up
abbrev pub weigh : (ℕ → ℕ) → List ℕ → ℕ
weigh h [] = 0
weigh h (k ∷ ks) = h k + weigh h ks

-- the weights of the jobs of some lists, added up
abbrev pub lists_weigh : (ℕ → ℕ) → List (List ℕ) → ℕ
lists_weigh h [] = 0
lists_weigh h (ks ∷ lists) = weigh h ks + lists_weigh h lists

-- the weight of a job, if there is one
abbrev pub option_weigh : (ℕ → ℕ) → Option ℕ → ℕ
option_weigh h None = 0
option_weigh h (Some k) = h k

-- the weights of the jobs below a number, added up
abbrev pub weigh_below : (ℕ → ℕ) → ℕ → ℕ
weigh_below h zero = 0
weigh_below h (suc n) = weigh_below h n + h n

-- the weight that counts one job
abbrev pub is_job : ℕ → ℕ → ℕ
is_job j k = if k == j then 1 else 0

-- how often a job is in the lists
abbrev pub times : ℕ → List (List ℕ) → ℕ
times j lists = lists_weigh (is_job j) lists

-- each job of the lists is below a number
abbrev pub AreBelow : ℕ → List (List ℕ) → Type 0
AreBelow n lists = AllByRecursion (λ ks. AllByRecursion (λ k. k < n) ks) lists
