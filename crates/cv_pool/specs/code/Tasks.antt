-- The tasks of a deque: jobs, and after them marks of the end (defined by this project).
use Rattle.std.specs.Prelude.{◌≡◌, ℕ, ◌+◌, List, [], ◌∷◌}
use Rattle.cv_pool.specs.declared.task.Task.{Task}
use Rattle.cv_pool.specs.declared.task.Task.TheVariants.{Job, End}

-- the jobs among the tasks
abbrev pub jobs : List Task → List ℕ
jobs [] = []
jobs (Job k ∷ ts) = k ∷ jobs ts
jobs (End ∷ ts) = jobs ts

-- the number of marks
abbrev pub marks : List Task → ℕ
marks [] = 0
marks (Job k ∷ ts) = marks ts
marks (End ∷ ts) = 1 + marks ts

-- after a mark comes no job
abbrev pub AreMarksLast : List Task → Type 0
AreMarksLast [] = Unit {0}
AreMarksLast (Job k ∷ ts) = AreMarksLast ts
AreMarksLast (End ∷ ts) = jobs ts ≡ []
