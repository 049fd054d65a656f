-- The jobs and the marks of tasks that are joined.
use Rattle.std.proofs.Common.{◌≡◌, ℕ, suc, length, ◌+◌, List, [], ◌∷◌, ◌++◌, refl, ap, arith, ◌∙◌}
use Rattle.cv_pool.specs.declared.task.Task.{Task}
use Rattle.cv_pool.specs.declared.task.Task.TheVariants.{Job, End}
use Rattle.cv_pool.specs.Jobs.{weigh}
use Rattle.cv_pool.specs.code.Tasks.{jobs, marks, AreMarksLast}

-- a list with an item is not empty
pub cons_is_not_nil : {A : Type 0} (x : A) (xs : List A) → (x ∷ xs) ≡ [] → ⊥
cons_is_not_nil x xs e = let n : suc (length xs) ≡ 0 = ap length e in omega arith

-- what lists that are joined weigh
pub weigh-append : (h : ℕ → ℕ) (xs ys : List ℕ) → weigh h (xs ++ ys) ≡ weigh h xs + weigh h ys
weigh-append h [] ys = omega arith
weigh-append h (x ∷ xs) ys = let e = weigh-append h xs ys in omega arith

-- the jobs of tasks that are joined
pub jobs-append : (xs ys : List Task) → jobs (xs ++ ys) ≡ jobs xs ++ jobs ys
jobs-append [] ys = refl
jobs-append (Job k ∷ xs) ys = ap (λ l. k ∷ l) (jobs-append xs ys)
jobs-append (End ∷ xs) ys = jobs-append xs ys

-- the marks of tasks that are joined
pub marks-append : (xs ys : List Task) → marks (xs ++ ys) ≡ marks xs + marks ys
marks-append [] ys = omega arith
marks-append (Job k ∷ xs) ys = marks-append xs ys
marks-append (End ∷ xs) ys = let e = marks-append xs ys in omega arith

-- a mark may come after all tasks
pub marks_last-end : (xs : List Task) → AreMarksLast xs → AreMarksLast (xs ++ End ∷ [])
marks_last-end [] h = refl
marks_last-end (Job k ∷ xs) h = marks_last-end xs h
marks_last-end (End ∷ xs) h = jobs-append xs (End ∷ []) ∙ ap (λ l. l ++ []) h

-- a job may come after tasks without a mark
pub marks_last-job : (xs : List Task) (k : ℕ) → marks xs ≡ 0 → AreMarksLast (xs ++ Job k ∷ [])
marks_last-job [] k h = tt
marks_last-job (Job j ∷ xs) k h = marks_last-job xs k h
marks_last-job (End ∷ xs) k h = absurd (omega arith)
