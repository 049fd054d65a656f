-- The definitions on three jobs, which the second of two hands took as 1, 0 and 2.
use Rattle.std.specs.Prelude.{◌≡◌, ◌+◌, true, [], ◌∷◌, Some, None, refl}
use Rattle.cv_pool.specs.declared.task.Task.TheVariants.{Job, End}
use Rattle.cv_pool.specs.Jobs.{times, lists_weigh, weigh_below}
use Rattle.cv_pool.specs.Hands.{Fill, deal, new_hand, new_hands, hand_after, any_done, lists_of}
use Rattle.cv_pool.proofs.TaskLemmas.{cons_is_not_nil}
use Rattle.cv_pool.specs.code.Tasks.{jobs, marks, AreMarksLast}

each_once : (times 0 ([] ∷ (1 ∷ 0 ∷ 2 ∷ []) ∷ []) ≡ 1) × (times 2 ([] ∷ (1 ∷ 0 ∷ 2 ∷ []) ∷ []) ≡ 1)
each_once = (refl, refl)

-- job 1 is in both lists, and job 0 in neither
twice : (times 1 ((1 ∷ 2 ∷ []) ∷ (1 ∷ []) ∷ []) ≡ 2) × (times 0 ((1 ∷ 2 ∷ []) ∷ (1 ∷ []) ∷ []) ≡ 0)
twice = (refl, refl)

-- at the weight of a job's number and 10, three jobs weigh 33
weight : (lists_weigh (λ k. 10 + k) ([] ∷ (1 ∷ 0 ∷ 2 ∷ []) ∷ []) ≡ 33) × (weigh_below (λ k. 10 + k) 3 ≡ 33)
weight = (refl, refl)

-- the second hand's deque, and one whose mark is not last
deque : (jobs (Job 1 ∷ End ∷ []) ≡ 1 ∷ []) × (marks (Job 1 ∷ End ∷ []) ≡ 1) × AreMarksLast (Job 1 ∷ End ∷ [])
deque = (refl, refl, refl)

wrong : AreMarksLast (End ∷ Job 1 ∷ []) → ⊥
wrong h = cons_is_not_nil 1 [] h

-- five jobs are dealt to two hands in turn, and none to one
dealt : (deal 5 2 0 2 ≡ (0 ∷ 2 ∷ 4 ∷ []) ∷ (1 ∷ 3 ∷ []) ∷ []) × (deal 0 1 0 1 ≡ [] ∷ [])
dealt = (refl, refl)

-- a hand gets a job, and then the answer that there is none
answers : (fill : Fill) → (hand_after (new_hand fill 1) (Some 4)).list ≡ 4 ∷ []
answers fill = refl

done : (fill : Fill) → any_done (hand_after (new_hand fill 0) None ∷ new_hand fill 1 ∷ []) ≡ true
done fill = refl

new : (fill : Fill) → lists_of (new_hands fill 0 2) ≡ [] ∷ [] ∷ []
new fill = refl
