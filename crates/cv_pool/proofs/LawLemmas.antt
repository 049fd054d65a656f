-- What weights say of each job, and that hands stay those of their fill.
use Rattle.std.proofs.Common.{◌≡◌, ℕ, zero, suc, ◌+◌, ◌-◌, ◌<◌, ◌≤◌, List, [], ◌∷◌, length, refl, ap, sym, ◌∙◌, subst, ⊎_elim, inl, inr, ◌⊎◌, arith}
use Rattle.std.proofs.lemmas.Bool.Decides.{nat_tests}
use Rattle.std.specs.List.{AllByRecursion}
use Rattle.std.proofs.lemmas.Bool.{cases_lt}
use Rattle.cv_pool.specs.Jobs.{weigh, lists_weigh, weigh_below, is_job, times, AreBelow}
use Rattle.cv_pool.proofs.HandLemmas.{weigh_below_outside}
use Rattle.cv_pool.specs.Hands.{Fill, HandState, AreHandsFrom, AreHandsOf, AreSameHands}

-- a job counts itself
is_job_here : (j : ℕ) → is_job j j ≡ 1
is_job_here j = grind (arith, nat_tests)

-- and no other
is_job_else : (j k : ℕ) → (k ≡ j → ⊥) → is_job j k ≡ 0
is_job_else j k other = grind (arith, nat_tests)

-- below n + 1 is below n, or n
below_or_last : (j n : ℕ) → j < suc n → (j < n) ⊎ (n ≡ j)
below_or_last zero zero less = inr refl
below_or_last zero (suc n) less = inl (omega arith)
below_or_last (suc j) zero less = absurd (omega arith)
below_or_last (suc j) (suc n) less = ⊎_elim (λ (l : j < n). inl (omega arith)) (λ (s : n ≡ j). inr (ap suc s)) (below_or_last j n (omega arith))

-- a job that is not below weighs nothing
counted_outside : (j n : ℕ) → n ≤ j → weigh_below (is_job j) n ≡ 0
counted_outside j zero few = refl
counted_outside j (suc n) few = let e = counted_outside j n (omega arith) in let d = is_job_else j n (λ s. omega arith) in omega arith

-- one that is below weighs one
counted_once : (j n : ℕ) → j < n → weigh_below (is_job j) n ≡ 1
counted_once j zero less = absurd (omega arith)
counted_once j (suc n) less = ⊎_elim
    (λ (l : j < n). let e = counted_once j n l in let d = is_job_else j n (λ s. omega arith) in omega arith)
    (λ (s : n ≡ j). let e = counted_outside j n (omega arith) in let d : is_job j n ≡ 1 = ap (is_job j) s ∙ is_job_here j in omega arith)
    (below_or_last j n less)

-- each job below is there once
pub once : (lists : List (List ℕ)) (n j : ℕ) → ((h : ℕ → ℕ) → lists_weigh h lists ≡ weigh_below h n) → j < n → times j lists ≡ 1
once lists n j weights less = weights (is_job j) ∙ counted_once j n less

-- a job counts at most once
counted_at_most : (j n : ℕ) → weigh_below (is_job j) n ≤ 1
counted_at_most j n = ⊎_elim (λ (l : j < n). let e = counted_once j n l in omega arith) (λ (s : n ≤ j). let e = counted_outside j n s in omega arith) (cases_lt j n)

-- no job is there twice
pub at_most_once : (lists : List (List ℕ)) (n j : ℕ) → ((h : ℕ → ℕ) → lists_weigh h lists ≤ weigh_below h n) → times j lists ≤ 1
at_most_once lists n j weights = let a = weights (is_job j) in let b = counted_at_most j n in omega arith

-- a list that weighs nothing by what is not below has only jobs below
list_below : (n : ℕ) (ks : List ℕ) → weigh (λ k. k + 1 - n) ks ≡ 0 → AllByRecursion (λ k. k < n) ks
list_below n [] none = tt
list_below n (k ∷ ks) none = (omega arith, list_below n ks (omega arith))

-- the same of lists
lists_below : (n : ℕ) (lists : List (List ℕ)) → lists_weigh (λ k. k + 1 - n) lists ≡ 0 → AreBelow n lists
lists_below n [] none = tt
lists_below n (ks ∷ lists) none = (list_below n ks (omega arith), lists_below n lists (omega arith))

-- each job is below
pub below : (lists : List (List ℕ)) (n : ℕ) → ((h : ℕ → ℕ) → lists_weigh h lists ≤ weigh_below h n) → AreBelow n lists
below lists n weights = lists_below n lists (let a = weights (λ k. k + 1 - n) in let b = weigh_below_outside n n (omega arith) in omega arith)

-- hands stay those of their fill, from an index on
same_from : (fill : Fill) (from to : ℕ) (hs ks : List HandState) → AreHandsFrom fill from hs to → AreSameHands hs ks → AreHandsFrom fill from ks to
same_from fill from to [] [] hands same = hands
same_from fill from to [] (k ∷ ks) hands same = absurd same
same_from fill from to (h ∷ hs) [] hands same = absurd same
same_from fill from to (h ∷ hs) (k ∷ ks) hands same = (same.0.0 ∙ hands.0, same.0.1 ∙ hands.1, same_from fill (from + 1) to hs ks hands.2 same.1)

-- as many hands
same_count : (hs ks : List HandState) → AreSameHands hs ks → length ks ≡ length hs
same_count [] [] same = refl
same_count [] (k ∷ ks) same = absurd same
same_count (h ∷ hs) [] same = absurd same
same_count (h ∷ hs) (k ∷ ks) same = ap suc (same_count hs ks same.1)

-- hands stay those of their fill
pub same_hands : (fill : Fill) (hs ks : List HandState) → AreHandsOf fill hs → AreSameHands hs ks → AreHandsOf fill ks
same_hands fill hs ks hands same = (subst (λ n. 0 < n) (sym (same_count hs ks same)) hands.0, same_from fill 0 (length fill.deques) hs ks hands.1 same)
