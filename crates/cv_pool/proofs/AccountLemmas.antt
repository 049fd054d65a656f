-- Each step keeps the rule of a deque.
use Rattle.std.proofs.Common.{◌≡◌, ◌≢◌, ℕ, zero, suc, ◌+◌, ◌-◌, ◌<◌, ◌≤◌, ◌⊎◌, min, List, [], ◌∷◌, ◌++◌, set, sym, refl, ap, ◌∙◌, subst, ⊎_elim, inl, inr, arith}
use mathlib.Core.Option.{some, some-ne-none, some-injective}
use lib.ListN.{get_elem?}
use Rattle.crossbeam_deque.specs.Tasks.{Pushes, Takes, Forks, Merges, Learns, FindsFew}
use Rattle.crossbeam_deque.proofs.Lists.{at_set, at_snoc}
use Rattle.cv_pool.specs.declared.task.Task.{Task}
use Rattle.cv_pool.specs.declared.task.Task.TheVariants.{Job, End}
use Rattle.cv_pool.specs.declared.account.Account.{Account}
use Rattle.cv_pool.specs.Jobs.{weigh}
use Rattle.cv_pool.specs.code.Tasks.{jobs, marks, AreMarksLast}
use Rattle.cv_pool.specs.code.Accounts.{account, total, Each, Fits, EachTaskOnce, with_pushed, with_taken, IsWithin, both, HasAll}
use Rattle.cv_pool.proofs.TaskLemmas.{cons_is_not_nil, weigh-append, jobs-append, marks-append, marks_last-end, marks_last-job}

-- the total after a change of one account
total_set : (f : Account → ℕ) (views : List Account) (port : ℕ) (v w : Account) → get_elem? views port ≡ some v → total f (set views port w) + f v ≡ total f views + f w
total_set f [] port v w e = absurd (some-ne-none v (sym e))
total_set f (x ∷ xs) zero v w e = let same : f x ≡ f v = ap f (some-injective x v e) in omega arith
total_set f (x ∷ xs) (suc port) v w e = let rest = total_set f xs port v w e in omega arith

-- the total with one more account
total_snoc : (f : Account → ℕ) (views : List Account) (w : Account) → total f (views ++ w ∷ []) ≡ total f views + f w
total_snoc f [] w = omega arith
total_snoc f (x ∷ xs) w = let rest = total_snoc f xs w in omega arith

-- one account has no more than all
at_most : (f : Account → ℕ) (views : List Account) (port : ℕ) (v : Account) → get_elem? views port ≡ some v → f v ≤ total f views
at_most f [] port v e = absurd (some-ne-none v (sym e))
at_most f (x ∷ xs) zero v e = let same : f x ≡ f v = ap f (some-injective x v e) in omega arith
at_most f (x ∷ xs) (suc port) v e = let rest = at_most f xs port v e in omega arith

-- two accounts have no more than all
two_at_most : (f : Account → ℕ) (views : List Account) (port other : ℕ) (v u : Account) → other ≢ port → get_elem? views port ≡ some v → get_elem? views other ≡ some u → f v + f u ≤ total f views
two_at_most f [] port other v u n e d = absurd (some-ne-none v (sym e))
two_at_most f (x ∷ xs) zero zero v u n e d = absurd (n refl)
two_at_most f (x ∷ xs) zero (suc other) v u n e d = let same : f x ≡ f v = ap f (some-injective x v e) in let rest = at_most f xs other u d in omega arith
two_at_most f (x ∷ xs) (suc port) zero v u n e d = let same : f x ≡ f u = ap f (some-injective x u d) in let rest = at_most f xs port v e in omega arith
two_at_most f (x ∷ xs) (suc port) (suc other) v u n e d = let rest = two_at_most f xs port other v u (λ s. n (ap suc s)) e d in omega arith

-- a fact of each account after a change of one
each_set : (Q : Account → Type 0) (views : List Account) (port : ℕ) (w : Account) → Q w → ((j : ℕ) (u : Account) → j ≢ port → get_elem? views j ≡ some u → Q u) → Each Q (set views port w)
each_set Q views port w mine others j u e = ⊎_elim (λ (x : (j ≡ port) × (w ≡ u)). subst Q x.1 mine) (λ (x : (j ≢ port) × (get_elem? views j ≡ some u)). others j u x.0 x.1) (at_set views port j w u e)

-- a fact of each account with one more
each_snoc : (Q : Account → Type 0) (views : List Account) (w : Account) → Q w → Each Q views → Each Q (views ++ w ∷ [])
each_snoc Q views w mine others j u e = ⊎_elim (λ (x : get_elem? views j ≡ some u). others j u x) (λ (x : w ≡ u). subst Q x mine) (at_snoc views w u j e)

-- the marks taken are no more than the shares, and fewer if an account has a share for a mark that it has not taken
marks_below : (views : List Account) → ((j : ℕ) (u : Account) → get_elem? views j ≡ some u → u.ended ≤ u.shares) → total (λ v. v.ended) views ≤ total (λ v. v.shares) views
marks_below [] few = omega arith
marks_below (x ∷ xs) few = let here = few 0 x refl in let rest = marks_below xs (λ j u e. few (suc j) u e) in omega arith

marks_fewer : (views : List Account) (port : ℕ) (v : Account) → ((j : ℕ) (u : Account) → get_elem? views j ≡ some u → u.ended ≤ u.shares) → get_elem? views port ≡ some v → v.ended < v.shares
    → total (λ v. v.ended) views < total (λ v. v.shares) views
marks_fewer [] port v few e less = absurd (some-ne-none v (sym e))
marks_fewer (x ∷ xs) zero v few e less =
    let same : x ≡ v = some-injective x v e in
    let here : x.ended < x.shares = subst (λ (y : Account). y.ended < y.shares) (sym same) less in
    let rest = marks_below xs (λ j u d. few (suc j) u d) in omega arith
marks_fewer (x ∷ xs) (suc port) v few e less = let here = few 0 x refl in let rest = marks_fewer xs port v (λ j u d. few (suc j) u d) e less in omega arith

-- an account with all shares leaves none to another
others_idle : (views : List Account) (port j : ℕ) (v u : Account) → total (λ v. v.shares) views ≡ 9 → v.shares ≡ 9 → j ≢ port → get_elem? views port ≡ some v → get_elem? views j ≡ some u → u.shares ≡ 0
others_idle views port j v u all mine apart at there = let most = two_at_most (λ v. v.shares) views port j v u apart at there in omega arith

-- the first account fits an empty deque
each_begin : Each (Fits [] []) (account 9 [] [] 0 ∷ [])
each_begin zero v e = subst (Fits [] []) (some-injective (account 9 [] [] 0) v e) (record { knows_all = λ _. refl; nothing_taken = λ _. refl; within_shares = omega arith; no_jobs_remain = λ _. refl })
each_begin (suc port) v e = absurd (some-ne-none v (sym e))

-- the rule holds at the start
pub begins : EachTaskOnce [] (account 9 [] [] 0 ∷ [])
begins = record { all = []; shares = refl; each = each_begin; weights = λ h. refl; ends = refl; last = tt }

-- without jobs in tasks, there is none after the first
nothing_left : (x : Task) (items : List Task) → jobs (x ∷ items) ≡ [] → jobs items ≡ []
nothing_left (Job k) items e = absurd (cons_is_not_nil k (jobs items) e)
nothing_left End items e = e

-- who took a mark knows that no job is in the deque
seen_now : (x : Task) (v : Account) (items : List Task) → (0 < v.ended → jobs (x ∷ items) ≡ []) → (0 < marks (x ∷ []) → jobs items ≡ []) → 0 < v.ended + marks (x ∷ []) → jobs items ≡ []
seen_now (Job k) v items seen closed p = nothing_left (Job k) items (seen (omega arith))
seen_now End v items seen closed p = closed (omega arith)

-- the account after its change
set_here : (views : List Account) (port : ℕ) (v w : Account) → get_elem? views port ≡ some v → get_elem? (set views port w) port ≡ some w
set_here [] port v w e = absurd (some-ne-none v (sym e))
set_here (x ∷ xs) zero v w e = refl
set_here (x ∷ xs) (suc port) v w e = set_here xs port v w e

-- an account with all shares adds tasks, where a mark is then last
pushes : (xs : List Task) (port : ℕ) (v : Account) → v.shares ≡ 9 → v.ended ≡ 0 → ((items : List Task) → marks items ≤ marks v.pushed → AreMarksLast items → AreMarksLast (items ++ xs))
    → Pushes EachTaskOnce port v xs (λ w. w ≡ with_pushed v xs)
pushes xs port v mine none joined items views r at =
    let w : Account = with_pushed v xs in
    let fits = r.each port v at in
    let known = fits.knows_all (omega arith) in
    let some_marks = at_most (λ u. u.ended) views port v at in (
      w,
      record {
        all = r.all ++ xs;
        shares = (let s = total_set (λ u. u.shares) views port v w at in let p = r.shares in omega arith);
        each = each_set (Fits (r.all ++ xs) (items ++ xs)) views port w
            (record { knows_all = λ _. ap (λ l. l ++ xs) known; nothing_taken = fits.nothing_taken; within_shares = fits.within_shares; no_jobs_remain = λ p. absurd (omega arith) })
            (λ j u apart there.
            let idle = others_idle views port j v u r.shares mine apart at there in
            let theirs = r.each j u there in
            let few = theirs.within_shares in
            record { knows_all = λ p. absurd (omega arith); nothing_taken = theirs.nothing_taken; within_shares = few; no_jobs_remain = λ p. absurd (omega arith) });
        weights = λ h.
            let s = total_set (λ u. weigh h u.taken) views port v w at in
            let p = r.weights h in
            let a : weigh h (jobs (items ++ xs)) ≡ weigh h (jobs items) + weigh h (jobs xs) = ap (weigh h) (jobs-append items xs) ∙ weigh-append h (jobs items) (jobs xs) in
            let b : weigh h (jobs (r.all ++ xs)) ≡ weigh h (jobs r.all) + weigh h (jobs xs) = ap (weigh h) (jobs-append r.all xs) ∙ weigh-append h (jobs r.all) (jobs xs) in
            omega arith;
        ends =
            let s = total_set (λ u. u.ended) views port v w at in
            let p = r.ends in
            let a = marks-append items xs in
            let b = marks-append r.all xs in
            omega arith;
        last = joined items (let p = r.ends in let e : marks v.pushed ≡ marks r.all = ap marks known in omega arith) r.last;
      },
      refl,
    )

-- a job is added where no mark is
pub pushes_job : (k port : ℕ) (v : Account) → v.shares ≡ 9 → v.ended ≡ 0 → marks v.pushed ≡ 0 → Pushes EachTaskOnce port v (Job k ∷ []) (λ w. w ≡ with_pushed v (Job k ∷ []))
pushes_job k port v mine none no_mark = pushes (Job k ∷ []) port v mine none (λ items few last. marks_last-job items k (omega arith))

-- a mark is added
pub pushes_end : (port : ℕ) (v : Account) → v.shares ≡ 9 → v.ended ≡ 0 → Pushes EachTaskOnce port v (End ∷ []) (λ w. w ≡ with_pushed v (End ∷ []))
pushes_end port v mine none = pushes (End ∷ []) port v mine none (λ items few last. marks_last-end items last)

-- a task is taken, where a mark leaves no job
takes_one : (x : Task) (port : ℕ) (v : Account) (items : List Task) (views : List Account) → 0 < v.shares → v.ended < v.shares → EachTaskOnce (x ∷ items) views → get_elem? views port ≡ some v
    → AreMarksLast items → (0 < marks (x ∷ []) → jobs items ≡ []) → marks (x ∷ []) ≤ 1
    → (w : Account) × EachTaskOnce items (set views port w) × ((w ≡ with_taken v (x ∷ [])) × IsWithin w)
takes_one x port v items views some_share less r at last closed one =
    let w : Account = with_taken v (x ∷ []) in
    let fits = r.each port v at in
    let known = fits.knows_all some_share in
    let after : (h : ℕ → ℕ) → total (λ u. weigh h u.taken) (set views port w) + weigh h (jobs items) ≡ weigh h (jobs r.all) = (λ h.
    let s = total_set (λ u. weigh h u.taken) views port v w at in
    let p = r.weights h in
    let a : weigh h (jobs (x ∷ items)) ≡ weigh h (jobs (x ∷ [])) + weigh h (jobs items) = ap (weigh h) (jobs-append (x ∷ []) items) ∙ weigh-append h (jobs (x ∷ [])) (jobs items) in
    let b = weigh-append h v.taken (jobs (x ∷ [])) in
    omega arith) in
    let fewer : (u : Account) → (0 < u.ended → jobs (x ∷ items) ≡ []) → 0 < u.ended → jobs items ≡ [] = (λ u seen p. nothing_left x items (seen p)) in (
      w,
      record {
        all = r.all;
        shares = (let s = total_set (λ u. u.shares) views port v w at in let p = r.shares in omega arith);
        each = each_set (Fits r.all items) views port w
            (record { knows_all = fits.knows_all; nothing_taken = (λ p. absurd (omega arith)); within_shares = omega arith; no_jobs_remain = λ p. seen_now x v items fits.no_jobs_remain closed p })
            (λ j u apart there. let theirs = r.each j u there in record { knows_all = theirs.knows_all; nothing_taken = theirs.nothing_taken; within_shares = theirs.within_shares; no_jobs_remain = fewer u theirs.no_jobs_remain });
        weights = after;
        ends =
            let s = total_set (λ u. u.ended) views port v w at in
            let p = r.ends in
            let a = marks-append (x ∷ []) items in
            omega arith;
        last = last;
      },
      (
        refl,
        λ h.
            let most = at_most (λ u. weigh h u.taken) (set views port w) port w (set_here views port v w at) in
            let p = after h in
            let e : weigh h (jobs v.pushed) ≡ weigh h (jobs r.all) = ap (λ l. weigh h (jobs l)) known in
            omega arith,
      ),
    )

-- without jobs, marks are last
no_jobs_last : (items : List Task) → jobs items ≡ [] → AreMarksLast items
no_jobs_last [] e = tt
no_jobs_last (Job k ∷ items) e = absurd (cons_is_not_nil k (jobs items) e)
no_jobs_last (End ∷ items) e = e

-- a task is taken by an account with a share for a mark that it has not taken
pub takes : (port : ℕ) (v : Account) → v.ended < v.shares → Takes EachTaskOnce port v 1 (λ xs w. (w ≡ with_taken v xs) × IsWithin w)
takes port v less [] items views some_task few r at = absurd (omega arith)
takes port v less (Job k ∷ []) items views some_task few r at = takes_one (Job k) port v items views (omega arith) less r at r.last (λ p. absurd (omega arith)) (omega arith)
takes port v less (End ∷ []) items views some_task few r at = takes_one End port v items views (omega arith) less r at (no_jobs_last items r.last) (λ p. r.last) (omega arith)
takes port v less (x ∷ y ∷ xs) items views some_task few r at = absurd (omega arith)

-- such an account never finds a filled deque empty
finds : (port : ℕ) (v : Account) → FindsFew EachTaskOnce 0 port v (marks v.pushed ≡ 9 → v.ended < v.shares → ⊥)
finds port v (x ∷ items) views few r at full less = absurd (omega arith)
finds port v [] views few r at full less =
    let fits = r.each port v at in
    let known : marks v.pushed ≡ marks r.all = ap marks (fits.knows_all (omega arith)) in
    let fewer = marks_fewer views port v (λ j u e. (r.each j u e).within_shares) at less in
    let p = r.ends in let q = r.shares in
    omega arith

-- the same in the words of a steal from a first in, first out deque
pub finds_here : (flavor port : ℕ) (v : Account) → flavor ≡ 0 → FindsFew EachTaskOnce (min flavor 1) port v (marks v.pushed ≡ 9 → v.ended < v.shares → ⊥)
finds_here flavor port v fifo = subst (λ n. FindsFew EachTaskOnce (min n 1) port v (marks v.pushed ≡ 9 → v.ended < v.shares → ⊥)) (sym fifo) (finds port v)

-- a share goes to a new account
pub forks : (port : ℕ) (v : Account) → 1 < v.shares → v.ended < v.shares → Forks EachTaskOnce port v (account (v.shares - 1) v.pushed v.taken v.ended) (account 1 v.pushed [] 0)
forks port v two less items views r at =
    let left : Account = account (v.shares - 1) v.pushed v.taken v.ended in
    let right : Account = account 1 v.pushed [] 0 in
    let fits = r.each port v at in
    let known = fits.knows_all (omega arith) in
    let sum : (f : Account → ℕ) → f left + f right ≡ f v → total f (set views port left ++ right ∷ []) ≡ total f views = (λ f e.
    let s = total_set f views port v left at in let t = total_snoc f (set views port left) right in omega arith) in
    record {
      all = r.all;
      shares = sum (λ u. u.shares) (omega arith) ∙ r.shares;
      each = each_snoc (Fits r.all items) (set views port left) right (record { knows_all = λ _. known; nothing_taken = λ _. refl; within_shares = omega arith; no_jobs_remain = λ p. absurd (omega arith) })
          (each_set (Fits r.all items) views port left (record { knows_all = λ _. known; nothing_taken = (λ p. absurd (omega arith)); within_shares = omega arith; no_jobs_remain = fits.no_jobs_remain }) (λ j u apart there. r.each j u there));
      weights = λ h. let s = sum (λ u. weigh h u.taken) (omega arith) in let p = r.weights h in omega arith;
      ends = let s = sum (λ u. u.ended) (omega arith) in let p = r.ends in omega arith;
      last = r.last;
    }

-- one of two numbers is positive if their sum is
some_positive : (a b : ℕ) → 0 < a + b → (0 < a) ⊎ (0 < b)
some_positive zero b p = inr (omega arith)
some_positive (suc a) b p = inl (omega arith)

-- an account goes back into another
pub merges : (port : ℕ) (v : Account) (other : ℕ) (u : Account) → 0 < v.shares → Merges EachTaskOnce port v other u (both v u) (account 0 [] [] 0)
merges port v other u some_share items views r at two at' =
    let w : Account = both v u in
    let spent : Account = account 0 [] [] 0 in
    let middle : List Account = set views port w in
    let was : get_elem? views other ≡ some u = ⊎_elim (λ (x : (other ≡ port) × (w ≡ u)). absurd (two x.0)) (λ (x : (other ≢ port) × (get_elem? views other ≡ some u)). x.1) (at_set views port other w u at') in
    let mine = r.each port v at in
    let theirs = r.each other u was in
    let known = mine.knows_all some_share in
    let sum : (f : Account → ℕ) → f w ≡ f v + f u → f spent ≡ 0 → total f (set middle other spent) ≡ total f views = (λ f e z.
    let s = total_set f views port v w at in let t = total_set f middle other u spent at' in omega arith) in
    let seen : 0 < v.ended + u.ended → jobs items ≡ [] = (λ p. ⊎_elim (λ (q : 0 < v.ended). mine.no_jobs_remain q) (λ (q : 0 < u.ended). theirs.no_jobs_remain q) (some_positive v.ended u.ended p)) in
    let few : v.ended + u.ended ≤ v.shares + u.shares = (let a = mine.within_shares in let b = theirs.within_shares in omega arith) in
    let joined : Each (Fits r.all items) middle = each_set (Fits r.all items) views port w
    (record { knows_all = λ _. known; nothing_taken = (λ p. absurd (omega arith)); within_shares = few; no_jobs_remain = seen }) (λ j x apart there. r.each j x there) in
    record {
      all = r.all;
      shares = sum (λ x. x.shares) refl refl ∙ r.shares;
      each = each_set (Fits r.all items) middle other spent (record { knows_all = (λ p. absurd (omega arith)); nothing_taken = λ _. refl; within_shares = omega arith; no_jobs_remain = λ p. absurd (omega arith) })
          (λ j x apart there. joined j x there);
      weights = λ h. let s = sum (λ x. weigh h x.taken) (weigh-append h v.taken u.taken) refl in let p = r.weights h in omega arith;
      ends = let s = sum (λ x. x.ended) refl refl in let p = r.ends in omega arith;
      last = r.last;
    }

-- a successor is not zero
suc_is_not_zero : (j : ℕ) → suc j ≡ 0 → ⊥
suc_is_not_zero j e = omega arith

-- successors are equal only of equal numbers
suc_same : (j k : ℕ) → suc j ≡ suc k → j ≡ k
suc_same j k e = omega arith

-- accounts that took nothing weigh nothing
none_taken : (h : ℕ → ℕ) (views : List Account) → ((j : ℕ) (u : Account) → get_elem? views j ≡ some u → u.taken ≡ []) → total (λ u. weigh h u.taken) views ≡ 0
none_taken h [] idle = refl
none_taken h (x ∷ xs) idle =
    let none : weigh h x.taken ≡ 0 = ap (weigh h) (idle 0 x refl) in
    let rest = none_taken h xs (λ j u d. idle (suc j) u d) in omega arith

-- an account with all shares knows all that was taken
taken_alone : (h : ℕ → ℕ) (views : List Account) (port : ℕ) (v : Account) → get_elem? views port ≡ some v → ((j : ℕ) (u : Account) → j ≢ port → get_elem? views j ≡ some u → u.taken ≡ [])
    → total (λ u. weigh h u.taken) views ≡ weigh h v.taken
taken_alone h [] port v e idle = absurd (some-ne-none v (sym e))
taken_alone h (x ∷ xs) zero v e idle =
    let same : weigh h x.taken ≡ weigh h v.taken = ap (λ (y : Account). weigh h y.taken) (some-injective x v e) in
    let rest = none_taken h xs (λ j u d. idle (suc j) u (λ s. suc_is_not_zero j s) d) in omega arith
taken_alone h (x ∷ xs) (suc port) v e idle =
    let none : weigh h x.taken ≡ 0 = ap (weigh h) (idle 0 x (λ s. suc_is_not_zero port (sym s)) refl) in
    let rest = taken_alone h xs port v e (λ j u apart d. idle (suc j) u (λ s. apart (suc_same j port s)) d) in omega arith

-- what an account with all shares knows
pub learns : (port : ℕ) (v : Account) → v.shares ≡ 9 → Learns EachTaskOnce port v (λ items. IsWithin v × (0 < v.ended → HasAll v))
learns port v mine items views r at =
    let fits = r.each port v at in
    let known = fits.knows_all (omega arith) in
    let whole : (h : ℕ → ℕ) → weigh h v.taken + weigh h (jobs items) ≡ weigh h (jobs v.pushed) = (λ h.
    let alone = taken_alone h views port v at (λ j u apart there. (r.each j u there).nothing_taken (others_idle views port j v u r.shares mine apart at there)) in
    let p = r.weights h in
    let e : weigh h (jobs v.pushed) ≡ weigh h (jobs r.all) = ap (λ l. weigh h (jobs l)) known in
    omega arith) in
    ((λ h. let p = whole h in omega arith), λ ended h. let p = whole h in let e : weigh h (jobs items) ≡ 0 = ap (weigh h) (fits.no_jobs_remain ended) in omega arith)
