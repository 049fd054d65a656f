-- What a seat and the seats of a hand know after an answer.
use Rattle.std.proofs.Common.{◌≡◌, ℕ, ◌+◌, ◌≤◌, ◌++◌, Bool, true, false, ◌||◌, if◌then◌else◌, List, [], ◌∷◌, take, length, Option, None, Some, is_some, refl, ap, sym, ◌∙◌, subst, true≢false, arith}
use Rattle.std.specs.List.{AllByRecursion}
use Rattle.crossbeam_deque.specs.Handles.{IsPassOf, stealer_deque, stealer_flavor}
use Rattle.cv_seq.proofs.AllItems.{all_both}
use Rattle.cv_pool.specs.declared.account.Account.{Account}
use Rattle.cv_pool.specs.declared.seat.Seat.{Seat}
use Rattle.cv_pool.specs.Jobs.{weigh}
use Rattle.cv_pool.specs.code.Tasks.{jobs, marks}
use Rattle.cv_pool.specs.code.Accounts.{with_taken, IsWithin}
use Rattle.cv_pool.specs.code.Owners.{Owner, EachSeat}
use Rattle.cv_pool.specs.code.Seats.{seat_deque, seat_jobs, seat_account, IsSeated, SeatTook, SeatsTook, seats_weigh, seats_dealt, any_more, task_of}
use Rattle.std.proofs.lemmas.List.{map-append, length-map}
use Rattle.std.proofs.Math.Seq.{take-append_seam}
use Rattle.cv_pool.proofs.TaskLemmas.{weigh-append}

-- the seat after a pass that took what stands for the answer
seated_after : (s t : Seat) (answer : Option ℕ) → IsSeated s → s.more ≡ true → t.thief ≡ s.thief → IsPassOf (seat_deque s) t.pass → seat_account t ≡ with_taken (seat_account s) (task_of answer ∷ [])
    → IsWithin (seat_account t) → t.more ≡ is_some answer → IsSeated t
seated_after s t answer seated more thief pass account within after = record {
  pass = subst (λ x. IsPassOf (stealer_deque x) t.pass) (sym thief) pass;
  fifo = ap (λ x. stealer_flavor x) thief ∙ seated.fifo;
  share = ap (λ (v : Account). v.shares) account ∙ seated.share;
  full = ap (λ (v : Account). marks v.pushed) account ∙ seated.full;
  ended = ended_after answer account after;
  within = within;
} where
  ended_after : (answer : Option ℕ) → seat_account t ≡ with_taken (seat_account s) (task_of answer ∷ []) → t.more ≡ is_some answer → (seat_account t).ended ≡ (if t.more then 0 else 1)
  ended_after None account after = rw (account, seated.ended, more, after) refl
  ended_after (Some k) account after = rw (account, seated.ended, more, after) refl

-- a pass that took what stands for the answer
pub seat_took : (s t : Seat) (answer : Option ℕ) → IsSeated s → s.more ≡ true → t.thief ≡ s.thief → IsPassOf (seat_deque s) t.pass → seat_account t ≡ with_taken (seat_account s) (task_of answer ∷ [])
    → IsWithin (seat_account t) → t.more ≡ is_some answer → SeatTook s answer t
seat_took s t None seated more thief pass account within after = record {
  deque = ap (λ x. stealer_deque x) thief;
  seated = seated_after s t None seated more thief pass account within after;
  pushed = ap (λ (v : Account). v.pushed) account;
  weights = λ h. ap (λ (v : Account). weigh h v.taken) account ∙ weigh-append h (seat_account s).taken [];
  more = after;
  closed = λ e. absurd (true≢false (sym more ∙ e));
}
seat_took s t (Some k) seated more thief pass account within after = record {
  deque = ap (λ x. stealer_deque x) thief;
  seated = seated_after s t (Some k) seated more thief pass account within after;
  pushed = ap (λ (v : Account). v.pushed) account;
  weights = λ h. let e = weigh-append h (seat_account s).taken (k ∷ []) in let a : weigh h (seat_account t).taken ≡ weigh h ((seat_account s).taken ++ k ∷ []) = ap (λ (v : Account). weigh h v.taken) account in omega arith;
  more = after;
  closed = λ e. absurd (true≢false (sym more ∙ e));
}

-- laws of the choice
or_true : (b : Bool) → b || true ≡ true
or_true true = refl
or_true false = refl

-- no part of a false choice is true
pub or_is_false-first : (a b : Bool) → a || b ≡ false → a ≡ false
or_is_false-first true b e = e
or_is_false-first false b e = refl

pub or_is_false-second : (a b : Bool) → a || b ≡ false → b ≡ false
or_is_false-second true b e = absurd (true≢false e)
or_is_false-second false b e = e

or_false : (b : Bool) → b || false ≡ b
or_false true = refl
or_false false = refl

or_assoc : (a b c : Bool) → a || (b || c) ≡ (a || b) || c
or_assoc true b c = refl
or_assoc false b c = refl

-- what was taken at seats that are joined
seats_weigh-append : (h : ℕ → ℕ) (xs ys : List Seat) → seats_weigh h (xs ++ ys) ≡ seats_weigh h xs + seats_weigh h ys
seats_weigh-append h [] ys = omega arith
seats_weigh-append h (x ∷ xs) ys = let e = seats_weigh-append h xs ys in omega arith

-- what was dealt to the deques of seats that are joined
seats_dealt-append : (h : ℕ → ℕ) (xs ys : List Seat) → seats_dealt h (xs ++ ys) ≡ seats_dealt h xs + seats_dealt h ys
seats_dealt-append h [] ys = omega arith
seats_dealt-append h (x ∷ xs) ys = let e = seats_dealt-append h xs ys in omega arith

-- whether seats that are joined have a mark to take
any_more-append : (xs ys : List Seat) → any_more (xs ++ ys) ≡ any_more xs || any_more ys
any_more-append [] ys = refl
any_more-append (x ∷ xs) ys = ap (λ b. x.more || b) (any_more-append xs ys) ∙ or_assoc x.more (any_more xs) (any_more ys)

-- one of the later seats has a job
pub took_later : (xs ys zs : List Seat) (k : ℕ) → AllByRecursion IsSeated xs → SeatsTook ys (Some k) zs → SeatsTook (xs ++ ys) (Some k) (xs ++ zs)
took_later [] ys zs k seated took = took
took_later (x ∷ xs) ys zs k seated took = let rest = took_later xs ys zs k seated.1 took in record {
  deques = ap (λ l. seat_deque x ∷ l) rest.deques;
  same_jobs = ap (λ l. seat_jobs x ∷ l) rest.same_jobs;
  seated = (seated.0, rest.seated);
  dealt = λ h. ap (λ n. weigh h (jobs (seat_account x).pushed) + n) (rest.dealt h);
  weights = λ h. let e = rest.weights h in omega arith;
  more = ap (λ b. x.more || b) rest.more ∙ or_true x.more;
  closed = λ e. rest.closed (or_is_false-second x.more (any_more (xs ++ ys)) e);
}

-- no later seat has a job
pub took_earlier : (xs ys ws zs : List Seat) (answer : Option ℕ) → SeatsTook ys None zs → SeatsTook xs answer ws → SeatsTook (xs ++ ys) answer (ws ++ zs)
took_earlier xs ys ws zs answer later took = record {
  deques = map-append seat_deque ws zs ∙ (λ i. took.deques i ++ later.deques i) ∙ sym (map-append seat_deque xs ys);
  same_jobs = map-append seat_jobs ws zs ∙ (λ i. took.same_jobs i ++ later.same_jobs i) ∙ sym (map-append seat_jobs xs ys);
  seated = all_both IsSeated ws zs took.seated later.seated;
  dealt = λ h. let a = took.dealt h in let b = later.dealt h in let c = seats_dealt-append h xs ys in let d = seats_dealt-append h ws zs in omega arith;
  weights = λ h. let a = took.weights h in let b = later.weights h in let c = seats_weigh-append h xs ys in let d = seats_weigh-append h ws zs in omega arith;
  more = any_more-append ws zs ∙ (λ i. took.more i || later.more i) ∙ or_false (is_some answer);
  closed = λ e. took.closed (or_is_false-first (any_more xs) (any_more ys) (sym (any_more-append xs ys) ∙ e));
}

-- the first items are what was written
pub take_written : (n : ℕ) (xs ys : List Seat) → length xs ≡ n → take n (xs ++ ys) ≡ xs
take_written n xs ys e = subst (λ m. take m (xs ++ ys) ≡ xs) e (take-append_seam xs ys)

-- no hand takes more than was dealt
pub seats_within : (ss : List Seat) → AllByRecursion IsSeated ss → (h : ℕ → ℕ) → seats_weigh h ss ≤ seats_dealt h ss
seats_within [] seated h = omega arith
seats_within (s ∷ ss) seated h = let a = seated.0.within h in let b = seats_within ss seated.1 h in omega arith

-- no seat is lost
pub same_length : (ss ts : List Seat) (answer : Option ℕ) → SeatsTook ss answer ts → length ts ≡ length ss
same_length ss ts answer took = sym (length-map ts seat_deque) ∙ ap length took.deques ∙ length-map ss seat_deque

-- by induction over owners with the seats at their deques
pub each_seat_by : (step : Owner → Seat → Owner → Type 0) (P : List Owner → List Seat → List Owner → Type 0) → P [] [] []
    → ((o : Owner) (s : Seat) (n : Owner) (os : List Owner) (ss : List Seat) (ns : List Owner) → step o s n → P os ss ns → P (o ∷ os) (s ∷ ss) (n ∷ ns))
    → (os : List Owner) (ss : List Seat) (ns : List Owner) → EachSeat step os ss ns → P os ss ns
each_seat_by step P none more [] [] [] a = none
each_seat_by step P none more [] [] (n ∷ ns) a = absurd a
each_seat_by step P none more [] (s ∷ ss) ns a = absurd a
each_seat_by step P none more (o ∷ os) [] ns a = absurd a
each_seat_by step P none more (o ∷ os) (s ∷ ss) [] a = absurd a
each_seat_by step P none more (o ∷ os) (s ∷ ss) (n ∷ ns) a = more o s n os ss ns a.0 (each_seat_by step P none more os ss ns a.1)
