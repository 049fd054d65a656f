-- A hand's list has room for one more job, which is below the number of jobs.
use Rattle.std.proofs.Common.{◌≡◌, ℕ, zero, suc, ◌+◌, ◌-◌, ◌<◌, ◌≤◌, ◌++◌, List, [], ◌∷◌, length, Option, Some, refl, ap, sym, ◌∙◌, subst, arith}
use Rattle.std.specs.Global.{Vec}
use Rattle.std.specs.Vec.{vec_capacity}
use Rattle.std.proofs.lemmas.List.{length-map}
use Rattle.cv_pool.specs.declared.queue_owners.QueueOwners.{QueueOwners}
use Rattle.cv_pool.specs.declared.seat.Seat.{Seat}
use Rattle.cv_pool.specs.Jobs.{weigh, weigh_below}
use Rattle.cv_pool.specs.code.Seats.{seat_deque, SeatsTook}
use Rattle.cv_pool.specs.code.HandParts.{IsHand, HasQueueOwners}
use Rattle.cv_pool.proofs.TaskLemmas.{weigh-append}
use Rattle.cv_pool.proofs.SeatLemmas.{seats_within}

-- each job weighs 1
weigh_one : (ks : List ℕ) → weigh (λ k. 1) ks ≡ length ks
weigh_one [] = refl
weigh_one (k ∷ ks) = let e = weigh_one ks in omega arith

-- n jobs are below n
weigh_below_one : (n : ℕ) → weigh_below (λ k. 1) n ≡ n
weigh_below_one zero = refl
weigh_below_one (suc n) = let e = weigh_below_one n in omega arith

-- what lies outside weighs something, and what lies below weighs nothing
pub weigh_below_outside : (m n : ℕ) → n ≤ m → weigh_below (λ k. k + 1 - m) n ≡ 0
weigh_below_outside m zero few = refl
weigh_below_outside m (suc n) few = let e = weigh_below_outside m n (omega arith) in omega arith

-- one job more is still within what was dealt
more_is_within : (h : ℕ → ℕ) (n index : ℕ) (ss ts : List Seat) (list : Vec ℕ) (queue_owners : Option QueueOwners) (k : ℕ) → IsHand n index ss list queue_owners → SeatsTook ss (Some k) ts → weigh h list.items + h k ≤ weigh_below h n
more_is_within h n index ss ts list queue_owners k hand took =
    let a = took.weights h in let b = took.dealt h in let c = seats_within ts took.seated h in let d = hand.weights h in let e = hand.dealt h in omega arith

-- the list has room
pub has_room : (n index : ℕ) (ss ts : List Seat) (list : Vec ℕ) (queue_owners : Option QueueOwners) (k : ℕ) → IsHand n index ss list queue_owners → SeatsTook ss (Some k) ts → length list.items < vec_capacity list
has_room n index ss ts list queue_owners k hand took =
    let a = more_is_within (λ j. 1) n index ss ts list queue_owners k hand took in let b = weigh_one list.items in let c = weigh_below_one n in let d = hand.room in omega arith

-- the job is below the number of jobs
pub is_below : (n index : ℕ) (ss ts : List Seat) (list : Vec ℕ) (queue_owners : Option QueueOwners) (k : ℕ) → IsHand n index ss list queue_owners → SeatsTook ss (Some k) ts → k < n
is_below n index ss ts list queue_owners k hand took =
    let a = more_is_within (λ j. j + 1 - n) n index ss ts list queue_owners k hand took in let b = weigh_below_outside n n (omega arith) in omega arith

-- a hand after it took a job
pub hand_took : (n index : ℕ) (ss ts : List Seat) (list longer : Vec ℕ) (queue_owners : Option QueueOwners) (k : ℕ) → IsHand n index ss list queue_owners → SeatsTook ss (Some k) ts
    → longer.items ≡ list.items ++ k ∷ [] → vec_capacity longer ≡ vec_capacity list → IsHand n index ts longer queue_owners
hand_took n index ss ts list longer queue_owners k hand took items capacity = record {
  place = (let a : length ts ≡ length ss = sym (length-map ts seat_deque) ∙ ap length took.deques ∙ length-map ss seat_deque in let b = hand.place in omega arith);
  seated = took.seated;
  weights = (λ h. let a : weigh h longer.items ≡ weigh h (list.items ++ k ∷ []) = ap (weigh h) items in let b = weigh-append h list.items (k ∷ []) in let c = took.weights h in let d = hand.weights h in omega arith);
  dealt = (λ h. took.dealt h ∙ hand.dealt h);
  room = (let a = hand.room in omega arith);
  first = λ e. subst (λ deques. HasQueueOwners n deques queue_owners) (sym took.deques) (hand.first e);
}
