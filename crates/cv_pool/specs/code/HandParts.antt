-- What a hand is made of (defined by this project).
use Rattle.std.specs.Prelude.{◌≡◌, ℕ, ◌+◌, ◌<◌, ◌≤◌, not, List, [], length, map, Option, None, Some}
use Rattle.std.specs.Global.{Global, Vec}
use Rattle.std.specs.List.{AllByRecursion}
use Rattle.std.specs.Vec.{vec_capacity}
use Rattle.cv_pool.specs.declared.queue_owners.QueueOwners.{QueueOwners}
use Rattle.cv_pool.specs.declared.seat.Seat.{Seat}
use Rattle.cv_pool.specs.Jobs.{weigh, weigh_below}
use Rattle.cv_pool.specs.Hands.{HandState}
use Rattle.cv_pool.specs.code.Seats.{seat_deque, seat_jobs, IsSeated, seats_weigh, seats_dealt, any_more}
use Rattle.cv_pool.specs.code.Owners.{owner_deque, IsOwner, owners_dealt}

-- the state of a hand with these parts
abbrev pub hand_state : ℕ → ℕ → List Seat → List ℕ → HandState
hand_state jobs index seats list = record { fill = record { deques = map seat_deque seats; jobs = jobs; dealt = map seat_jobs seats }; index = index; list = list; done = not (any_more seats) }

-- the queue owners are the owners of the deques, each with the shares that no hand has, and an empty list with room for all lists
pub record AreQueueOwners (jobs : ℕ) (deques : List ((ℕ × ℕ) × Global)) (kept : ℕ) (c : QueueOwners) : Type 0 where
  pub deques_of : map owner_deque c.owners.items ≡ deques
  pub keeps_a_share : 0 < kept
  pub shares : kept + length deques ≡ 9
  pub owners : AllByRecursion (IsOwner kept 9) c.owners.items
  pub dealt : (h : ℕ → ℕ) → owners_dealt h c.owners.items ≡ weigh_below h jobs
  pub empty : c.lists.items ≡ []
  pub room : length deques ≤ vec_capacity c.lists

-- the owners of the queues hold these deques, if there is one
abbrev pub HasQueueOwners : ℕ → List ((ℕ × ℕ) × Global) → Option QueueOwners → Type 0
HasQueueOwners jobs deques None = ⊥
HasQueueOwners jobs deques (Some c) = (kept : ℕ) × AreQueueOwners jobs deques kept c

-- a hand: its list has the jobs that it took at its seats, and room for all jobs; the first hand has the owners of the queues
pub record IsHand (jobs index : ℕ) (seats : List Seat) (list : Vec ℕ) (queue_owners : Option QueueOwners) : Type 0 where
  pub place : index < length seats
  pub seated : AllByRecursion IsSeated seats
  pub weights : (h : ℕ → ℕ) → weigh h list.items ≡ seats_weigh h seats
  pub dealt : (h : ℕ → ℕ) → seats_dealt h seats ≡ weigh_below h jobs
  pub room : jobs ≤ vec_capacity list
  pub first : index ≡ 0 → HasQueueOwners jobs (map seat_deque seats) queue_owners
