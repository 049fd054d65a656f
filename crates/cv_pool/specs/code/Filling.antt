-- How deques are filled and seats are made (defined by this project).
use Rattle.std.specs.Prelude.{◌≡◌, ℕ, ◌+◌, ◌<◌, true, List, [], map, length}
use Rattle.std.specs.Global.{Global}
use Rattle.std.specs.List.{AllByRecursion}
use Rattle.cv_pool.specs.declared.seat.Seat.{Seat}
use Rattle.cv_pool.specs.Jobs.{weigh_below}
use Rattle.cv_pool.specs.Hands.{Fill, HandState, deal, new_hands}
use Rattle.cv_pool.specs.code.Tasks.{jobs}
use Rattle.cv_pool.specs.code.Seats.{seat_deque, seat_jobs, seat_account, IsSeated, seats_weigh, seats_dealt, any_more}
use Rattle.cv_pool.specs.code.Owners.{Owner, EachSeat, owner_deque, owner_account, IsOwner, owners_dealt}

-- the jobs in the deque of an owner
abbrev pub owner_jobs : Owner → List ℕ
owner_jobs o = jobs (owner_account o).pushed

-- an owner before and after a seat was made at its deque
pub record SeatedAt (o : Owner) (s : Seat) (n : Owner) : Type 0 where
  pub deque : owner_deque n ≡ owner_deque o
  pub same : owner_jobs n ≡ owner_jobs o
  pub owner : (kept : ℕ) → IsOwner (kept + 1) 9 o → IsOwner kept 9 n
  pub at_deque : seat_deque s ≡ owner_deque o
  pub seated : IsSeated s
  pub more : s.more ≡ true
  pub none_taken : (seat_account s).taken ≡ []
  pub dealt : jobs (seat_account s).pushed ≡ owner_jobs o

-- a seat was made at each deque, in order
abbrev pub Seated : List Owner → List Seat → List Owner → Type 0
Seated os ss ns = EachSeat SeatedAt os ss ns

-- owners with some shares, of deques to which the jobs below a number were dealt
pub record AreOwners (jobs kept ends : ℕ) (os : List Owner) : Type 0 where
  pub owners : AllByRecursion (IsOwner kept ends) os
  pub dealt : (h : ℕ → ℕ) → owners_dealt h os ≡ weigh_below h jobs
  pub in_turn : map owner_jobs os ≡ deal jobs (length os) 0 (length os)

-- the seats of a hand that has taken nothing
pub record AreNewSeats (jobs : ℕ) (deques : List ((ℕ × ℕ) × Global)) (lists : List (List ℕ)) (ss : List Seat) : Type 0 where
  pub deques_of : map seat_deque ss ≡ deques
  pub jobs_of : map seat_jobs ss ≡ lists
  pub seated : AllByRecursion IsSeated ss
  pub none_taken : (h : ℕ → ℕ) → seats_weigh h ss ≡ 0
  pub dealt : (h : ℕ → ℕ) → seats_dealt h ss ≡ weigh_below h jobs
  pub more : 0 < length deques → any_more ss ≡ true

-- the fill of these owners
abbrev pub fill_of : ℕ → List Owner → Fill
fill_of jobs os = record { deques = map owner_deque os; jobs = jobs; dealt = map owner_jobs os }

-- owners, and the seats of the first hand and the other hands that were made of them
pub record AreParts (jobs : ℕ) (os : List Owner) (seats : List Seat) (others : List HandState) (ns : List Owner) : Type 0 where
  pub count : length ns ≡ length os
  pub kept : ℕ
  pub shares : kept + length ns ≡ 9
  pub owners : AreOwners jobs kept 9 ns
  pub first : AreNewSeats jobs (map owner_deque ns) (map owner_jobs ns) seats
  pub rest : ℕ
  pub one_more : rest + 1 ≡ length ns
  pub hands : others ≡ new_hands (fill_of jobs ns) 1 rest
