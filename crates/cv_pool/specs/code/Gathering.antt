-- How the accounts of the hands go back to the owners (defined by this project).
use Rattle.std.specs.Prelude.{◌≡◌, ℕ, ◌+◌, ◌<◌, true, List, [], ◌∷◌, map, length}
use Rattle.std.specs.Global.{Global}
use Rattle.std.specs.List.{AllByRecursion}
use Rattle.cv_pool.specs.declared.seat.Seat.{Seat}
use Rattle.cv_pool.specs.Jobs.{lists_weigh}
use Rattle.cv_pool.specs.Hands.{HandState, lists_of, any_done}
use Rattle.cv_pool.specs.code.Accounts.{both, IsWithin, HasAll}
use Rattle.cv_pool.specs.code.Seats.{seat_deque, seat_account, IsSeated}
use Rattle.cv_pool.specs.code.Owners.{Owner, EachSeat, owner_deque, owner_account, HasShares, HasEnded, owners_weigh, owners_dealt}

-- an owner with a share, so that it knows what was added
abbrev pub HasShare : Owner → Type 0
HasShare o = 0 < (owner_account o).shares

-- the seats are at the deques of the owners, in order
abbrev pub AreSeatsOf : List Owner → List Seat → Type 0
AreSeatsOf [] [] = Unit {0}
AreSeatsOf (o ∷ os) (s ∷ ss) = (seat_deque s ≡ owner_deque o) × IsSeated s × HasShare o × AreSeatsOf os ss
AreSeatsOf _ _ = ⊥

-- an owner joined the account of a seat to its own
abbrev pub AbsorbedAt : Owner → Seat → Owner → Type 0
AbsorbedAt o s n = (owner_deque n ≡ owner_deque o) × (owner_account n ≡ both (owner_account o) (seat_account s))

-- each owner did so, in order
abbrev pub Absorbed : List Owner → List Seat → List Owner → Type 0
Absorbed os ss ns = EachSeat AbsorbedAt os ss ns

-- the hands are of the fill with some deques
abbrev pub AreOfDeques : List ((ℕ × ℕ) × Global) → List HandState → Type 0
AreOfDeques deques hs = AllByRecursion (λ (h : HandState). h.fill.deques ≡ deques) hs

-- owners before and after the accounts of some hands went back to them
pub record Gathered (os : List Owner) (hs : List HandState) (ns : List Owner) : Type 0 where
  pub deques : map owner_deque ns ≡ map owner_deque os
  pub share : AllByRecursion HasShare os → AllByRecursion HasShare ns
  pub shares : (p : ℕ) → AllByRecursion (HasShares p) os → AllByRecursion (HasShares (p + length hs)) ns
  pub weights : (h : ℕ → ℕ) → owners_weigh h ns ≡ owners_weigh h os + lists_weigh h (lists_of hs)
  pub dealt : (h : ℕ → ℕ) → owners_dealt h ns ≡ owners_dealt h os
  pub ended : AllByRecursion HasEnded os → AllByRecursion HasEnded ns
  pub done : any_done hs ≡ true → AllByRecursion HasEnded ns

-- an owner that knows of all that was taken
abbrev pub HasSettled : Owner → Type 0
HasSettled o = IsWithin (owner_account o) × (HasEnded o → HasAll (owner_account o))
