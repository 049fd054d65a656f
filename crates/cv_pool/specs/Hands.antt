-- What callers see of hands (defined by this project). A fill deals the jobs below a number to the deques of its hands.
-- Each hand takes jobs from all deques of its fill, and keeps the list of the jobs that it took.
use Rattle.std.specs.Prelude.{◌≡◌, ℕ, zero, suc, ◌+◌, ◌<◌, ◌%◌, ◌==◌, ◌++◌, map, filter, Bool, true, false, List, [], ◌∷◌, length, Option, None, Some, ◌||◌}
use Rattle.std.specs.Global.{Global}

-- the numbers below a number, in ascending order
abbrev pub below : ℕ → List ℕ
below zero = []
below (suc n) = below n ++ n ∷ []

-- the jobs below a number that are dealt to the hand at an index: those whose remainder by the number of hands it is
abbrev pub dealt_to : ℕ → ℕ → ℕ → List ℕ
dealt_to jobs hands index = filter (λ k. k % hands == index) (below jobs)

-- the jobs that are dealt to this number of hands, from an index on
abbrev pub deal : ℕ → ℕ → ℕ → ℕ → List (List ℕ)
deal jobs hands from zero = []
deal jobs hands from (suc n) = dealt_to jobs hands from ∷ deal jobs hands (from + 1) n

-- a fill: which deques it made, one for each hand, how many jobs it dealt, and which to each deque
pub record Fill : Type 0 where
  pub deques : List ((ℕ × ℕ) × Global)
  pub jobs : ℕ
  pub dealt : List (List ℕ)

-- a hand: its fill, which hand of it, the jobs that it took, the first one first, and whether it knows of every deque of
-- its fill that no job is in it, and none will be
pub record HandState : Type 0 where
  pub fill : Fill
  pub index : ℕ
  pub list : List ℕ
  pub done : Bool

-- a hand that has taken nothing
abbrev pub new_hand : Fill → ℕ → HandState
new_hand fill index = record { fill = fill; index = index; list = []; done = false }

-- a hand after it got a job, or the answer that there is none
abbrev pub hand_after : HandState → Option ℕ → HandState
hand_after h None = record { fill = h.fill; index = h.index; list = h.list; done = true }
hand_after h (Some k) = record { fill = h.fill; index = h.index; list = h.list ++ k ∷ []; done = false }

-- the hands of a fill from one index up to another, in order
abbrev pub AreHandsFrom : Fill → ℕ → List HandState → ℕ → Type 0
AreHandsFrom fill from [] to = from ≡ to
AreHandsFrom fill from (h ∷ hs) to = (h.fill ≡ fill) × (h.index ≡ from) × AreHandsFrom fill (from + 1) hs to

-- all hands of a fill, in order; there is at least one
abbrev pub AreHandsOf : Fill → List HandState → Type 0
AreHandsOf fill hs = (0 < length hs) × AreHandsFrom fill 0 hs (length fill.deques)

-- some hands that have taken nothing, from an index on
abbrev pub new_hands : Fill → ℕ → ℕ → List HandState
new_hands fill from zero = []
new_hands fill from (suc n) = new_hand fill from ∷ new_hands fill (from + 1) n

-- the hands of a new fill: job k goes to the deque of hand k mod `hands`, and no hand has taken any
pub record IsNewFill (jobs hands : ℕ) (hs : List HandState) : Type 0 where
  pub fill : Fill
  pub count : length fill.deques ≡ hands
  pub jobs_below : fill.jobs ≡ jobs
  pub dealt_in_turn : fill.dealt ≡ deal jobs hands 0 hands
  pub new : hs ≡ new_hands fill 0 hands
  pub all : AreHandsOf fill hs

-- the same hand, whatever it took
abbrev pub IsSameHand : HandState → HandState → Type 0
IsSameHand h k = (k.fill ≡ h.fill) × (k.index ≡ h.index)

-- the same hands, in order
abbrev pub AreSameHands : List HandState → List HandState → Type 0
AreSameHands [] [] = Unit {0}
AreSameHands (h ∷ hs) (k ∷ ks) = IsSameHand h k × AreSameHands hs ks
AreSameHands _ _ = ⊥

-- the lists of some hands
abbrev pub lists_of : List HandState → List (List ℕ)
lists_of hs = map (λ h. h.list) hs

-- some hand is done
abbrev pub any_done : List HandState → Bool
any_done [] = false
any_done (h ∷ hs) = h.done || any_done hs
