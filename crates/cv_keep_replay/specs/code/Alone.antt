-- One seat of a hub submits events while the others submit none.
use Rattle.std.specs.Prelude.{◌≡◌, ⊤, ℕ, ◌+◌, ◌^◌, ◌≤◌, ◌<◌, List, [], ◌∷◌, ◌++◌, length, map}
use Rattle.cv_hub_seats.specs.Seats.{SeatView}
use Rattle.cv_hub_seats.specs.declared.submission.Submission.{Submission}
use Rattle.cv_keep_replay.specs.code.Ready.{Named, named}

-- between two moments of a seat it submitted these events. If it saw no more events than those, it saw just them
pub record Submitted (before after : SeatView) (list : List Named) : Type 0 where
  pub own : List Submission
  pub named_is : map (λ (event : Submission). named event.by event.act) own ≡ list
  pub longer : length before.list + length own ≤ length after.list
  pub alone : length after.list ≡ length before.list + length own → after.list ≡ before.list ++ own
  pub count_is : after.count ≡ before.count + length own
  pub index_is : after.index ≡ before.index

-- the first of some seats did so, and the others stay as they are
abbrev pub FirstSubmitted : List SeatView → List SeatView → List Named → Type 0
FirstSubmitted [] seats list = ⊥
FirstSubmitted (first ∷ others) [] list = ⊥
FirstSubmitted (first ∷ others) (first_after ∷ others_after) list = Submitted first first_after list × (others_after ≡ others)

-- seats that have these numbers in turn, saw nothing and submitted nothing
abbrev pub AreIdle : ℕ → List SeatView → Type 0
AreIdle index [] = ⊤
AreIdle index (seat ∷ seats) = (seat.index ≡ index) × (seat.list ≡ []) × (seat.count ≡ 0) × AreIdle (index + 1) seats

-- the first seat submitted all events of a list and saw them, and the others are idle
abbrev pub IsAlone : List Submission → List SeatView → Type 0
IsAlone list [] = ⊥
IsAlone list (first ∷ others) = (first.index ≡ 0) × (first.list ≡ list) × (first.count ≡ length list) × AreIdle 1 others

-- a desk has listed fewer than 2^62 layers more than the first seat has seen events, so that it can list more
abbrev pub HasRoom : ℕ → List SeatView → Type 0
HasRoom listings [] = ⊤
HasRoom listings (first ∷ others) = listings < 2 ^ 62 + length first.list

-- what the first seat has seen
abbrev pub first_list : List SeatView → List Submission
first_list [] = []
first_list (first ∷ others) = first.list
