-- All receipts of all seats are all events of the list.
use Rattle.std.proofs.Common.{◌≡◌, ℕ, ◌+◌, ◌≤◌, ◌<◌, ◌==◌, Bool, true, false, List, [], ◌∷◌, length, refl, ap, arith}
use Rattle.std.proofs.lemmas.Bool.Decides.{nat_tests}
use Rattle.cv_hub_seats.specs.Seats.{AreAllReceipts, AreNumbered, HaveSeen, SeatView, made_by, one_if}
use Rattle.cv_hub_seats.specs.code.Audit.{AreMade, receipts_of}
use Rattle.cv_hub_seats.specs.declared.submission.Submission.{Submission}
use Rattle.cv_hub_seats.proofs.Made.{made_begins}

-- how many of these seats a number is of
abbrev of_seats : ℕ → List SeatView → ℕ
of_seats number [] = 0
of_seats number (seat ∷ seats) = one_if (number == seat.index) + of_seats number seats

-- how many events of a list are of these seats
abbrev made_by_all : List Submission → List SeatView → ℕ
made_by_all list [] = 0
made_by_all list (seat ∷ seats) = made_by seat.index list + made_by_all list seats

hit : (m n : ℕ) → m < n → one_if (m == n) ≡ 0
hit m n less = let no : (m == n) ≡ false = grind (arith, nat_tests) in ap one_if no

-- a number below those of the seats is of none
of_none : (number index : ℕ) (seats : List SeatView) → AreNumbered index seats → number < index → of_seats number seats ≡ 0
of_none number index [] numbered less = refl
of_none number index (seat ∷ seats) numbered less =
    let here = hit number seat.index (omega (arith, numbered.0)) in
    let rest = of_none number (index + 1) seats numbered.1 (omega arith) in omega (arith, here, rest)

of_one_by : (number index : ℕ) (seat : SeatView) (seats : List SeatView) → seat.index ≡ index → AreNumbered (index + 1) seats → of_seats number seats ≤ 1
    → (found : Bool) → (number == seat.index) ≡ found → one_if found + of_seats number seats ≤ 1
of_one_by number index seat seats is numbered few true found =
    let same : number ≡ seat.index = grind (arith, nat_tests) in
    let rest = of_none number (index + 1) seats numbered (omega arith) in omega (arith, rest)
of_one_by number index seat seats is numbered few false found = omega (arith, few)

-- a number is of one seat at most
of_one : (number index : ℕ) (seats : List SeatView) → AreNumbered index seats → of_seats number seats ≤ 1
of_one number index [] numbered = omega arith
of_one number index (seat ∷ seats) numbered =
    of_one_by number index seat seats numbered.0 numbered.1 (of_one number (index + 1) seats numbered.1) (number == seat.index) refl

made_next : (event : Submission) (list : List Submission) (seats : List SeatView) → made_by_all (event ∷ list) seats ≡ of_seats event.seat seats + made_by_all list seats
made_next event list [] = omega arith
made_next event list (seat ∷ seats) = let rest = made_next event list seats in omega (arith, rest)

made_none : (seats : List SeatView) → made_by_all [] seats ≡ 0
made_none [] = refl
made_none (seat ∷ seats) = omega (arith, made_none seats)

-- seats of different numbers have no more events than there are
made_all : (index : ℕ) (list : List Submission) (seats : List SeatView) → AreNumbered index seats → made_by_all list seats ≤ length list
made_all index [] seats numbered = omega (arith, made_none seats)
made_all index (event ∷ list) seats numbered = omega (arith, made_next event list seats, of_one event.seat index seats numbered, made_all index list seats numbered)

-- the receipts of seats are no more than their events of a list that each has seen a beginning of
receipts_at_most_made : (list : List Submission) (seats : List SeatView) → HaveSeen list seats → AreMade seats → receipts_of seats ≤ made_by_all list seats
receipts_at_most_made list [] seen made = omega arith
receipts_at_most_made list (seat ∷ seats) seen made = omega (arith, made.0, made_begins seat.index seat.list list seen.0, receipts_at_most_made list seats seen.1 made.1)

each : (list : List Submission) (seats : List SeatView) → HaveSeen list seats → AreMade seats → made_by_all list seats ≤ receipts_of seats → AreAllReceipts list seats
each list [] seen made enough = tt
each list (seat ∷ seats) seen made enough =
    let here : seat.count ≤ made_by seat.index list = omega (arith, made.0, made_begins seat.index seat.list list seen.0) in
    let rest = receipts_at_most_made list seats seen.1 made.1 in
    (omega (arith, enough, here, rest), each list seats seen.1 made.1 (omega (arith, enough, here, rest)))

-- as many receipts as events: each seat has just its receipts
pub all_receipts : (list : List Submission) (seats : List SeatView) → AreNumbered 0 seats → HaveSeen list seats → AreMade seats → receipts_of seats ≡ length list → AreAllReceipts list seats
all_receipts list seats numbered seen made all = each list seats seen made (omega (arith, all, made_all 0 list seats numbered))
