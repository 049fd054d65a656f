-- Of a hub's events each is one that a seat has a receipt for, so none comes while all seats are at one place.
use Rattle.std.specs.Prelude.{◌≡◌, ℕ, ◌+◌, ◌≤◌, ◌<◌, ◌==◌, Bool, true, false, List, [], ◌∷◌, ◌++◌, length, refl}
use Rattle.std.proofs.Common.{ap, arith, length-append, subst, sym, ◌∙◌}
use Rattle.std.proofs.lemmas.Bool.Decides.{nat_tests}
use Rattle.std.proofs.lemmas.List.{append-nil}
use Rattle.std.specs.List.{AllByRecursion}
use mathlib.Core.List.{IsPrefix}
use Rattle.cv_hub_seats.specs.Seats.{AreAllReceipts, AreNumbered, HaveSeen, SeatView, made_by, one_if, seat_of}
use Rattle.cv_hub_seats.specs.declared.submission.Submission.{Submission}
use Rattle.cv_hub_seats.proofs.Made.{made_both}
use Rattle.cv_hub_seats.proofs.Prefixes.{prefix_all, prefix_length}
use Rattle.cv_serve_round.specs.Round.{AreRoundSeats}

-- two lists with all receipts of the same seats have as many events of each of these seats
same_made : (index i : ℕ) (old new : List Submission) (seats : List SeatView) → AreNumbered index seats → AreAllReceipts old seats → AreAllReceipts new seats
    → index ≤ i → i < index + length seats → made_by i old ≡ made_by i new
same_made index i old new [] numbered before after low high = absurd (omega (arith, low, high))
same_made index i old new (seat ∷ seats) numbered before after low high =
    by_test (i == index) refl (λ (more : index + 1 ≤ i). same_made (index + 1) i old new seats numbered.1 before.1 after.1 more (omega (arith, high))) where
      by_test : (b : Bool) → (i == index) ≡ b → (index + 1 ≤ i → made_by i old ≡ made_by i new) → made_by i old ≡ made_by i new
      by_test true is later =
          let here : i ≡ seat.index = grind (arith, nat_tests, is, numbered.0) in
          ap (λ (k : ℕ). made_by k old) here ∙ (before.0 ∙ (sym after.0 ∙ ap (λ (k : ℕ). made_by k new) (sym here)))
      by_test false is later = later (grind (arith, nat_tests, is, low))

own : (n : ℕ) → one_if (n == n) ≡ 1
own n = let same : (n == n) ≡ true = grind (arith, nat_tests) in ap one_if same

last_of : (P : Submission → Type 0) (xs ys : List Submission) (event : Submission) → AllByRecursion P (xs ++ event ∷ ys) → P event
last_of P [] ys event all = all.0
last_of P (x ∷ xs) ys event all = last_of P xs ys event all.1

-- a list that goes on, with all receipts of the same seats, has no more events
no_more : (old new : List Submission) (seats : List SeatView) → AreNumbered 0 seats → AreAllReceipts old seats → AreAllReceipts new seats → IsPrefix old new
    → AllByRecursion (λ (event : Submission). event.seat < length seats) new → new ≡ old
no_more old new seats numbered before after begins below = by_rest begins.0 begins.1 where
  by_rest : (rest : List Submission) → old ++ rest ≡ new → new ≡ old
  by_rest [] is = sym is ∙ append-nil old
  by_rest (event ∷ rest) is =
      let mine : event.seat < length seats =
      last_of (λ (e : Submission). e.seat < length seats) old rest event (subst (AllByRecursion (λ (e : Submission). e.seat < length seats)) (sym is) below) in
      let same : made_by event.seat old ≡ made_by event.seat new = same_made 0 event.seat old new seats numbered before after (omega arith) (omega (arith, mine)) in
      let more : made_by event.seat new ≡ made_by event.seat old + made_by event.seat (event ∷ rest) = ap (made_by event.seat) (sym is) ∙ made_both event.seat old (event ∷ rest) in
      absurd (omega (arith, same, more, own event.seat))

-- ---- the last one of the seats, after a view

module _ (seat after : SeatView) (index_is : after.index ≡ seat.index) (count_is : after.count ≡ seat.count) where
  last_numbered : (index : ℕ) (others : List SeatView) → AreNumbered index (others ++ seat ∷ []) → AreNumbered index (others ++ after ∷ [])
  last_numbered index [] numbered = (index_is ∙ numbered.0, tt)
  last_numbered index (other ∷ others) numbered = (numbered.0, last_numbered (index + 1) others numbered.1)

  last_receipts : (events : List Submission) (others : List SeatView) → AreAllReceipts events (others ++ seat ∷ []) → AreAllReceipts events (others ++ after ∷ [])
  last_receipts events [] receipts = (ap (λ (k : ℕ). made_by k events) index_is ∙ (receipts.0 ∙ sym count_is), tt)
  last_receipts events (other ∷ others) receipts = (receipts.0, last_receipts events others receipts.1)

  last_seen : (events : List Submission) (others : List SeatView) → HaveSeen events (others ++ after ∷ []) → IsPrefix after.list events
  last_seen events [] seen = seen.0
  last_seen events (other ∷ others) seen = last_seen events others seen.1

  -- the seats of a round stay these
  pub last_viewed : (parts workers : ℕ) (hub : List Submission) (others : List SeatView) → AreRoundSeats parts workers hub (others ++ seat ∷ []) → AreRoundSeats parts workers hub (others ++ after ∷ [])
  last_viewed parts workers hub others seats =
      let size : length (others ++ after ∷ []) ≡ length (others ++ seat ∷ []) = length-append others (after ∷ []) ∙ sym (length-append others (seat ∷ [])) in
      record {
        count = size ∙ seats.count;
        all = size ∙ seats.all;
        numbered = last_numbered 0 others seats.numbered;
        receipts = last_receipts hub others seats.receipts;
      }

  -- what was viewed are the events that were taken, and no event came since
  pub viewed_all : (parts workers : ℕ) (hub now : List Submission) (others : List SeatView) → AreRoundSeats parts workers hub (others ++ seat ∷ [])
      → IsPrefix hub after.list → IsPrefix hub now → HaveSeen now (others ++ after ∷ []) → AreAllReceipts now (others ++ after ∷ [])
      → AllByRecursion (λ (event : Submission). event.seat < length (others ++ after ∷ [])) now → (now ≡ hub) × (after.list ≡ hub)
  viewed_all parts workers hub now others seats begins taken seen receipts below =
      let mine = last_viewed parts workers hub others seats in
      let none : now ≡ hub = no_more hub now (others ++ after ∷ []) mine.numbered mine.receipts receipts taken below in
      let shorter : length after.list ≤ length now = prefix_length after.list now (last_seen now others seen) in
      (none, sym (prefix_all hub after.list begins (omega (arith, shorter, ap length none))))

-- the same over a slice of the seats, after a view by the last one
module _ (seat after : SeatView) (is : after ≡ seat_of seat.index after.list seat.count after.refused) (parts workers : ℕ) (hub : List Submission) (items others slice : List SeatView)
    (split : items ≡ others ++ seat ∷ []) (slice_is : slice ≡ others ++ after ∷ []) (seats : AreRoundSeats parts workers hub items) where
  index_is : after.index ≡ seat.index
  index_is = ap (λ (s : SeatView). s.index) is

  count_is : after.count ≡ seat.count
  count_is = ap (λ (s : SeatView). s.count) is

  pub slice_seats : AreRoundSeats parts workers hub slice
  slice_seats = subst (AreRoundSeats parts workers hub) (sym slice_is) (last_viewed seat after index_is count_is parts workers hub others (subst (AreRoundSeats parts workers hub) split seats))

  pub slice_viewed : (now : List Submission) → IsPrefix hub after.list → IsPrefix hub now → HaveSeen now slice → AreAllReceipts now slice
      → AllByRecursion (λ (event : Submission). event.seat < length slice) now → (now ≡ hub) × (after.list ≡ hub)
  slice_viewed now begins taken seen receipts below =
      viewed_all seat after index_is count_is parts workers hub now others (subst (AreRoundSeats parts workers hub) split seats) begins taken
      (subst (HaveSeen now) slice_is seen) (subst (AreAllReceipts now) slice_is receipts)
      (subst (λ (s : List SeatView). AllByRecursion (λ (event : Submission). event.seat < length s) now) slice_is below)
