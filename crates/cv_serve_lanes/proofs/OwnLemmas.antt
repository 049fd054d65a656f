-- What a seat's events are: those that it got receipts for, if these are as many as the list has of the seat.
use Rattle.std.proofs.Common.{◌≡◌, ℕ, ◌+◌, ◌≤◌, ◌==◌, inl, inr, cond, Bool, true, false, List, [], ◌∷◌, ◌++◌, length, refl, ap, sym, subst, ◌∙◌, arith, append_assoc, length-append}
use Rattle.std.proofs.lemmas.Bool.{eq-eqb}
use Rattle.std.proofs.lemmas.Bool.Decides.{nat_tests}
use Rattle.std.proofs.lemmas.List.{append-nil}
use mathlib.Core.List.{IsPrefix}
use Rattle.cv_core_records.specs.declared.event.By.{By}
use Rattle.cv_core_records.specs.declared.reply.Reply.{Reply}
use Rattle.cv_core_machine.specs.declared.event.MachineEvent.{MachineEvent}
use Rattle.cv_core_machine.specs.declared.limits.Limits.{Limits}
use Rattle.cv_hub.specs.Events.{DeskTrees}
use Rattle.cv_hub.specs.Seats.{IsApplied, SeatView, made_by, one_if, seat_of}
use Rattle.cv_serve_lanes.specs.code.Own.{Among, Made, Placed, Submission, of_seat, placed}

-- ---- some of the events

-- none of them
pub among_none : (seat number : ℕ) (events : List Submission) → Among seat number [] events
among_none seat number [] = refl
among_none seat number (event ∷ events) = inl (among_none seat (number + 1) events)

-- of two lists, one after the other
pub among_both : (seat number next : ℕ) (xs ys : List Placed) (ds es : List Submission) → next ≡ number + length ds → Among seat number xs ds → Among seat next ys es → Among seat number (xs ++ ys) (ds ++ es)
among_both seat number next xs ys [] es is first second =
    subst (λ own. Among seat number own es) (ap (λ own. own ++ ys) (sym first)) (let e : next ≡ number = omega (arith, is) in subst (λ (n : ℕ). Among seat n ys es) e second)
among_both seat number next xs ys (d ∷ ds) es is (inl first) second =
    inl (among_both seat (number + 1) next xs ys ds es (let e : next ≡ (number + 1) + length ds = omega (arith, is) in e) first second)
among_both seat number next xs ys (d ∷ ds) es is (inr first) second =
    let e : next ≡ (number + 1) + length ds = omega (arith, is) in
    inr (first.0 ++ ys, ap (λ own. own ++ ys) first.1, first.2, among_both seat (number + 1) next first.0 ys ds es e first.3 second)

-- no more than there are of the seat
pub among_at_most_made : (seat number : ℕ) (own : List Placed) (ds : List Submission) → Among seat number own ds → length own ≤ made_by seat ds
among_at_most_made seat number own [] h = omega (arith, ap length h)
among_at_most_made seat number own (d ∷ ds) (inl h) = omega (arith, among_at_most_made seat (number + 1) own ds h)
among_at_most_made seat number own (d ∷ ds) (inr h) =
    let one : one_if (d.seat == seat) ≡ 1 = ap one_if (eq-eqb d.seat seat h.2) in
    let size : length own ≡ length (placed number d ∷ h.0) = ap length h.1 in
    omega (arith, one, size, among_at_most_made seat (number + 1) h.0 ds h.3)

all_by : (seat number : ℕ) (own : List Placed) (d : Submission) (ds : List Submission) → Among seat number own (d ∷ ds) → length own ≡ made_by seat (d ∷ ds)
    → ((rest : List Placed) → Among seat (number + 1) rest ds → length rest ≡ made_by seat ds → rest ≡ of_seat seat (number + 1) ds)
    → (found : Bool) → (d.seat == seat) ≡ found → own ≡ cond found (placed number d ∷ of_seat seat (number + 1) ds) (of_seat seat (number + 1) ds)
all_by seat number own d ds (inl h) all next true is =
    let few = among_at_most_made seat (number + 1) own ds h in absurd (omega (arith, all, few, ap one_if is))
all_by seat number own d ds (inl h) all next false is = next own h (omega (arith, all, ap one_if is))
all_by seat number own d ds (inr h) all next true is =
    let size : length own ≡ length (placed number d ∷ h.0) = ap length h.1 in
    h.1 ∙ ap (λ rest. placed number d ∷ rest) (next h.0 h.3 (omega (arith, all, size, ap one_if is)))
all_by seat number own d ds (inr h) all next false is = absurd (grind (arith, nat_tests))

-- as many as there are of the seat: they are all of the seat
pub all_own : (seat number : ℕ) (own : List Placed) (ds : List Submission) → Among seat number own ds → length own ≡ made_by seat ds → own ≡ of_seat seat number ds
all_own seat number own [] h all = h
all_own seat number own (d ∷ ds) h all = all_by seat number own d ds h all (λ rest. all_own seat (number + 1) rest ds) (d.seat == seat) refl

-- ---- receipts

-- nothing happened
pub made_none : (seat : SeatView) → Made seat seat []
made_none seat = record { since = []; list_is = sym (append-nil seat.list); among = refl; count_is = omega arith; index_is = refl }

-- an event was applied
pub made_one : (tree : DeskTrees) (limits : Limits) (list : List Submission) (before after : SeatView) (by : By) (act : MachineEvent) (number : ℕ) (reply : Reply) (note : List Submission)
    → IsApplied tree limits list before by act number reply note after
    → Made before after (placed number (record { seat = before.index; by = by; act = act; reply = reply }) ∷ [])
made_one tree limits list before after by act number reply note h =
    let event : Submission = record { seat = before.index; by = by; act = act; reply = reply } in
    let rest = h.seen.0 in
    let place : length before.list + 1 + length rest ≡ number = omega (arith, h.number_is, sym (ap length h.seen.1) ∙ length-append before.list rest) in
    record {
      since = rest ++ event ∷ [];
      list_is = ap (λ s. s.list) h.seat_is ∙ (h.note_is ∙ (ap (λ front. front ++ event ∷ []) (sym h.seen.1) ∙ append_assoc before.list rest (event ∷ [])));
      among = among_both before.index (length before.list + 1) number [] (placed number event ∷ []) rest (event ∷ []) (sym place) (among_none before.index (length before.list + 1) rest) (inr ([], refl, refl, refl));
      count_is = ap (λ s. s.count) h.seat_is;
      index_is = ap (λ s. s.index) h.seat_is;
    }

-- more was seen
pub made_seen : (before after : SeatView) (list : List Submission) (refused : ℕ) → IsPrefix before.list list → after ≡ seat_of before.index list before.count refused → Made before after []
made_seen before after list refused seen is = record {
  since = seen.0;
  list_is = ap (λ s. s.list) is ∙ sym seen.1;
  among = among_none before.index (length before.list + 1) seen.0;
  count_is = ap (λ s. s.count) is ∙ omega arith;
  index_is = ap (λ s. s.index) is;
}

-- one after the other
pub made_then : (a b c : SeatView) (xs ys : List Placed) → Made a b xs → Made b c ys → Made a c (xs ++ ys)
made_then a b c xs ys first second =
    let size : length b.list ≡ length a.list + length first.since = ap length first.list_is ∙ length-append a.list first.since in
    let place : length b.list + 1 ≡ length a.list + 1 + length first.since = omega (arith, size) in
    let after : Among a.index (length b.list + 1) ys second.since = subst (λ (seat : ℕ). Among seat (length b.list + 1) ys second.since) first.index_is second.among in
    record {
      since = first.since ++ second.since;
      list_is = second.list_is ∙ (ap (λ front. front ++ second.since) first.list_is ∙ append_assoc a.list first.since second.since);
      among = among_both a.index (length a.list + 1) (length b.list + 1) xs ys first.since second.since place first.among after;
      count_is = omega (arith, first.count_is, second.count_is, length-append xs ys);
      index_is = second.index_is ∙ first.index_is;
    }

-- what was seen before is seen after
pub made_longer : (a b : SeatView) (own : List Placed) → Made a b own → IsPrefix a.list b.list
made_longer a b own h = (h.since, sym h.list_is)
