-- One seat submits events while the others submit none: they are all that the hub's list gets.
use Rattle.std.proofs.Common.{◌≡◌, ℕ, ◌+◌, ◌≤◌, ◌<◌, ◌^◌, ◌==◌, Bool, true, false, List, [], ◌∷◌, ◌++◌, length, map, refl, ap, sym, subst, ◌∙◌, arith, append_assoc, length-append}
use Rattle.std.specs.List.{AllByRecursion}
use Rattle.std.proofs.lemmas.Bool.Decides.{nat_tests}
use Rattle.std.proofs.lemmas.List.{append-nil, length-map, map-append}
use Rattle.cv_core_records.specs.declared.event.By.{By}
use Rattle.cv_core_records.specs.declared.reply.Reply.{Reply}
use Rattle.cv_core_machine.specs.declared.event.MachineEvent.{MachineEvent}
use Rattle.cv_core_machine.specs.declared.limits.Limits.{Limits}
use Rattle.cv_hub_seats.specs.Events.{DeskTrees}
use Rattle.cv_hub_seats.specs.Seats.{AreAllReceipts, AreFresh, AreNumbered, HaveSeen, IsApplied, SeatView, made_by, one_if}
use Rattle.cv_hub_seats.specs.declared.submission.Submission.{Submission}
use Rattle.cv_hub_seats.proofs.Prefixes.{prefix_all, prefix_length}
use Rattle.cv_keep_replay.specs.code.Alone.{AreIdle, FirstSubmitted, HasRoom, IsAlone, Submitted, first_list}
use Rattle.cv_keep_replay.specs.code.Ready.{Named, named}

-- as what an event was submitted
abbrev pub named_in : Submission → Named
named_in event = named event.by event.act

-- ---- one seat

-- nothing
pub submitted_none : (seat : SeatView) → Submitted seat seat []
submitted_none seat = record {
  own = [];
  named_is = refl;
  longer = omega arith;
  alone = λ same. sym (append-nil seat.list);
  count_is = omega arith;
  index_is = refl;
}

-- one event
pub submitted_one : (tree : DeskTrees) (limits : Limits) (list : List Submission) (before after : SeatView) (who : By) (what : MachineEvent) (number : ℕ) (reply : Reply) (note : List Submission)
    → IsApplied tree limits list before who what number reply note after → Submitted before after (named who what ∷ [])
submitted_one tree limits list before after who what number reply note h =
    let one : Submission = record { seat = before.index; by = who; act = what; reply = reply } in
    let now : after.list ≡ list ++ one ∷ [] = ap (λ (s : SeatView). s.list) h.seat_is ∙ h.note_is in
    let size : length after.list ≡ length list + 1 = ap length now ∙ length-append list (one ∷ []) in
    record {
      own = one ∷ [];
      named_is = refl;
      longer = omega (arith, size, prefix_length before.list list h.seen);
      alone = λ same.
          let all : before.list ≡ list = prefix_all before.list list h.seen (omega (arith, same, size)) in
          now ∙ ap (λ (front : List Submission). front ++ one ∷ []) (sym all);
      count_is = ap (λ (s : SeatView). s.count) h.seat_is;
      index_is = ap (λ (s : SeatView). s.index) h.seat_is;
    }

-- events, and then others
pub submitted_then : (before mid after : SeatView) (first later : List Named) → Submitted before mid first → Submitted mid after later → Submitted before after (first ++ later)
submitted_then before mid after first later p q =
    let size : length (p.own ++ q.own) ≡ length p.own + length q.own = length-append p.own q.own in
    record {
      own = p.own ++ q.own;
      named_is = map-append named_in p.own q.own ∙ (ap (λ (l : List Named). l ++ map named_in q.own) p.named_is ∙ ap (λ (l : List Named). first ++ l) q.named_is);
      longer = omega (arith, size, p.longer, q.longer);
      alone = λ same.
          let here : mid.list ≡ before.list ++ p.own = p.alone (omega (arith, same, size, p.longer, q.longer)) in
          let there : after.list ≡ mid.list ++ q.own = q.alone (omega (arith, same, size, p.longer, q.longer)) in
          there ∙ (ap (λ (front : List Submission). front ++ q.own) here ∙ append_assoc before.list p.own q.own);
      count_is = omega (arith, size, p.count_is, q.count_is);
      index_is = q.index_is ∙ p.index_is;
    }

-- it has seen as many events more, at least
pub submitted_length : (before after : SeatView) (list : List Named) → Submitted before after list → length before.list + length list ≤ length after.list
submitted_length before after list s =
    let size : length s.own ≡ length list = sym (length-map s.own named_in) ∙ ap length s.named_is in
    omega (arith, size, s.longer)

-- ---- all seats

-- a desk has room for more layers
pub alone_room : (listings : ℕ) (list : List Submission) (seats : List SeatView) → IsAlone list seats → listings < 2 ^ 62 + length list → HasRoom listings seats
alone_room listings list [] alone few = absurd alone
alone_room listings list (first ∷ others) alone few = let size : length first.list ≡ length list = ap length alone.1 in omega (arith, few, size)

-- no receipts yet
pub fresh_receipts : (index : ℕ) (seats : List SeatView) → AreFresh index seats → AreAllReceipts [] seats
fresh_receipts index [] fresh = tt
fresh_receipts index (seat ∷ seats) fresh = (sym (ap (λ (s : SeatView). s.count) fresh.0), fresh_receipts (index + 1) seats fresh.1)

-- seats that saw nothing
pub fresh_idle : (index : ℕ) (seats : List SeatView) → AreFresh index seats → AreIdle index seats
fresh_idle index [] fresh = tt
fresh_idle index (seat ∷ seats) fresh =
    (ap (λ (s : SeatView). s.index) fresh.0, ap (λ (s : SeatView). s.list) fresh.0, ap (λ (s : SeatView). s.count) fresh.0, fresh_idle (index + 1) seats fresh.1)

-- before all events
pub fresh_alone : (seats : List SeatView) → 0 < length seats → AreFresh 0 seats → IsAlone [] seats
fresh_alone [] some fresh = absurd (omega (arith, some))
fresh_alone (first ∷ others) some fresh =
    (ap (λ (s : SeatView). s.index) fresh.0, ap (λ (s : SeatView). s.list) fresh.0, ap (λ (s : SeatView). s.count) fresh.0, fresh_idle 1 others fresh.1)

idle_numbered : (index : ℕ) (seats : List SeatView) → AreIdle index seats → AreNumbered index seats
idle_numbered index [] idle = tt
idle_numbered index (seat ∷ seats) idle = (idle.0, idle_numbered (index + 1) seats idle.3)

pub alone_numbered : (list : List Submission) (seats : List SeatView) → IsAlone list seats → AreNumbered 0 seats
alone_numbered list [] alone = absurd alone
alone_numbered list (first ∷ others) alone = (alone.0, idle_numbered 1 others alone.3)

pub alone_some : (list : List Submission) (seats : List SeatView) → IsAlone list seats → 0 < length seats
alone_some list [] alone = absurd alone
alone_some list (first ∷ others) alone = omega arith

pub alone_first : (list : List Submission) (seats : List SeatView) → IsAlone list seats → first_list seats ≡ list
alone_first list [] alone = absurd alone
alone_first list (first ∷ others) alone = alone.1

-- the first seat submits, and the numbers stay
pub first_numbered : (list : List Submission) (before after : List SeatView) (own : List Named) → IsAlone list before → FirstSubmitted before after own → AreNumbered 0 after
first_numbered list [] after own alone submitted = absurd alone
first_numbered list (first ∷ others) [] own alone submitted = absurd submitted
first_numbered list (first ∷ others) (first_after ∷ others_after) own alone submitted =
    (submitted.0.index_is ∙ alone.0, subst (λ (seats : List SeatView). AreNumbered 1 seats) (sym submitted.1) (idle_numbered 1 others alone.3))

-- no event of a list is of an idle seat
idle_none : (now : List Submission) (j index : ℕ) (seats : List SeatView) → AreIdle index seats → AreAllReceipts now seats → index ≤ j → j < index + length seats → made_by j now ≡ 0
idle_none now j index [] idle receipts low high = absurd (omega (arith, low, high))
idle_none now j index (seat ∷ seats) idle receipts low high =
    by_test (j == index) refl (λ (more : index + 1 ≤ j). idle_none now j (index + 1) seats idle.3 receipts.1 more (omega (arith, high))) where
      by_test : (b : Bool) → (j == index) ≡ b → (index + 1 ≤ j → made_by j now ≡ 0) → made_by j now ≡ 0
      by_test true is later =
          let here : j ≡ seat.index = grind (arith, nat_tests, is, idle.0) in
          ap (λ (k : ℕ). made_by k now) here ∙ (receipts.0 ∙ idle.2)
      by_test false is later = later (grind (arith, nat_tests, is, low))

same_number : (n : ℕ) → one_if (n == n) ≡ 1
same_number n = let same : (n == n) ≡ true = grind (arith, nat_tests) in ap one_if same

-- if no event is of another seat, all are of the first
all_first : (n : ℕ) (list : List Submission) → AllByRecursion (λ (event : Submission). event.seat < n) list → ((j : ℕ) → 1 ≤ j → j < n → made_by j list ≡ 0)
    → made_by 0 list ≡ length list
all_first n [] below none = refl
all_first n (event ∷ list) below none =
    by_test (event.seat == 0) refl (all_first n list below.1 (λ j low high. omega (arith, none j low high))) where
      by_test : (b : Bool) → (event.seat == 0) ≡ b → made_by 0 list ≡ length list → one_if (event.seat == 0) + made_by 0 list ≡ length (event ∷ list)
      by_test true is later = let here : one_if (event.seat == 0) ≡ 1 = ap one_if is in omega (arith, here, later)
      by_test false is later =
          let low : 1 ≤ event.seat = grind (arith, nat_tests, is) in
          absurd (omega (arith, none event.seat low below.0, same_number event.seat))

-- after a taking: the hub's list has what the first seat submitted, and no more
pub alone_after : (list now : List Submission) (before after : List SeatView) (own : List Named) → IsAlone list before → FirstSubmitted before after own
    → HaveSeen now after → AreAllReceipts now after → AllByRecursion (λ (event : Submission). event.seat < length after) now
    → (added : List Submission) × (now ≡ list ++ added) × (map named_in added ≡ own) × IsAlone now after
alone_after list now [] after own alone submitted seen receipts below = absurd alone
alone_after list now (first ∷ others) [] own alone submitted seen receipts below = absurd submitted
alone_after list now (first ∷ others) (first_after ∷ others_after) own alone submitted seen receipts below =
    let s = submitted.0 in
    let idle : AreIdle 1 others_after = subst (λ (seats : List SeatView). AreIdle 1 seats) (sym submitted.1) alone.3 in
    let index : first_after.index ≡ 0 = s.index_is ∙ alone.0 in
    let all : made_by 0 now ≡ length now = all_first (length (first_after ∷ others_after)) now below
    (λ j low high. idle_none now j 1 others_after idle receipts.1 low (omega (arith, high))) in
    let mine : made_by 0 now ≡ first_after.count = ap (λ (k : ℕ). made_by k now) (sym index) ∙ receipts.0 in
    let had : length first.list ≡ length list = ap length alone.1 in
    let size : length now ≡ length list + length s.own = omega (arith, all, mine, s.count_is, alone.2) in
    let most : length first_after.list ≤ length now = prefix_length first_after.list now seen.0 in
    let saw : first_after.list ≡ first.list ++ s.own = s.alone (omega (arith, s.longer, most, size, had)) in
    let whole : first_after.list ≡ now = prefix_all first_after.list now seen.0 (omega (arith, s.longer, size, had)) in
    let is : now ≡ list ++ s.own = sym whole ∙ (saw ∙ ap (λ (front : List Submission). front ++ s.own) alone.1) in
    (s.own, is, s.named_is, (index, whole, omega (arith, s.count_is, alone.2, size), idle))
