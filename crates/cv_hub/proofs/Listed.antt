-- The entries since the last drain.
use Rattle.std.proofs.Common.{◌≡◌, ℕ, ◌+◌, List, [], ◌∷◌, ◌++◌, drop, length, ap, sym, ◌∙◌, arith, length-append}
use Rattle.std.proofs.lemmas.List.{drop-append-le, drop_all, length-drop}
use Rattle.cv_core_records.specs.declared.event.EventEntry.{EventEntry}
use Rattle.cv_core_machine.specs.History.{event_entry}
use Rattle.cv_hub_seats.specs.Events.{entries_from}
use Rattle.cv_hub.specs.code.Locked.{IsListed}
use Rattle.cv_hub_seats.specs.declared.submission.Submission.{Submission}

-- the entries of one more event stand after the others
entries_more : (number : ℕ) (list : List Submission) (event : Submission) → entries_from number (list ++ event ∷ []) ≡ entries_from number list ++ event_entry (number + length list) event.by event.act event.reply ∷ []
entries_more number [] event = let e : number ≡ number + 0 = omega arith in ap (λ (n : ℕ). event_entry n event.by event.act event.reply ∷ []) e
entries_more number (first ∷ list) event =
    let here = entries_more (number + 1) list event in
    let e : (number + 1) + length list ≡ number + length {A = Submission} (first ∷ list) = omega arith in
    ap (λ rest. event_entry number first.by first.act first.reply ∷ rest) (here ∙ ap (λ (n : ℕ). entries_from (number + 1) list ++ event_entry n event.by event.act event.reply ∷ []) e)

-- one more event with its entry
pub listed_more : (list : List Submission) (taken : ℕ) (entries : List EventEntry) (total : ℕ) (event : Submission) (entry : EventEntry) → IsListed list taken entries total
    → entry ≡ event_entry (length list + 1) event.by event.act event.reply → IsListed (list ++ event ∷ []) taken (entries ++ entry ∷ []) (total + 1)
listed_more list taken entries total event entry listed is =
    let few = listed.taken_before in
    let place : (taken + 1) + length (drop taken list) ≡ length list + 1 = omega (arith, length-drop taken list, few) in
    let all : entries_from (taken + 1) (drop taken (list ++ event ∷ [])) ≡ entries_from (taken + 1) (drop taken list) ++ event_entry (length list + 1) event.by event.act event.reply ∷ []
    = ap (entries_from (taken + 1)) (drop-append-le taken list (event ∷ []) few) ∙ (entries_more (taken + 1) (drop taken list) event ∙ ap (λ (n : ℕ). entries_from (taken + 1) (drop taken list) ++ event_entry n event.by event.act event.reply ∷ []) place) in
    record {
      entries_are = rw (listed.entries_are, is) (sym all);
      taken_before = omega (arith, few, length-append list (event ∷ []));
      total_is = omega (arith, listed.total_is, length-append list (event ∷ []));
    }

-- after a taking nothing remains
pub listed_none : (list : List Submission) (taken : ℕ) (entries : List EventEntry) (total : ℕ) → IsListed list taken entries total → IsListed list (length list) [] total
listed_none list taken entries total listed = record {
  entries_are = sym (ap (entries_from (length list + 1)) (drop_all (length list) list (omega arith)));
  taken_before = omega arith;
  total_is = listed.total_is;
}
