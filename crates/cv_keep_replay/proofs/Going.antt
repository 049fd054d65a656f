-- From record to record.
use Rattle.std.proofs.Common.{◌≡◌, ℕ, ◌+◌, ◌≤◌, List, [], ◌∷◌, ◌++◌, length, Option, Some, None, IfSome, refl, ap, sym, subst, ◌∙◌, arith, append_assoc, length-append}
use Rattle.std.proofs.lemmas.List.{append-nil, length-map}
use Rattle.std.proofs.lemmas.List.Sums.{count_by-le-length}
use Rattle.cv_core_machine.specs.Scans.{StatesEveryLayer, trees_of}
use Rattle.cv_core_machine.specs.declared.limits.Limits.{Limits}
use Rattle.cv_hub_seats.specs.Events.{DeskTrees, IsReplayed, acts_of}
use Rattle.cv_hub_seats.specs.declared.submission.Submission.{Submission}
use Rattle.cv_serve_legal.specs.Replay.{Moment}
use Rattle.cv_keep.specs.Journal.{IsGate, IsNext, IsReadAt}
use Rattle.cv_keep.specs.Records.{gate_after, records}
use Rattle.cv_keep.specs.declared.journal.Kept.{Kept}
use Rattle.cv_keep_record.specs.declared.event.KeptEvent.{KeptEvent}
use Rattle.cv_keep_replay.specs.Good.{IsFirstBad, IsGoodFrom, IsReplayOf, ListsAtMost, moment_of, start_of}
use Rattle.cv_keep_replay.specs.Kept.{index_count, is_index}
use Rattle.cv_keep_replay.specs.code.Record.{AddsRecord, IsReplayedTo, IsResumed, ListsWithin}
use Rattle.cv_keep_replay.proofs.Records.{index_both, lists_front, lists_more, replay_more, replay_none}
use Rattle.cv_keep_replay.proofs.Replies.{acts_then}

-- a list has no more events that say that a layer was indexed than events
pub index_few : (list : List Submission) → index_count (acts_of list) ≤ length list
index_few list = omega (arith, count_by-le-length is_index (acts_of list), length-map list (λ (event : Submission). event.act))

-- the record that is read next
pub record IsNextRecord (all front : List (List ℕ)) (kept : Kept) : Type 0 where
  pub later : List (List ℕ)
  pub parts : all ≡ front ++ kept.bytes ∷ later
  pub place : kept.next ≡ gate_after (front ++ kept.bytes ∷ [])

module _ (tree : DeskTrees) (limits : Limits) where
  -- before all events
  pub replayed_none : IsReplayed tree limits []
  replayed_none known = refl

  pub resumed_none : IsResumed tree limits [] (record { events = 0; generation = 0 })
  resumed_none = record { events = refl; at_most_2_63 = omega arith; generation = λ known. refl; unclaimed = λ known. refl }

  -- before the first record
  pub to_none : (file : List ℕ) → IsReplayedTo tree limits (records file) 0 0 []
  to_none file = record { front = []; later = records file; parts = refl; place = refl; count_is = refl; replay = replay_none tree limits }

  -- a gate stands there
  pub to_gate : (file : List ℕ) (at count : ℕ) (list : List Submission) → IsReplayedTo tree limits (records file) at count list → IsGate at file
  to_gate file at count list to = (to.front, to.later, to.parts, to.place)

  -- no record is left
  pub to_end : (file : List ℕ) (at count : ℕ) (list : List Submission) → IsReplayedTo tree limits (records file) at count list → IsReadAt at file None → IsReplayOf tree limits (records file) list
  to_end file at count list to read = by_later to.later to.parts (read to.front to.later to.parts to.place) where
    by_later : (later : List (List ℕ)) → records file ≡ to.front ++ later → IsNext to.front later None → IsReplayOf tree limits (records file) list
    by_later [] parts next = subst (λ (rs : List (List ℕ)). IsReplayOf tree limits rs list) (sym (parts ∙ append-nil to.front)) to.replay
    by_later (bytes ∷ later) parts next = absurd next

  to_next : (file : List ℕ) (at count : ℕ) (list : List Submission) (kept : Kept) (to : IsReplayedTo tree limits (records file) at count list) → IsReadAt at file (Some kept) → IsNextRecord (records file) to.front kept
  to_next file at count list kept to read = by_later to.later to.parts (read to.front to.later to.parts to.place) where
    by_later : (later : List (List ℕ)) → records file ≡ to.front ++ later → IsNext to.front later (Some kept) → IsNextRecord (records file) to.front kept
    by_later [] parts next = absurd next
    by_later (bytes ∷ later) parts next = record {
      later = later;
      parts = parts ∙ ap (λ (b : List ℕ). to.front ++ b ∷ later) (sym next.0);
      place = next.1 ∙ ap (λ (b : List ℕ). gate_after (to.front ++ b ∷ [])) (sym next.0);
    }

  -- it is good
  pub to_more : (file : List ℕ) (at count : ℕ) (list now : List Submission) (listings listings_now : ℕ) (kept : Kept) → IsReplayedTo tree limits (records file) at count list → IsReadAt at file (Some kept)
      → AddsRecord tree limits kept.bytes list now listings listings_now → IsReplayedTo tree limits (records file) kept.next (count + 1) now
  to_more file at count list now listings listings_now kept to read adds =
      let next = to_next file at count list kept to read in
      record {
        front = to.front ++ kept.bytes ∷ [];
        later = next.later;
        parts = next.parts ∙ sym (append_assoc to.front (kept.bytes ∷ []) next.later);
        place = next.place;
        count_is = omega (arith, to.count_is, length-append to.front (kept.bytes ∷ []));
        replay = replay_more tree limits to.front kept.bytes list now listings listings_now to.replay adds;
      }

  -- it is not good
  pub to_bad : (file : List ℕ) (at count : ℕ) (list : List Submission) (kept : Kept) → StatesEveryLayer tree → IsReplayedTo tree limits (records file) at count list → IsReadAt at file (Some kept)
      → ((others : List KeptEvent) (after : Moment) → IsGoodFrom (trees_of tree) (moment_of (trees_of tree) limits list) kept.bytes others after → ⊥)
      → IsFirstBad (trees_of tree) (start_of limits) (records file) count
  to_bad file at count list kept known to read bad =
      let next = to_next file at count list kept to read in
      record {
        front = to.front;
        bad = kept.bytes;
        later = next.later;
        parts = next.parts;
        place = to.count_is;
        events = to.replay.events;
        now = moment_of (trees_of tree) limits list;
        good = to.replay.good known;
        is_bad = bad;
      }

  -- listings up to here
  pub to_lists : (file : List ℕ) (at count : ℕ) (list : List Submission) (before now : ℕ) → IsReplayedTo tree limits (records file) at count list → now ≡ before + index_count (acts_of list) → ListsAtMost (records file) before now
  to_lists file at count list before now to listed =
      lists_front tree limits (records file) to.front to.later list before now to.parts to.replay (omega (arith, listed))

  -- and with the record that is read next
  pub to_lists_more : (file : List ℕ) (at count : ℕ) (list : List Submission) (before mid now : ℕ) (kept : Kept) → IsReplayedTo tree limits (records file) at count list → IsReadAt at file (Some kept)
      → mid ≡ before + index_count (acts_of list) → ListsWithin kept.bytes mid now → ListsAtMost (records file) before now
  to_lists_more file at count list before mid now kept to read listed within =
      let next = to_next file at count list kept to read in
      lists_more tree limits (records file) to.front next.later kept.bytes list before mid now next.parts to.replay listed within

-- what holds of a file, if it is known, and of another fact about it
pub if_both : (o : Option (List ℕ)) (A B C : List ℕ → Type 0) → IfSome o A → IfSome o B → ((b : List ℕ) → A b → B b → C b) → IfSome o C
if_both None A B C a b so = tt
if_both (Some file) A B C a b so = so file a b

pub if_any : (o : Option (List ℕ)) (A : List ℕ → Type 0) → ((b : List ℕ) → A b) → IfSome o A
if_any None A so = tt
if_any (Some file) A so = so file

-- listings after one record more
pub adds_listed : (tree : DeskTrees) (limits : Limits) (bytes : List ℕ) (list now : List Submission) (start listings listings_now : ℕ) → AddsRecord tree limits bytes list now listings listings_now
    → listings ≡ start + index_count (acts_of list) → listings_now ≡ start + index_count (acts_of now)
adds_listed tree limits bytes list now start listings listings_now adds listed =
    let whole : index_count (acts_of now) ≡ index_count (acts_of list) + index_count (acts_of adds.own) =
    ap (λ (l : List Submission). index_count (acts_of l)) adds.list_is ∙ (ap index_count (acts_then list adds.own) ∙ index_both (acts_of list) (acts_of adds.own)) in
    omega (arith, adds.listed, listed, whole)
