-- Entries in ascending order, whose events are one list after another and whose reads were answered in that list, are one history.
use Rattle.std.proofs.Common.{◌≡◌, ℕ, ◌+◌, ◌≤◌, List, [], ◌∷◌, ◌++◌, length, take, refl, ap, sym, subst, ◌∙◌, arith, append_assoc, length-append}
use Rattle.std.specs.List.{AllByRecursion}
use Rattle.std.proofs.lemmas.List.{append-nil}
use Rattle.std.proofs.Math.Seq.{take-append_seam}
use Rattle.cv_core_records.specs.declared.event.EventEntry.{EventEntry}
use Rattle.cv_core_records.specs.declared.read.ReadEntry.{ReadEntry}
use Rattle.cv_transcript.specs.Order.{AreAscending, Precedes, events_of, reads_of}
use Rattle.cv_transcript.specs.declared.entry.Entry.{Entry}
use Rattle.cv_transcript.specs.declared.entry.Entry.TheVariants as entry
use Rattle.cv_transcript.proofs.OrderLemmas.{event_head}
use Rattle.cv_base.proofs.AllItems.{all_weaker}
use Rattle.cv_core_machine.specs.History.{event_entry, replies, state_after}
use Rattle.cv_core_machine.specs.Scans.{Trees}
use Rattle.cv_core_machine.specs.State.{State, opening}
use Rattle.cv_core_machine.specs.Step.{step}
use Rattle.cv_core_machine.specs.declared.limits.Limits.{Limits}
use Rattle.cv_serve_legal.specs.Replay.{IsEvent, IsRead, Moment, Replays, moment_after}
use Rattle.cv_serve_legal.specs.declared.parsed_line.Requested.{Requested}
use Rattle.cv_serve_lanes.specs.Events.{acts_of, entries_from, replies_of, state_of}
use Rattle.cv_serve_lanes.specs.code.Own.{Submission}
use Rattle.cv_serve_lanes.proofs.Replays.{state_more}
use Rattle.cv_serve_round.specs.Round.{moment_of}
use Rattle.cv_serve_round.specs.code.Parts.{IsSeen, IsSourced}

-- ---- entries in order

-- reads after an event have it before them
reads_follow : (event : EventEntry) (es : List Entry) → AllByRecursion (Precedes (entry.Event event)) es → AllByRecursion (λ read. event.number ≤ read.front) (reads_of es)
reads_follow event [] h = tt
reads_follow event (entry.Refused line error ∷ es) h = absurd h.0
reads_follow event (entry.Event later ∷ es) h = reads_follow event es h.1
reads_follow event (entry.Read read ∷ es) h = (h.0, reads_follow event es h.1)

-- ---- one event

-- the reply to an event of a list is the machine's after those before it
reply_at : (trees : Trees) (state : State) (before : List Submission) (event : Submission) (later : List Submission)
    → replies_of (before ++ event ∷ later) ≡ replies trees state (acts_of (before ++ event ∷ later)) → event.reply ≡ (step trees (state_after trees state (acts_of before)) event.act).1
reply_at trees state [] event later h = cc h
reply_at trees state (first ∷ before) event later h = reply_at trees (step trees state first.act).0 before event later (cc h)

length_more : (list : List Submission) (event : Submission) → length (list ++ event ∷ []) ≡ length list + 1
length_more list event = length-append list (event ∷ [])

abbrev moment : ℕ → State → Moment
moment count state = record { count = count; state = state }

-- one more event leads to the next moment
moment_more : (trees : Trees) (limits : Limits) (list : List Submission) (event : Submission) → moment_of trees limits (list ++ event ∷ []) ≡ moment_after trees (moment_of trees limits list) event.act
moment_more trees limits list event =
    ap (λ count. moment count (state_of trees limits (list ++ event ∷ []))) (length_more list event)
    ∙ ap (λ state. moment (length list + 1) state) (state_more trees limits list event)

-- the next event of a list, at its place
event_next : (trees : Trees) (limits : Limits) (requested : List Requested) (before : List Submission) (event : Submission) → IsSourced requested event
    → event.reply ≡ (step trees (state_of trees limits before) event.act).1
    → IsEvent trees requested (moment_of trees limits before) (event_entry (length before + 1) event.by event.act event.reply) (moment_of trees limits (before ++ event ∷ []))
event_next trees limits requested before event source answered = record {
  act = event.act;
  source = source;
  is = ap (λ reply. event_entry (length before + 1) event.by event.act reply) answered;
  next = moment_more trees limits before event;
}

-- ---- one read

-- a read between the events of one list and those of another was answered after the former
front_is : (before later : List Submission) (read : ReadEntry) (es : List Entry) → AllByRecursion (Precedes (entry.Read read)) es → events_of es ≡ entries_from (length before + 1) later
    → length before ≤ read.front → read.front ≤ length (before ++ later) → read.front ≡ length before
front_is before [] read es h is low high = let none = length-append before [] in omega (arith, low, high, none)
front_is before (event ∷ later) read es h is low high =
    let next = event_head (Precedes (entry.Read read)) (event_entry (length before + 1) event.by event.act event.reply) (entries_from (length before + 1 + 1) later) es h is in
    omega (arith, low, next)

read_next : (trees : Trees) (limits : Limits) (requested : List Requested) (low : ℕ) (before later : List Submission) (read : ReadEntry) → read.front ≡ length before
    → IsSeen trees limits (before ++ later) low requested read → IsRead trees requested (moment_of trees limits before) read
read_next trees limits requested low before later read front seen =
    let same : take read.front (before ++ later) ≡ before = ap (λ n. take n (before ++ later)) front ∙ take-append_seam before later in
    record { act = seen.act; source = seen.source; front = front; is = rw (← same) (seen.is) }

-- ---- all entries

history : (trees : Trees) (limits : Limits) (requested : List Requested) (whole : List Submission) (low : ℕ) (others : List Entry) (before later : List Submission) → whole ≡ before ++ later
    → AreAscending others → events_of others ≡ entries_from (length before + 1) later → replies_of whole ≡ replies trees (opening limits) (acts_of whole) → AllByRecursion (IsSourced requested) later
    → AllByRecursion (λ read. length before ≤ read.front) (reads_of others) → AllByRecursion (IsSeen trees limits whole low requested) (reads_of others)
    → Replays trees requested (moment_of trees limits before) others (moment_of trees limits whole)
history trees limits requested whole low [] before [] parts order events replied sourced fronts seen = ap (moment_of trees limits) (parts ∙ append-nil before)
history trees limits requested whole low [] before (event ∷ later) parts order events replied sourced fronts seen = absurd (cc events)
history trees limits requested whole low (entry.Refused line error ∷ others) before later parts order events replied sourced fronts seen = absurd order.0
history trees limits requested whole low (entry.Event first ∷ others) before [] parts order events replied sourced fronts seen = absurd (cc events)
history trees limits requested whole low (entry.Event first ∷ others) before (event ∷ later) parts order events replied sourced fronts seen =
    let same : first ≡ event_entry (length before + 1) event.by event.act event.reply = cc events in
    let rest : events_of others ≡ entries_from (length before + 1 + 1) later = cc events in
    let size = length_more before event in
    let number : length (before ++ event ∷ []) ≡ first.number = size ∙ sym (ap (λ e. e.number) same) in
    let answered = reply_at trees (opening limits) before event later (subst (λ list. replies_of list ≡ replies trees (opening limits) (acts_of list)) parts replied) in (
      moment_of trees limits (before ++ event ∷ []),
      subst (λ e. IsEvent trees requested (moment_of trees limits before) e (moment_of trees limits (before ++ event ∷ []))) (sym same) (event_next trees limits requested before event sourced.0 answered),
      history trees limits requested whole low others (before ++ event ∷ []) later (parts ∙ sym (append_assoc before (event ∷ []) later)) order.2
          (rest ∙ ap (λ n. entries_from (n + 1) later) (sym size)) replied sourced.1
          (subst (λ n. AllByRecursion (λ (read : ReadEntry). n ≤ read.front) (reads_of others)) (sym number) (reads_follow first others order.1)) seen,
    )
history trees limits requested whole low (entry.Read read ∷ others) before later parts order events replied sourced fronts seen =
    let high = seen.0.high in
    let size : length whole ≡ length (before ++ later) = ap length parts in
    let front = front_is before later read others order.1 events fronts.0 (omega (arith, high, size)) in (
      read_next trees limits requested low before later read front (subst (λ list. IsSeen trees limits list low requested read) parts seen.0),
      history trees limits requested whole low others before later parts order.2 events replied sourced fronts.1 seen.1,
    )

-- the entries of a round, from the moment before its events to the one after them
pub replays : (trees : Trees) (limits : Limits) (before later : List Submission) (requested : List Requested) (others : List Entry) → AreAscending others → events_of others ≡ entries_from (length before + 1) later
    → replies_of (before ++ later) ≡ replies trees (opening limits) (acts_of (before ++ later)) → AllByRecursion (IsSourced requested) later
    → AllByRecursion (IsSeen trees limits (before ++ later) (length before) requested) (reads_of others)
    → Replays trees requested (moment_of trees limits before) others (moment_of trees limits (before ++ later))
replays trees limits before later requested others order events replied sourced seen =
    history trees limits requested (before ++ later) (length before) others before later refl order events replied sourced
    (all_weaker (IsSeen trees limits (before ++ later) (length before) requested) (λ (read : ReadEntry). length before ≤ read.front) (reads_of others) (λ read told. told.low) seen) seen
