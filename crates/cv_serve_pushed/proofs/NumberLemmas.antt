-- The notifications that are new after a round have greater numbers than all that stood before it.
use Rattle.std.specs.Prelude.{◌≡◌, ℕ, ◌+◌, ◌≤◌, ◌<◌, ◌⊎◌, All, Bool, true, false, nat_lt, List, [], ◌∷◌, length, Option, Some, None}
use Rattle.std.specs.BTreeMap.{is_at}
use Rattle.std.specs.List.{AllByRecursion, Contains}
use Rattle.std.specs.Map.{keys_of}
use Rattle.std.specs.Ordering.{nat_cmp}
use Rattle.std.proofs.Common.{arith, inl, inr, subst, sym}
use Rattle.std.proofs.lemmas.List.Elements.{All-contains_itself, All-from_recursion, All-weaker, recursion_from_All}
use Rattle.cv_base.specs.declared.finding.Row.{Row}
use Rattle.cv_base.specs.declared.manifest.Manifest.{Manifest}
use Rattle.cv_base.proofs.Same.{same_self}
use Rattle.cv_core_records.specs.declared.reply.Reply.{Reply}
use Rattle.cv_core_records.specs.declared.reply.Reply.TheVariants as reply
use Rattle.cv_transcript.specs.declared.entry.Entry.{Entry}
use Rattle.cv_transcript.specs.declared.entry.Entry.TheVariants as entry
use Rattle.cv_core_machine.specs.Laws.{IsConsistent, is_of_feed}
use Rattle.cv_core_machine.specs.Layers.{is_claimed_by, is_named}
use Rattle.cv_core_machine.specs.Rows.{rows_of}
use Rattle.cv_core_machine.specs.Scans.{Trees}
use Rattle.cv_core_machine.specs.State.{Feeds, Notifications, State, notification_at, value_at, with_value, without_value}
use Rattle.cv_core_machine.specs.Step.{ack_at, claim_at, drop_at, entered, finish, image_of, notified, register_at, step, updated}
use Rattle.cv_core_machine.specs.declared.event.MachineEvent.{MachineEvent}
use Rattle.cv_core_machine.specs.declared.event.MachineEvent.TheVariants as act
use Rattle.cv_core_machine.specs.declared.image.Image.{Image}
use Rattle.cv_core_machine.specs.declared.status.Status.{Status}
use Rattle.cv_core_machine.specs.declared.status.Status.TheVariants as status
use Rattle.cv_core_machine.proofs.Consistent.{step_consistent}
use Rattle.cv_core_machine.proofs.Entries.{all_cut, all_last}
use Rattle.cv_core_machine.proofs.FeedEvents.{either}
use Rattle.cv_core_machine.proofs.FeedLemmas.{feed_cases}
use Rattle.cv_serve_legal.specs.ParsedLine.{requests}
use Rattle.cv_serve_legal.specs.Replay.{Moment, Replays}
use Rattle.cv_serve_legal.specs.Round.{IsLegalRound}
use Rattle.cv_serve_legal.specs.Rounds.{Round}
use Rattle.cv_serve_legal.specs.declared.parsed_line.Requested.{Requested}

-- ---- one event

-- what holds of the numbers that stand, and of each number above one that the generation is not below
module _ (Q : ℕ → Type 0) (low : ℕ) (above : (n : ℕ) → low < n → Q n) where
  abbrev Has : State → Type 0
  Has s = AllByRecursion Q (keys_of s.notifications) × (low ≤ s.generation)

  either_has : (b : Bool) (x y : State × Reply) → Has x.0 → Has y.0 → Has (either b x y).0
  either_has true x y h k = h
  either_has false x y h k = k

  register_has : (found : Option Image) (s : State) (m : Manifest) → Has s → Has (register_at found s m).0
  register_has (Some kept) s m h = h
  register_has None s m h =
      either_has (nat_lt (length s.images) s.limits.images)
      (record s { images = with_value s.images m.hash (image_of m); layers = entered s.layers m.layers }, reply.Registered) (s, reply.TooManyImages) h h

  drop_has : (found : Option Image) (s : State) (image : List ℕ) → Has s → Has (drop_at found s image).0
  drop_has None s image h = h
  drop_has (Some kept) s image h = h

  claim_has : (found : Option Status) (s : State) (layer : List ℕ) (worker : ℕ) → Has s → Has (claim_at found s layer worker).0
  claim_has None s layer worker h = h
  claim_has (Some status.Queued) s layer worker h = h
  claim_has (Some (status.Claimed other)) s layer worker h = h
  claim_has (Some status.Indexed) s layer worker h = h

  finish_has : (s : State) (layer : List ℕ) (worker : ℕ) (next : Status) (answer : Reply) → Has s → Has (finish s layer worker next answer).0
  finish_has s layer worker next answer h =
      let entry : State × Reply = (record s { layers = with_value s.layers layer next }, answer) in
      let discard : State × Reply = (record s { layers = without_value s.layers layer }, reply.Discarded) in
      either_has (is_claimed_by worker (value_at s.layers layer)) (either (is_named s.images layer) entry discard) (s, reply.NotClaimed)
      (either_has (is_named s.images layer) entry discard h h) h

  ack_has : (found : Option (List Row)) (s : State) (number : ℕ) → Has s → Has (ack_at found s number).0
  ack_has None s number h = h
  ack_has (Some rows) s number h = (all_cut Q (is_at (nat_cmp number)) s.notifications h.0, h.1)

  notified_has : (ns : Notifications) (n : ℕ) (rows : List Row) → low ≤ n → AllByRecursion Q (keys_of ns) → AllByRecursion Q (keys_of (notified ns (n + 1) rows))
  notified_has ns n [] within h = h
  notified_has ns n (row ∷ rows) within h = all_last Q ns (n + 1) (row ∷ rows) h (above (n + 1) (omega (arith, within)))

  updated_has : (s : State) (feed : List ℕ) (feeds : Feeds) (rows : List Row) → Has s → Has (updated s feed feeds rows).0
  updated_has s feed feeds rows h = (notified_has s.notifications s.generation rows h.1 h.0, omega (arith, h.1))

  aside_has : (trees : Trees) (s : State) (a : MachineEvent) → ((feed : List ℕ) → is_of_feed feed a ≡ false) → Has s → Has (step trees s a).0
  aside_has trees s (act.Register manifest) none h = register_has (value_at s.images manifest.hash) s manifest h
  aside_has trees s (act.DropImage image) none h = drop_has (value_at s.images image) s image h
  aside_has trees s (act.Claim layer worker) none h = claim_has (value_at s.layers layer) s layer worker h
  aside_has trees s (act.Indexed layer worker) none h = finish_has s layer worker status.Indexed reply.Entered h
  aside_has trees s (act.Fault layer worker) none h = finish_has s layer worker status.Queued reply.Requeued h
  aside_has trees s (act.Memory layer worker) none h = finish_has s layer worker status.Queued reply.Requeued h
  aside_has trees s (act.Update feed records) none h = absurd (cc (same_self feed, none feed))
  aside_has trees s (act.Patch feed base records remove) none h = absurd (cc (same_self feed, none feed))
  aside_has trees s (act.Ack number) none h = ack_has (notification_at s.notifications number) s number h

  step_has : (trees : Trees) (s : State) (a : MachineEvent) → Has s → Has (step trees s a).0
  step_has trees s a h =
      feed_cases (λ _ end. Has end.0) trees s (λ b aside none. aside_has trees s b none h) (λ b answer plain. h)
      (λ b feed records named are. updated_has s feed (with_value s.feeds feed records) (rows_of trees s (with_value s.feeds feed records)) h) a

-- ---- the entries of a round

-- what each event keeps, entries keep
replayed : (P : State → Type 0) (trees : Trees) → ((s : State) (a : MachineEvent) → P s → P (step trees s a).0) → (requested : List Requested) (before : Moment) (entries : List Entry)
    (after : Moment) → Replays trees requested before entries after → P before.state → P after.state
replayed P trees keeps requested before [] after h so = subst (λ (m : Moment). P m.state) (sym h) so
replayed P trees keeps requested before (entry.Refused line error ∷ entries) after h so = absurd h
replayed P trees keeps requested before (entry.Event event ∷ entries) after h so =
    replayed P trees keeps requested h.0 entries after h.2 (subst (λ (m : Moment). P m.state) (sym h.1.next) (keeps before.state h.1.act so))
replayed P trees keeps requested before (entry.Read read ∷ entries) after h so = replayed P trees keeps requested before entries after h.1 so

module _ (trees : Trees) (workers : ℕ) (before : Moment) (lines : Round) (entries : List Entry) (after : Moment) (legal : IsLegalRound trees workers before lines entries after) where
  -- after a round the state is consistent if it was before
  pub round_consistent : IsConsistent before.state → IsConsistent after.state
  round_consistent so = replayed IsConsistent trees (step_consistent trees) (requests legal.taken) before legal.others after legal.replays so

  -- the last number that a notification was given before
  abbrev low : ℕ
  low = before.state.generation

  -- a number stood before, or is above that one
  abbrev StoodOrNew : ℕ → Type 0
  StoodOrNew n = Contains (keys_of before.state.notifications) n ⊎ (low < n)

  numbered : Has StoodOrNew low (λ n more. inr more) after.state
  numbered =
      let stood = keys_of before.state.notifications in
      let first : AllByRecursion StoodOrNew stood = recursion_from_All StoodOrNew stood (All-weaker (Contains stood) StoodOrNew (λ n there. inl there) stood (All-contains_itself stood)) in
      replayed (Has StoodOrNew low (λ n more. inr more)) trees (step_has StoodOrNew low (λ n more. inr more) trees) (requests legal.taken) before legal.others after legal.replays
      (first, omega arith)

  -- each number that stands after a round stood before, or is new
  pub round_numbers : All StoodOrNew (keys_of after.state.notifications)
  round_numbers = All-from_recursion StoodOrNew (keys_of after.state.notifications) numbered.0

  -- the generation does not fall
  pub round_generation : before.state.generation ≤ after.state.generation
  round_generation = numbered.1
