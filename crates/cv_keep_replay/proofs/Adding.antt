-- What a record adds to a hub whose other seats submit nothing.
use Rattle.std.proofs.Common.{◌≡◌, inl, inr, ℕ, ◌+◌, ◌≤◌, ◌<◌, ◌^◌, Bool, true, false, not, List, ◌++◌, drop, length, map, refl, ap, sym, subst, ◌∙◌, arith, length-append}
use Rattle.std.proofs.lemmas.List.{length-map}
use Rattle.cv_core_records.specs.declared.event.EventEntry.{EventEntry}
use Rattle.cv_core_machine.specs.Scans.{StatesEveryLayer, trees_of}
use Rattle.cv_core_machine.specs.declared.event.MachineEvent.{MachineEvent}
use Rattle.cv_core_machine.specs.declared.limits.Limits.{Limits}
use Rattle.cv_hub_seats.specs.Events.{DeskTrees, IsReplayed, entries_from, state_of}
use Rattle.cv_hub_seats.specs.declared.submission.Submission.{Submission}
use Rattle.cv_serve_legal.specs.Replay.{Moment}
use Rattle.cv_keep_record.specs.Record.{AreNumberedFrom, IsRecord}
use Rattle.cv_keep_record.specs.declared.event.KeptEvent.{KeptEvent}
use Rattle.cv_keep_replay.specs.Claims.{has_claim}
use Rattle.cv_keep_replay.specs.Good.{IsGoodFrom, moment_of}
use Rattle.cv_keep_replay.specs.Kept.{IsListOf, index_count}
use Rattle.cv_keep_replay.specs.code.Counts.{generation_after, leaves_claims}
use Rattle.cv_keep_replay.specs.code.Ready.{IsReadyRecord, Named, acts_named}
use Rattle.cv_keep_replay.specs.code.Record.{AddsRecord, IsResumed, ListsWithin}
use Rattle.cv_keep_replay.specs.declared.resumed.Resumed.{Resumed}
use Rattle.cv_keep_replay.proofs.Alone.{named_in}
use Rattle.cv_keep_replay.proofs.Records.{acts_length, acts_submitted, list_submitted, record_bad, record_good}
use Rattle.cv_keep_replay.proofs.Replies.{TellsGeneration, entries_got, got_claims, got_generation}

-- a list got these events, after a moment of a start
pub record Got (tree : DeskTrees) (limits : Limits) (list now : List Submission) (entries : List EventEntry) (submitted : List Named) : Type 0 where
  pub own : List Submission
  pub list_is : now ≡ list ++ own
  pub named_is : map named_in own ≡ submitted
  pub before : IsReplayed tree limits list
  pub after : IsReplayed tree limits now
  pub entries_are : entries ≡ entries_from (length list + 1) (drop (length list) now)

module _ (tree : DeskTrees) (limits : Limits) (list now : List Submission) (entries : List EventEntry) (submitted : List Named) (got : Got tree limits list now entries submitted) where
  after_own : IsReplayed tree limits (list ++ got.own)
  after_own = subst (IsReplayed tree limits) got.list_is got.after

  own_entries : entries ≡ entries_from (length list + 1) got.own
  own_entries = entries_got list got.own now entries got.list_is got.entries_are

  claims_now : StatesEveryLayer tree → has_claim (state_of (trees_of tree) limits list).layers ≡ false → has_claim (state_of (trees_of tree) limits (list ++ got.own)).layers ≡ leaves_claims entries
  claims_now known none = got_claims tree limits list got.own got.before after_own known entries own_entries none

  -- the record is good
  pub adds_record : (bytes : List ℕ) (old : Resumed) (listings listings_now : ℕ) → IsResumed tree limits list old → IsReadyRecord old.events bytes submitted → leaves_claims entries ≡ false
      → listings_now ≡ listings + index_count (acts_named submitted) → AddsRecord tree limits bytes list now listings listings_now
  adds_record bytes old listings listings_now resumed ready none listed =
      let own_is : IsListOf ready.events got.own = list_submitted ready.events got.own submitted ready.are got.named_is in
      let numbers : AreNumberedFrom (length list) ready.events = subst (λ (n : ℕ). AreNumberedFrom n ready.events) resumed.events ready.numbers in
      record {
        events = ready.events;
        format = ready.format;
        own = got.own;
        list_is = got.list_is;
        own_is = own_is;
        good = λ known. subst (λ (l : List Submission). IsGoodFrom (trees_of tree) (moment_of (trees_of tree) limits list) bytes ready.events (moment_of (trees_of tree) limits l)) (sym got.list_is)
            (record_good (trees_of tree) limits list got.own bytes ready.events ready.format numbers own_is.acts (claims_now known (resumed.unclaimed known) ∙ none));
        listed = listed ∙ ap (λ (l : List MachineEvent). listings + index_count l) (ap acts_named (sym got.named_is) ∙ acts_submitted got.own);
      }

  -- the record leaves a claim
  pub adds_bad : (bytes : List ℕ) (old : Resumed) → ((a b : List KeptEvent) → IsRecord bytes a → IsRecord bytes b → a ≡ b) → IsResumed tree limits list old → IsReadyRecord old.events bytes submitted
      → leaves_claims entries ≡ true → StatesEveryLayer tree → (others : List KeptEvent) (after : Moment) → IsGoodFrom (trees_of tree) (moment_of (trees_of tree) limits list) bytes others after → ⊥
  adds_bad bytes old unique resumed ready some known =
      record_bad (trees_of tree) limits list got.own bytes ready.events unique ready.format (list_submitted ready.events got.own submitted ready.are got.named_is).acts
      (claims_now known (resumed.unclaimed known) ∙ some)

  -- where it goes on
  pub adds_resumed : (law : TellsGeneration) (old new : Resumed) → IsResumed tree limits list old → new.events ≡ length now → new.events ≤ 2 ^ 63 → new.generation ≡ generation_after old.generation entries → leaves_claims entries ≡ false
      → IsResumed tree limits now new
  adds_resumed law old new resumed events few generation none =
      record {
        events = events;
        at_most_2_63 = few;
        generation = λ known. generation
            ∙ (got_generation tree limits list got.own got.before after_own known law entries old.generation own_entries (resumed.generation known)
            ∙ ap (λ (l : List Submission). (state_of (trees_of tree) limits l).generation) (sym got.list_is));
        unclaimed = λ known. ap (λ (l : List Submission). has_claim (state_of (trees_of tree) limits l).layers) got.list_is ∙ (claims_now known (resumed.unclaimed known) ∙ none);
      }

-- it has an event
pub adds_some : (tree : DeskTrees) (limits : Limits) (bytes : List ℕ) (list now : List Submission) (listings listings_now : ℕ) → AddsRecord tree limits bytes list now listings listings_now → length list < length now
adds_some tree limits bytes list now listings listings_now adds =
    let whole : length now ≡ length list + length adds.own = ap length adds.list_is ∙ length-append list adds.own in
    let size : length adds.own ≡ length adds.events = sym (length-map adds.own (λ (event : Submission). event.act)) ∙ acts_length adds.events _ adds.own_is.acts in
    omega (arith, whole, size, adds.format.some)

-- listings for a record that is ready
pub lists_ready : (bytes : List ℕ) (count : ℕ) (submitted : List Named) (before now : ℕ) → IsReadyRecord count bytes submitted → now ≤ before + index_count (acts_named submitted) → ListsWithin bytes before now
lists_ready bytes count submitted before now ready listed = inr (ready.events, acts_named submitted, ready.format, ready.are.acts, listed)

pub lists_none : (bytes : List ℕ) (before : ℕ) → ListsWithin bytes before before
lists_none bytes before = inl (omega arith)

-- a test that does not hold, and one that does
pub holds_not : (test : Bool) → not test ≡ true → test ≡ false
holds_not true h = absurd (cc h)
holds_not false h = refl

pub not_holds : (test : Bool) → not test ≡ false → test ≡ true
not_holds true h = refl
not_holds false h = absurd (cc h)
