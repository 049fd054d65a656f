-- One more record after others.
use Rattle.std.proofs.Common.{◌≡◌, inl, inr, ℕ, ◌+◌, ◌≤◌, true, false, List, [], ◌∷◌, ◌++◌, length, map, Option, Some, refl, ap, sym, subst, ◌∙◌, arith, append_assoc, length-append}
use Rattle.std.proofs.lemmas.List.{append-nil, length-map, map-append}
use Rattle.std.proofs.lemmas.List.Sums.{sum_by-append}
use Rattle.cv_core_records.specs.declared.event.By.{By}
use Rattle.cv_core_machine.specs.History.{state_after}
use Rattle.cv_core_machine.specs.Scans.{Trees, trees_of}
use Rattle.cv_core_machine.specs.State.{State}
use Rattle.cv_core_machine.specs.declared.event.MachineEvent.{MachineEvent}
use Rattle.cv_core_machine.specs.declared.limits.Limits.{Limits}
use Rattle.cv_hub_seats.specs.Events.{DeskTrees, acts_of, state_of}
use Rattle.cv_hub_seats.specs.declared.submission.Submission.{Submission}
use Rattle.cv_serve_legal.specs.Replay.{Moment}
use Rattle.cv_keep_record.specs.Record.{AreNumberedFrom, IsRecord}
use Rattle.cv_keep_record.specs.declared.event.KeptEvent.{KeptEvent}
use Rattle.cv_keep_replay.specs.Claims.{has_claim}
use Rattle.cv_keep_replay.specs.Good.{AreEventsOf, AreGoodFrom, IsGoodFrom, IsReplayOf, ListsAtMost, moment_of, moment_then, start_of}
use Rattle.cv_keep_replay.specs.Kept.{HaveActs, IsListOf, by_of, index_count, kept_act}
use Rattle.cv_keep_replay.specs.code.Ready.{AreFor, Named, acts_named}
use Rattle.cv_keep_replay.specs.code.Record.{AddsRecord, ListsWithin}
use Rattle.cv_keep_replay.proofs.Alone.{named_in}
use Rattle.cv_keep_replay.proofs.Replies.{acts_then, state_got}

-- ---- events of the machine

abbrev pub act_in : KeptEvent → Option MachineEvent
act_in event = kept_act event.by

abbrev pub by_in : KeptEvent → By
by_in event = by_of event.by

same_acts : (a b : List MachineEvent) → map Some a ≡ map Some b → a ≡ b
same_acts [] [] h = refl
same_acts [] (y ∷ b) h = absurd (cc h)
same_acts (x ∷ a) [] h = absurd (cc h)
same_acts (x ∷ a) (y ∷ b) h = let rest = same_acts a b (cc h) in let first : x ≡ y = cc h in cc (first, rest)

-- kept events are one list of events of the machine at most
pub acts_unique : (events : List KeptEvent) (a b : List MachineEvent) → HaveActs events a → HaveActs events b → a ≡ b
acts_unique events a b p q = same_acts a b (sym p ∙ q)

pub acts_both : (events more : List KeptEvent) (a b : List MachineEvent) → HaveActs events a → HaveActs more b → HaveActs (events ++ more) (a ++ b)
acts_both events more a b p q =
    map-append act_in events more
    ∙ (ap (λ (l : List (Option MachineEvent)). l ++ map act_in more) p ∙ (ap (λ (l : List (Option MachineEvent)). map Some a ++ l) q ∙ sym (map-append Some a b)))

-- as many as there are
pub acts_length : (events : List KeptEvent) (a : List MachineEvent) → HaveActs events a → length a ≡ length events
acts_length events a p = sym (length-map a Some) ∙ (ap length (sym p) ∙ length-map events act_in)

pub index_both : (a b : List MachineEvent) → index_count (a ++ b) ≡ index_count a + index_count b
index_both a b = sum_by-append _ a b

-- ---- a list of a hub

pub list_none : IsListOf [] []
list_none = record { acts = refl; bys = refl }

pub list_both : (events more : List KeptEvent) (list own : List Submission) → IsListOf events list → IsListOf more own → IsListOf (events ++ more) (list ++ own)
list_both events more list own p q = record {
  acts = acts_both events more (acts_of list) (acts_of own) p.acts q.acts ∙ ap (map Some) (sym (acts_then list own));
  bys = map-append by_in events more
      ∙ (ap (λ (l : List By). l ++ map by_in more) p.bys
      ∙ (ap (λ (l : List By). map (λ (event : Submission). event.by) list ++ l) q.bys ∙ sym (map-append (λ (event : Submission). event.by) list own)));
}

pub acts_submitted : (own : List Submission) → acts_named (map named_in own) ≡ acts_of own
acts_submitted [] = refl
acts_submitted (event ∷ own) = ap (λ (l : List MachineEvent). event.act ∷ l) (acts_submitted own)

bys_submitted : (own : List Submission) → map (λ (one : Named). one.who) (map named_in own) ≡ map (λ (event : Submission). event.by) own
bys_submitted [] = refl
bys_submitted (event ∷ own) = ap (λ (l : List By). event.by ∷ l) (bys_submitted own)

-- what was submitted for kept events
pub list_submitted : (events : List KeptEvent) (own : List Submission) (list : List Named) → AreFor events list → map named_in own ≡ list → IsListOf events own
list_submitted events own list are is = record {
  acts = are.acts ∙ ap (map Some) (ap acts_named (sym is) ∙ acts_submitted own);
  bys = are.bys ∙ (ap (map (λ (one : Named). one.who)) (sym is) ∙ bys_submitted own);
}

-- ---- one record

moment_got : (trees : Trees) (limits : Limits) (list own : List Submission) → moment_of trees limits (list ++ own) ≡ moment_then trees (moment_of trees limits list) (acts_of own)
moment_got trees limits list own =
    let count : length (list ++ own) ≡ length list + length (acts_of own) = length-append list own ∙ ap (λ (n : ℕ). length list + n) (sym (length-map own (λ (event : Submission). event.act))) in
    ap (λ (n : ℕ). moment_at n (state_of trees limits (list ++ own))) count
    ∙ ap (moment_at (length list + length (acts_of own))) (state_got trees limits list own) where
      moment_at : ℕ → State → Moment
      moment_at count state = record { count = count; state = state }

-- a record is good, if no layer is Claimed after its events
pub record_good : (trees : Trees) (limits : Limits) (list own : List Submission) (bytes : List ℕ) (events : List KeptEvent) → IsRecord bytes events → AreNumberedFrom (length list) events → HaveActs events (acts_of own)
    → has_claim (state_of trees limits (list ++ own)).layers ≡ false → IsGoodFrom trees (moment_of trees limits list) bytes events (moment_of trees limits (list ++ own))
record_good trees limits list own bytes events format numbers acts none = record {
  format = format;
  numbers = numbers;
  acts = acts_of own;
  acts_are = acts;
  after_is = moment_got trees limits list own;
  unclaimed = none;
}

-- and else it is not
pub record_bad : (trees : Trees) (limits : Limits) (list own : List Submission) (bytes : List ℕ) (events : List KeptEvent) → ((a b : List KeptEvent) → IsRecord bytes a → IsRecord bytes b → a ≡ b)
    → IsRecord bytes events → HaveActs events (acts_of own) → has_claim (state_of trees limits (list ++ own)).layers ≡ true
    → (others : List KeptEvent) (after : Moment) → IsGoodFrom trees (moment_of trees limits list) bytes others after → ⊥
record_bad trees limits list own bytes events unique format acts some others after good =
    let same : others ≡ events = unique others events good.format format in
    let here : HaveActs events good.acts = subst (λ (l : List KeptEvent). HaveActs l good.acts) same good.acts_are in
    let all : good.acts ≡ acts_of own = acts_unique events good.acts (acts_of own) here acts in
    let state : after.state ≡ state_of trees limits (list ++ own) =
    ap (λ (m : Moment). m.state) good.after_is ∙ (ap (state_after trees (state_of trees limits list)) all ∙ sym (state_got trees limits list own)) in
    let claimed : has_claim after.state.layers ≡ true = ap (λ (s : State). has_claim s.layers) state ∙ some in
    absurd (cc (claimed, good.unclaimed))

-- ---- records

pub good_more : (trees : Trees) (start mid after : Moment) (front : List (List ℕ)) (bytes : List ℕ) (events more : List KeptEvent) → AreGoodFrom trees start front events mid → IsGoodFrom trees mid bytes more after
    → AreGoodFrom trees start (front ++ bytes ∷ []) (events ++ more) after
good_more trees start mid after [] bytes events more front good = (
  after,
  more,
  [],
  ap (λ (l : List KeptEvent). l ++ more) front.0 ∙ sym (append-nil more),
  subst (λ (m : Moment). IsGoodFrom trees m bytes more after) front.1 good,
  (refl, refl),
)
good_more trees start mid after (first ∷ front) bytes events more goods good = (
  goods.0,
  goods.1,
  goods.2 ++ more,
  ap (λ (l : List KeptEvent). l ++ more) goods.3 ∙ append_assoc goods.1 goods.2 more,
  goods.4,
  good_more trees goods.0 mid after front bytes goods.2 more goods.5 good,
)

pub events_more : (front : List (List ℕ)) (bytes : List ℕ) (events more : List KeptEvent) → AreEventsOf front events → IsRecord bytes more → AreEventsOf (front ++ bytes ∷ []) (events ++ more)
events_more [] bytes events more are format = (more, [], ap (λ (l : List KeptEvent). l ++ more) are ∙ sym (append-nil more), format, refl)
events_more (first ∷ front) bytes events more are format =
    (are.0, are.1 ++ more, ap (λ (l : List KeptEvent). l ++ more) are.2 ∙ append_assoc are.0 are.1 more, are.3, events_more front bytes are.1 more are.4 format)

-- before all records
pub replay_none : (tree : DeskTrees) (limits : Limits) → IsReplayOf tree limits [] []
replay_none tree limits = record { events = []; parts = refl; list_is = list_none; good = λ known. (refl, refl) }

-- one record more
pub replay_more : (tree : DeskTrees) (limits : Limits) (front : List (List ℕ)) (bytes : List ℕ) (list now : List Submission) (listings listings_now : ℕ) → IsReplayOf tree limits front list
    → AddsRecord tree limits bytes list now listings listings_now → IsReplayOf tree limits (front ++ bytes ∷ []) now
replay_more tree limits front bytes list now listings listings_now replay adds = record {
  events = replay.events ++ adds.events;
  parts = events_more front bytes replay.events adds.events replay.parts adds.format;
  list_is = subst (λ (l : List Submission). IsListOf (replay.events ++ adds.events) l) (sym adds.list_is) (list_both replay.events adds.events list adds.own replay.list_is adds.own_is);
  good = λ known. good_more (trees_of tree) (start_of limits) (moment_of (trees_of tree) limits list) (moment_of (trees_of tree) limits now) front bytes replay.events adds.events (replay.good known) (adds.good known);
}

-- ---- listings

-- those of the records before
pub lists_front : (tree : DeskTrees) (limits : Limits) (records front later : List (List ℕ)) (list : List Submission) (before now : ℕ) → records ≡ front ++ later → IsReplayOf tree limits front list
    → now ≤ before + index_count (acts_of list) → ListsAtMost records before now
lists_front tree limits records front later list before now parts replay listed = record {
  front = front;
  later = later;
  parts = parts;
  events = replay.events;
  are = replay.parts;
  acts = acts_of list;
  acts_are = replay.list_is.acts;
  listed = listed;
}

-- and of one more
pub lists_more : (tree : DeskTrees) (limits : Limits) (records front later : List (List ℕ)) (bytes : List ℕ) (list : List Submission) (before mid now : ℕ) → records ≡ front ++ bytes ∷ later → IsReplayOf tree limits front list
    → mid ≡ before + index_count (acts_of list) → ListsWithin bytes mid now → ListsAtMost records before now
lists_more tree limits records front later bytes list before mid now parts replay at (inl few) =
    lists_front tree limits records front (bytes ∷ later) list before now parts replay (omega (arith, at, few))
lists_more tree limits records front later bytes list before mid now parts replay at (inr more) = record {
  front = front ++ bytes ∷ [];
  later = later;
  parts = parts ∙ sym (append_assoc front (bytes ∷ []) later);
  events = replay.events ++ more.0;
  are = events_more front bytes replay.events more.0 replay.parts more.2;
  acts = acts_of list ++ more.1;
  acts_are = acts_both replay.events more.0 (acts_of list) more.1 replay.list_is.acts more.3;
  listed = omega (arith, at, more.4, index_both (acts_of list) more.1);
}
