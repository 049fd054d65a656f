-- What the entries of a record say of the machine.
use Rattle.std.proofs.Common.{◌≡◌, ℕ, ◌+◌, Bool, false, cond, List, [], ◌∷◌, ◌++◌, fold, length, drop, refl, ap, sym, ◌∙◌}
use Rattle.std.specs.List.{count_by}
use Rattle.std.proofs.lemmas.List.{append_cancel_left, map-append}
use Rattle.std.proofs.Math.Seq.{drop-append_seam}
use Rattle.cv_desk.proofs.ReadCounts.{count_by-cons}
use Rattle.cv_core_records.specs.declared.event.EventEntry.{EventEntry}
use Rattle.cv_core_records.specs.declared.reply.Reply.{Reply}
use Rattle.cv_core_records.specs.declared.reply.Reply.TheVariants as reply
use Rattle.cv_core_machine.specs.History.{event_entry, replies, state_after}
use Rattle.cv_core_machine.specs.Laws.{IsGenerationAfter}
use Rattle.cv_core_machine.specs.Scans.{StatesEveryLayer, Trees, trees_of}
use Rattle.cv_core_machine.specs.State.{State, opening}
use Rattle.cv_core_machine.specs.Step.{step}
use Rattle.cv_core_machine.specs.declared.event.MachineEvent.{MachineEvent}
use Rattle.cv_core_machine.specs.declared.limits.Limits.{Limits}
use Rattle.cv_core_machine.proofs.Consistent.{reachable_consistent}
use Rattle.cv_hub_seats.specs.Events.{DeskTrees, IsReplayed, acts_of, entries_from, replies_of, state_of}
use Rattle.cv_hub_seats.specs.declared.submission.Submission.{Submission}
use Rattle.cv_keep_replay.specs.Claims.{begins_claim, ends_claim, has_claim}
use Rattle.cv_keep_replay.specs.code.Counts.{generation_after, leaves_claims, next_generation}
use Rattle.cv_keep_replay.proofs.Claims.{claim_told}

-- ---- events after others

pub state_then : (trees : Trees) (s : State) (acts more : List MachineEvent) → state_after trees s (acts ++ more) ≡ state_after trees (state_after trees s acts) more
state_then trees s [] more = refl
state_then trees s (a ∷ acts) more = state_then trees (step trees s a).0 acts more

replies_then : (trees : Trees) (s : State) (acts more : List MachineEvent) → replies trees s (acts ++ more) ≡ replies trees s acts ++ replies trees (state_after trees s acts) more
replies_then trees s [] more = refl
replies_then trees s (a ∷ acts) more = ap (λ (rest : List Reply). (step trees s a).1 ∷ rest) (replies_then trees (step trees s a).0 acts more)

pub acts_then : (list own : List Submission) → acts_of (list ++ own) ≡ acts_of list ++ acts_of own
acts_then list own = map-append (λ (event : Submission). event.act) list own

-- the state after the events of a list and those that it got
pub state_got : (trees : Trees) (limits : Limits) (list own : List Submission) → state_of trees limits (list ++ own) ≡ state_after trees (state_of trees limits list) (acts_of own)
state_got trees limits list own = ap (state_after trees (opening limits)) (acts_then list own) ∙ state_then trees (opening limits) (acts_of list) (acts_of own)

-- the replies to those that it got
replies_got : (tree : DeskTrees) (limits : Limits) (list own : List Submission) → IsReplayed tree limits list → IsReplayed tree limits (list ++ own) → StatesEveryLayer tree
    → replies_of own ≡ replies (trees_of tree) (state_of (trees_of tree) limits list) (acts_of own)
replies_got tree limits list own before after known =
    let trees : Trees = trees_of tree in
    let said : replies_of list ++ replies_of own ≡ replies trees (opening limits) (acts_of (list ++ own)) =
    sym (map-append (λ (event : Submission). event.reply) list own) ∙ after known in
    let meant : replies trees (opening limits) (acts_of (list ++ own)) ≡ replies trees (opening limits) (acts_of list) ++ replies trees (state_of trees limits list) (acts_of own) =
    ap (replies trees (opening limits)) (acts_then list own) ∙ replies_then trees (opening limits) (acts_of list) (acts_of own) in
    append_cancel_left (replies_of list) (replies_of own) (replies trees (state_of trees limits list) (acts_of own))
    (said ∙ (meant ∙ ap (λ (front : List Reply). front ++ replies trees (state_of trees limits list) (acts_of own)) (sym (before known))))

-- ---- the generation

next_is : (answer : Reply) (before now : ℕ) → IsGenerationAfter before answer now → next_generation before answer ≡ now
next_is (reply.Updated generation rows) before now is = is.1
next_is _ before now is = sym is

-- the generation after each event is as its reply says
abbrev pub TellsGeneration : Type 0
TellsGeneration = (trees : Trees) (s : State) (a : MachineEvent) → IsGenerationAfter s.generation (step trees s a).1 (step trees s a).0.generation

generation_told : (law : TellsGeneration) (trees : Trees) (s : State) (acts : List MachineEvent) → fold next_generation s.generation (replies trees s acts) ≡ (state_after trees s acts).generation
generation_told law trees s [] = refl
generation_told law trees s (a ∷ acts) =
    ap (λ (n : ℕ). fold next_generation n (replies trees (step trees s a).0 acts)) (next_is (step trees s a).1 s.generation (step trees s a).0.generation (law trees s a))
    ∙ generation_told law trees (step trees s a).0 acts

-- ---- entries

entries_generation : (before number : ℕ) (own : List Submission) → generation_after before (entries_from number own) ≡ fold next_generation before (replies_of own)
entries_generation before number [] = refl
entries_generation before number (event ∷ own) = entries_generation (next_generation before event.reply) (number + 1) own

entries_counted : (test : Reply → Bool) (number : ℕ) (own : List Submission) → count_by (λ (entry : EventEntry). test entry.reply) (entries_from number own) ≡ count_by test (replies_of own)
entries_counted test number [] = refl
entries_counted test number (event ∷ own) =
    count_by-cons (λ (entry : EventEntry). test entry.reply) (event_entry number event.by event.act event.reply) (entries_from (number + 1) own)
    ∙ (ap (λ (n : ℕ). cond (test event.reply) 1 0 + n) (entries_counted test (number + 1) own) ∙ sym (count_by-cons test event.reply (replies_of own)))

-- the entries of what the list got
pub entries_got : (list own now : List Submission) (entries : List EventEntry) → now ≡ list ++ own → entries ≡ entries_from (length list + 1) (drop (length list) now)
    → entries ≡ entries_from (length list + 1) own
entries_got list own now entries is from =
    from ∙ ap (entries_from (length list + 1)) (ap (drop (length list)) is ∙ drop-append_seam list own)

module _ (tree : DeskTrees) (limits : Limits) (list own : List Submission) (before : IsReplayed tree limits list) (after : IsReplayed tree limits (list ++ own)) (known : StatesEveryLayer tree) where
  -- the generation after them
  pub got_generation : (law : TellsGeneration) (entries : List EventEntry) (generation : ℕ) → entries ≡ entries_from (length list + 1) own → generation ≡ (state_of (trees_of tree) limits list).generation
      → generation_after generation entries ≡ (state_of (trees_of tree) limits (list ++ own)).generation
  got_generation law entries generation is at =
      ap (generation_after generation) is
      ∙ (entries_generation generation (length list + 1) own
      ∙ (ap (fold next_generation generation) (replies_got tree limits list own before after known)
      ∙ (ap (λ (n : ℕ). fold next_generation n (replies (trees_of tree) (state_of (trees_of tree) limits list) (acts_of own))) at
      ∙ (generation_told law (trees_of tree) (state_of (trees_of tree) limits list) (acts_of own)
      ∙ ap (λ (s : State). s.generation) (sym (state_got (trees_of tree) limits list own))))))

  counted : (test : Reply → Bool) (entries : List EventEntry) → entries ≡ entries_from (length list + 1) own
      → count_by (λ (entry : EventEntry). test entry.reply) entries ≡ count_by test (replies (trees_of tree) (state_of (trees_of tree) limits list) (acts_of own))
  counted test entries is =
      ap (count_by (λ (entry : EventEntry). test entry.reply)) is
      ∙ (entries_counted test (length list + 1) own ∙ ap (count_by test) (replies_got tree limits list own before after known))

  -- whether a layer is Claimed after them
  pub got_claims : (entries : List EventEntry) → entries ≡ entries_from (length list + 1) own → has_claim (state_of (trees_of tree) limits list).layers ≡ false
      → has_claim (state_of (trees_of tree) limits (list ++ own)).layers ≡ leaves_claims entries
  got_claims entries is none =
      let told = claim_told (trees_of tree) (state_of (trees_of tree) limits list) (acts_of own) (reachable_consistent (trees_of tree) limits (acts_of list)) none in
      ap (λ (s : State). has_claim s.layers) (state_got (trees_of tree) limits list own)
      ∙ (told ∙ sym (cc (counted begins_claim entries is, counted ends_claim entries is)))
