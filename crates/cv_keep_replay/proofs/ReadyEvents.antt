-- Kept events that are made ready, one after the other.
use Rattle.std.proofs.Common.{◌≡◌, ℕ, ◌+◌, ◌≤◌, ◌<◌, List, [], ◌∷◌, ◌++◌, get_or, length, map, take, Option, Some, None, option_map, refl, ap, sym, subst, ◌∙◌, arith}
use Rattle.std.proofs.lemmas.List.{get_or-map, map-append, take_more}
use Rattle.std.proofs.lemmas.List.Sums.{count_by-le-length}
use Rattle.cv_core_records.specs.declared.event.By.{By}
use Rattle.cv_core_machine.specs.declared.event.MachineEvent.{MachineEvent}
use Rattle.cv_core_machine.specs.declared.event.MachineEvent.TheVariants as act
use Rattle.cv_keep_record.specs.declared.event.KeptEvent.{KeptEvent}
use Rattle.cv_keep_replay.specs.Kept.{HaveActs, by_of, index_count, is_index, kept_act}
use Rattle.cv_keep_replay.specs.code.Ready.{AreFor, Named, acts_named}
use Rattle.cv_keep_replay.proofs.Records.{act_in, acts_both, acts_length, by_in, index_both}

pub for_none : AreFor [] []
for_none = record { acts = refl; bys = refl }

for_last : (events : List KeptEvent) (event : KeptEvent) (list : List Named) (one : Named) → AreFor events list → Some one.what ≡ kept_act event.by → one.who ≡ by_of event.by
    → AreFor (events ++ event ∷ []) (list ++ one ∷ [])
for_last events event list one are what who = record {
  acts = acts_both events (event ∷ []) (acts_named list) (one.what ∷ []) are.acts (ap (λ (o : Option MachineEvent). o ∷ []) (sym what))
      ∙ ap (map Some) (sym (map-append (λ (n : Named). n.what) list (one ∷ [])));
  bys = map-append by_in events (event ∷ [])
      ∙ (ap (λ (l : List By). l ++ by_in event ∷ []) are.bys
      ∙ (ap (λ (b : By). map (λ (n : Named). n.who) list ++ b ∷ []) (sym who) ∙ sym (map-append (λ (n : Named). n.who) list (one ∷ []))));
}

-- one event more
pub for_more : (events : List KeptEvent) (i : ℕ) (event : KeptEvent) (list : List Named) (one : Named) → i < length events → AreFor (take i events) list → get_or events i event ≡ event
    → Some one.what ≡ kept_act event.by → one.who ≡ by_of event.by → AreFor (take (i + 1) events) (list ++ one ∷ [])
for_more events i event list one less are here what who =
    subst (λ (front : List KeptEvent). AreFor front (list ++ one ∷ []))
    (sym (take_more events i event less ∙ ap (λ (e : KeptEvent). take i events ++ e ∷ []) here))
    (for_last (take i events) event list one are what who)

-- one of some events is none of the machine
pub no_acts : (events : List KeptEvent) (i : ℕ) (event : KeptEvent) (acts : List MachineEvent) → i < length events → get_or events i event ≡ event → kept_act event.by ≡ None → HaveActs events acts → ⊥
no_acts events i event acts less here none have =
    let size : length acts ≡ length events = acts_length events acts have in
    let some : get_or (map Some acts) i None ≡ Some (get_or acts i (act.Ack 0)) = get_or-map Some acts i (act.Ack 0) None (omega (arith, size, less)) in
    let nothing : get_or (map act_in events) i None ≡ None = get_or-map act_in events i event None less ∙ (ap act_in here ∙ none) in
    let same : get_or (map act_in events) i None ≡ get_or (map Some acts) i None = ap (λ (l : List (Option MachineEvent)). get_or l i None) have in
    absurd (cc (some, nothing, same))

-- how many of these are to be indexed
pub named_more : (list : List Named) (one : Named) → index_count (acts_named (list ++ one ∷ [])) ≡ index_count (acts_named list) + index_count (acts_named (one ∷ []))
named_more list one = ap index_count (map-append (λ (n : Named). n.what) list (one ∷ [])) ∙ index_both (acts_named list) (one.what ∷ [])

-- what is not found is of no event
pub none_found : {A B : Type 0} (f : A → B) (found : Option A) (wanted : Option B) → found ≡ None → option_map f found ≡ wanted → wanted ≡ None
none_found f found wanted none is = sym is ∙ ap (option_map f) none

-- at most one of one
pub index_one : (one : Named) → index_count (acts_named (one ∷ [])) ≤ 1
index_one one = count_by-le-length is_index (one.what ∷ [])
