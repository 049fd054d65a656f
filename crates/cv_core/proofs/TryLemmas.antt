-- How many tries an event of the core takes, by those of its inventory.
use Rattle.std.specs.Prelude.{◌≡◌, ℕ, ◌+◌, ◌≤◌, ◌<◌, Bool, true, false, cond, nat_lt, List, [], length, Option, Some, unwrap_or, refl}
use Rattle.std.proofs.Common.{ap, arith, subst, ◌∙◌}
use Rattle.std.proofs.lemmas.Bool.{ltb-true}
use Rattle.cv_advdb.specs.Feeds.{has_feed, records_of}
use Rattle.cv_advdb.specs.Touched.{IsTouched}
use Rattle.cv_base.proofs.Same.{same_self}
use Rattle.cv_base.specs.declared.advisory.Advisory.{Advisory}
use Rattle.cv_base.specs.declared.«package».PackageName.{PackageName}
use Rattle.cv_base.specs.declared.finding.Row.{Row}
use Rattle.cv_base.specs.declared.limits.TheConstants.{MAX_ADVISORIES}
use Rattle.cv_core_records.specs.declared.reply.Reply.{Reply}
use Rattle.cv_core_records.specs.declared.reply.Reply.TheVariants as reply
use Rattle.cv_core_machine.proofs.LayerTables.{value_put}
use Rattle.cv_core_machine.specs.Matching.{CountsUpTo, IsStepCount, touched_pairs}
use Rattle.cv_core_machine.specs.Rows.{rows_of}
use Rattle.cv_core_machine.specs.Scans.{Trees}
use Rattle.cv_core_machine.specs.State.{Feeds, State, feed_generation, value_at, with_value}
use Rattle.cv_core_machine.specs.Step.{feed_patched, updated}
use Rattle.cv_core_machine.specs.declared.event.MachineEvent.{MachineEvent}
use Rattle.cv_core_machine.specs.declared.event.MachineEvent.TheVariants as act
use Rattle.cv_core_inventory.specs.Holdings.{Holdings, holding}
use Rattle.cv_core.specs.Core.{CoreView}
use Rattle.cv_core.proofs.PatchLemmas.{current, fitted}

-- the tries of an event are those that its inventory takes
pub tries_core : (trees : Trees) (core : CoreView) (h : Holdings) (event : MachineEvent) (old new : ℕ) → holding core.state h ≡ core.state
    → ((state : State) → IsStepCount trees (holding state h) event old new) → IsStepCount trees core.state event old new
tries_core trees core h event old new same counts = subst (λ (s : State). IsStepCount trees s event old new) same (counts core.state)

-- a patch that is refused takes none
pub tries_refused : (trees : Trees) (s : State) (feed : List ℕ) (base : ℕ) (records : List Advisory) (remove : List (List ℕ)) (old new : ℕ) → new ≤ old
    → IsStepCount trees s (act.Patch feed base records remove) old new
tries_refused trees s feed base records remove old new less keys touched = omega (arith, less)

records_put : (feeds : Feeds) (feed : List ℕ) (records : List Advisory) → records_of feed (with_value feeds feed records) ≡ records
records_put feeds feed records =
    ap (λ (found : Option (List Advisory)). unwrap_or found [])
    (value_put feeds feed records feed ∙ ap (λ b. cond b (Some records) (value_at feeds feed)) (same_self feed))

-- a patch of a feed takes no tries if it leaves too many records, and else at most those of the touched keys
tries_fitted : (trees : Trees) (s : State) (feed : List ℕ) (base : ℕ) (records : List Advisory) (remove : List (List ℕ)) (rows : List Row) (old new : ℕ)
    → (MAX_ADVISORIES < length (feed_patched s.feeds feed records remove) → new ≤ old)
    → ((keys : List PackageName) → IsTouched (records_of feed s.feeds) (feed_patched s.feeds feed records remove) keys
    → new ≤ old + touched_pairs trees s (with_value s.feeds feed (feed_patched s.feeds feed records remove)) keys)
    → CountsUpTo trees s (act.Patch feed base records remove) (fitted rows s feed (feed_patched s.feeds feed records remove)).0 old new
tries_fitted trees s feed base records remove rows old new many few = by_count (nat_lt MAX_ADVISORIES (length after)) refl where
  after : List Advisory
  after = feed_patched s.feeds feed records remove

  by_count : (b : Bool) → nat_lt MAX_ADVISORIES (length after) ≡ b
      → CountsUpTo trees s (act.Patch feed base records remove) (cond b (s, reply.TooManyRecords (length after)) (updated s feed (with_value s.feeds feed after) rows)).0 old new
  by_count true is keys touched = let less = many (ltb-true MAX_ADVISORIES (length after) is) in omega (arith, less)
  by_count false is keys touched = few keys (subst (λ (rs : List Advisory). IsTouched (records_of feed s.feeds) rs keys) (records_put s.feeds feed after) touched)

-- and so does that of a core, on the generation of a feed that stands
pub tries_patch : (trees : Trees) (core : CoreView) (h : Holdings) (feed : List ℕ) (records : List Advisory) (remove : List (List ℕ)) (old new : ℕ)
    → holding core.state h ≡ core.state → has_feed feed core.state.feeds ≡ true → (MAX_ADVISORIES < length (feed_patched h.feeds feed records remove) → new ≤ old)
    → ((state : State) (keys : List PackageName) → IsTouched (records_of feed h.feeds) (feed_patched h.feeds feed records remove) keys
    → new ≤ old + touched_pairs trees (holding state h) (with_value h.feeds feed (feed_patched h.feeds feed records remove)) keys)
    → IsStepCount trees core.state (act.Patch feed (feed_generation core.state feed) records remove) old new
tries_patch trees core h feed records remove old new same stands many few =
    let s = core.state in
    let rows = rows_of trees s (with_value s.feeds feed (feed_patched s.feeds feed records remove)) in
    let kept = feed_generation s feed in
    subst (λ (end : State × Reply). CountsUpTo trees s (act.Patch feed kept records remove) end.0 old new) (current rows s feed records remove stands)
    (tries_fitted trees s feed kept records remove rows old new
    (subst (λ (t : State). MAX_ADVISORIES < length (feed_patched t.feeds feed records remove) → new ≤ old) same many)
    (subst
    (λ (t : State).
    (keys : List PackageName) → IsTouched (records_of feed t.feeds) (feed_patched t.feeds feed records remove) keys
    → new ≤ old + touched_pairs trees t (with_value t.feeds feed (feed_patched t.feeds feed records remove)) keys)
    same (few s)))
