-- What stands after rounds was taken, or is above the last number taken.
use Rattle.std.specs.Prelude.{ℕ, ◌≤◌, List, [], ◌∷◌, ◌++◌, Option}
use Rattle.std.specs.Map.{keys_of}
use Rattle.std.proofs.Common.{append_assoc, append-nil, arith, subst, sym}
use Rattle.std.proofs.lemmas.List.Elements.{All-from_recursion, All-nil}
use Rattle.cv_core_machine.specs.Laws.{IsConsistent}
use Rattle.cv_core_machine.specs.Scans.{StatesEveryLayer, trees_of}
use Rattle.cv_core_machine.specs.declared.limits.TheConstants.{MAX_FEEDS, MAX_IMAGES}
use Rattle.cv_core_machine.proofs.Consistent.{opening_consistent}
use Rattle.cv_hook.specs.Attempts.{OutboxState, begun, new_outbox}
use Rattle.cv_hook.specs.declared.offer.HookLine.{HookLine}
use Rattle.cv_hook.specs.declared.offer.Offer.{Offer}
use Rattle.cv_hub_seats.specs.Events.{DeskTrees}
use Rattle.cv_serve_legal.specs.Replay.{Moment, beginning}
use Rattle.cv_serve_legal.specs.Whole.{WholeRound}
use Rattle.cv_serve_pushed.specs.Attempts.{after_lines}
use Rattle.cv_serve_pushed.specs.Pushes.{PushState, push_state}
use Rattle.cv_serve_pushed.specs.Rounds.{AreAttempts, AreTakenOrWait, all_lines}
use Rattle.cv_serve_pushed.proofs.NumberLemmas.{round_consistent, round_generation, round_numbers}
use Rattle.cv_serve_pushed.proofs.WaitLemmas.{round_waits, round_within}

-- what holds between two rounds, after the attempts with these lines
record IsKept (moment : Moment) (last : ℕ) (lines : List HookLine) : Type 0 where
  pub consistent : IsConsistent moment.state
  -- the generation is the last number that a notification was given, so new ones are above the last one taken
  pub reached : last ≤ moment.state.generation
  pub waits : AreTakenOrWait (keys_of moment.state.notifications) last lines

module _ (tree : DeskTrees) (workers : ℕ) (known : StatesEveryLayer tree) where
  -- rounds keep it
  kept : (before : Moment) (held : PushState) (earlier : List HookLine) (rounds : List WholeRound) (hook_lines : List (List HookLine)) (after : Moment) (held_now : PushState)
      → AreAttempts tree workers before held rounds hook_lines after held_now → IsKept before held.outbox.last earlier → IsKept after held_now.outbox.last (earlier ++ all_lines hook_lines)
  kept before held earlier [] [] after held_now h so =
      subst (λ (m : Moment). IsKept m held_now.outbox.last (earlier ++ [])) (sym h.0)
      (subst (λ (p : PushState). IsKept before p.outbox.last (earlier ++ [])) (sym h.1) (subst (IsKept before held.outbox.last) (sym (append-nil earlier)) so))
  kept before held earlier [] (lines ∷ hook_lines) after held_now h so = absurd h
  kept before held earlier (round ∷ rounds) [] after held_now h so = absurd h
  kept before held earlier (round ∷ rounds) (lines ∷ hook_lines) after held_now h so =
      let between : Moment = h.0 in
      let standing : List ℕ = keys_of between.state.notifications in
      let bound : ℕ = before.state.generation in
      let within : IsConsistent between.state = round_consistent (trees_of tree) workers before round.lines round.entries between (h.2 known) so.consistent in
      let later : bound ≤ between.state.generation = round_generation (trees_of tree) workers before round.lines round.entries between (h.2 known) in
      let first : IsKept between (after_lines (begun held.outbox) lines).last (earlier ++ lines) =
      record {
        consistent = within;
        reached =
            round_within held.outbox standing lines (h.3.attempts known).round between.state.generation (omega (arith, so.reached, later))
            (All-from_recursion (λ n. n ≤ between.state.generation) standing within.numbers);
        waits =
            round_waits held.outbox standing lines (h.3.attempts known).round (keys_of before.state.notifications) bound earlier so.reached
            (round_numbers (trees_of tree) workers before round.lines round.entries between (h.2 known)) so.waits;
      } in
      subst (IsKept after held_now.outbox.last) (append_assoc earlier lines (all_lines hook_lines))
      (kept between h.1 (earlier ++ lines) rounds hook_lines after held_now h.4
      (subst (λ (o : OutboxState). IsKept between o.last (earlier ++ lines)) (sym h.3.outbox) first))

  -- what stands after rounds from a new outbox was taken or waits
  pub all_wait : (offers : Option (List Offer)) (faults : ℕ) (rounds : List WholeRound) (hook_lines : List (List HookLine)) (after : Moment) (held_now : PushState)
      → AreAttempts tree workers beginning (push_state new_outbox offers faults) rounds hook_lines after held_now
      → AreTakenOrWait (keys_of after.state.notifications) held_now.outbox.last (all_lines hook_lines)
  all_wait offers faults rounds hook_lines after held_now h = (kept beginning (push_state new_outbox offers faults) [] rounds hook_lines after held_now h (record {
    consistent = opening_consistent (record { images = MAX_IMAGES; feeds = MAX_FEEDS });
    reached = omega arith;
    waits = record { each = All-nil _; not_both = All-nil _ };
  })).waits
