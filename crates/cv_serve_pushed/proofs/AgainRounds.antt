-- What is offered over several rounds: what a round did not take is offered first in the next one, and what was taken is not offered again.
use Rattle.std.specs.Prelude.{◌≡◌, ℕ, ◌<◌, ◌≤◌, All, List, [], ◌∷◌, ◌++◌, Some, refl}
use Rattle.std.specs.List.{Contains}
use Rattle.std.specs.Map.{keys_of}
use Rattle.std.proofs.Common.{ap, arith, subst, sym}
use Rattle.std.proofs.lemmas.List.{map-append}
use Rattle.std.proofs.lemmas.List.Elements.{All-append, All-from_recursion, All-nil, All-weaker}
use Rattle.cv_core_machine.specs.Laws.{IsConsistent}
use Rattle.cv_core_machine.specs.Scans.{StatesEveryLayer, trees_of}
use Rattle.cv_core_machine.specs.declared.limits.TheConstants.{MAX_FEEDS, MAX_IMAGES}
use Rattle.cv_core_machine.proofs.Consistent.{opening_consistent}
use Rattle.cv_hook.specs.Attempts.{IsRound, OutboxState, begun, offered}
use Rattle.cv_hook.specs.declared.offer.HookLine.{HookLine}
use Rattle.cv_hub_seats.specs.Events.{DeskTrees}
use Rattle.cv_serve_legal.specs.Replay.{Moment, beginning}
use Rattle.cv_serve_legal.specs.Whole.{WholeRound}
use Rattle.cv_serve_pushed.specs.Attempts.{after_lines}
use Rattle.cv_serve_pushed.specs.Pushes.{PushState}
use Rattle.cv_serve_pushed.specs.Rounds.{AreAttempts, AreAttemptsInParts, AreTakenOnce, all_lines, first_offered, last_untaken}
use Rattle.cv_serve_pushed.proofs.AgainLemmas.{Climb, IsOnceAbove, climb_above, offered_again, once_both, reached, round_climbs}
use Rattle.cv_serve_pushed.proofs.NumberLemmas.{round_consistent, round_numbers}

module _ (tree : DeskTrees) (workers : ℕ) where
  -- rounds in two parts
  pub in_parts : (before : Moment) (held : PushState) (first later : List WholeRound) (hook_lines : List (List HookLine)) (after : Moment) (held_now : PushState)
      → AreAttempts tree workers before held (first ++ later) hook_lines after held_now → AreAttemptsInParts tree workers before held first later hook_lines after held_now
  in_parts before held [] later hook_lines after held_now h = record {
    between = before;
    middle = held;
    first_lines = [];
    later_lines = hook_lines;
    joined = refl;
    front = (refl, refl);
    back = h;
  }
  in_parts before held (round ∷ first) later [] after held_now h = absurd h
  in_parts before held (round ∷ first) later (lines ∷ hook_lines) after held_now h =
      let rest : AreAttemptsInParts tree workers h.0 h.1 first later hook_lines after held_now = in_parts h.0 h.1 first later hook_lines after held_now h.4 in
      record {
        between = rest.between;
        middle = rest.middle;
        first_lines = lines ∷ rest.first_lines;
        later_lines = rest.later_lines;
        joined = ap (λ (ls : List (List HookLine)). lines ∷ ls) rest.joined;
        front = (h.0, h.1, h.2, h.3, rest.front);
        back = rest.back;
      }

  module _ (known : StatesEveryLayer tree) where
    -- ---- what was taken

    -- what is offered in rounds is above the last number taken before them, and what they take is not offered again
    once_above : (before : Moment) (held : PushState) (rounds : List WholeRound) (hook_lines : List (List HookLine)) (after : Moment) (held_now : PushState)
        → AreAttempts tree workers before held rounds hook_lines after held_now → IsOnceAbove held.outbox.last (all_lines hook_lines)
    once_above before held [] [] after held_now h = record { above = All-nil (λ n. held.outbox.last < n); once = tt }
    once_above before held [] (lines ∷ hook_lines) after held_now h = absurd h
    once_above before held (round ∷ rounds) [] after held_now h = absurd h
    once_above before held (round ∷ rounds) (lines ∷ hook_lines) after held_now h =
        let last : ℕ = held.outbox.last in
        let climbs : Climb last lines = round_climbs last (keys_of h.0.state.notifications) lines (h.3.attempts known).round in
        let later : List HookLine = all_lines hook_lines in
        let rest : IsOnceAbove h.1.outbox.last later = once_above h.0 h.1 rounds hook_lines after held_now h.4 in
        let now : ℕ = (after_lines (begun held.outbox) lines).last in
        let above : All (λ n. now < n) (offered later) = subst (λ (o : OutboxState). All (λ n. o.last < n) (offered later)) h.3.outbox rest.above in
        let reach = reached (begun held.outbox) lines climbs in
        record {
          above =
              subst (All (λ n. last < n)) (sym (map-append (λ (line : HookLine). line.number) lines later))
              (All-append (λ n. last < n) (offered lines) (offered later) (climb_above last lines climbs)
              (All-weaker (λ n. now < n) (λ n. last < n) (λ n more. omega (arith, more, reach.kept)) (offered later) above));
          once = once_both last now lines later climbs reach.taken above rest.once;
        }

    -- a number that was taken is below all that are offered after it
    pub taken_once : (before : Moment) (held : PushState) (rounds : List WholeRound) (hook_lines : List (List HookLine)) (after : Moment) (held_now : PushState)
        → AreAttempts tree workers before held rounds hook_lines after held_now → AreTakenOnce (all_lines hook_lines)
    taken_once before held rounds hook_lines after held_now h = (once_above before held rounds hook_lines after held_now h).once

    -- ---- what was not taken

    module _ (first second : WholeRound) (lines next : List HookLine) (after : Moment) (held_now : PushState) (number : ℕ) (is : last_untaken lines ≡ Some number)
        (stands : Contains (keys_of after.state.notifications) number) where
      last_two : (before : Moment) (held : PushState) → IsConsistent before.state
          → AreAttempts tree workers before held (first ∷ second ∷ []) (lines ∷ next ∷ []) after held_now → first_offered next ≡ Some number
      last_two before held so h =
          let between : Moment = h.0 in
          let last : Moment = h.4.0 in
          let within : IsConsistent between.state = round_consistent (trees_of tree) workers before first.lines first.entries between (h.2 known) so in
          offered_again held.outbox (keys_of between.state.notifications) (keys_of last.state.notifications) between.state.generation lines next number
          (h.3.attempts known).round
          (subst (λ (o : OutboxState). IsRound o.last (keys_of last.state.notifications) next) h.3.outbox (h.4.3.attempts known).round)
          (All-from_recursion (λ n. n ≤ between.state.generation) (keys_of between.state.notifications) within.numbers)
          (round_numbers (trees_of tree) workers between second.lines second.entries last (h.4.2 known))
          is (subst (λ (m : Moment). Contains (keys_of m.state.notifications) number) h.4.4.0 stands)

      last_two_of : (earlier : List WholeRound) (earlier_lines : List (List HookLine)) (before : Moment) (held : PushState) → IsConsistent before.state
          → AreAttempts tree workers before held (earlier ++ first ∷ second ∷ []) (earlier_lines ++ lines ∷ next ∷ []) after held_now → first_offered next ≡ Some number
      last_two_of [] [] before held so h = last_two before held so h
      last_two_of [] (some ∷ []) before held so h = absurd h.4.4
      last_two_of [] (some ∷ more ∷ rest) before held so h = none_left rest h.4.4 where
        none_left : (rest : List (List HookLine)) → AreAttempts tree workers h.4.0 h.4.1 [] (rest ++ lines ∷ next ∷ []) after held_now → first_offered next ≡ Some number
        none_left [] h = absurd h
        none_left (r ∷ rs) h = absurd h
      last_two_of (round ∷ []) [] before held so h = absurd h.4.4
      last_two_of (round ∷ more ∷ []) [] before held so h = absurd h.4.4
      last_two_of (round ∷ more ∷ again ∷ rest) [] before held so h = absurd h.4.4
      last_two_of (round ∷ earlier) (some ∷ earlier_lines) before held so h =
          last_two_of earlier earlier_lines h.0 h.1 (round_consistent (trees_of tree) workers before round.lines round.entries h.0 (h.2 known) so) h.4

      -- what the last but one of these rounds did not take is offered first in the last one
      pub first_again : (earlier : List WholeRound) (earlier_lines : List (List HookLine)) (held : PushState)
          → AreAttempts tree workers beginning held (earlier ++ first ∷ second ∷ []) (earlier_lines ++ lines ∷ next ∷ []) after held_now → first_offered next ≡ Some number
      first_again earlier earlier_lines held h =
          last_two_of earlier earlier_lines beginning held (opening_consistent (record { images = MAX_IMAGES; feeds = MAX_FEEDS })) h
