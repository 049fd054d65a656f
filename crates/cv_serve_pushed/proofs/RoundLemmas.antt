-- The attempts of rounds, one after the other.
use Rattle.std.specs.Prelude.{ℕ, List, [], ◌∷◌, ◌++◌, refl}
use Rattle.std.specs.List.{AllByRecursion, flat_map}
use Rattle.std.proofs.Common.{arith, subst, sym}
use Rattle.std.proofs.KnownBytes.{Appends-nil, Appends-trans}
use Rattle.cv_transcript.specs.Entry.{entry_text}
use Rattle.cv_core_machine.specs.Scans.{StatesEveryLayer, trees_of}
use Rattle.cv_hook.specs.declared.offer.HookLine.{HookLine}
use Rattle.cv_hub_seats.specs.Events.{DeskTrees}
use Rattle.cv_serve_lanes.specs.Counts.{RoseBy}
use Rattle.cv_serve_lanes.proofs.WorkerLemmas.{rose_then}
use Rattle.cv_serve_legal.specs.Replay.{Moment}
use Rattle.cv_serve_legal.specs.Whole.{WholeRound}
use Rattle.cv_serve_round.specs.Done.{AreDone}
use Rattle.cv_serve_round.specs.Written.{WithBytes}
use Rattle.cv_serve_pushed.specs.Attempts.{hook_faults}
use Rattle.cv_serve_pushed.specs.HookText.{HasNoTag, hook_text}
use Rattle.cv_serve_pushed.specs.Pushes.{PushState, Pushes}
use Rattle.cv_serve_pushed.specs.Rounds.{ArePushed, all_lines, pushed_text}
use Rattle.cv_serve_pushed.proofs.OfferLemmas.{faults_both, lines_both, same_lines}

none_rose : (count : ℕ) → RoseBy 0 count count
none_rose count = omega arith

untagged_both : (xs ys : List HookLine) → AllByRecursion HasNoTag xs → AllByRecursion HasNoTag ys → AllByRecursion HasNoTag (xs ++ ys)
untagged_both [] ys first second = second
untagged_both (x ∷ xs) ys first second = (first.0, untagged_both xs ys first.1 second)

module _ (tree : DeskTrees) (workers : ℕ) where
  -- rounds that were carried out, by lists
  pub all_pushed : (start : Moment) (held : WithBytes PushState) (rounds : List WholeRound) (after : Moment) (now : WithBytes PushState)
      → AreDone (StatesEveryLayer tree) (trees_of tree) workers (Pushes tree) start held rounds after now → ArePushed tree workers start held rounds after now
  all_pushed start held [] after now h = subst (λ (n : WithBytes PushState). ArePushed tree workers start held [] after n) (sym h.1) (record {
    hook_lines = [];
    attempts = (h.0, refl);
    output = Appends-nil held.1;
    untagged = tt;
    offers = same_lines held.0.offers;
    faults = none_rose held.0.faults;
  })
  all_pushed start held (round ∷ rounds) after now h =
      let one : Pushes tree held round h.0 h.1 = h.3 in
      let rest : ArePushed tree workers h.0 h.1 rounds after now = all_pushed h.0 h.1 rounds after now h.4 in
      record {
        hook_lines = one.lines ∷ rest.hook_lines;
        attempts = (h.0, h.1.0, h.2, one.made, rest.attempts);
        output = Appends-trans held.1 h.1.1 now.1 (flat_map entry_text round.entries ++ flat_map hook_text one.lines) (pushed_text rounds rest.hook_lines) one.output rest.output;
        untagged = untagged_both one.lines (all_lines rest.hook_lines) one.untagged rest.untagged;
        offers = lines_both one.lines (all_lines rest.hook_lines) held.0.offers h.1.0.offers now.0.offers one.made.offers rest.offers;
        faults = subst (λ (count : ℕ). RoseBy count held.0.faults now.0.faults) (sym (faults_both one.lines (all_lines rest.hook_lines)))
            (rose_then (hook_faults one.lines) (hook_faults (all_lines rest.hook_lines)) held.0.faults h.1.0.faults now.0.faults one.made.faults rest.faults);
      }
