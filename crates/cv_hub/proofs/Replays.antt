-- One more event after a list.
use Rattle.std.proofs.Common.{◌≡◌, ◌+◌, List, [], ◌∷◌, ◌++◌, refl, ap, sym, ◌∙◌, arith, length-append}
use Rattle.cv_core_machine.specs.History.{replies, state_after}
use Rattle.cv_core_machine.specs.Scans.{StatesEveryLayer, Trees, trees_of}
use Rattle.cv_core_machine.specs.State.{State, opening}
use Rattle.cv_core_machine.specs.Step.{step}
use Rattle.cv_core_machine.specs.declared.event.MachineEvent.{MachineEvent}
use Rattle.cv_core_machine.specs.declared.limits.Limits.{Limits}
use Rattle.cv_core.specs.Core.{CoreView, counted}
use Rattle.cv_core.specs.Planned.{PlannedView, plan_of}
use Rattle.cv_hub_seats.specs.Events.{DeskTrees, IsReplayed, acts_of, replies_of, state_of}
use Rattle.cv_hub.specs.code.Locked.{IsAfter}
use Rattle.cv_hub_seats.specs.declared.submission.Submission.{Submission}

after_more : (trees : Trees) (state : State) (acts : List MachineEvent) (act : MachineEvent) → state_after trees state (acts ++ act ∷ []) ≡ (step trees (state_after trees state acts) act).0
after_more trees state [] act = refl
after_more trees state (first ∷ acts) act = after_more trees (step trees state first).0 acts act

replies_more : (trees : Trees) (state : State) (acts : List MachineEvent) (act : MachineEvent) → replies trees state (acts ++ act ∷ []) ≡ replies trees state acts ++ (step trees (state_after trees state acts) act).1 ∷ []
replies_more trees state [] act = refl
replies_more trees state (first ∷ acts) act = ap (λ rest. (step trees state first).1 ∷ rest) (replies_more trees (step trees state first).0 acts act)

acts_more : (list : List Submission) (event : Submission) → acts_of (list ++ event ∷ []) ≡ acts_of list ++ event.act ∷ []
acts_more [] event = refl
acts_more (first ∷ list) event = ap (λ rest. first.act ∷ rest) (acts_more list event)

of_more : (list : List Submission) (event : Submission) → replies_of (list ++ event ∷ []) ≡ replies_of list ++ event.reply ∷ []
of_more [] event = refl
of_more (first ∷ list) event = ap (λ rest. first.reply ∷ rest) (of_more list event)

-- the state after one more event
pub state_more : (trees : Trees) (limits : Limits) (list : List Submission) (event : Submission) → state_of trees limits (list ++ event ∷ []) ≡ (step trees (state_of trees limits list) event.act).0
state_more trees limits list event = ap (state_after trees (opening limits)) (acts_more list event) ∙ after_more trees (opening limits) (acts_of list) event.act

-- with the machine's reply the list stays a replay
pub replayed_more : (tree : DeskTrees) (limits : Limits) (list : List Submission) (event : Submission) → IsReplayed tree limits list
    → (StatesEveryLayer tree → event.reply ≡ (step (trees_of tree) (state_of (trees_of tree) limits list) event.act).1) → IsReplayed tree limits (list ++ event ∷ [])
replayed_more tree limits list event replayed next known =
    of_more list event ∙ (cc (replayed known, next known) ∙ sym (ap (replies (trees_of tree) (opening limits)) (acts_more list event) ∙ replies_more (trees_of tree) (opening limits) (acts_of list) event.act))

-- what a plan for the core of a list replies
pub planned_reply : (tree : DeskTrees) (limits : Limits) (list : List Submission) (core : CoreView) (act : MachineEvent) (plan : PlannedView) → IsAfter tree limits list core
    → (StatesEveryLayer tree → plan ≡ plan_of core (counted core (step (trees_of tree) core.state act))) → StatesEveryLayer tree → plan.reply ≡ (step (trees_of tree) (state_of (trees_of tree) limits list) act).1
planned_reply tree limits list core act plan after stepped known = ap (λ p. p.reply) (stepped known) ∙ ap (λ (state : State). (step (trees_of tree) state act).1) (after.state_is known)

-- and the core that it leads to
pub planned_after : (tree : DeskTrees) (limits : Limits) (list : List Submission) (core : CoreView) (event : Submission) (plan : PlannedView) → IsAfter tree limits list core → plan.after.count ≡ core.count + 1
    → (StatesEveryLayer tree → plan ≡ plan_of core (counted core (step (trees_of tree) core.state event.act))) → IsAfter tree limits (list ++ event ∷ []) plan.after
planned_after tree limits list core event plan after count stepped = record {
  count_is = omega (arith, count, after.count_is, length-append list (event ∷ []));
  state_is = λ known. ap (λ p. p.after.state) (stepped known) ∙ (ap (λ (state : State). (step (trees_of tree) state event.act).0) (after.state_is known) ∙ sym (state_more (trees_of tree) limits list event));
}
