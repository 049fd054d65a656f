-- One more request of a lane.
use Rattle.std.proofs.Common.{◌≡◌, ℕ, ◌≤◌, List, [], ◌∷◌, ◌++◌, length, take, ap, sym, ◌∙◌, arith, append_assoc}
use Rattle.std.specs.List.{AllByRecursion, AllZip}
use Rattle.std.proofs.lemmas.List.{append-nil, take-append-le}
use Rattle.std.proofs.lemmas.List.Elements.{filter_map-append}
use mathlib.Core.List.{IsPrefix}
use Rattle.cv_core_records.specs.declared.read.ReadEntry.{ReadEntry}
use Rattle.cv_core_machine.specs.declared.limits.Limits.{Limits}
use Rattle.cv_hub.specs.Events.{DeskTrees}
use Rattle.cv_hub.specs.Seats.{SeatView}
use Rattle.cv_hub.proofs.Prefixes.{prefix_length}
use Rattle.cv_serve_legal.specs.declared.parsed_line.Requested.{Requested}
use Rattle.cv_base.proofs.AllItems.{all_more, all_weaker, zip_more}
use Rattle.cv_serve_lanes.specs.code.Own.{Submission}
use Rattle.cv_serve_lanes.specs.code.Lane.{Answers, AreInTurn, Follows, IsFrom, IsWithin, LaneDid, Answered, OneStep, Step, Submitted, placed_in, placed_of, read_in, reads_in}
use Rattle.cv_serve_lanes.proofs.OwnLemmas.{made_longer, made_none, made_then}

-- ---- a longer list

-- what a step says of a list holds of a longer one
answers_longer : (tree : DeskTrees) (limits : Limits) (list longer : List Submission) (requested : Requested) (step : Step) → IsPrefix list longer → IsWithin (length list) step
    → Answers tree limits list requested step → Answers tree limits longer requested step
answers_longer tree limits list longer requested (Submitted p) begins within h = h
answers_longer tree limits list longer requested (Answered read) begins within h =
    let same : take read.front longer ≡ take read.front list = sym (ap (take read.front) begins.1) ∙ take-append-le read.front list begins.0 within in
    rw same h

pub all_longer : (tree : DeskTrees) (limits : Limits) (list longer : List Submission) (requested : List Requested) (steps : List Step) → IsPrefix list longer → AllByRecursion (IsWithin (length list)) steps
    → AllZip (Answers tree limits list) requested steps → AllZip (Answers tree limits longer) requested steps
all_longer tree limits list longer [] [] begins within h = tt
all_longer tree limits list longer [] (step ∷ steps) begins within h = absurd h
all_longer tree limits list longer (r ∷ requested) [] begins within h = absurd h
all_longer tree limits list longer (r ∷ requested) (step ∷ steps) begins within h =
    (answers_longer tree limits list longer r step begins within.0 h.0, all_longer tree limits list longer requested steps begins within.1 h.1)

pub within_more : (m n : ℕ) → m ≤ n → (step : Step) → IsWithin m step → IsWithin n step
within_more m n less (Submitted p) h = omega (arith, less, h)
within_more m n less (Answered read) h = omega (arith, less, h)

pub from_less : (m n : ℕ) → m ≤ n → (step : Step) → IsFrom n step → IsFrom m step
from_less m n less (Submitted p) h = omega (arith, less, h)
from_less m n less (Answered read) h = omega (arith, less, h)

-- ---- in turn

follows : (n : ℕ) (first second : Step) → IsWithin n first → IsFrom n second → Follows first second
follows n (Submitted p) (Submitted q) within from = omega (arith, within, from)
follows n (Submitted p) (Answered read) within from = omega (arith, within, from)
follows n (Answered read) (Submitted q) within from = omega (arith, within, from)
follows n (Answered read) (Answered later) within from = omega (arith, within, from)

turn_more : (n : ℕ) (steps : List Step) (step : Step) → AreInTurn steps → AllByRecursion (IsWithin n) steps → IsFrom n step → AreInTurn (steps ++ step ∷ [])
turn_more n [] step turn within from = (tt, tt)
turn_more n (first ∷ steps) step turn within from =
    (all_more (Follows first) steps step turn.0 (follows n first step within.0 from), turn_more n steps step turn.1 within.1 from)

-- ---- a lane

-- no request yet
pub lane_none : (tree : DeskTrees) (limits : Limits) (seat : SeatView) (reads : List ReadEntry) → LaneDid tree limits [] seat reads seat reads
lane_none tree limits seat reads = record { steps = []; made = made_none seat; reads_are = sym (append-nil reads); answers = tt; from = tt; within = tt; in_turn = tt }

-- one more request
pub lane_more : (tree : DeskTrees) (limits : Limits) (requested : List Requested) (r : Requested) (a b c : SeatView) (reads now next : List ReadEntry) (step : Step)
    → LaneDid tree limits requested a reads b now → OneStep tree limits r b c step → next ≡ now ++ reads_in (step ∷ []) → LaneDid tree limits (requested ++ r ∷ []) a reads c next
lane_more tree limits requested r a b c reads now next step did one is =
    let longer = made_longer b c (placed_of (step ∷ [])) one.made in
    let begins = made_longer a b (placed_of did.steps) did.made in
    let some = did.steps in
    record {
      steps = some ++ step ∷ [];
      made = rw (filter_map-append placed_in some (step ∷ [])) (made_then a b c (placed_of some) (placed_of (step ∷ [])) did.made one.made);
      reads_are = is ∙ (ap (λ front. front ++ reads_in (step ∷ [])) did.reads_are
          ∙ (append_assoc reads (reads_in some) (reads_in (step ∷ [])) ∙ ap (λ more. reads ++ more) (sym (filter_map-append read_in some (step ∷ [])))));
      answers = zip_more (Answers tree limits c.list) requested some r step (all_longer tree limits b.list c.list requested some longer did.within did.answers) one.answers;
      from = all_more (IsFrom (length a.list)) some step did.from (from_less (length a.list) (length b.list) (prefix_length a.list b.list begins) step one.from);
      within = all_more (IsWithin (length c.list)) some step (all_weaker (IsWithin (length b.list)) (IsWithin (length c.list)) some (within_more (length b.list) (length c.list) (prefix_length b.list c.list longer)) did.within) one.within;
      in_turn = turn_more (length b.list) some step did.in_turn did.within one.from;
    }
