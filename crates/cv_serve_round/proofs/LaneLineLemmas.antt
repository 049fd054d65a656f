-- The lines of a lane in the entries of a round: those of the steps that its requests led to.
use Rattle.std.proofs.Common.{◌≡◌, ℕ, ◌==◌, ◌<◌, ◌≤◌, ◌⊎◌, inl, inr, cond, Bool, true, false, List, [], ◌∷◌, filter, length, map, take, None, Some, option_and_then, refl, ap, sym, subst, ◌∙◌, arith}
use Rattle.std.specs.List.{AllByRecursion, AllZip, cons_option}
use Rattle.std.proofs.lemmas.Bool.{cases_lt, eq-eqb}
use Rattle.std.proofs.lemmas.List.{take-append-le}
use mathlib.Core.List.{IsPrefix}
use Rattle.cv_core_records.specs.declared.event.By.{By}
use Rattle.cv_core_records.specs.declared.event.By.TheVariants as by
use Rattle.cv_core_records.specs.declared.read.ReadEntry.{ReadEntry}
use Rattle.cv_transcript.specs.Order.{AreAscending, AreOfLane, Precedes, events_of, reads_by, reads_of}
use Rattle.cv_transcript.specs.declared.entry.Entry.{Entry}
use Rattle.cv_transcript.specs.declared.entry.Entry.TheVariants as entry
use Rattle.cv_transcript.proofs.OrderLemmas.{events_filter, filter_ascends, reads_ascend, reads_filter, same_parts}
use Rattle.cv_core_machine.specs.History.{act_name}
use Rattle.cv_core_machine.specs.Scans.{StatesEveryLayer, trees_of}
use Rattle.cv_core_machine.specs.declared.limits.Limits.{Limits}
use Rattle.cv_serve_legal.specs.Parts.{line_by, line_in, lines_answered}
use Rattle.cv_serve_legal.specs.Replay.{event_of, requested_at, submitted}
use Rattle.cv_serve_legal.specs.ParsedLine.{lines_requested}
use Rattle.cv_serve_legal.specs.code.Segment.{IsFound, lane_requests}
use Rattle.cv_serve_legal.specs.declared.parsed_line.Requested.{Requested}
use Rattle.cv_serve_legal.proofs.Assembled.{RequestsAscend, all_found, in_lane, of_lane, rise_lane}
use Rattle.cv_serve_lanes.specs.Events.{DeskTrees}
use Rattle.cv_serve_lanes.specs.code.Own.{Placed, Submission, entry_of}
use Rattle.cv_serve_lanes.proofs.Prefixes.{prefix_length}
use Rattle.cv_serve_lanes.specs.code.Lane.{Answered, Answers, AreInTurn, AreRequestsOf, Follows, IsFrom, IsWithin, Step, Submitted, entry_in, placed_of, reads_in}
use Rattle.cv_serve_round.specs.code.Parts.{IsSeen, IsSourced, is_of_lane}

-- ---- the entries of steps

step_events : (steps : List Step) → events_of (map entry_in steps) ≡ map entry_of (placed_of steps)
step_events [] = refl
step_events (Submitted p ∷ steps) = ap (λ events. entry_of p ∷ events) (step_events steps)
step_events (Answered read ∷ steps) = step_events steps

step_reads : (steps : List Step) → reads_of (map entry_in steps) ≡ reads_in steps
step_reads [] = refl
step_reads (Submitted p ∷ steps) = step_reads steps
step_reads (Answered read ∷ steps) = ap (λ reads. read ∷ reads) (step_reads steps)

-- ---- the entries of a lane

-- a step is of a lane, and on the line of a request
abbrev pub IsOnLine : ℕ → Requested → Step → Type 0
IsOnLine lane requested (Submitted p) = p.event.by ≡ by.Lane lane requested.line
IsOnLine lane requested (Answered read) = (read.lane ≡ lane) × (read.line ≡ requested.line)

-- an entry is of a lane
abbrev is_at : ℕ → Entry → Bool
is_at lane (entry.Refused line error) = false
is_at lane (entry.Event event) = is_of_lane lane event.by
is_at lane (entry.Read read) = read.lane == lane

cond_twice : (b : Bool) (line : ℕ) → cond b (Some line) None ≡ cond b (cond b (Some line) None) None
cond_twice true line = refl
cond_twice false line = refl

line_of_source : (lane : ℕ) (source : By) → line_by lane source ≡ cond (is_of_lane lane source) (line_by lane source) None
line_of_source lane (by.Lane other line) = cond_twice (other == lane) line
line_of_source lane (by.Worker worker) = refl

-- an entry that is not of the lane answers no line of it
line_of_entry : (lane : ℕ) (e : Entry) → line_in lane e ≡ cond (is_at lane e) (line_in lane e) None
line_of_entry lane (entry.Refused line error) = refl
line_of_entry lane (entry.Event event) = line_of_source lane event.by
line_of_entry lane (entry.Read read) = cond_twice (read.lane == lane) read.line

lines_cond : (lane : ℕ) (b : Bool) (e : Entry) (es : List Entry) → cons_option (cond b (line_in lane e) None) (lines_answered lane es) ≡ lines_answered lane (cond b (e ∷ es) es)
lines_cond lane true e es = refl
lines_cond lane false e es = refl

-- the lines of a lane are those of its entries
lines_kept : (lane : ℕ) (es : List Entry) → lines_answered lane es ≡ lines_answered lane (filter (is_at lane) es)
lines_kept lane [] = refl
lines_kept lane (e ∷ es) =
    ap (λ lines. cons_option (line_in lane e) lines) (lines_kept lane es)
    ∙ (ap (λ line. cons_option line (lines_answered lane (filter (is_at lane) es))) (line_of_entry lane e) ∙ lines_cond lane (is_at lane e) e (filter (is_at lane) es))

line_here : (lane other line : ℕ) → other ≡ lane → cond (other == lane) (Some line) None ≡ Some line
line_here lane other line same = ap (λ b. cond b (Some line) None) (eq-eqb other lane same)

line_of_step : (lane : ℕ) (requested : Requested) (step : Step) → IsOnLine lane requested step → line_in lane (entry_in step) ≡ Some requested.line
line_of_step lane requested (Submitted p) h = ap (line_by lane) h ∙ line_here lane lane requested.line refl
line_of_step lane requested (Answered read) h = line_here lane read.lane read.line h.0 ∙ ap (λ line. Some line) h.1

lines_of_steps : (lane : ℕ) (asks : List Requested) (steps : List Step) → AllZip (λ requested step. IsOnLine lane requested step) asks steps
    → lines_answered lane (map entry_in steps) ≡ map (λ (requested : Requested). requested.line) asks
lines_of_steps lane [] [] h = refl
lines_of_steps lane [] (step ∷ steps) h = absurd h
lines_of_steps lane (requested ∷ asks) [] h = absurd h
lines_of_steps lane (requested ∷ asks) (step ∷ steps) h =
    ap (λ line. cons_option line (lines_answered lane (map entry_in steps))) (line_of_step lane requested step h.0) ∙ ap (λ lines. requested.line ∷ lines) (lines_of_steps lane asks steps h.1)

-- entries whose events and reads of a lane are those of steps have in this lane the lines of its requests
pub lane_lines : (lane : ℕ) (asks : List Requested) (steps : List Step) (others : List Entry) → AreAscending others → AreAscending (map entry_in steps)
    → filter (λ event. is_of_lane lane event.by) (events_of others) ≡ map entry_of (placed_of steps) → reads_by lane (reads_of others) ≡ reads_in steps
    → AllZip (λ requested step. IsOnLine lane requested step) asks steps → lines_answered lane others ≡ map (λ (requested : Requested). requested.line) asks
lane_lines lane asks steps others order rising events reads lines =
    let same : filter (is_at lane) others ≡ map entry_in steps =
    same_parts (filter (is_at lane) others) (map entry_in steps) (filter_ascends (is_at lane) others order) rising
    (events_filter (is_at lane) others ∙ (events ∙ sym (step_events steps))) (reads_filter (is_at lane) others ∙ (reads ∙ sym (step_reads steps))) in
    lines_kept lane others ∙ (ap (lines_answered lane) same ∙ lines_of_steps lane asks steps lines)

-- entries without events and reads of a lane have no line of it
pub no_lane_lines : (lane : ℕ) (others : List Entry) → AreAscending others → filter (λ event. is_of_lane lane event.by) (events_of others) ≡ [] → reads_by lane (reads_of others) ≡ []
    → lines_answered lane others ≡ []
no_lane_lines lane others order events reads = lane_lines lane [] [] others order tt events reads tt

-- ---- the steps of requests

-- a step that answers a request of a lane is on its line
line_of_answer : (lane : ℕ) (tree : DeskTrees) (limits : Limits) (list : List Submission) (requested : Requested) (step : Step) → requested.request.lane ≡ lane → Answers tree limits list requested step
    → IsOnLine lane requested step
line_of_answer lane tree limits list requested (Submitted p) here h = h.0 ∙ ap (λ n. by.Lane n requested.line) here
line_of_answer lane tree limits list requested (Answered read) here h = (h.0 ∙ here, h.1)

pub lane_on_lines : (lane : ℕ) (tree : DeskTrees) (limits : Limits) (list : List Submission) (asks : List Requested) (steps : List Step) → AreRequestsOf lane asks
    → AllZip (Answers tree limits list) asks steps → AllZip (λ requested step. IsOnLine lane requested step) asks steps
lane_on_lines lane tree limits list [] [] of h = tt
lane_on_lines lane tree limits list [] (step ∷ steps) of h = absurd h
lane_on_lines lane tree limits list (requested ∷ asks) [] of h = absurd h
lane_on_lines lane tree limits list (requested ∷ asks) (step ∷ steps) of h =
    (line_of_answer lane tree limits list requested step of.0 h.0, lane_on_lines lane tree limits list asks steps of.2 h.1)

-- reads of one lane, the second on a later line
reads_precede : (lane : ℕ) (first second : Requested) (read later : ReadEntry) → first.line < second.line → IsOnLine lane first (Answered read) → IsOnLine lane second (Answered later)
    → read.front ≤ later.front → Precedes (entry.Read read) (entry.Read later)
reads_precede lane first second read later less here there front = by_front (cases_lt read.front later.front) where
  by_front : (read.front < later.front) ⊎ (later.front ≤ read.front) → Precedes (entry.Read read) (entry.Read later)
  by_front (inl h) = inl h
  by_front (inr h) = inr (omega (arith, front, h), inr (here.0 ∙ sym there.0, let line = here.1 in let other = there.1 in omega (arith, less, line, other)))

-- a step that follows another precedes it in the order of entries
step_precedes : (lane : ℕ) (first second : Requested) (step later : Step) → first.line < second.line → IsOnLine lane first step → IsOnLine lane second later → Follows step later
    → Precedes (entry_in step) (entry_in later)
step_precedes lane first second (Submitted p) (Submitted q) less here there h = h
step_precedes lane first second (Submitted p) (Answered read) less here there h = h
step_precedes lane first second (Answered read) (Submitted q) less here there h = h
step_precedes lane first second (Answered read) (Answered later) less here there h = reads_precede lane first second read later less here there h

all_precede : (lane : ℕ) (first : Requested) (step : Step) (asks : List Requested) (steps : List Step) → IsOnLine lane first step
    → AllByRecursion (λ (other : Requested). first.line < other.line) asks → AllZip (λ requested step. IsOnLine lane requested step) asks steps → AllByRecursion (Follows step) steps
    → AllByRecursion (Precedes (entry_in step)) (map entry_in steps)
all_precede lane first step [] [] here less lines h = tt
all_precede lane first step [] (later ∷ steps) here less lines h = absurd lines
all_precede lane first step (requested ∷ asks) [] here less lines h = tt
all_precede lane first step (requested ∷ asks) (later ∷ steps) here less lines h =
    (step_precedes lane first requested step later less.0 here lines.0 h.0, all_precede lane first step asks steps here less.1 lines.1 h.1)

is_event_or_read : (step : Step) (rest : List Entry) → AllByRecursion (Precedes (entry_in step)) rest → AreAscending rest → AreAscending (entry_in step ∷ rest)
is_event_or_read (Submitted p) rest h k = (tt, h, k)
is_event_or_read (Answered read) rest h k = (tt, h, k)

lines_ascend : (lane : ℕ) (asks : List Requested) (steps : List Step) → AreRequestsOf lane asks → AllZip (λ requested step. IsOnLine lane requested step) asks steps → AreInTurn steps
    → AreAscending (map entry_in steps)
lines_ascend lane [] [] of lines turn = tt
lines_ascend lane [] (step ∷ steps) of lines turn = absurd lines
lines_ascend lane (requested ∷ asks) [] of lines turn = absurd lines
lines_ascend lane (requested ∷ asks) (step ∷ steps) of lines turn =
    is_event_or_read step (map entry_in steps) (all_precede lane requested step asks steps lines.0 of.1 lines.1 turn.0) (lines_ascend lane asks steps of.2 lines.1 turn.1)

-- the entries of a lane's steps stand in their order
pub steps_ascend : (lane : ℕ) (tree : DeskTrees) (limits : Limits) (list : List Submission) (asks : List Requested) (steps : List Step) → AreRequestsOf lane asks
    → AllZip (Answers tree limits list) asks steps → AreInTurn steps → AreAscending (map entry_in steps)
steps_ascend lane tree limits list asks steps of h turn = lines_ascend lane asks steps of (lane_on_lines lane tree limits list asks steps of h) turn

-- ---- the reads of a lane

-- they are of it
pub reads_of_lane : (lane : ℕ) (tree : DeskTrees) (limits : Limits) (list : List Submission) (asks : List Requested) (steps : List Step) → AreRequestsOf lane asks
    → AllZip (Answers tree limits list) asks steps → AllByRecursion (λ read. read.lane ≡ lane) (reads_in steps)
reads_of_lane lane tree limits list [] [] of h = tt
reads_of_lane lane tree limits list [] (step ∷ steps) of h = absurd h
reads_of_lane lane tree limits list (requested ∷ asks) [] of h = absurd h
reads_of_lane lane tree limits list (requested ∷ asks) (Submitted p ∷ steps) of h = reads_of_lane lane tree limits list asks steps of.2 h.1
reads_of_lane lane tree limits list (requested ∷ asks) (Answered read ∷ steps) of h = (h.0.0 ∙ of.0, reads_of_lane lane tree limits list asks steps of.2 h.1)

-- and stand in order
pub reads_in_lane : (lane : ℕ) (tree : DeskTrees) (limits : Limits) (list : List Submission) (asks : List Requested) (steps : List Step) → AreRequestsOf lane asks
    → AllZip (Answers tree limits list) asks steps → AreInTurn steps → AreOfLane lane (reads_in steps)
reads_in_lane lane tree limits list asks steps of h turn = record {
  lanes = reads_of_lane lane tree limits list asks steps of h;
  ascending = subst (λ reads. AreAscending (map entry.Read reads)) (step_reads steps) (reads_ascend (map entry_in steps) (steps_ascend lane tree limits list asks steps of h turn));
}

-- a read of a lane, seen in a longer list and among all requests
read_seen : (tree : DeskTrees) (limits : Limits) (before : ℕ) (list whole : List Submission) (all : List Requested) (requested : Requested) (read : ReadEntry) → StatesEveryLayer tree → IsPrefix list whole
    → IsFound all requested → Answers tree limits list requested (Answered read) → before ≤ read.front → read.front ≤ length list → IsSeen (trees_of tree) limits whole before all read
read_seen tree limits before list whole all requested read known begins found h from within =
    let same : take read.front whole ≡ take read.front list = sym (ap (take read.front) begins.1) ∙ take-append-le read.front list begins.0 within in
    let longer = prefix_length list whole begins in
    record {
      act = requested.request.act;
      source = ap (λ lane. requested_at all lane read.line) h.0 ∙ (ap (λ line. requested_at all requested.request.lane line) h.1 ∙ found);
      low = from;
      high = omega (arith, within, longer);
      is = rw same (h.2 known);
    }

pub lane_seen : (tree : DeskTrees) (limits : Limits) (before : ℕ) (list whole : List Submission) (all asks : List Requested) (steps : List Step) → StatesEveryLayer tree → IsPrefix list whole
    → AllByRecursion (IsFound all) asks → AllZip (Answers tree limits list) asks steps → AllByRecursion (IsFrom before) steps → AllByRecursion (IsWithin (length list)) steps
    → AllByRecursion (IsSeen (trees_of tree) limits whole before all) (reads_in steps)
lane_seen tree limits before list whole all [] [] known begins found h from within = tt
lane_seen tree limits before list whole all [] (step ∷ steps) known begins found h from within = absurd h
lane_seen tree limits before list whole all (requested ∷ asks) [] known begins found h from within = absurd h
lane_seen tree limits before list whole all (requested ∷ asks) (Submitted p ∷ steps) known begins found h from within =
    lane_seen tree limits before list whole all asks steps known begins found.1 h.1 from.1 within.1
lane_seen tree limits before list whole all (requested ∷ asks) (Answered read ∷ steps) known begins found h from within =
    (read_seen tree limits before list whole all requested read known begins found.0 h.0 from.0 within.0, lane_seen tree limits before list whole all asks steps known begins found.1 h.1 from.1 within.1)

-- ---- the events of a lane

-- an event is that of the request on its line
event_sourced : (tree : DeskTrees) (limits : Limits) (list : List Submission) (all : List Requested) (requested : Requested) (p : Placed) → IsFound all requested
    → Answers tree limits list requested (Submitted p) → IsSourced all p.event
event_sourced tree limits list all requested p found h =
    ap (λ source. submitted all source (act_name p.event.act)) h.0 ∙ (ap (λ o. option_and_then event_of o) found ∙ h.1)

pub lane_sourced : (tree : DeskTrees) (limits : Limits) (list : List Submission) (all asks : List Requested) (steps : List Step) → AllByRecursion (IsFound all) asks
    → AllZip (Answers tree limits list) asks steps → AllByRecursion (λ p. IsSourced all p.event) (placed_of steps)
lane_sourced tree limits list all [] [] found h = tt
lane_sourced tree limits list all [] (step ∷ steps) found h = absurd h
lane_sourced tree limits list all (requested ∷ asks) [] found h = absurd h
lane_sourced tree limits list all (requested ∷ asks) (Submitted p ∷ steps) found h = (event_sourced tree limits list all requested p found.0 h.0, lane_sourced tree limits list all asks steps found.1 h.1)
lane_sourced tree limits list all (requested ∷ asks) (Answered read ∷ steps) found h = lane_sourced tree limits list all asks steps found.1 h.1

-- ---- the requests of a lane

asks_of : (lane : ℕ) (asks : List Requested) → AllByRecursion (λ r. r.request.lane ≡ lane) asks → RequestsAscend asks → AreRequestsOf lane asks
asks_of lane [] here ascend = tt
asks_of lane (requested ∷ asks) here ascend = (here.0, ascend.0, asks_of lane asks here.1 ascend.1)

-- those of all requests that are a lane's are of it, on ascending lines
pub asks_of_lane : (lane : ℕ) (all : List Requested) → RequestsAscend all → AreRequestsOf lane (lane_requests lane all)
asks_of_lane lane all ascend = asks_of lane (lane_requests lane all) (of_lane lane all) (rise_lane lane all ascend)

-- their lines
pub lines_of_lane : (lane : ℕ) (all : List Requested) → lines_requested lane all ≡ map (λ (requested : Requested). requested.line) (lane_requests lane all)
lines_of_lane lane all = refl

-- and each of them is found among all
pub found_of_lane : (lane : ℕ) (all : List Requested) → RequestsAscend all → AllByRecursion (IsFound all) (lane_requests lane all)
found_of_lane lane all ascend = in_lane (IsFound all) lane all (all_found all ascend)
