-- One request of a lane.
use Rattle.std.proofs.Common.{◌≡◌, ℕ, ◌+◌, ◌⊎◌, inl, inr, List, [], ◌∷◌, length, take, Some, Result, Ok, Err, refl, ap, sym, ◌∙◌, arith, length-append}
use Rattle.std.specs.Prelude.{IfOk, option_map}
use Rattle.std.proofs.lemmas.List.{take_all}
use mathlib.Core.List.{IsPrefix}
use Rattle.cv_seq.specs.declared.memory.NoMemory.{NoMemory}
use Rattle.cv_core_records.specs.declared.event.By.TheVariants as by
use Rattle.cv_core_records.specs.declared.read.Answer.{Answer}
use Rattle.cv_core_records.specs.declared.read.Answer.TheVariants as answer
use Rattle.cv_core_records.specs.declared.read.ReadEntry.{ReadEntry}
use Rattle.cv_core_records.specs.declared.reply.Reply.{Reply}
use Rattle.cv_request.specs.declared.request.Act.{Act}
use Rattle.cv_core_machine.specs.Answer.{Read, answer_to}
use Rattle.cv_core_machine.specs.Scans.{StatesEveryLayer, trees_of}
use Rattle.cv_core_machine.specs.declared.event.MachineEvent.{MachineEvent}
use Rattle.cv_core_machine.specs.declared.limits.Limits.{Limits}
use Rattle.cv_hub.specs.Events.{DeskTrees, state_of}
use Rattle.cv_hub.specs.Seats.{IsApplied, SeatView, seat_of}
use Rattle.cv_hub.proofs.Prefixes.{prefix_length}
use Rattle.cv_serve_legal.specs.Replay.{event_of, read_of}
use Rattle.cv_serve_lanes.specs.code.Own.{Placed, Submission, placed}
use Rattle.cv_serve_lanes.specs.code.Lane.{Answered, OneStep, Submitted}
use Rattle.cv_serve_lanes.specs.code.RequestOrigin.{answer_of, answered_read, read_by, request_of, requested_by}
use Rattle.cv_serve_lanes.specs.declared.request.Query.{Query}
use Rattle.cv_serve_lanes.specs.declared.request.Query.TheVariants as query
use Rattle.cv_serve_lanes.specs.declared.request.RequestOrigin.{RequestOrigin}
use Rattle.cv_serve_lanes.proofs.OwnLemmas.{made_one, made_seen}

answered_by : (tree : DeskTrees) (limits : Limits) (act : Act) (read : Read) (list seen : List Submission) (found : Result Answer NoMemory) (said : Answer) → said ≡ answer_of found → seen ≡ list
    → read_of act ≡ Some read → IfOk found (λ a. a ≡ answer_to (trees_of tree) (state_of (trees_of tree) limits list) read)
    → (said ≡ answer.NoMemory) ⊎ (option_map (answer_to (trees_of tree) (state_of (trees_of tree) limits seen)) (read_of act) ≡ Some said)
answered_by tree limits act read list seen (Ok a) said is same asks h =
    inr (ap (option_map (answer_to (trees_of tree) (state_of (trees_of tree) limits seen))) asks
    ∙ (ap (λ (l : List Submission). Some (answer_to (trees_of tree) (state_of (trees_of tree) limits l) read)) same ∙ ap Some (sym h ∙ sym is)))
answered_by tree limits act read list seen (Err error) said is same asks h = inl is

answered_with : (tree : DeskTrees) (limits : Limits) (origin : RequestOrigin) (act : Act) (before after : SeatView) (list : List Submission) (refused : ℕ) (found : Result Answer NoMemory) (entry : ReadEntry)
    → IsPrefix before.list list → after ≡ seat_of before.index list before.count refused → entry ≡ answered_read origin list found
    → ((seen : List Submission) → seen ≡ list → StatesEveryLayer tree → (entry.answer ≡ answer.NoMemory) ⊎ (option_map (answer_to (trees_of tree) (state_of (trees_of tree) limits seen)) (read_of act) ≡ Some entry.answer))
    → OneStep tree limits (request_of origin act) before after (Answered entry)
answered_with tree limits origin act before after list refused found entry begins is made says =
    let size : entry.front ≡ length list = ap (λ r. r.front) made in
    let now : after.list ≡ list = ap (λ s. s.list) is in
    let whole : take entry.front after.list ≡ list = ap (take entry.front) now ∙ take_all entry.front list (omega (arith, size)) in
    record {
      made = made_seen before after list refused begins is;
      answers = (ap (λ r. r.lane) made, ap (λ r. r.line) made, says (take entry.front after.list) whole);
      from = omega (arith, size, prefix_length before.list list begins);
      within = omega (arith, size, ap length now);
    }

-- the request of a read is for that read
read_requested : (wanted : Query) → read_of (requested_by wanted) ≡ Some (read_by wanted)
read_requested (query.Report image) = refl
read_requested (query.Page number size page) = refl
read_requested query.List = refl

-- a read was answered after the events of a list
pub query_answered : (tree : DeskTrees) (limits : Limits) (origin : RequestOrigin) (wanted : Query) (before after : SeatView) (list : List Submission) (refused : ℕ) (found : Result Answer NoMemory) (entry : ReadEntry)
    → IsPrefix before.list list → after ≡ seat_of before.index list before.count refused → entry ≡ answered_read origin list found
    → (StatesEveryLayer tree → IfOk found (λ a. a ≡ answer_to (trees_of tree) (state_of (trees_of tree) limits list) (read_by wanted)))
    → OneStep tree limits (request_of origin (requested_by wanted)) before after (Answered entry)
query_answered tree limits origin wanted before after list refused found entry begins is made h =
    answered_with tree limits origin (requested_by wanted) before after list refused found entry begins is made
    (λ seen same known. answered_by tree limits (requested_by wanted) (read_by wanted) list seen found entry.answer (ap (λ r. r.answer) made) same
    (read_requested wanted) (h known))

-- a request of any kind ran out of memory after the events of a list
pub no_memory : (tree : DeskTrees) (limits : Limits) (origin : RequestOrigin) (act : Act) (before after : SeatView) (list : List Submission) (refused : ℕ) (error : NoMemory) (entry : ReadEntry)
    → IsPrefix before.list list → after ≡ seat_of before.index list before.count refused → entry ≡ answered_read origin list (Err error)
    → OneStep tree limits (request_of origin act) before after (Answered entry)
no_memory tree limits origin act before after list refused error entry begins is made =
    answered_with tree limits origin act before after list refused (Err error) entry begins is made (λ seen same known. inl (ap (λ r. r.answer) made))

-- an event was applied
pub submitted_one : (tree : DeskTrees) (limits : Limits) (origin : RequestOrigin) (act : Act) (event : MachineEvent) (before after : SeatView) (list : List Submission) (number : ℕ) (reply : Reply) (note : List Submission)
    → event_of act ≡ Some event → IsApplied tree limits list before (by.Lane origin.lane origin.line) event number reply note after
    → (p : Placed) × OneStep tree limits (request_of origin act) before after (Submitted p)
submitted_one tree limits origin act event before after list number reply note is h =
    let one : Submission = record { seat = before.index; by = by.Lane origin.lane origin.line; act = event; reply = reply } in
    let size : length after.list ≡ length list + 1 = ap (λ s. length s.list) h.seat_is ∙ (ap length h.note_is ∙ length-append list (one ∷ [])) in (
      placed number one,
      record {
        made = made_one tree limits list before after (by.Lane origin.lane origin.line) event number reply note h;
        answers = (refl, is);
        from = omega (arith, h.number_is, prefix_length before.list list h.seen);
        within = omega (arith, h.number_is, size);
      },
    )
