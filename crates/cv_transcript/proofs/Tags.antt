-- The tag of the value of an entry is the entry's own.
use Rattle.std.proofs.Common.{◌≡◌, ℕ, ◌==◌, Bool, true, false, List, Some, None, refl, sym, ap, ◌∙◌, true≢false, ◌≤◌, subst, arith}
use Rattle.std.specs.Prelude.{codes, cond, Option, is_some, option_and_then, Result, Ok, Err, OnOk}
use Rattle.std.specs.Cmp.Lexicographic.{pointwise, nat_list_eq_equiv}
use Rattle.std.specs.List.{list_any}
use Rattle.serde_json.specs.Data.{Data, Members, depth, no_members, number, object, put, string, unsigned}
use Rattle.serde_json.specs.Find.{as_str, get_member}
use Rattle.serde_json.specs.Read.{max_depth, read}
use Rattle.serde_json.specs.Written.{compact_text}
use Rattle.serde_json.proofs.Views.{get_member-put, get_member-put_other}
use Rattle.cv_core_records.specs.declared.event.Act.{Act}
use Rattle.cv_core_records.specs.declared.event.Act.TheVariants as act
use Rattle.cv_core_records.specs.declared.event.By.{By}
use Rattle.cv_core_records.specs.declared.event.By.TheVariants as by
use Rattle.cv_core_records.specs.declared.read.Answer.{Answer}
use Rattle.cv_core_records.specs.declared.read.Answer.TheVariants as answer
use Rattle.cv_core_records.specs.declared.read.PageOutcome.{PageOutcome}
use Rattle.cv_core_records.specs.declared.read.PageOutcome.TheVariants as page
use Rattle.cv_core_records.specs.declared.read.ReportOutcome.{ReportOutcome}
use Rattle.cv_core_records.specs.declared.read.ReportOutcome.TheVariants as report
use Rattle.cv_core_records.specs.declared.reply.Reply.{Reply}
use Rattle.cv_core_records.specs.declared.reply.Reply.TheVariants as reply
use Rattle.cv_request.specs.declared.error.RequestError.{RequestError}
use Rattle.cv_request.specs.declared.error.RequestError.TheVariants as error
use Rattle.cv_request.specs.declared.error.RequestWhat.{RequestWhat}
use Rattle.cv_transcript.specs.declared.entry.Entry.{Entry}
use Rattle.cv_transcript.specs.declared.entry.Entry.TheVariants.{Refused, Event, Read}
use Rattle.cv_transcript.specs.Entry.{entry_data, entry_json}
use Rattle.cv_transcript.specs.Event.{act_name, put_by, put_details, put_reply, put_seals, put_subject}
use Rattle.cv_transcript.specs.Members.{put_number, put_text, seals_data}
use Rattle.cv_transcript.specs.Read.{answer_members}
use Rattle.cv_scan_output.specs.Refusal.{bad_request_data, refusal_data}
use Rattle.cv_transcript.specs.Tag.{RefusedLine, LaneEvent, WorkerEvent, LaneRead, entry_tag, event_tag, is_no_memory_answer, is_no_memory_error, layer_of, tag_of, tag_of_json}
use Rattle.cv_scan_output.proofs.Requests.{each_request}
use Rattle.cv_transcript.proofs.Plain.{entry_plain}

-- ---- looking up a member

-- two names are different
abbrev AreOther : List ℕ → List ℕ → Type 0
AreOther q k = pointwise ◌==◌ q k ≡ false

-- a member that was put changes no other
other : (q k : List ℕ) (d : Data) (ms : Members) → AreOther q k → get_member q (put k d ms) ≡ get_member q ms
other q k d ms h = get_member-put_other q k d ms (λ e. true≢false (sym (nat_list_eq_equiv.refl q) ∙ ap (pointwise ◌==◌ q) e ∙ h))

-- ---- events

-- the name is none of those of a reply
abbrev IsFree : List ℕ → Type 0
IsFree q = AreOther q (codes "reply") × AreOther q (codes "kept") × AreOther q (codes "generation") × AreOther q (codes "rows") × AreOther q (codes "kept_seals") × AreOther q (codes "would")

seals_other : (q : List ℕ) → IsFree q → (seals : List (Option (List ℕ))) (ms : Members) → get_member q (put_seals seals ms) ≡ get_member q ms
seals_other q h seals ms = by_test (list_any is_some seals) where
  by_test : (b : Bool) → get_member q (cond b (put (codes "kept_seals") (seals_data seals) ms) ms) ≡ get_member q ms
  by_test true = other q _ _ ms h.4
  by_test false = refl

details_other : (q : List ℕ) → IsFree q → (r : Reply) (ms : Members) → get_member q (put_details r ms) ≡ get_member q ms
details_other q h reply.Registered ms = refl
details_other q h reply.Already ms = refl
details_other q h (reply.Conflict kept seals) ms = other q _ _ _ h.1 ∙ seals_other q h seals ms
details_other q h reply.TooManyImages ms = refl
details_other q h reply.Dropped ms = refl
details_other q h reply.NotRegistered ms = refl
details_other q h reply.Claimed ms = refl
details_other q h reply.Taken ms = refl
details_other q h reply.Unwanted ms = refl
details_other q h reply.Entered ms = refl
details_other q h reply.Discarded ms = refl
details_other q h reply.Requeued ms = refl
details_other q h reply.NotClaimed ms = refl
details_other q h (reply.Updated generation rows) ms = other q _ _ _ h.2 ∙ other q _ _ ms h.3
details_other q h reply.TooManyFeeds ms = refl
details_other q h reply.NoFeed ms = refl
details_other q h (reply.StaleBase kept) ms = other q _ _ ms h.1
details_other q h (reply.TooManyRecords would) ms = other q _ _ ms h.5
details_other q h reply.Acked ms = refl
details_other q h reply.NoNotification ms = refl

reply_other : (q : List ℕ) → IsFree q → (r : Reply) → get_member q (put_reply r no_members) ≡ None
reply_other q h r = other q _ _ _ h.0 ∙ details_other q h r no_members

-- the name is none of those of what an event is about
abbrev IsNoSubject : List ℕ → Type 0
IsNoSubject q = AreOther q (codes "image") × AreOther q (codes "layer") × AreOther q (codes "feed") × AreOther q (codes "number")

subject_other : (q : List ℕ) → IsNoSubject q → (a : Act) (ms : Members) → get_member q (put_subject a ms) ≡ get_member q ms
subject_other q h (act.Register image) ms = other q _ _ ms h.0
subject_other q h (act.DropImage image) ms = other q _ _ ms h.0
subject_other q h (act.Claim layer) ms = other q _ _ ms h.1
subject_other q h (act.Indexed layer) ms = other q _ _ ms h.1
subject_other q h (act.Fault layer) ms = other q _ _ ms h.1
subject_other q h (act.Memory layer) ms = other q _ _ ms h.1
subject_other q h (act.Update feed) ms = other q _ _ ms h.2
subject_other q h (act.Patch feed) ms = other q _ _ ms h.2
subject_other q h (act.Ack n) ms = other q _ _ ms h.3

-- what an event is about, and the reply, have no such member
inner_other : (q : List ℕ) → IsNoSubject q → IsFree q → (a : Act) (r : Reply) → get_member q (put_subject a (put_reply r no_members)) ≡ None
inner_other q s f a r = subject_other q s a _ ∙ reply_other q f r

-- the layer of an event without one
no_layer : (k : List ℕ) (d : Data) (ms : Members) → AreOther (codes "layer") k → get_member (codes "layer") ms ≡ None → option_and_then as_str (get_member (codes "layer") (put k d ms)) ≡ None
no_layer k d ms o h = ap (option_and_then as_str) (other (codes "layer") k d ms o ∙ h)

-- the layer of an event with one
one_layer : (text : List ℕ) (ms : Members) → option_and_then as_str (get_member (codes "layer") (put (codes "layer") (string text) ms)) ≡ Some text
one_layer text ms = ap (option_and_then as_str) (get_member-put (codes "layer") (string text) ms)

layer_found : (a : Act) (ms : Members) → get_member (codes "layer") ms ≡ None → option_and_then as_str (get_member (codes "layer") (put_subject a ms)) ≡ layer_of a
layer_found (act.Register image) ms h = no_layer _ _ ms refl h
layer_found (act.DropImage image) ms h = no_layer _ _ ms refl h
layer_found (act.Claim layer) ms h = one_layer _ ms
layer_found (act.Indexed layer) ms h = one_layer _ ms
layer_found (act.Fault layer) ms h = one_layer _ ms
layer_found (act.Memory layer) ms h = one_layer _ ms
layer_found (act.Update feed) ms h = no_layer _ _ ms refl h
layer_found (act.Patch feed) ms h = no_layer _ _ ms refl h
layer_found (act.Ack n) ms h = no_layer _ _ ms refl h

-- the members of a lane's event
abbrev lane_members : ℕ → List ℕ → ℕ → ℕ → Members → Members
lane_members at name lane line ms = put_number (codes "at") at (put_text (codes "event") name (put_by (by.Lane lane line) ms))

-- the members of a worker's event
abbrev worker_members : ℕ → List ℕ → ℕ → Members → Members
worker_members at name worker ms = put_number (codes "at") at (put_text (codes "event") name (put_by (by.Worker worker) ms))

-- the tag by what the members are
lane_tag : (ms : Members) (at lane line : ℕ) (name : List ℕ) → get_member (codes "refused") ms ≡ None → get_member (codes "worker") ms ≡ None → get_member (codes "event") ms ≡ Some (string name)
    → get_member (codes "at") ms ≡ Some (number (unsigned at)) → get_member (codes "lane") ms ≡ Some (number (unsigned lane)) → get_member (codes "line") ms ≡ Some (number (unsigned line))
    → tag_of (object ms) ≡ Some (LaneEvent at lane line)
lane_tag ms at lane line name r w e a l n = rw (r, w, e, a, l, n)

worker_tag : (ms : Members) (at worker : ℕ) (name : List ℕ) (layer : Option (List ℕ)) → get_member (codes "refused") ms ≡ None → get_member (codes "worker") ms ≡ Some (number (unsigned worker))
    → get_member (codes "event") ms ≡ Some (string name) → get_member (codes "at") ms ≡ Some (number (unsigned at)) → option_and_then as_str (get_member (codes "layer") ms) ≡ layer
    → tag_of (object ms) ≡ Some (WorkerEvent at name layer worker)
worker_tag ms at worker name layer r w e a l = rw (r, w, e, a, l)

lane_event : (at lane line : ℕ) (name : List ℕ) (ms : Members) → get_member (codes "refused") ms ≡ None → get_member (codes "worker") ms ≡ None → tag_of (object (lane_members at name lane line ms)) ≡ Some (LaneEvent at lane line)
lane_event at lane line name ms r w =
    let past = λ (q : List ℕ) (a : AreOther q (codes "at")) (e : AreOther q (codes "event")). other q _ (number (unsigned at)) (put_text (codes "event") name (put_by (by.Lane lane line) ms)) a ∙ other q _ (string name) (put_by (by.Lane lane line) ms) e in
    let by_past = λ (q : List ℕ) (l : AreOther q (codes "lane")) (n : AreOther q (codes "line")). other q _ (number (unsigned lane)) (put_number (codes "line") line ms) l ∙ other q _ (number (unsigned line)) ms n in
    lane_tag (lane_members at name lane line ms) at lane line name
    (past (codes "refused") refl refl ∙ by_past (codes "refused") refl refl ∙ r)
    (past (codes "worker") refl refl ∙ by_past (codes "worker") refl refl ∙ w)
    (other (codes "event") _ (number (unsigned at)) (put_text (codes "event") name (put_by (by.Lane lane line) ms)) refl ∙ get_member-put (codes "event") (string name) (put_by (by.Lane lane line) ms))
    (get_member-put (codes "at") (number (unsigned at)) (put_text (codes "event") name (put_by (by.Lane lane line) ms)))
    (past (codes "lane") refl refl ∙ get_member-put (codes "lane") (number (unsigned lane)) (put_number (codes "line") line ms))
    (past (codes "line") refl refl ∙ other (codes "line") _ (number (unsigned lane)) (put_number (codes "line") line ms) refl ∙ get_member-put (codes "line") (number (unsigned line)) ms)

worker_event : (at worker : ℕ) (name : List ℕ) (layer : Option (List ℕ)) (ms : Members) → get_member (codes "refused") ms ≡ None → option_and_then as_str (get_member (codes "layer") ms) ≡ layer
    → tag_of (object (worker_members at name worker ms)) ≡ Some (WorkerEvent at name layer worker)
worker_event at worker name layer ms r l =
    let past = λ (q : List ℕ) (a : AreOther q (codes "at")) (e : AreOther q (codes "event")). other q _ (number (unsigned at)) (put_text (codes "event") name (put_by (by.Worker worker) ms)) a ∙ other q _ (string name) (put_by (by.Worker worker) ms) e in
    let by_past = λ (q : List ℕ) (w : AreOther q (codes "worker")). other q _ (number (unsigned worker)) ms w in
    worker_tag (worker_members at name worker ms) at worker name layer
    (past (codes "refused") refl refl ∙ by_past (codes "refused") refl ∙ r)
    (past (codes "worker") refl refl ∙ get_member-put (codes "worker") (number (unsigned worker)) ms)
    (other (codes "event") _ (number (unsigned at)) (put_text (codes "event") name (put_by (by.Worker worker) ms)) refl ∙ get_member-put (codes "event") (string name) (put_by (by.Worker worker) ms))
    (get_member-put (codes "at") (number (unsigned at)) (put_text (codes "event") name (put_by (by.Worker worker) ms)))
    (ap (option_and_then as_str) (past (codes "layer") refl refl ∙ by_past (codes "layer") refl) ∙ l)

event_is : (at : ℕ) (b : By) (a : Act) (r : Reply)
    → tag_of (object (put_number (codes "at") at (put_text (codes "event") (act_name a) (put_by b (put_subject a (put_reply r no_members)))))) ≡ Some (event_tag at b a)
event_is at (by.Lane lane line) a r =
    lane_event at lane line (act_name a) (put_subject a (put_reply r no_members)) (inner_other (codes "refused") (refl, refl, refl, refl) (refl, refl, refl, refl, refl, refl) a r) (inner_other (codes "worker") (refl, refl, refl, refl) (refl, refl, refl, refl, refl, refl) a r)
event_is at (by.Worker worker) a r =
    worker_event at worker (act_name a) (layer_of a) (put_subject a (put_reply r no_members)) (inner_other (codes "refused") (refl, refl, refl, refl) (refl, refl, refl, refl, refl, refl) a r)
    (layer_found a (put_reply r no_members) (reply_other (codes "layer") (refl, refl, refl, refl, refl, refl) r))

-- ---- reads

abbrev read_members : ℕ → ℕ → ℕ → Answer → Members
read_members front lane line a = put_number (codes "at") front (put_number (codes "lane") lane (put_number (codes "line") line (answer_members a)))

report_is : (front lane line : ℕ) (image : List ℕ) (outcome : ReportOutcome) → tag_of (object (read_members front lane line (answer.Report image outcome))) ≡ Some (LaneRead front lane line false)
report_is front lane line image (report.Good generation findings) = refl
report_is front lane line image (report.Pending layer) = refl
report_is front lane line image (report.BadImage bad) = refl
report_is front lane line image report.NotRegistered = refl

page_is : (front lane line n size p : ℕ) (outcome : PageOutcome) → tag_of (object (read_members front lane line (answer.Page n size p outcome))) ≡ Some (LaneRead front lane line false)
page_is front lane line n size p (page.Rows pages rows) = refl
page_is front lane line n size p page.NoNotification = refl
page_is front lane line n size p (page.NoPage pages) = refl

read_is : (front lane line : ℕ) (a : Answer) → tag_of (object (read_members front lane line a)) ≡ Some (LaneRead front lane line (is_no_memory_answer a))
read_is front lane line (answer.Report image outcome) = report_is front lane line image outcome
read_is front lane line (answer.Page n size p outcome) = page_is front lane line n size p outcome
read_is front lane line (answer.List heads) = refl
read_is front lane line answer.NoMemory = refl

-- ---- refused lines

request_is : (line : ℕ) (what : RequestWhat) → tag_of (bad_request_data line what) ≡ Some (RefusedLine line false)
request_is line what = each_request (λ (d : Data). tag_of d ≡ Some (RefusedLine line false)) line (λ index name. refl) (λ name. refl) what

refusal_is : (line : ℕ) (e : RequestError) → tag_of (refusal_data line e) ≡ Some (RefusedLine line (is_no_memory_error e))
refusal_is line (error.BadRequest what) = request_is line what
refusal_is line _ = refl

pub tag_of_entry : (entry : Entry) → tag_of (entry_data entry) ≡ Some (entry_tag entry)
tag_of_entry (Refused line e) = refusal_is line e
tag_of_entry (Event entry) = event_is entry.number entry.by entry.act entry.reply
tag_of_entry (Read entry) = read_is entry.front entry.lane entry.line entry.answer

-- the tag that a reader takes from the text, if serde_json reads back what it wrote
pub tag_read : (d : Data) (entry : Entry) → d ≡ entry_data entry → (depth d ≤ max_depth → read (compact_text d) ≡ Some d) → tag_of_json (entry_json entry) ≡ Some (entry_tag entry)
unfolding entry_json
tag_read d entry h again =
    let back = subst (λ (x : Data). depth x ≤ max_depth → read (compact_text x) ≡ Some x) h again in
    ap (option_and_then tag_of) (back (omega (arith, (entry_plain entry).1))) ∙ tag_of_entry entry

-- what holds anyway holds of every success
pub on_ok : {T E : Type 0} (r : Result T E) (P : Type 0) → P → OnOk r P
on_ok (Ok x) P p = p
on_ok (Err e) P p = tt
