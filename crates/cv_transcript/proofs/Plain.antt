-- The value of an entry has no number with a point and nests at most six deep.
use Rattle.std.proofs.Common.{◌≡◌, ℕ, ◌≤◌, Bool, true, false, List, [], ◌∷◌, map, Ordering, Less, Equal, Greater, refl, arith}
use Rattle.std.proofs.lemmas.Bool.{or_parts}
use Rattle.std.specs.Prelude.{codes, cond, Option, Some, None, is_some}
use Rattle.std.specs.List.{list_any}
use Rattle.std.specs.Ordering.{match_ordering, nat_cmp}
use Rattle.std.specs.Cmp.Lexicographic.{slice_cmp}
use Rattle.serde_json.specs.Data.{Data, Items, Members, array, depth, items_depth, member, members_depth, no_members, number, object, put, string, unsigned}
use Rattle.serde_json.specs.Written.{has_float, items_have_float, members_have_float}
use Rattle.cv_base.specs.Digest.{digest_text}
use Rattle.cv_base.specs.declared.finding.Finding.{Finding}
use Rattle.cv_base.specs.declared.finding.Row.{Row}
use Rattle.cv_overlay.specs.declared.fault.ImageFault.{ImageFault}
use Rattle.cv_overlay.specs.declared.fault.ImageFault.TheVariants.{NoLayer, BadTree, BadSeal, BadFile, TooLarge}
use Rattle.cv_overlay.specs.declared.fault.TreeFault.{TreeFault}
use Rattle.cv_overlay.specs.declared.fault.TreeFault.TheVariants.{Unsorted, NoParent, BadMark, TooMany}
use Rattle.cv_core_records.specs.declared.event.Act.{Act}
use Rattle.cv_core_records.specs.declared.event.Act.TheVariants as act
use Rattle.cv_core_records.specs.declared.event.By.{By}
use Rattle.cv_core_records.specs.declared.event.By.TheVariants as by
use Rattle.cv_core_records.specs.declared.read.Answer.{Answer}
use Rattle.cv_core_records.specs.declared.read.Answer.TheVariants as answer
use Rattle.cv_core_records.specs.declared.read.NoticeHead.{NoticeHead}
use Rattle.cv_core_records.specs.declared.read.PageOutcome.{PageOutcome}
use Rattle.cv_core_records.specs.declared.read.PageOutcome.TheVariants as page
use Rattle.cv_core_records.specs.declared.read.ReportOutcome.{ReportOutcome}
use Rattle.cv_core_records.specs.declared.read.ReportOutcome.TheVariants as report
use Rattle.cv_core_records.specs.declared.reply.Reply.{Reply}
use Rattle.cv_core_records.specs.declared.reply.Reply.TheVariants as reply
use Rattle.cv_request.specs.declared.error.RequestError.{RequestError}
use Rattle.cv_request.specs.declared.error.RequestError.TheVariants as error
use Rattle.cv_request.specs.declared.error.RequestWhat.{RequestWhat}
use Rattle.cv_transcript.specs.declared.entry.Entry.{Entry}
use Rattle.cv_transcript.specs.declared.entry.Entry.TheVariants.{Refused, Event, Read}
use Rattle.cv_scan_output.specs.Bad.{bad_data, bad_tree_data}
use Rattle.cv_transcript.specs.Entry.{entry_data}
use Rattle.cv_transcript.specs.Event.{put_by, put_details, put_seals, put_subject}
use Rattle.cv_scan_output.specs.Finding.{finding_data, fixed_data, items_of}
use Rattle.cv_transcript.specs.Members.{digest_data, put_number, put_text, seal_data, seals_data}
use Rattle.cv_transcript.specs.Read.{answer_members, head_data, list_members, page_members, reply_members, report_members}
use Rattle.cv_scan_output.specs.Refusal.{bad_request_data, refusal_data}
use Rattle.cv_transcript.specs.Rows.{row_data, rows_data}
use Rattle.cv_scan_output.proofs.RefusalFloats.{refusal_has_none}
use Rattle.cv_scan_output.proofs.Requests.{each_request}

-- no number has a point, and at most n deep
abbrev pub IsPlain : ℕ → Data → Type 0
IsPlain n d = (has_float d ≡ false) × (depth d ≤ n)

abbrev AreItemsPlain : ℕ → Items → Type 0
AreItemsPlain n ds = (items_have_float ds ≡ false) × (items_depth ds ≤ n)

abbrev ArePlain : ℕ → Members → Type 0
ArePlain n ms = (members_have_float ms ≡ false) × (members_depth ms ≤ n)

-- ---- members and items

-- one more member in front
add_plain : (n : ℕ) (k : List ℕ) (d : Data) (ms : Members) → IsPlain n d → ArePlain n ms → ArePlain n (member k d ms)
add_plain n k d ms p q = (rw p.0 q.0, omega (arith, p.1, q.1))

-- each of three is enough for the one that an ordering chooses
chosen : (n : ℕ) (o : Ordering) (a b c : Members) → ArePlain n a → ArePlain n b → ArePlain n c → ArePlain n (match_ordering o a b c)
chosen n Less a b c p q r = p
chosen n Equal a b c p q r = q
chosen n Greater a b c p q r = r

-- one more member in its place
put_plain : (n : ℕ) (k : List ℕ) (d : Data) (ms : Members) → IsPlain n d → ArePlain n ms → ArePlain n (put k d ms)
put_plain n k d no_members p q = add_plain n k d no_members p q
put_plain n k d (member l e ms) p q =
    let floats = or_parts (has_float e) (members_have_float ms) q.0 in
    let first : IsPlain n e = (floats.0, omega (arith, q.1)) in
    let rest : ArePlain n ms = (floats.1, omega (arith, q.1)) in
    chosen n (slice_cmp nat_cmp k l) _ _ _ (add_plain n k d (member l e ms) p q) (add_plain n l d ms p rest) (add_plain n l e (put k d ms) first (put_plain n k d ms p rest))

-- a list of plain values
items_plain : {A : Type 0} (f : A → Data) (n : ℕ) → ((a : A) → IsPlain n (f a)) → (xs : List A) → AreItemsPlain n (items_of (map f xs))
items_plain f n h [] = (refl, omega arith)
items_plain f n h (x ∷ xs) =
    let p = h x in
    let q = items_plain f n h xs in (rw p.0 q.0, omega (arith, p.1, q.1))

-- a list of plain values among the members of a line
put_list : {A : Type 0} (f : A → Data) (k : List ℕ) (xs : List A) (ms : Members) → ((a : A) → IsPlain 4 (f a)) → ArePlain 5 ms → ArePlain 5 (put k (array (items_of (map f xs))) ms)
put_list f k xs ms h q =
    let p = items_plain f 4 h xs in put_plain 5 k _ ms (p.0, omega (arith, p.1)) q

-- a text among the members of a line
put_word : (k s : List ℕ) (ms : Members) → ArePlain 5 ms → ArePlain 5 (put_text k s ms)
put_word k s ms q = put_plain 5 k (string s) ms (refl, omega arith) q

-- a number among the members of a line
put_count : (k : List ℕ) (n : ℕ) (ms : Members) → ArePlain 5 ms → ArePlain 5 (put_number k n ms)
put_count k n ms q = put_plain 5 k (number (unsigned n)) ms (refl, omega arith) q

none_plain : ArePlain 5 no_members
none_plain = (refl, omega arith)

-- the object of plain members
line_plain : (ms : Members) → ArePlain 5 ms → IsPlain 6 (object ms)
line_plain ms q = (q.0, omega (arith, q.1))

-- ---- events

digest_plain : (digest : List ℕ) → IsPlain 4 (digest_data digest)
digest_plain digest = (refl, omega arith)

seal_plain : (seal : Option (List ℕ)) → IsPlain 4 (seal_data seal)
seal_plain None = (refl, omega arith)
seal_plain (Some digest) = (refl, omega arith)

seals_plain : (seals : List (Option (List ℕ))) (ms : Members) → ArePlain 5 ms → ArePlain 5 (put_seals seals ms)
seals_plain seals ms q = by_test (list_any is_some seals) where
  by_test : (b : Bool) → ArePlain 5 (cond b (put (codes "kept_seals") (seals_data seals) ms) ms)
  by_test true = put_list seal_data _ seals ms seal_plain q
  by_test false = q

details_plain : (r : Reply) (ms : Members) → ArePlain 5 ms → ArePlain 5 (put_details r ms)
details_plain reply.Registered ms q = q
details_plain reply.Already ms q = q
details_plain (reply.Conflict kept seals) ms q = put_list digest_data _ kept _ digest_plain (seals_plain seals ms q)
details_plain reply.TooManyImages ms q = q
details_plain reply.Dropped ms q = q
details_plain reply.NotRegistered ms q = q
details_plain reply.Claimed ms q = q
details_plain reply.Taken ms q = q
details_plain reply.Unwanted ms q = q
details_plain reply.Entered ms q = q
details_plain reply.Discarded ms q = q
details_plain reply.Requeued ms q = q
details_plain reply.NotClaimed ms q = q
details_plain (reply.Updated generation rows) ms q = put_count _ generation _ (put_count _ rows ms q)
details_plain reply.TooManyFeeds ms q = q
details_plain reply.NoFeed ms q = q
details_plain (reply.StaleBase kept) ms q = put_count _ kept ms q
details_plain (reply.TooManyRecords would) ms q = put_count _ would ms q
details_plain reply.Acked ms q = q
details_plain reply.NoNotification ms q = q

subject_plain : (a : Act) (ms : Members) → ArePlain 5 ms → ArePlain 5 (put_subject a ms)
subject_plain (act.Register image) ms q = put_word _ _ ms q
subject_plain (act.DropImage image) ms q = put_word _ _ ms q
subject_plain (act.Claim layer) ms q = put_word _ _ ms q
subject_plain (act.Indexed layer) ms q = put_word _ _ ms q
subject_plain (act.Fault layer) ms q = put_word _ _ ms q
subject_plain (act.Memory layer) ms q = put_word _ _ ms q
subject_plain (act.Update feed) ms q = put_word _ feed ms q
subject_plain (act.Patch feed) ms q = put_word _ feed ms q
subject_plain (act.Ack n) ms q = put_count _ n ms q

by_plain : (b : By) (ms : Members) → ArePlain 5 ms → ArePlain 5 (put_by b ms)
by_plain (by.Lane lane line) ms q = put_count _ lane _ (put_count _ line ms q)
by_plain (by.Worker worker) ms q = put_count _ worker ms q

-- ---- reads

fixed_plain : (fixed : Option (List ℕ)) → (has_float (fixed_data fixed) ≡ false) × (depth (fixed_data fixed) ≡ 0)
fixed_plain None = (refl, refl)
fixed_plain (Some text) = (refl, refl)

finding_plain : (f : Finding) → IsPlain 4 (finding_data f)
finding_plain f = let p = fixed_plain f.fixed in (rw p.0 refl, rw p.1 (omega arith))

row_plain : (row : Row) → IsPlain 4 (row_data row)
row_plain row = let p = fixed_plain row.finding.fixed in (rw p.0 refl, rw p.1 (omega arith))

head_plain : (head : NoticeHead) → IsPlain 4 (head_data head)
head_plain head = (refl, omega arith)

tree_plain : (layer : ℕ) (fault : TreeFault) → IsPlain 5 (bad_tree_data layer fault)
tree_plain layer (Unsorted entry) = (refl, omega arith)
tree_plain layer (NoParent entry) = (refl, omega arith)
tree_plain layer (BadMark entry) = (refl, omega arith)
tree_plain layer TooMany = (refl, omega arith)

bad_plain : (bad : ImageFault) → IsPlain 5 (bad_data bad)
bad_plain (NoLayer layer) = (refl, omega arith)
bad_plain (BadTree layer fault) = tree_plain layer fault
bad_plain (BadSeal layer stated found) = (refl, omega arith)
bad_plain (BadFile path line what) = (refl, omega arith)
bad_plain (TooLarge path) = (refl, omega arith)

reply_plain : (word : List ℕ) → ArePlain 5 (reply_members word)
reply_plain word = (refl, omega arith)

report_plain : (outcome : ReportOutcome) → ArePlain 5 (report_members outcome)
report_plain (report.Good generation findings) =
    let reply = reply_members (codes "good") in
    put_list finding_data (codes "findings") findings (put_number (codes "generation") generation reply) finding_plain (put_count (codes "generation") generation reply (reply_plain (codes "good")))
report_plain (report.Pending layer) = put_word (codes "layer") (digest_text layer) (reply_members (codes "pending")) (reply_plain (codes "pending"))
report_plain (report.BadImage bad) = put_plain 5 (codes "bad") (bad_data bad) (reply_members (codes "bad_image")) (bad_plain bad) (reply_plain (codes "bad_image"))
report_plain report.NotRegistered = reply_plain (codes "not_registered")

page_plain : (outcome : PageOutcome) → ArePlain 5 (page_members outcome)
page_plain (page.Rows pages rows) =
    let reply = reply_members (codes "page") in
    put_count (codes "pages") pages (put (codes "rows") (rows_data rows) reply) (put_list row_data (codes "rows") rows reply row_plain (reply_plain (codes "page")))
page_plain page.NoNotification = reply_plain (codes "no_notification")
page_plain (page.NoPage pages) = put_count (codes "pages") pages (reply_members (codes "no_page")) (reply_plain (codes "no_page"))

list_plain : (heads : List NoticeHead) → ArePlain 5 (list_members heads)
list_plain heads =
    let reply = reply_members (codes "list") in
    put_list head_data (codes "notifications") heads (put_text (codes "read") (codes "list") reply) head_plain (put_word (codes "read") (codes "list") reply (reply_plain (codes "list")))

answer_plain : (a : Answer) → ArePlain 5 (answer_members a)
answer_plain (answer.Report image outcome) =
    put_word (codes "image") (digest_text image) (put_text (codes "read") (codes "report") (report_members outcome)) (put_word (codes "read") (codes "report") (report_members outcome) (report_plain outcome))
answer_plain (answer.Page n size p outcome) =
    let word = put_text (codes "read") (codes "page") (page_members outcome) in
    put_count (codes "number") n (put_number (codes "size") size (put_number (codes "page") p word))
    (put_count (codes "size") size (put_number (codes "page") p word) (put_count (codes "page") p word (put_word (codes "read") (codes "page") (page_members outcome) (page_plain outcome))))
answer_plain (answer.List heads) = list_plain heads
answer_plain answer.NoMemory = reply_plain (codes "no_memory")

-- ---- refused lines

request_depth : (line : ℕ) (what : RequestWhat) → depth (bad_request_data line what) ≡ 1
request_depth line what = each_request (λ (d : Data). depth d ≡ 1) line (λ index name. refl) (λ name. refl) what

refusal_depth : (line : ℕ) (e : RequestError) → depth (refusal_data line e) ≡ 1
refusal_depth line (error.BadRequest what) = request_depth line what
refusal_depth line _ = refl

pub entry_plain : (entry : Entry) → IsPlain 6 (entry_data entry)
entry_plain (Refused line e) = (refusal_has_none line e, omega (arith, refusal_depth line e))
entry_plain (Event entry) = line_plain _ (put_count _ entry.number _ (put_word _ _ _ (by_plain entry.by _ (subject_plain entry.act _ (put_word _ _ _ (details_plain entry.reply no_members none_plain))))))
entry_plain (Read entry) = line_plain _ (put_count _ entry.front _ (put_count _ entry.lane _ (put_count _ entry.line _ (answer_plain entry.answer))))
