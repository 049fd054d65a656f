-- The line of a read with its answer (defined by this project). The front is the number of events before it, pages are
-- numbered from 1. A read that ran out of memory has neither its word nor its query.
use Rattle.std.specs.Prelude.{ℕ, List, map, codes}
use Rattle.serde_json.specs.Data.{Data, Members, no_members, array, object, put}
use Rattle.cv_core_records.specs.declared.read.Answer.{Answer}
use Rattle.cv_core_records.specs.declared.read.Answer.TheVariants as answer
use Rattle.cv_core_records.specs.declared.read.NoticeHead.{NoticeHead}
use Rattle.cv_core_records.specs.declared.read.PageOutcome.{PageOutcome}
use Rattle.cv_core_records.specs.declared.read.PageOutcome.TheVariants as page
use Rattle.cv_core_records.specs.declared.read.ReadEntry.{ReadEntry}
use Rattle.cv_core_records.specs.declared.read.ReportOutcome.{ReportOutcome}
use Rattle.cv_core_records.specs.declared.read.ReportOutcome.TheVariants as report
use Rattle.cv_scan_output.specs.Bad.{bad_data}
use Rattle.cv_scan_output.specs.Finding.{findings_data, items_of}
use Rattle.cv_transcript.specs.Members.{put_digest, put_number, put_text}
use Rattle.cv_transcript.specs.Rows.{rows_data}

-- a notification of a list: its number, and how many rows it has
abbrev pub head_data : NoticeHead → Data
head_data head = object (put_number (codes "number") head.number (put_number (codes "rows") head.rows no_members))

-- a list of notifications
abbrev pub heads_data : List NoticeHead → Data
heads_data heads = array (items_of (map head_data heads))

-- a reply by its word alone
abbrev pub reply_members : List ℕ → Members
reply_members word = put_text (codes "reply") word no_members

-- what a report says of its image
abbrev pub report_members : ReportOutcome → Members
report_members (report.Good generation findings) =
    put (codes "findings") (findings_data findings)
    (put_number (codes "generation") generation
    (reply_members (codes "good")))
report_members (report.Pending layer) =
    put_digest (codes "layer") layer (reply_members (codes "pending"))
report_members (report.BadImage bad) =
    put (codes "bad") (bad_data bad) (reply_members (codes "bad_image"))
report_members report.NotRegistered = reply_members (codes "not_registered")

-- what a page says
abbrev pub page_members : PageOutcome → Members
page_members (page.Rows pages rows) =
    put_number (codes "pages") pages
    (put (codes "rows") (rows_data rows)
    (reply_members (codes "page")))
page_members page.NoNotification = reply_members (codes "no_notification")
page_members (page.NoPage pages) =
    put_number (codes "pages") pages (reply_members (codes "no_page"))

-- the list of all notifications
abbrev pub list_members : List NoticeHead → Members
list_members heads =
    put (codes "notifications") (heads_data heads) (put_text (codes "read") (codes "list") (reply_members (codes "list")))

-- the query of a read, and the answer
abbrev pub answer_members : Answer → Members
answer_members (answer.Report image outcome) =
    put_digest (codes "image") image (put_text (codes "read") (codes "report") (report_members outcome))
answer_members (answer.Page number size page outcome) =
    put_number (codes "number") number
    (put_number (codes "size") size
    (put_number (codes "page") page
    (put_text (codes "read") (codes "page") (page_members outcome))))
answer_members (answer.List heads) = list_members heads
answer_members answer.NoMemory = reply_members (codes "no_memory")

-- the JSON value of a read
abbrev pub read_data : ReadEntry → Data
read_data entry =
    object (put_number (codes "at") entry.front
    (put_number (codes "lane") entry.lane
    (put_number (codes "line") entry.line
    (answer_members entry.answer))))
