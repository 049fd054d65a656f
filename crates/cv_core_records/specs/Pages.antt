-- Notifications by pages and in lists (defined by this project). A page is of the notification of a number. Pages are numbered
-- from 1. Each has as many rows as the size says, but the last one, which has the rest.
use Rattle.std.specs.Prelude.{ℕ, ◌-◌, ◌*◌, nat_lt, if◌then◌else◌, List, length, map, take, drop, Option, Some, None}
use Rattle.std.specs.BTreeMap.{is_at}
use Rattle.std.specs.Int.{div_ceil}
use Rattle.std.specs.Map.{lookup}
use Rattle.std.specs.Ordering.{nat_cmp}
use Rattle.cv_base.specs.declared.finding.Row.{Row}
use Rattle.cv_core_records.specs.declared.read.NoticeHead.{NoticeHead}
use Rattle.cv_core_records.specs.declared.read.PageOutcome.{PageOutcome}
use Rattle.cv_core_records.specs.declared.read.PageOutcome.TheVariants as outcome

-- notifications: the number of each with its rows, in ascending order of the numbers
abbrev pub Notifications : Type 0
Notifications = List (ℕ × List Row)

-- the rows of the notification of a number
abbrev pub notification_at : Notifications → ℕ → Option (List Row)
notification_at notifications number = lookup (is_at (nat_cmp number)) notifications

-- how many pages of this size rows have: their number divided by the size, rounded up
abbrev pub page_count : ℕ → List Row → ℕ
page_count size rows = div_ceil (length rows) size

-- the rows of a page: those from (page - 1) × size up to page × size
abbrev pub page_rows : ℕ → ℕ → List Row → List Row
page_rows size page rows = take size (drop ((page - 1) * size) rows)

-- a page of rows, or that there is no such page; in both cases how many pages there are
abbrev pub page_in : List Row → ℕ → ℕ → PageOutcome
page_in rows size page =
    if nat_lt (page_count size rows) page
    then outcome.NoPage (page_count size rows)
    else outcome.Rows (page_count size rows) (page_rows size page rows)

-- a page of a notification that was looked up
abbrev pub page_at : Option (List Row) → ℕ → ℕ → PageOutcome
page_at None size page = outcome.NoNotification
page_at (Some rows) size page = page_in rows size page

-- a page of a notification: takes the number of the notification, the size and the number of the page
abbrev pub page_of : Notifications → ℕ → ℕ → ℕ → PageOutcome
page_of notifications number size page = page_at (notification_at notifications number) size page

-- all notifications, each by its number and how many rows it has
abbrev pub heads : Notifications → List NoticeHead
heads notifications = map (λ (notification : ℕ × List Row). record { number = notification.0; rows = length notification.1 }) notifications
