-- What holds of every state and of every event (defined by this project).
use Rattle.std.specs.Prelude.{◌≡◌, ℕ, ◌+◌, ◌≤◌, ◌<◌, ◌==◌, Bool, true, false, ◌||◌, List, [], ◌∷◌, length, Option, Some, None}
use Rattle.std.specs.List.{AllByRecursion}
use Rattle.std.specs.List.Sorted.{IsStrictlySortedBy}
use Rattle.std.specs.Map.{keys_of}
use Rattle.std.specs.Option.{is_some}
use Rattle.std.specs.Ordering.{nat_cmp}
use Rattle.cv_base.specs.Texts.{same}
use Rattle.cv_base.specs.declared.advisory.Advisory.{Advisory}
use Rattle.cv_base.specs.declared.finding.Row.{Row}
use Rattle.cv_match.specs.Findings.{text_cmp}
use Rattle.cv_advdb.specs.Feeds.{by_id}
use Rattle.cv_core_records.specs.declared.reply.Reply.{Reply}
use Rattle.cv_core_records.specs.declared.reply.Reply.TheVariants as reply
use Rattle.cv_core_machine.specs.Layers.{is_claimed_as, is_named}
use Rattle.cv_core_machine.specs.State.{Feeds, Notifications, State, value_at}
use Rattle.cv_core_machine.specs.Step.{feed_patched}
use Rattle.cv_core_machine.specs.declared.event.MachineEvent.{MachineEvent}
use Rattle.cv_core_machine.specs.declared.event.MachineEvent.TheVariants as act
use Rattle.cv_core_machine.specs.declared.status.Status.{Status}

-- with these replies an event changes nothing
abbrev pub changes_nothing : Reply → Bool
changes_nothing reply.Already = true
changes_nothing (reply.Conflict kept seals) = true
changes_nothing reply.TooManyImages = true
changes_nothing reply.NotRegistered = true
changes_nothing reply.Taken = true
changes_nothing reply.Unwanted = true
changes_nothing reply.NotClaimed = true
changes_nothing reply.TooManyFeeds = true
changes_nothing reply.NoFeed = true
changes_nothing (reply.StaleBase kept) = true
changes_nothing (reply.TooManyRecords would) = true
changes_nothing reply.NoNotification = true
changes_nothing _ = false

-- the generation after an event with this reply: one more at Updated, which names it, and else the same
abbrev pub IsGenerationAfter : ℕ → Reply → ℕ → Type 0
IsGenerationAfter before (reply.Updated generation rows) now = (now ≡ before + 1) × (generation ≡ now)
IsGenerationAfter before _ now = now ≡ before

-- the reply of an update or a patch that was made
abbrev pub is_updated : Reply → Bool
is_updated (reply.Updated generation rows) = true
is_updated _ = false

-- with these replies an event changes the notifications: Updated may add one, and Acked removes one
abbrev pub changes_notifications : Reply → Bool
changes_notifications (reply.Updated generation rows) = true
changes_notifications reply.Acked = true
changes_notifications _ = false

-- an event acknowledges the notification of this number
abbrev pub acknowledges : ℕ → MachineEvent → Bool
acknowledges number (act.Ack other) = other == number
acknowledges number _ = false

-- an event updates or patches the feed of this name
abbrev pub is_of_feed : List ℕ → MachineEvent → Bool
is_of_feed feed (act.Update other records) = same other feed
is_of_feed feed (act.Patch other base records remove) = same other feed
is_of_feed feed _ = false

-- the records that a feed has after an event of it that is replied to with Updated
abbrev pub records_after : Feeds → MachineEvent → List Advisory
records_after feeds (act.Update feed records) = by_id records
records_after feeds (act.Patch feed base records remove) = feed_patched feeds feed records remove
records_after feeds _ = []

-- the rows that a notification has, and none where there is no notification, as there are no rows
abbrev pub rows_if_any : List Row → Option (List Row)
rows_if_any [] = None
rows_if_any (row ∷ rows) = Some (row ∷ rows)

-- each notification has rows
abbrev pub HaveRows : Notifications → Type 0
HaveRows notifications = AllByRecursion (λ (notification : ℕ × List Row). 0 < length notification.1) notifications

-- a layer in the table is Claimed
abbrev pub is_claimed : Option Status → Bool
is_claimed None = false
is_claimed (Some status) = is_claimed_as status

-- exactly the feeds that stand have a generation, and none of them is above that of the machine
pub record HaveGenerations (state : State) : Type 0 where
  pub feeds : keys_of state.since ≡ keys_of state.feeds
  pub numbers : AllByRecursion (λ (feed : List ℕ × ℕ). feed.1 ≤ state.generation) state.since

-- a state is consistent: each list is in ascending order of its keys, no notification has a number above the generation,
-- there are no more images and feeds than may be, and a layer is in the table exactly if a registered image names it or it is
-- Claimed
pub record IsConsistent (state : State) : Type 0 where
  pub images : IsStrictlySortedBy text_cmp (keys_of state.images)
  pub layers : IsStrictlySortedBy text_cmp (keys_of state.layers)
  pub feeds : IsStrictlySortedBy text_cmp (keys_of state.feeds)
  pub notifications : IsStrictlySortedBy nat_cmp (keys_of state.notifications)
  pub numbers : AllByRecursion (λ number. number ≤ state.generation) (keys_of state.notifications)
  pub images_within_limit : length state.images ≤ state.limits.images
  pub feeds_within_limit : length state.feeds ≤ state.limits.feeds
  pub table : (layer : List ℕ) → is_some (value_at state.layers layer) ≡ (is_named state.images layer || is_claimed (value_at state.layers layer))
