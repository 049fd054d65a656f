-- The events of the machine (defined by this project): what the state is after an event, and what is replied. A reply that
-- is given with the state as it was changes nothing.
use Rattle.std.specs.Prelude.{ℕ, ◌+◌, ◌==◌, Bool, ◌&&◌, ◌||◌, not, nat_lt, if◌then◌else◌, List, [], ◌∷◌, length, filter, Option, Some, None}
use Rattle.std.specs.Cmp.Lexicographic.{pointwise}
use Rattle.std.specs.Option.{is_some, option_eq}
use Rattle.cv_base.specs.Texts.{has_text, same}
use Rattle.cv_base.specs.declared.advisory.Advisory.{Advisory}
use Rattle.cv_base.specs.declared.finding.Row.{Row}
use Rattle.cv_base.specs.declared.limits.TheConstants.{MAX_ADVISORIES}
use Rattle.cv_base.specs.declared.manifest.Manifest.{Manifest}
use Rattle.cv_advdb.specs.Feeds.{by_id, has_feed, is_full as is_full_table, records_of}
use Rattle.cv_advdb.specs.Patch.{patched_records}
use Rattle.cv_core_records.specs.declared.reply.Reply.{Reply}
use Rattle.cv_core_records.specs.declared.reply.Reply.TheVariants as reply
use Rattle.cv_core_machine.specs.Layers.{is_claimed_as, is_claimed_by, is_named}
use Rattle.cv_core_machine.specs.Rows.{rows_of}
use Rattle.cv_core_machine.specs.Scans.{Trees}
use Rattle.cv_core_machine.specs.State.{Feeds, Images, Layers, Notifications, State, feed_generation, notification_at, value_at, with_notification, with_value, without_notification, without_value}
use Rattle.cv_core_machine.specs.declared.event.MachineEvent.{MachineEvent}
use Rattle.cv_core_machine.specs.declared.event.MachineEvent.TheVariants as act
use Rattle.cv_core_machine.specs.declared.image.Image.{Image}
use Rattle.cv_core_machine.specs.declared.status.Status.{Status}
use Rattle.cv_core_machine.specs.declared.status.Status.TheVariants as status

-- layers that are not in the table enter it Queued
abbrev pub entered : Layers → List (List ℕ) → Layers
entered table [] = table
entered table (layer ∷ layers) = entered (if is_some (value_at table layer) then table else with_value table layer status.Queued) layers

-- what is kept of the image of a manifest
abbrev pub image_of : Manifest → Image
image_of manifest = record { layers = manifest.layers; seals = manifest.seals }

-- two images have the same layers and the same stated seals
abbrev pub same_image : Image → Image → Bool
same_image a b = pointwise same a.layers b.layers && pointwise (option_eq same) a.seals b.seals

-- Register, by what is kept of the image if it is registered: Already if it has these layers with these seals, Conflict if it has
-- other layers or other seals. Of an image that is not registered, TooManyImages if as many images are registered as may be, or
-- else Registered: the image is registered, and its layers that are not in the table enter it Queued
abbrev pub register_at : Option Image → State → Manifest → State × Reply
register_at (Some kept) state manifest =
    (state, if same_image kept (image_of manifest) then reply.Already else reply.Conflict kept.layers kept.seals)
register_at None state manifest =
    if nat_lt (length state.images) state.limits.images
    then (record state { images = with_value state.images manifest.hash (image_of manifest); layers = entered state.layers manifest.layers }, reply.Registered)
    else (state, reply.TooManyImages)

-- Register
abbrev pub register : State → Manifest → State × Reply
register state manifest = register_at (value_at state.images manifest.hash) state manifest

-- the table without the layers of a dropped image that none of the other images names and that are not Claimed
abbrev pub remaining : Layers → List (List ℕ) → Images → Layers
remaining table layers others =
    filter (λ (entry : List ℕ × Status). not (has_text layers entry.0) || is_named others entry.0 || is_claimed_as entry.1) table

-- DropImage, by what is kept of the image if it is registered: NotRegistered if it is not, or else Dropped: it goes, and its
-- layers that no other image names and that are not Claimed leave the table
abbrev pub drop_at : Option Image → State → List ℕ → State × Reply
drop_at None state image = (state, reply.NotRegistered)
drop_at (Some kept) state image =
    let others = without_value state.images image in
    (record state { images = others; layers = remaining state.layers kept.layers others }, reply.Dropped)

-- DropImage
abbrev pub drop_image : State → List ℕ → State × Reply
drop_image state image = drop_at (value_at state.images image) state image

-- Claim by a worker, by the status of the layer: Claimed if it is Queued, which makes it the worker's; Taken if it is Claimed
-- or Indexed; Unwanted if it is not in the table
abbrev pub claim_at : Option Status → State → List ℕ → ℕ → State × Reply
claim_at (Some status.Queued) state layer worker =
    (record state { layers = with_value state.layers layer (status.Claimed worker) }, reply.Claimed)
claim_at (Some (status.Claimed other)) state layer worker = (state, reply.Taken)
claim_at (Some status.Indexed) state layer worker = (state, reply.Taken)
claim_at None state layer worker = (state, reply.Unwanted)

-- Claim
abbrev pub claim : State → List ℕ → ℕ → State × Reply
claim state layer worker = claim_at (value_at state.layers layer) state layer worker

-- Indexed, Fault and Memory by a worker: NotClaimed if the layer is not Claimed by the worker; Discarded if no registered
-- image names it, which takes it from the table; or else this answer, and the layer has the next status
abbrev pub finish : State → List ℕ → ℕ → Status → Reply → State × Reply
finish state layer worker next answer =
    if is_claimed_by worker (value_at state.layers layer) then
    (if is_named state.images layer
    then (record state { layers = with_value state.layers layer next }, answer)
    else (record state { layers = without_value state.layers layer }, reply.Discarded))
    else (state, reply.NotClaimed)

-- notifications with one of this number, exactly if it has rows
abbrev pub notified : Notifications → ℕ → List Row → Notifications
notified notifications number [] = notifications
notified notifications number (row ∷ rows) = with_notification notifications number (row ∷ rows)

-- Updated, of a feed: these are the feeds, the generation is one more and that of this feed, and there is a notification of it
-- with these rows, if there are any
abbrev pub updated : State → List ℕ → Feeds → List Row → State × Reply
updated state feed feeds rows = (
  record state {
    feeds = feeds;
    since = with_value state.since feed (state.generation + 1);
    generation = state.generation + 1;
    notifications = notified state.notifications (state.generation + 1) rows;
  },
  reply.Updated (state.generation + 1) (length rows),
)

-- a feed of this name is new, and there are as many feeds as may be
abbrev pub is_full : State → List ℕ → Bool
is_full state feed = is_full_table (record { feeds = state.feeds; limit = state.limits.feeds }) feed

-- Update of a feed that notifies of these rows: TooManyFeeds if the feed is new and there are as many feeds as may be, or else
-- Updated: the feed has these records in place of those before
abbrev pub update_with : List Row → State → List ℕ → List Advisory → State × Reply
update_with rows state feed records =
    if is_full state feed then (state, reply.TooManyFeeds) else updated state feed (with_value state.feeds feed (by_id records)) rows

-- Update of a feed, which notifies of the rows of all images that are indexed
abbrev pub update : Trees → State → List ℕ → List Advisory → State × Reply
update trees state feed records =
    update_with (rows_of trees state (with_value state.feeds feed (by_id records))) state feed records

-- the records that a feed has after a patch: its own, without those that the patch removes or has records for, and those of the
-- patch
abbrev pub feed_patched : Feeds → List ℕ → List Advisory → List (List ℕ) → List Advisory
feed_patched feeds feed records remove = patched_records (records_of feed feeds) records remove

-- Patch of a feed on a generation that notifies of these rows: NoFeed if the feed does not stand, or else StaleBase if the feed has
-- another generation, or else TooManyRecords if the feed would have more records than it may have, or else Updated: the feed has
-- the records that the patch leaves it
abbrev pub patch_with : List Row → State → List ℕ → ℕ → List Advisory → List (List ℕ) → State × Reply
patch_with rows state feed base records remove =
    let after = feed_patched state.feeds feed records remove in
    if not (has_feed feed state.feeds) then (state, reply.NoFeed) else
    (if not (base == feed_generation state feed) then (state, reply.StaleBase (feed_generation state feed)) else
    (if nat_lt MAX_ADVISORIES (length after) then (state, reply.TooManyRecords (length after)) else
    updated state feed (with_value state.feeds feed after) rows))

-- Patch of a feed, which notifies of the rows of all images that are indexed
abbrev pub patch : Trees → State → List ℕ → ℕ → List Advisory → List (List ℕ) → State × Reply
patch trees state feed base records remove =
    patch_with (rows_of trees state (with_value state.feeds feed (feed_patched state.feeds feed records remove))) state feed base records remove

-- Ack, by the notification of this number: NoNotification if there is none, or else Acked: it goes
abbrev pub ack_at : Option (List Row) → State → ℕ → State × Reply
ack_at None state number = (state, reply.NoNotification)
ack_at (Some rows) state number = (record state { notifications = without_notification state.notifications number }, reply.Acked)

-- Ack
abbrev pub ack : State → ℕ → State × Reply
ack state number = ack_at (notification_at state.notifications number) state number

-- one event: the state after it, and the reply
abbrev pub step : Trees → State → MachineEvent → State × Reply
step trees state (act.Register manifest) = register state manifest
step trees state (act.DropImage image) = drop_image state image
step trees state (act.Claim layer worker) = claim state layer worker
step trees state (act.Indexed layer worker) = finish state layer worker status.Indexed reply.Entered
step trees state (act.Fault layer worker) = finish state layer worker status.Queued reply.Requeued
step trees state (act.Memory layer worker) = finish state layer worker status.Queued reply.Requeued
step trees state (act.Update feed records) = update trees state feed records
step trees state (act.Patch feed base records remove) = patch trees state feed base records remove
step trees state (act.Ack number) = ack state number
