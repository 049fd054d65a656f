-- The line of an event that was applied (defined by this project): its number, who submitted it, what it is about, and the
-- reply. Events and lines are numbered from 1, lanes and workers from 0.
use Rattle.std.specs.Prelude.{ℕ, if◌then◌else◌, List, codes, Option, is_some}
use Rattle.std.specs.List.{list_any}
use Rattle.serde_json.specs.Data.{Data, Members, no_members, object, put}
use Rattle.cv_core_records.specs.declared.event.Act.{Act}
use Rattle.cv_core_records.specs.declared.event.Act.TheVariants as act
use Rattle.cv_core_records.specs.declared.event.By.{By}
use Rattle.cv_core_records.specs.declared.event.By.TheVariants as by
use Rattle.cv_core_records.specs.declared.event.EventEntry.{EventEntry}
use Rattle.cv_core_records.specs.declared.reply.Reply.{Reply}
use Rattle.cv_core_records.specs.declared.reply.Reply.TheVariants as reply
use Rattle.cv_transcript.specs.Members.{digests_data, put_digest, put_number, put_text, seals_data}

-- an event by its word
abbrev pub act_name : Act → List ℕ
act_name (act.Register image) = codes "register"
act_name (act.DropImage image) = codes "drop"
act_name (act.Claim layer) = codes "claim"
act_name (act.Indexed layer) = codes "indexed"
act_name (act.Fault layer) = codes "fault"
act_name (act.Memory layer) = codes "memory"
act_name (act.Update feed) = codes "update"
act_name (act.Patch feed) = codes "patch"
act_name (act.Ack number) = codes "ack"

-- a reply by its word
abbrev pub reply_name : Reply → List ℕ
reply_name reply.Registered = codes "registered"
reply_name reply.Already = codes "already"
reply_name (reply.Conflict kept seals) = codes "conflict"
reply_name reply.TooManyImages = codes "too_many_images"
reply_name reply.Dropped = codes "dropped"
reply_name reply.NotRegistered = codes "not_registered"
reply_name reply.Claimed = codes "claimed"
reply_name reply.Taken = codes "taken"
reply_name reply.Unwanted = codes "unwanted"
reply_name reply.Entered = codes "entered"
reply_name reply.Discarded = codes "discarded"
reply_name reply.Requeued = codes "requeued"
reply_name reply.NotClaimed = codes "not_claimed"
reply_name (reply.Updated generation rows) = codes "updated"
reply_name reply.TooManyFeeds = codes "too_many_feeds"
reply_name reply.NoFeed = codes "no_feed"
reply_name (reply.StaleBase kept) = codes "stale_base"
reply_name (reply.TooManyRecords would) = codes "too_many_records"
reply_name reply.Acked = codes "acked"
reply_name reply.NoNotification = codes "no_notification"

-- with what the event is about: an image, a layer, a feed, or the number of a notification
abbrev pub put_subject : Act → Members → Members
put_subject (act.Register image) members = put_digest (codes "image") image members
put_subject (act.DropImage image) members = put_digest (codes "image") image members
put_subject (act.Claim layer) members = put_digest (codes "layer") layer members
put_subject (act.Indexed layer) members = put_digest (codes "layer") layer members
put_subject (act.Fault layer) members = put_digest (codes "layer") layer members
put_subject (act.Memory layer) members = put_digest (codes "layer") layer members
put_subject (act.Update feed) members = put_text (codes "feed") feed members
put_subject (act.Patch feed) members = put_text (codes "feed") feed members
put_subject (act.Ack number) members = put_number (codes "number") number members

-- with who submitted the event: a lane with its line, or a worker
abbrev pub put_by : By → Members → Members
put_by (by.Lane lane line) members = put_number (codes "lane") lane (put_number (codes "line") line members)
put_by (by.Worker worker) members = put_number (codes "worker") worker members

-- with the seals that a conflict keeps, if any layer has one
abbrev pub put_seals : List (Option (List ℕ)) → Members → Members
put_seals seals members = if list_any is_some seals then put (codes "kept_seals") (seals_data seals) members else members

-- with what the reply says besides its word: the layers and the seals that a conflict keeps, the generation of an update or a patch
-- and its number of rows, the generation of the feed that a patch does not know, or how many records the feed would have
abbrev pub put_details : Reply → Members → Members
put_details (reply.Conflict kept seals) members = put (codes "kept") (digests_data kept) (put_seals seals members)
put_details (reply.Updated generation rows) members =
    put_number (codes "generation") generation (put_number (codes "rows") rows members)
put_details (reply.StaleBase kept) members = put_number (codes "kept") kept members
put_details (reply.TooManyRecords would) members = put_number (codes "would") would members
put_details other members = members

-- with the reply
abbrev pub put_reply : Reply → Members → Members
put_reply reply members = put_text (codes "reply") (reply_name reply) (put_details reply members)

-- the JSON value of an event
abbrev pub event_data : EventEntry → Data
event_data entry =
    object (put_number (codes "at") entry.number
    (put_text (codes "event") (act_name entry.act)
    (put_by entry.by
    (put_subject entry.act
    (put_reply entry.reply no_members)))))
