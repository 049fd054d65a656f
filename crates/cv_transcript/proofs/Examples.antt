-- Examples of lines, of their tags, and of their order.
use Rattle.std.proofs.Common.{◌≡◌, ℕ, List, [], ◌∷◌, arith, inl, inr, true, Some, None, refl}
use Rattle.std.specs.Prelude.{codes}
use Rattle.serde_json.specs.Data.{array, item, member, no_items, no_members, null, number, object, string, unsigned}
use Rattle.cv_base.specs.Digest.{digest_text}
use Rattle.cv_core_records.specs.declared.event.Act.TheVariants as act
use Rattle.cv_core_records.specs.declared.event.By.TheVariants as by
use Rattle.cv_core_records.specs.declared.event.EventEntry.{EventEntry}
use Rattle.cv_core_records.specs.declared.read.Answer.TheVariants as answer
use Rattle.cv_core_records.specs.declared.read.ReadEntry.{ReadEntry}
use Rattle.cv_core_records.specs.declared.reply.Reply.TheVariants as reply
use Rattle.cv_transcript.specs.Event.{event_data, put_reply}
use Rattle.cv_transcript.specs.Members.{digest_data}
use Rattle.cv_transcript.specs.Order.{AreAscending, Precedes, reads_by, reads_of}
use Rattle.cv_transcript.specs.Read.{read_data}
use Rattle.cv_transcript.specs.Tag.{LaneEvent, LaneRead, tag_of}
use Rattle.cv_transcript.specs.declared.entry.Entry.TheVariants as entry

-- the members of an event stand in the order of their names
claim : (layer : List ℕ) → event_data (record { number = 2; by = by.Worker 0; act = act.Claim layer; reply = reply.Claimed })
    ≡ object (member (codes "at") (number (unsigned 2)) (member (codes "event") (string (codes "claim")) (member (codes "layer") (string (digest_text layer))
    (member (codes "reply") (string (codes "claimed")) (member (codes "worker") (number (unsigned 0)) no_members)))))
claim layer = refl

-- a conflict has the kept seals where the image has one, with null for a layer without
conflict : (a b seal : List ℕ) → put_reply (reply.Conflict (a ∷ b ∷ []) (None ∷ Some seal ∷ [])) no_members
    ≡ member (codes "kept") (array (item (digest_data a) (item (digest_data b) no_items)))
    (member (codes "kept_seals") (array (item null (item (digest_data seal) no_items)))
    (member (codes "reply") (string (codes "conflict")) no_members))
conflict a b seal = refl

-- and no such member where it has none
unsealed_conflict : (a : List ℕ) → put_reply (reply.Conflict (a ∷ []) (None ∷ [])) no_members
    ≡ member (codes "kept") (array (item (digest_data a) no_items)) (member (codes "reply") (string (codes "conflict")) no_members)
unsealed_conflict a = refl

-- a patch has its feed, and a patch on another generation has that of the feed
stale : (feed : List ℕ) → event_data (record { number = 8; by = by.Lane 0 14; act = act.Patch feed; reply = reply.StaleBase 4 })
    ≡ object (member (codes "at") (number (unsigned 8)) (member (codes "event") (string (codes "patch")) (member (codes "feed") (string feed)
    (member (codes "kept") (number (unsigned 4)) (member (codes "lane") (number (unsigned 0)) (member (codes "line") (number (unsigned 14))
    (member (codes "reply") (string (codes "stale_base")) no_members)))))))
stale feed = refl

-- a patch with which the feed would have too many records has how many those are
too_many : put_reply (reply.TooManyRecords 200001) no_members
    ≡ member (codes "reply") (string (codes "too_many_records")) (member (codes "would") (number (unsigned 200001)) no_members)
too_many = refl

-- a patch of a feed that does not stand has no more
no_feed : put_reply reply.NoFeed no_members ≡ member (codes "reply") (string (codes "no_feed")) no_members
no_feed = refl

-- a read that ran out of memory has neither its word nor its query
no_memory : read_data (record { front = 4; lane = 1; line = 9; answer = answer.NoMemory })
    ≡ object (member (codes "at") (number (unsigned 4)) (member (codes "lane") (number (unsigned 1)) (member (codes "line") (number (unsigned 9)) (member (codes "reply") (string (codes "no_memory")) no_members))))
no_memory = refl

-- it has the tag of a read
no_memory_tag : tag_of (read_data (record { front = 4; lane = 1; line = 9; answer = answer.NoMemory })) ≡ Some (LaneRead 4 1 9 true)
no_memory_tag = refl

-- an event of a lane has the tag of its number, the lane and the line
ack_tag : tag_of (event_data (record { number = 5; by = by.Lane 0 11; act = act.Ack 1; reply = reply.Acked })) ≡ Some (LaneEvent 5 0 11)
ack_tag = refl

-- an event of a worker, and a read that ran out of memory
abbrev event_at : ℕ → EventEntry
event_at at = record { number = at; by = by.Worker 0; act = act.Ack at; reply = reply.Acked }

abbrev read_at : ℕ → ℕ → ℕ → ReadEntry
read_at front lane line = record { front = front; lane = lane; line = line; answer = answer.NoMemory }

-- reads stand after the event of their front, those of the lower lane first, also where their lines are higher
in_order : AreAscending (entry.Event (event_at 1) ∷ entry.Read (read_at 1 0 4) ∷ entry.Read (read_at 1 1 2) ∷ entry.Event (event_at 2) ∷ [])
in_order = (
  tt,
  (omega arith, (omega arith, (omega arith, tt))),
  (tt, (inr (refl, inl (omega arith)), (omega arith, tt)), (tt, (omega arith, tt), (tt, tt, tt))),
)

-- a read does not stand before the event of its front
not_before : Precedes (entry.Read (read_at 1 0 4)) (entry.Event (event_at 1)) → ⊥
not_before h = omega (arith, h)

-- with one front, a read of a higher lane does not stand before one of a lower lane
not_by_line : Precedes (entry.Read (read_at 1 1 2)) (entry.Read (read_at 1 0 4)) → ⊥
not_by_line h = grind arith

-- the reads of a lane are those of its number
lane_reads : reads_by 1 (reads_of (entry.Event (event_at 1) ∷ entry.Read (read_at 1 0 4) ∷ entry.Read (read_at 1 1 2) ∷ [])) ≡ read_at 1 1 2 ∷ []
lane_reads = refl
