-- What an update or a patch leads to: a refusal, or feeds with other records.
use Rattle.std.specs.Prelude.{◌≡◌, ℕ, Bool, true, false, ◌==◌, not, cond, nat_lt, List, length, refl}
use Rattle.cv_base.specs.declared.advisory.Advisory.{Advisory}
use Rattle.cv_base.specs.declared.finding.Row.{Row}
use Rattle.cv_base.specs.declared.limits.TheConstants.{MAX_ADVISORIES}
use Rattle.cv_core_records.specs.declared.reply.Reply.{Reply}
use Rattle.cv_core_records.specs.declared.reply.Reply.TheVariants as reply
use Rattle.cv_advdb.specs.Feeds.{by_id, has_feed}
use Rattle.cv_core_machine.specs.Laws.{IsGenerationAfter, changes_nothing, changes_notifications, is_updated}
use Rattle.cv_core_machine.specs.State.{State, feed_generation, with_value}
use Rattle.cv_core_machine.specs.Step.{feed_patched, is_full, patch_with, update_with, updated}

-- one of two ends of an event
abbrev pub either : Bool → State × Reply → State × Reply → State × Reply
either b x y = cond b x y

-- a reply that changes nothing
pub record IsRefusal (answer : Reply) : Type 0 where
  pub unchanged : changes_nothing answer ≡ true
  pub generation : (n : ℕ) → IsGenerationAfter n answer n
  pub notifications : changes_notifications answer ≡ false
  pub plain : is_updated answer ≡ false

-- what holds of the state with each refusal, and of the updated state, holds of an update
pub update_ends : (P : State × Reply → Type 0) (rows : List Row) (s : State) (feed : List ℕ) (records : List Advisory)
    → ((answer : Reply) → IsRefusal answer → P (s, answer))
    → (is_full s feed ≡ false → P (updated s feed (with_value s.feeds feed (by_id records)) rows))
    → P (update_with rows s feed records)
update_ends P rows s feed records refused made = by_room (is_full s feed) refl where
  by_room : (b : Bool) → is_full s feed ≡ b → P (either b (s, reply.TooManyFeeds) (updated s feed (with_value s.feeds feed (by_id records)) rows))
  by_room true full = refused reply.TooManyFeeds (record { unchanged = refl; generation = λ n. refl; notifications = refl; plain = refl })
  by_room false room = made room

-- and of a patch
pub patch_ends : (P : State × Reply → Type 0) (rows : List Row) (s : State) (feed : List ℕ) (base : ℕ) (records : List Advisory) (remove : List (List ℕ))
    → ((answer : Reply) → IsRefusal answer → P (s, answer))
    → (has_feed feed s.feeds ≡ true → P (updated s feed (with_value s.feeds feed (feed_patched s.feeds feed records remove)) rows))
    → P (patch_with rows s feed base records remove)
patch_ends P rows s feed base records remove refused made = by_feed (has_feed feed s.feeds) refl where
  count : ℕ
  count = length (feed_patched s.feeds feed records remove)

  end : State × Reply
  end = updated s feed (with_value s.feeds feed (feed_patched s.feeds feed records remove)) rows

  by_count : (b : Bool) → has_feed feed s.feeds ≡ true → P (either b (s, reply.TooManyRecords count) end)
  by_count true stands = refused (reply.TooManyRecords count) (record { unchanged = refl; generation = λ n. refl; notifications = refl; plain = refl })
  by_count false stands = made stands

  by_base : (b : Bool) → has_feed feed s.feeds ≡ true
      → P (either (not b) (s, reply.StaleBase (feed_generation s feed)) (either (nat_lt MAX_ADVISORIES count) (s, reply.TooManyRecords count) end))
  by_base true stands = by_count (nat_lt MAX_ADVISORIES count) stands
  by_base false stands =
      refused (reply.StaleBase (feed_generation s feed)) (record { unchanged = refl; generation = λ n. refl; notifications = refl; plain = refl })

  by_feed : (b : Bool) → has_feed feed s.feeds ≡ b
      → P (either (not b) (s, reply.NoFeed)
      (either (not (base == feed_generation s feed)) (s, reply.StaleBase (feed_generation s feed)) (either (nat_lt MAX_ADVISORIES count) (s, reply.TooManyRecords count) end)))
  by_feed true stands = by_base (base == feed_generation s feed) stands
  by_feed false none = refused reply.NoFeed (record { unchanged = refl; generation = λ n. refl; notifications = refl; plain = refl })
