-- What an update and an acknowledgement leave is consistent, and what an update leaves is what the machine has after it.
use Rattle.std.specs.Prelude.{◌≡◌, ℕ, ◌+◌, ◌≤◌, true, false, cond, List, [], Some, refl}
use Rattle.std.proofs.Common.{ap, arith, subst, sym, ◌∙◌}
use Rattle.cv_advdb.specs.Feeds.{by_id, is_full as is_full_table}
use Rattle.cv_base.specs.declared.advisory.Advisory.{Advisory}
use Rattle.cv_base.specs.declared.finding.Row.{Row}
use Rattle.cv_core_records.specs.declared.reply.Reply.{Reply}
use Rattle.cv_core_records.specs.declared.reply.Reply.TheVariants as reply
use Rattle.cv_core_machine.specs.Laws.{IsConsistent}
use Rattle.cv_core_machine.specs.Rows.{rows_of}
use Rattle.cv_core_machine.specs.Scans.{Trees}
use Rattle.cv_core_machine.specs.State.{Generations, Notifications, State, with_value, without_notification}
use Rattle.cv_core_machine.specs.Step.{notified, update, update_with, updated}
use Rattle.cv_core_machine.specs.declared.event.MachineEvent.TheVariants as act
use Rattle.cv_core_machine.proofs.Consistent.{ack_consistent, updated_consistent}
use Rattle.cv_core_inventory.specs.Holdings.{Holdings, feed_table, holding, IsRegular as IsRegularPart}
use Rattle.cv_core.specs.Core.{CoreView, IsRegular, IsUpdated, counted}
use Rattle.cv_core.specs.code.Parts.{core_of}

-- a consistent state with other holdings
joined : (s : State) (h : Holdings) → IsConsistent s → IsRegularPart h → IsConsistent (holding s h)
joined s h c r = record {
  images = r.images;
  layers = r.layers;
  feeds = r.feeds;
  notifications = c.notifications;
  numbers = c.numbers;
  images_within_limit = r.images_within_limit;
  feeds_within_limit = r.feeds_within_limit;
  table = r.table;
}

pub regular_updated : (h inventory : Holdings) (ns notices : Notifications) (olds since : Generations) (feed : List ℕ) (generation count : ℕ) (rows : List Row)
    → IsRegular (core_of h ns olds generation count) → IsRegularPart inventory → notices ≡ notified ns (generation + 1) rows
    → since ≡ with_value olds feed (generation + 1) → IsRegular (core_of inventory notices since (generation + 1) (count + 1))
regular_updated h inventory ns notices olds since feed generation count rows k r b last = rw (b, last) record {
  consistent = updated_consistent (core_of inventory ns olds generation count).state feed inventory.feeds rows (joined (core_of h ns olds generation count).state inventory k.consistent r) r.feeds r.feeds_within_limit;
  generations = let low : generation ≤ count = k.generations in omega (arith, low);
}

pub regular_acked : (core : CoreView) (notices : Notifications) (number : ℕ) → IsRegular core → notices ≡ without_notification core.state.notifications number
    → IsRegular (record core { state = record core.state { notifications = notices } })
regular_acked core notices number k is = rw is record {
  consistent = ack_consistent (Some []) core.state number k.consistent;
  generations = k.generations;
}

-- the parts of a core are those of its state
pub held : (h : Holdings) (notices : Notifications) (since : Generations) (generation count : ℕ) (core : CoreView) → core_of h notices since generation count ≡ core
    → holding core.state h ≡ core.state
held h notices since generation count core is = subst (λ (c : CoreView). holding c.state h ≡ c.state) is refl

-- an update with these rows, where there is room for the feed
update_is : (core : CoreView) (h inventory : Holdings) (feed name : List ℕ) (records : List Advisory) (rows : List Row) (after : CoreView × Reply)
    → holding core.state h ≡ core.state → name ≡ feed → inventory ≡ record h { feeds = with_value h.feeds feed (by_id records) } → is_full_table (feed_table h) feed ≡ false
    → after ≡ counted core (updated (holding core.state inventory) name inventory.feeds rows) → after ≡ counted core (update_with rows core.state feed records)
update_is core h inventory feed name records rows after same named made room is =
    is
    ∙ ap (λ n. counted core (updated (holding core.state inventory) n inventory.feeds rows)) named
    ∙ ap (λ (i : Holdings). counted core (updated (holding core.state i) feed i.feeds rows)) made
    ∙ ap (λ b. counted core (cond b (holding core.state h, reply.TooManyFeeds) (updated (holding core.state h) feed (with_value h.feeds feed (by_id records)) rows))) (sym room)
    ∙ ap (λ (s : State). counted core (update_with rows s feed records)) same

pub update_made : (core : CoreView) (h inventory : Holdings) (feed name : List ℕ) (records : List Advisory) (rows : List Row) (after : CoreView × Reply)
    → holding core.state h ≡ core.state → name ≡ feed → inventory ≡ record h { feeds = with_value h.feeds feed (by_id records) } → is_full_table (feed_table h) feed ≡ false
    → after ≡ counted core (updated (holding core.state inventory) name inventory.feeds rows) → IsUpdated core (act.Update feed records) after
update_made core h inventory feed name records rows after same named made room is = (rows, update_is core h inventory feed name records rows after same named made room is)

-- with the rows of all images
pub update_stepped : (trees : Trees) (core : CoreView) (h inventory : Holdings) (feed name : List ℕ) (records : List Advisory) (rows : List Row) (after : CoreView × Reply)
    → holding core.state h ≡ core.state → name ≡ feed → inventory ≡ record h { feeds = with_value h.feeds feed (by_id records) } → is_full_table (feed_table h) feed ≡ false
    → rows ≡ rows_of trees (holding core.state h) (with_value h.feeds feed (by_id records))
    → after ≡ counted core (updated (holding core.state inventory) name inventory.feeds rows) → after ≡ counted core (update trees core.state feed records)
update_stepped trees core h inventory feed name records rows after same named made room rows_are is =
    update_is core h inventory feed name records rows after same named made room is
    ∙ ap (λ (rs : List Row). counted core (update_with rs core.state feed records)) (rows_are ∙ ap (λ (s : State). rows_of trees s (with_value s.feeds feed (by_id records))) same)

-- and where there is none
pub update_refused : (core : CoreView) (h : Holdings) (feed : List ℕ) (records : List Advisory) (after : CoreView × Reply) → holding core.state h ≡ core.state
    → is_full_table (feed_table h) feed ≡ true → after ≡ counted core (core.state, reply.TooManyFeeds) → IsUpdated core (act.Update feed records) after
update_refused core h feed records after same full is = (
  [],
  is
      ∙ ap (λ (s : State). counted core (s, reply.TooManyFeeds)) (sym same)
      ∙ ap (λ b. counted core (cond b (holding core.state h, reply.TooManyFeeds) (updated (holding core.state h) feed (with_value h.feeds feed (by_id records)) []))) (sym full)
      ∙ ap (λ (s : State). counted core (update_with [] s feed records)) same,
)
