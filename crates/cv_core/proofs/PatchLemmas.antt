-- What a patch of a feed leads to, by the tests that the machine makes of it.
use Rattle.std.specs.Prelude.{◌≡◌, ℕ, ◌≤◌, ◌<◌, ◌==◌, Bool, true, false, cond, nat_lt, not, List, [], length, refl}
use Rattle.std.proofs.Common.{ap, subst, sym, ◌∙◌}
use Rattle.std.proofs.lemmas.Bool.{eq-eqb, le-ltb, lt-ltb}
use Rattle.cv_advdb.specs.Feeds.{has_feed}
use Rattle.cv_advdb.specs.Patch.{CountsTooMany}
use Rattle.cv_advdb.specs.declared.error.PatchError.{PatchError}
use Rattle.cv_advdb.specs.declared.error.PatchError.TheVariants as refusal
use Rattle.cv_base.specs.declared.advisory.Advisory.{Advisory}
use Rattle.cv_base.specs.declared.finding.Row.{Row}
use Rattle.cv_base.specs.declared.limits.TheConstants.{MAX_ADVISORIES}
use Rattle.cv_core_records.specs.declared.reply.Reply.{Reply}
use Rattle.cv_core_records.specs.declared.reply.Reply.TheVariants as reply
use Rattle.cv_core_machine.specs.Rows.{rows_of}
use Rattle.cv_core_machine.specs.Scans.{Trees}
use Rattle.cv_core_machine.specs.State.{State, feed_generation, with_value}
use Rattle.cv_core_machine.specs.Step.{feed_patched, patch, patch_with, updated}
use Rattle.cv_core_machine.specs.declared.event.MachineEvent.TheVariants as act
use Rattle.cv_core_inventory.specs.Holdings.{Holdings, holding}
use Rattle.cv_core.specs.Core.{CoreView, IsUpdated, counted}

-- one of two ends
abbrev pub either : Bool → State × Reply → State × Reply → State × Reply
either b x y = cond b x y

-- where a patch leads that would leave a feed these records
abbrev pub fitted : List Row → State → List ℕ → List Advisory → State × Reply
fitted rows s feed after =
    either (nat_lt MAX_ADVISORIES (length after)) (s, reply.TooManyRecords (length after)) (updated s feed (with_value s.feeds feed after) rows)

-- and that is made on a generation, by the feed's
abbrev based : ℕ → ℕ → State → State × Reply → State × Reply
based base kept s end = either (not (base == kept)) (s, reply.StaleBase kept) end

-- the rows of a patch that is made
abbrev pub rows_after : Trees → State → List ℕ → List Advisory → List (List ℕ) → List Row
rows_after trees s feed records remove = rows_of trees s (with_value s.feeds feed (feed_patched s.feeds feed records remove))

-- a patch of a feed that does not stand
absent : (rows : List Row) (s : State) (feed : List ℕ) (base : ℕ) (records : List Advisory) (remove : List (List ℕ)) → has_feed feed s.feeds ≡ false
    → (s, reply.NoFeed) ≡ patch_with rows s feed base records remove
absent rows s feed base records remove none =
    ap (λ b. either (not b) (s, reply.NoFeed) (based base (feed_generation s feed) s (fitted rows s feed (feed_patched s.feeds feed records remove)))) (sym none)

-- of one that stands
standing : (rows : List Row) (s : State) (feed : List ℕ) (base : ℕ) (records : List Advisory) (remove : List (List ℕ)) → has_feed feed s.feeds ≡ true
    → based base (feed_generation s feed) s (fitted rows s feed (feed_patched s.feeds feed records remove)) ≡ patch_with rows s feed base records remove
standing rows s feed base records remove stands =
    ap (λ b. either (not b) (s, reply.NoFeed) (based base (feed_generation s feed) s (fitted rows s feed (feed_patched s.feeds feed records remove)))) (sym stands)

-- on another generation than the feed's
stale : (rows : List Row) (s : State) (feed : List ℕ) (base kept : ℕ) (records : List Advisory) (remove : List (List ℕ)) → has_feed feed s.feeds ≡ true
    → kept ≡ feed_generation s feed → (base == kept) ≡ false → (s, reply.StaleBase kept) ≡ patch_with rows s feed base records remove
stale rows s feed base kept records remove stands is other =
    let end = fitted rows s feed (feed_patched s.feeds feed records remove) in
    ap (λ b. either b (s, reply.StaleBase kept) end) (sym (ap not other))
    ∙ ap (λ n. based base n s end) is
    ∙ standing rows s feed base records remove stands

-- on the feed's
pub current : (rows : List Row) (s : State) (feed : List ℕ) (records : List Advisory) (remove : List (List ℕ)) → has_feed feed s.feeds ≡ true
    → fitted rows s feed (feed_patched s.feeds feed records remove) ≡ patch_with rows s feed (feed_generation s feed) records remove
current rows s feed records remove stands =
    let kept = feed_generation s feed in
    let end = fitted rows s feed (feed_patched s.feeds feed records remove) in
    ap (λ b. either (not b) (s, reply.StaleBase kept) end) (sym (eq-eqb kept kept refl)) ∙ standing rows s feed kept records remove stands

-- that leaves the feed more records than it may have
full : (rows : List Row) (s : State) (feed : List ℕ) (records : List Advisory) (remove : List (List ℕ)) (would : ℕ) → has_feed feed s.feeds ≡ true
    → would ≡ length (feed_patched s.feeds feed records remove) → MAX_ADVISORIES < length (feed_patched s.feeds feed records remove)
    → (s, reply.TooManyRecords would) ≡ patch_with rows s feed (feed_generation s feed) records remove
full rows s feed records remove would stands is many =
    let after = feed_patched s.feeds feed records remove in
    ap (λ n. (s, reply.TooManyRecords n)) is
    ∙ ap (λ b. either b (s, reply.TooManyRecords (length after)) (updated s feed (with_value s.feeds feed after) rows)) (sym (lt-ltb MAX_ADVISORIES (length after) many))
    ∙ current rows s feed records remove stands

-- and one that is made
made : (rows : List Row) (s : State) (feed : List ℕ) (records : List Advisory) (remove : List (List ℕ)) → has_feed feed s.feeds ≡ true
    → length (feed_patched s.feeds feed records remove) ≤ MAX_ADVISORIES
    → updated s feed (with_value s.feeds feed (feed_patched s.feeds feed records remove)) rows ≡ patch_with rows s feed (feed_generation s feed) records remove
made rows s feed records remove stands few =
    let after = feed_patched s.feeds feed records remove in
    ap (λ b. either b (s, reply.TooManyRecords (length after)) (updated s feed (with_value s.feeds feed after) rows)) (sym (le-ltb MAX_ADVISORIES (length after) few))
    ∙ current rows s feed records remove stands

-- The same for a core.

pub patch_absent : (core : CoreView) (rows : List Row) (feed : List ℕ) (base : ℕ) (records : List Advisory) (remove : List (List ℕ)) → has_feed feed core.state.feeds ≡ false
    → counted core (core.state, reply.NoFeed) ≡ counted core (patch_with rows core.state feed base records remove)
patch_absent core rows feed base records remove none = ap (counted core) (absent rows core.state feed base records remove none)

pub patch_stale : (core : CoreView) (rows : List Row) (feed : List ℕ) (base kept : ℕ) (records : List Advisory) (remove : List (List ℕ)) → has_feed feed core.state.feeds ≡ true
    → kept ≡ feed_generation core.state feed → (base == kept) ≡ false
    → counted core (core.state, reply.StaleBase kept) ≡ counted core (patch_with rows core.state feed base records remove)
patch_stale core rows feed base kept records remove stands is other = ap (counted core) (stale rows core.state feed base kept records remove stands is other)

pub patch_full : (core : CoreView) (rows : List Row) (feed : List ℕ) (records : List Advisory) (remove : List (List ℕ)) (would : ℕ) → has_feed feed core.state.feeds ≡ true
    → would ≡ length (feed_patched core.state.feeds feed records remove) → MAX_ADVISORIES < length (feed_patched core.state.feeds feed records remove)
    → counted core (core.state, reply.TooManyRecords would) ≡ counted core (patch_with rows core.state feed (feed_generation core.state feed) records remove)
patch_full core rows feed records remove would stands is many = ap (counted core) (full rows core.state feed records remove would stands is many)

pub patch_made : (core : CoreView) (h inventory : Holdings) (feed : List ℕ) (records : List Advisory) (remove : List (List ℕ)) (rows : List Row)
    → holding core.state h ≡ core.state → inventory ≡ record h { feeds = with_value h.feeds feed (feed_patched h.feeds feed records remove) }
    → has_feed feed core.state.feeds ≡ true → length (feed_patched h.feeds feed records remove) ≤ MAX_ADVISORIES
    → counted core (updated (holding core.state inventory) feed inventory.feeds rows) ≡ counted core (patch_with rows core.state feed (feed_generation core.state feed) records remove)
patch_made core h inventory feed records remove rows same made_is stands few =
    ap (λ (i : Holdings). counted core (updated (holding core.state i) feed i.feeds rows)) made_is
    ∙ ap (λ (s : State). counted core (updated s feed (with_value s.feeds feed (feed_patched s.feeds feed records remove)) rows)) same
    ∙ ap (counted core)
    (made rows core.state feed records remove stands (subst (λ (s : State). length (feed_patched s.feeds feed records remove) ≤ MAX_ADVISORIES) same few))

pub patch_stepped : (trees : Trees) (core : CoreView) (h inventory : Holdings) (feed : List ℕ) (records : List Advisory) (remove : List (List ℕ)) (rows : List Row) (after : CoreView × Reply)
    → holding core.state h ≡ core.state → inventory ≡ record h { feeds = with_value h.feeds feed (feed_patched h.feeds feed records remove) }
    → has_feed feed core.state.feeds ≡ true → length (feed_patched h.feeds feed records remove) ≤ MAX_ADVISORIES
    → rows ≡ rows_of trees (holding core.state h) (with_value h.feeds feed (feed_patched h.feeds feed records remove))
    → after ≡ counted core (updated (holding core.state inventory) feed inventory.feeds rows)
    → after ≡ counted core (patch trees core.state feed (feed_generation core.state feed) records remove)
patch_stepped trees core h inventory feed records remove rows after same made_is stands few rows_are is =
    is ∙ patch_made core h inventory feed records remove rows same made_is stands few
    ∙ ap (λ (rs : List Row). counted core (patch_with rs core.state feed (feed_generation core.state feed) records remove))
    (rows_are ∙ ap (λ (s : State). rows_of trees s (with_value s.feeds feed (feed_patched s.feeds feed records remove))) same)

-- one that is refused because it leaves too many records, as the inventory says it
pub full_known : (core : CoreView) (h : Holdings) (feed : List ℕ) (records : List Advisory) (remove : List (List ℕ)) (error : PatchError) (would : ℕ) (after : CoreView × Reply)
    → holding core.state h ≡ core.state → has_feed feed core.state.feeds ≡ true → error ≡ refusal.TooManyRecords would
    → CountsTooMany (length (feed_patched h.feeds feed records remove)) error → after ≡ counted core (core.state, reply.TooManyRecords would)
    → IsUpdated core (act.Patch feed (feed_generation core.state feed) records remove) after
full_known core h feed records remove error would after same stands refused many is =
    let said : CountsTooMany (length (feed_patched core.state.feeds feed records remove)) (refusal.TooManyRecords would) =
    subst (CountsTooMany (length (feed_patched core.state.feeds feed records remove))) refused
    (subst (λ (s : State). CountsTooMany (length (feed_patched s.feeds feed records remove)) error) same many) in
    ([], is ∙ patch_full core [] feed records remove would stands said.0 said.1)
