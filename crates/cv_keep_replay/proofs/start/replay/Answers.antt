use Rattle.std.proofs.Common.{◌≡◌, ℕ, [], List, Option, IfSome, true, false, refl, ap, sym, subst, ◌∙◌, arith}
use Rattle.cv_hub_seats.specs.Events.{IsReplayed, acts_of}
use Rattle.cv_hub_seats.specs.Seats.{AreAllReceipts}
use Rattle.cv_hub_seats.specs.declared.submission.Submission.{Submission}
use Rattle.cv_keep.specs.Journal.{IsReadAt}
use Rattle.cv_keep.specs.Records.{records}
use Rattle.cv_keep.specs.declared.journal.Kept.{Kept}
use Rattle.cv_keep.proofs.Moments.{same_none, same_then}
use Rattle.cv_core_machine.specs.Scans.{trees_of}
use Rattle.cv_serve_legal.specs.Replay.{Moment}
use Rattle.cv_keep_record.specs.declared.event.KeptEvent.{KeptEvent}
use Rattle.cv_keep_replay.specs.Good.{IsFirstBad, IsGoodFrom, moment_of, start_of}
use Rattle.cv_keep_replay.specs.Kept.{index_count}
use Rattle.cv_keep_replay.specs.code.Alone.{IsAlone}
use Rattle.cv_keep_replay.specs.code.Record.{AddsRecord, IsReplayedTo, IsResumed, ListsWithin}
use Rattle.cv_keep_replay.proofs.Adding.{adds_some}
use Rattle.cv_keep_replay.proofs.Alone.{alone_numbered, fresh_alone, fresh_receipts}
use Rattle.cv_keep_replay.proofs.Going.{adds_listed, if_any, if_both, replayed_none, resumed_none, to_bad, to_lists_more, to_more, to_none}
use Rattle.cv_keep_replay.proofs.start.replay.Goals as goal

-- before the first record
pub loop-init : goal.loop-init
loop-init g c =
    let none = c.requires.hub in
    let tree = g.D.Desk.tree in
    let limits = g.L.Identity.limits in
    let zero_listed : index_count (acts_of c.args.hub.now) ≡ 0 = ap (λ (l : List Submission). index_count (acts_of l)) none in (
      (tt, tt),
      record {
        contents = refl;
        belongs = c.requires.belongs;
        syncs = refl;
        crash = same_none _ _;
        disk_later = omega arith;
        desk_later = omega arith;
        listed = omega (arith, zero_listed);
        alone = subst (λ (l : List Submission). IsAlone l c.args.seats.now) (sym none) (fresh_alone c.args.seats.now c.requires.has_seats c.requires.fresh);
        receipts = subst (λ (l : List Submission). AreAllReceipts l c.args.seats.now) (sym none) (fresh_receipts 0 c.args.seats.now c.requires.fresh);
        replayed = subst (IsReplayed tree limits) (sym none) (replayed_none tree limits);
        resumed = subst (λ (l : List Submission). IsResumed tree limits l (record { events = 0; generation = 0 })) (sym none) (resumed_none tree limits);
        few = omega arith;
        to = subst (λ (l : List Submission). IfSome (g.J.Disk.contents c.args.disk.now) (λ b. IsReplayedTo tree limits (records b) 0 0 l)) (sym none)
            (if_any (g.J.Disk.contents c.args.disk.now) (λ b. IsReplayedTo tree limits (records b) 0 0 []) (to_none tree limits));
      },
    )

pub returns-in_default-clause-numbered : goal.returns-in_default-clause-numbered
returns-in_default-clause-numbered g c = alone_numbered c.loop.hub c.loop.seats c.loop.invariant.1.alone

pub returns-in_err-replay_record-clause-lists_at_most : goal.returns-in_err-replay_record-clause-lists_at_most
returns-in_err-replay_record-clause-lists_at_most g c =
    let file = g.J.Disk.contents c.args.disk.now in
    let before = c.loop.invariant.1 in
    let kept = c.in-Some-2.kept in
    let found = subst (λ (o : Option (List ℕ)). IfSome o (λ b. IsReadAt c.loop.at b c.in_ok-kept.field-0)) before.contents c.in_ok-kept.ensures.read in
    let read = subst (λ (o : Option Kept). IfSome file (λ b. IsReadAt c.loop.at b o)) c.in-Some-2.is found in
    let within = subst (λ (bytes : List ℕ). ListsWithin bytes (g.D.Desk.listings c.loop.desk) (g.D.Desk.listings c.replay_record.new.desk)) c.as_slice-bytes.ensures c.replay_record.ensures.at_most in
    if_both file _ _ _ before.to read (λ b to at. to_lists_more g.D.Desk.tree g.L.Identity.limits b c.loop.at c.loop.count c.loop.hub
    (g.D.Desk.listings c.args.desk.now) (g.D.Desk.listings c.loop.desk) (g.D.Desk.listings c.replay_record.new.desk) kept to at before.listed within)

pub returns-then-not-branch-clause-bad_keep : goal.returns-then-not-branch-clause-bad_keep
returns-then-not-branch-clause-bad_keep g c =
    let file = g.J.Disk.contents c.args.disk.now in
    let before = c.loop.invariant.1 in
    let kept = c.in-Some-2.kept in
    let found = subst (λ (o : Option (List ℕ)). IfSome o (λ b. IsReadAt c.loop.at b c.in_ok-kept.field-0)) before.contents c.in_ok-kept.ensures.read in
    let read = subst (λ (o : Option Kept). IfSome file (λ b. IsReadAt c.loop.at b o)) c.in-Some-2.is found in
    let bad_is : c.in_ok-replay_record.field-0 ≡ false = c.if-not-branch.true in
    λ known k is.
    let same : c.loop.count ≡ k = cc is in
    let bad = subst (λ (bytes : List ℕ). (others : List KeptEvent) (after : Moment) → IsGoodFrom (trees_of g.D.Desk.tree) (moment_of (trees_of g.D.Desk.tree) g.L.Identity.limits c.loop.hub) bytes others after → ⊥)
    c.as_slice-bytes.ensures (c.in_ok-replay_record.ensures.bad known bad_is) in
    subst (λ (n : ℕ). IfSome file (λ b. IsFirstBad (trees_of g.D.Desk.tree) (start_of g.L.Identity.limits) (records b) n)) same
    (if_both file _ _ _ before.to read (λ b to at. to_bad g.D.Desk.tree g.L.Identity.limits b c.loop.at c.loop.count c.loop.hub kept known to at bad))

pub returns-then-not-branch-clause-lists_at_most : goal.returns-then-not-branch-clause-lists_at_most
returns-then-not-branch-clause-lists_at_most g c =
    let file = g.J.Disk.contents c.args.disk.now in
    let before = c.loop.invariant.1 in
    let kept = c.in-Some-2.kept in
    let found = subst (λ (o : Option (List ℕ)). IfSome o (λ b. IsReadAt c.loop.at b c.in_ok-kept.field-0)) before.contents c.in_ok-kept.ensures.read in
    let read = subst (λ (o : Option Kept). IfSome file (λ b. IsReadAt c.loop.at b o)) c.in-Some-2.is found in
    let within = subst (λ (bytes : List ℕ). ListsWithin bytes (g.D.Desk.listings c.loop.desk) (g.D.Desk.listings c.replay_record.new.desk)) c.as_slice-bytes.ensures c.replay_record.ensures.at_most in
    if_both file _ _ _ before.to read (λ b to at. to_lists_more g.D.Desk.tree g.L.Identity.limits b c.loop.at c.loop.count c.loop.hub
    (g.D.Desk.listings c.args.desk.now) (g.D.Desk.listings c.loop.desk) (g.D.Desk.listings c.replay_record.new.desk) kept to at before.listed within)

pub overflow_add-count : goal.overflow_add-count
overflow_add-count g c = omega (arith, c.loop.invariant.1.few, c.loop.invariant.1.resumed.at_most_2_63)

-- one record more
pub loop-preserved : goal.loop-preserved
loop-preserved g c =
    let tree = g.D.Desk.tree in
    let limits = g.L.Identity.limits in
    let file = g.J.Disk.contents c.args.disk.now in
    let before = c.loop.invariant.1 in
    let kept = c.in-Some-2.kept in
    let found = subst (λ (o : Option (List ℕ)). IfSome o (λ b. IsReadAt c.loop.at b c.in_ok-kept.field-0)) before.contents c.in_ok-kept.ensures.read in
    let read = subst (λ (o : Option Kept). IfSome file (λ b. IsReadAt c.loop.at b o)) c.in-Some-2.is found in
    let good : c.in_ok-replay_record.field-0 ≡ true = c.if-not-branch.false in
    let adds = subst (λ (bytes : List ℕ). AddsRecord tree limits bytes c.loop.hub c.replay_record.new.hub (g.D.Desk.listings c.loop.desk) (g.D.Desk.listings c.replay_record.new.desk)) c.as_slice-bytes.ensures
    (c.in_ok-replay_record.ensures.added good) in
    let more = adds_some tree limits kept.bytes c.loop.hub c.replay_record.new.hub (g.D.Desk.listings c.loop.desk) (g.D.Desk.listings c.replay_record.new.desk) adds in
    let resumed = c.in_ok-replay_record.ensures.resumed good in (
      (tt, tt),
      record {
        contents = c.next_record.ensures.contents ∙ before.contents;
        belongs = c.next_record.ensures.belongs;
        syncs = c.next_record.ensures.syncs ∙ before.syncs;
        crash = same_then _ _ _ _ _ _ (λ s image le left. g.met.J.Disk.earlier c.args.disk.now s _ image le left) before.crash c.next_record.ensures.crash;
        disk_later = omega (arith, before.disk_later, c.next_record.ensures.cause.later);
        desk_later = omega (arith, before.desk_later, c.replay_record.ensures.cause.later);
        listed = adds_listed tree limits kept.bytes c.loop.hub c.replay_record.new.hub (g.D.Desk.listings c.args.desk.now) (g.D.Desk.listings c.loop.desk) (g.D.Desk.listings c.replay_record.new.desk) adds before.listed;
        alone = c.in_ok-replay_record.ensures.alone good;
        receipts = c.in_ok-replay_record.ensures.receipts good;
        replayed = c.in_ok-replay_record.ensures.replayed good;
        resumed = resumed;
        few = omega (arith, before.few, before.resumed.events, more, resumed.events);
        to = if_both file _ _ _ before.to read (λ b to at. to_more tree limits b c.loop.at c.loop.count c.loop.hub c.replay_record.new.hub (g.D.Desk.listings c.loop.desk) (g.D.Desk.listings c.replay_record.new.desk) kept to at adds);
      },
    )
