use Rattle.std.proofs.Common.{◌≡◌, ℕ, List, Option, IfSome, refl, subst, ◌∙◌}
use Rattle.cv_keep.specs.Records.{HasRecordsOf, records}
use Rattle.cv_keep.proofs.Moments.{after_first, after_none, if_known, if_known_as, known_at, reads_left, reads_same, same_moment, sync_then}
use Rattle.cv_keep.proofs.journal.Journal.open.Goals as goal

pub settle-requires : goal.settle-requires
settle-requires g c = record { durable = if_known_as _ _ _ _ c.sync.ensures.contents c.in_ok-sync.ensures.durable (λ b is durable. durable) }

pub returns-in_err-sync-clause-after_sync : goal.returns-in_err-sync-clause-after_sync
returns-in_err-sync-clause-after_sync g c =
    if_known _ _ _ c.in_err-sync.ensures.syncs (λ b is anything. after_none _ _ _ (λ f. records f ≡ records b) c.in_err-sync.ensures.not_synced)

pub returns-in_err-sync-clause-any_moment : goal.returns-in_err-sync-clause-any_moment
returns-in_err-sync-clause-any_moment g c =
    if_known _ _ _ c.in_err-sync.ensures.syncs (λ b is anything.
    same_moment _ _ _ _ (λ f. records f ≡ records b) (λ s f le left. g.met.J.Disk.earlier c.args.disk.now s _ f le left) c.sync.ensures.crash)

pub returns-in_err-gate-clause-after_sync : goal.returns-in_err-gate-clause-after_sync
returns-in_err-gate-clause-after_sync g c =
    if_known _ _ _ c.in_ok-sync.ensures.durable (λ b is durable.
    let same = c.sync.ensures.contents ∙ is in
    after_first _ _ _ _ _ _ _ (λ f. records f ≡ records b) (known_at _ b _ is c.in_ok-sync.ensures.syncs) (known_at _ b _ same c.settle.ensures.syncs)
    (known_at _ b _ same c.settle.ensures.any_moment))

pub returns-clause-after_sync : goal.returns-clause-after_sync
returns-clause-after_sync g c =
    if_known _ _ _ c.in_ok-sync.ensures.durable (λ b is durable.
    let same = c.sync.ensures.contents ∙ is in
    after_first _ _ _ _ _ _ _ (λ f. records f ≡ records b) (known_at _ b _ is c.in_ok-sync.ensures.syncs) (known_at _ b _ same c.settle.ensures.syncs)
    (known_at _ b _ same c.settle.ensures.any_moment))

pub returns-in_err-gate-clause-any_moment : goal.returns-in_err-gate-clause-any_moment
returns-in_err-gate-clause-any_moment g c =
    if_known _ _ _ c.in_ok-sync.ensures.durable (λ b is durable.
    sync_then _ _ _ _ _ _ b (λ f. records f ≡ records b) c.sync.ensures.crash (known_at _ b _ (c.sync.ensures.contents ∙ is) c.settle.ensures.any_moment) durable refl)

pub returns-clause-any_moment : goal.returns-clause-any_moment
returns-clause-any_moment g c =
    if_known _ _ _ c.in_ok-sync.ensures.durable (λ b is durable.
    sync_then _ _ _ _ _ _ b (λ f. records f ≡ records b) c.sync.ensures.crash (known_at _ b _ (c.sync.ensures.contents ∙ is) c.settle.ensures.any_moment) durable refl)

-- ---- what is read

pub returns-in_err-sync-clause-same : goal.returns-in_err-sync-clause-same
returns-in_err-sync-clause-same g c = reads_same _ _ HasRecordsOf c.sync.ensures.contents (λ b. refl)

pub returns-in_err-gate-clause-same : goal.returns-in_err-gate-clause-same
returns-in_err-gate-clause-same g c =
    let now = c.settle.new.disk in
    subst (λ (o : Option (List ℕ)). IfSome o (λ b. IfSome (g.J.Disk.contents now) (HasRecordsOf b))) c.sync.ensures.contents
    (reads_left _ _ _ _ _ _ HasRecordsOf (g.met.J.Disk.reads now) (λ image le left. g.met.J.Disk.earlier now _ _ image le left) c.settle.ensures.any_moment)

pub returns-clause-same : goal.returns-clause-same
returns-clause-same g c =
    let now = c.settle.new.disk in
    subst (λ (o : Option (List ℕ)). IfSome o (λ b. IfSome (g.J.Disk.contents now) (HasRecordsOf b))) c.sync.ensures.contents
    (reads_left _ _ _ _ _ _ HasRecordsOf (g.met.J.Disk.reads now) (λ image le left. g.met.J.Disk.earlier now _ _ image le left) c.settle.ensures.any_moment)
