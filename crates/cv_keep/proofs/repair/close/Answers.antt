use Rattle.std.proofs.Common.{◌≡◌, ℕ, List, Option, option_map, refl, ap, sym, ◌∙◌, subst}
use Rattle.cv_keep.specs.Journal.{BelongsTo}
use Rattle.cv_keep.specs.Records.{records}
use Rattle.cv_keep.proofs.EndLemmas.{closed_belongs, closed_found, torn_end}
use Rattle.cv_keep.proofs.Moments.{first_call, if_known, known_at, then_sync}
use Rattle.cv_keep.proofs.repair.close.Goals as goal

pub returns-in_err-write_at-clause-any_moment : goal.returns-in_err-write_at-clause-any_moment
returns-in_err-write_at-clause-any_moment g c =
    if_known _ _ _ c.requires.place (λ b is place.
    first_call _ _ _ _ _ b (λ f. records f ≡ records b) c.write_at.ensures.crash (known_at _ b _ is c.requires.durable) refl
    (torn_end c.args.gate b place.2 place.0 place.1))

pub returns-in_err-sync-clause-any_moment : goal.returns-in_err-sync-clause-any_moment
returns-in_err-sync-clause-any_moment g c =
    if_known _ _ _ c.requires.place (λ b is place.
    then_sync _ _ _ _ _ _ _ b (λ f. records f ≡ records b) c.write_at.ensures.crash c.sync.ensures.crash (known_at _ b _ is c.requires.durable) refl
    (torn_end c.args.gate b place.2 place.0 place.1))

pub returns-clause-any_moment : goal.returns-clause-any_moment
returns-clause-any_moment g c =
    if_known _ _ _ c.requires.place (λ b is place.
    then_sync _ _ _ _ _ _ _ b (λ f. records f ≡ records b) c.write_at.ensures.crash c.sync.ensures.crash (known_at _ b _ is c.requires.durable) refl
    (torn_end c.args.gate b place.2 place.0 place.1))

pub returns-clause-settled : goal.returns-clause-settled
returns-clause-settled g c =
    subst (λ (o : Option (List ℕ)). BelongsTo c.args.gate (g.J.Disk.may_leave c.sync.new.self (g.J.Disk.moment c.sync.new.self)) o) (sym c.sync.ensures.contents)
    (closed_belongs c.args.gate _ _ _ c.in_ok-write_at.ensures.written c.requires.place c.in_ok-sync.ensures.durable)

pub returns-clause-found : goal.returns-clause-found
returns-clause-found g c =
    ap (option_map records) (c.sync.ensures.contents ∙ c.in_ok-write_at.ensures.written) ∙ closed_found c.args.gate _ c.requires.place
