use Rattle.std.proofs.Common.{◌≡◌, refl}
use Rattle.cv_keep.specs.Records.{records}
use Rattle.cv_keep.proofs.EndLemmas.{cut_keeps}
use Rattle.cv_keep.proofs.Moments.{first_call, if_known, known_at, then_sync}
use Rattle.cv_keep.proofs.repair.trim.Goals as goal

pub returns-in_err-cut_end-clause-any_moment : goal.returns-in_err-cut_end-clause-any_moment
returns-in_err-cut_end-clause-any_moment g c =
    if_known _ _ _ c.requires.length (λ b is length.
    first_call _ _ _ _ _ b (λ f. records f ≡ records b) c.cut_end.ensures.crash (known_at _ b _ is c.requires.durable) refl
    (cut_keeps c.args.gate b length.1))

pub returns-in_err-sync-clause-any_moment : goal.returns-in_err-sync-clause-any_moment
returns-in_err-sync-clause-any_moment g c =
    if_known _ _ _ c.requires.length (λ b is length.
    then_sync _ _ _ _ _ _ _ b (λ f. records f ≡ records b) c.cut_end.ensures.crash c.sync.ensures.crash (known_at _ b _ is c.requires.durable) refl
    (cut_keeps c.args.gate b length.1))

pub returns-clause-any_moment : goal.returns-clause-any_moment
returns-clause-any_moment g c =
    if_known _ _ _ c.requires.length (λ b is length.
    then_sync _ _ _ _ _ _ _ b (λ f. records f ≡ records b) c.cut_end.ensures.crash c.sync.ensures.crash (known_at _ b _ is c.requires.durable) refl
    (cut_keeps c.args.gate b length.1))
