use Rattle.std.proofs.Common.{List, ap, subst}
use mathlib.Core.List.{IsPrefix}
use Rattle.cv_hub_seats.specs.declared.submission.Submission.{Submission}
use Rattle.cv_hub_seats.proofs.Comparing.{begins_one}
use Rattle.cv_hub_seats.proofs.prefix.Prefix.begins.Goals as goal

pub returns : goal.returns
returns g c =
    let both = c.learn.new.self.log in
    let this : IsPrefix c.self.inside.seen.log both = subst (λ (log : List Submission). IsPrefix log both) (ap (λ seen. seen.log) c.again-both.ensures) c.learn.ensures.2 in
    rw (← c.self.view_is, ← c.other.view_is) (begins_one c.self.inside.seen.log c.other.inside.seen.log both c.self.inside.number c.other.inside.number this c.learn.ensures.3 c.self.invariant.length_is c.other.invariant.length_is)
