use Rattle.std.proofs.Common.{ap, sym, ◌∙◌}
use Rattle.cv_desk_wrappers.proofs.Failures.{blamed}
use Rattle.cv_desk_wrappers.proofs.faulty.FaultyDesk.read.Goals as goal

pub returns-then-fails-clause-cause : goal.returns-then-fails-clause-cause
returns-then-fails-clause-cause g c =
    let counted = c.self.view_is ∙ c.begin-fails.ensures.counted in
    blamed _ _ _ _ _ (sym c.begin-fails.ensures.fails ∙ c.if-fails.true) (ap (λ s. s.faults) counted) (ap (λ s. g.D.Desk.faults s.desk) counted) c.begin-fails.ensures.small
