-- Worked examples of the definitions.
use Rattle.std.specs.Prelude.{◌≡◌, [], ◌∷◌, Err, refl}
use Rattle.cv_core_outcome.specs.declared.outcome.Outcome.TheVariants.{Pending}
use Rattle.cv_core_records.specs.declared.read.ReportOutcome.TheVariants as outcome
use Rattle.cv_core.specs.Boards.{board_view}
use Rattle.cv_core.specs.Reports.{shown}
use Rattle.cv_core.specs.declared.report.ReportRefusal.TheVariants as refusal

-- a refusal shows its cause
refusals : (shown (Err refusal.NotRegistered) ≡ outcome.NotRegistered) × (shown (Err (refusal.Pending (1 ∷ []))) ≡ outcome.Pending (1 ∷ []))
refusals = (refl, refl)

-- the board of one image, which waits for a layer
waiting : (board_view ((2 ∷ [], Pending (1 ∷ [])) ∷ []) [] 7).reports ≡ (2 ∷ [], outcome.Pending (1 ∷ [])) ∷ []
waiting = refl
