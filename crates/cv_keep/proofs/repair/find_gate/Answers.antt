use Rattle.std.proofs.Common.{◌≡◌, arith}
use Rattle.cv_keep.specs.Records.{records, gate_after}
use Rattle.cv_keep.proofs.RecordLemmas.{gate_within}
use Rattle.cv_keep.proofs.Moments.{if_known}
use Rattle.cv_keep.proofs.repair.find_gate.Goals as goal

pub returns-then-len-eq0-clause-gate : goal.returns-then-len-eq0-clause-gate
returns-then-len-eq0-clause-gate g c = if_known _ _ (λ b. 0 ≡ gate_after (records b)) c.requires.length (λ b is length. omega (arith, length, gate_within b, c.if-len-eq0.true))
