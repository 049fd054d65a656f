use Rattle.std.proofs.Common.{arith}
use Rattle.cv_keep.proofs.RecordLemmas.{next_open, next_short, next_shut}
use Rattle.cv_keep.proofs.Moments.{if_known, known_at}
use Rattle.cv_keep.proofs.walk.next_gate.Goals as goal
use Rattle.cv_keep.proofs.walk.next_gate.Goals.{else-mark-eq-OPEN-via-then-mark-eq-OPEN+else-size-last, else-mark-eq-OPEN-via-else-mark-eq-OPEN}

pub returns-then-saturating_sub-lt9-clause-next : goal.returns-then-saturating_sub-lt9-clause-next
returns-then-saturating_sub-lt9-clause-next g c =
    if_known _ _ _ c.requires.place (λ b is place.
    next_short b c.args.gate (omega (arith, place.0, place.1, c.if-saturating_sub-lt9.true, c.saturating_sub.ensures)))

pub returns-then-size-last-clause-next : goal.returns-then-size-last-clause-next
returns-then-size-last-clause-next g c =
    if_known _ _ _ c.requires.place (λ b is place.
    next_open b c.args.gate c.in_ok-mark.mark c.in_ok-mark.size (known_at _ b _ is c.in_ok-mark.ensures.head) c.if-mark-eq-OPEN.true
    (omega (arith, place.0, place.1, c.if-size-last.true, c.if-saturating_sub-lt9.false, c.saturating_sub.ensures)))

pub returns-else-mark-eq-OPEN-clause-next : goal.returns-else-mark-eq-OPEN-clause-next
returns-else-mark-eq-OPEN-clause-next g c =
    if_known _ _ _ c.requires.place (λ b is place.
    next_shut b c.args.gate c.in_ok-mark.mark c.in_ok-mark.size (known_at _ b _ is c.in_ok-mark.ensures.head)
    (λ one. elim c.else-mark-eq-OPEN.branch [
      | else-mark-eq-OPEN-via-then-mark-eq-OPEN+else-size-last w ↦
          omega (arith, place.0, place.1, w.if-size-last.false, c.if-saturating_sub-lt9.false, c.saturating_sub.ensures)
      | else-mark-eq-OPEN-via-else-mark-eq-OPEN w ↦ absurd (w.if-mark-eq-OPEN.false one)
    ]))
