-- A service over generated layers never fails, and what it wrote has no `fault` line.
use Rattle.std.proofs.Common.{◌≡◌, ℕ, ◌+◌, ◌<◌, ◌≤◌, ◌^◌, List, [], ◌∷◌, length, refl, sym, ◌∙◌, ap, subst, inl, inr, ◌⊎◌, arith}
use Rattle.std.specs.Prelude.{◌≢◌, Option, Some, take}
use Rattle.std.proofs.lemmas.List.{length-take-le}
use Rattle.std.proofs.Math.Nat.{eq-or-lt_of_le}
use Rattle.cv_desk_drill.specs.Generated.{generated}
use Rattle.cv_drill.specs.Script.{script}
use Rattle.cv_io.specs.Lines.{Finished}
use Rattle.cv_serve_legal.specs.Parts.{events_by}
use Rattle.cv_serve_legal.specs.Replay.{beginning}
use Rattle.cv_serve.specs.Round.{DesksCounted, RoseBy, fault_count}
use Rattle.cv_scan_input.specs.Request.{input_of}
use Rattle.cv_seq.specs.Cause.{Rose}
use Rattle.cv_serve.specs.Served.{FitsInput, IsServed}
use Rattle.cv_serve.specs.declared.end.ServeEnd.{ServeEnd}
use Rattle.cv_serve.specs.declared.end.ServeEnd.TheVariants as end
use Rattle.cv_transcript.specs.Order.{events_of}
use Rattle.cv_transcript.specs.declared.entry.Entry.{Entry}
use Rattle.cv_run.specs.Drill.{DrillEnds, IsDrilled, drill_printed}
use Rattle.cv_command.specs.Printed.{IsPrinted}
use Rattle.cv_run.specs.Service.{status_of}
use Rattle.cv_run.specs.code.Drilled.{SummaryPrinted}
use Rattle.cv_command.specs.declared.status.Status.{Status}
use Rattle.cv_command.specs.declared.status.Status.TheVariants as status
use Rattle.cv_run.proofs.FaultLines.{no_faults}
use Rattle.cv_run.proofs.ShortInput.{short_stop}

-- a count that stays 0 did not rise
never_rose : Rose 0 0 → ⊥
never_rose h = omega (arith, h)

-- a count that stays 0 allows no rise
no_rise : (times : ℕ) → RoseBy times 0 0 → times ≡ 0
no_rise times h = omega (arith, h)

module _ {D : Type 0} (listings : D → ℕ) (entries : List Entry) where
  -- desks whose counts of faults are always 0 leave no `fault` line to their workers
  counts_none : (first : ℕ) (desks desks_now : List D) → DesksCounted listings (λ desk. 0) first desks desks_now entries
      → (worker : ℕ) → first ≤ worker → worker < first + length desks → fault_count (events_by worker (events_of entries)) ≡ 0
  counts_none first [] desks_now counts worker le lt = absurd (omega (arith, le, lt))
  counts_none first (desk ∷ desks) [] counts worker le lt = absurd counts
  counts_none first (desk ∷ desks) (now ∷ desks_now) counts worker le lt =
      go (eq-or-lt_of_le le) (λ later. counts_none (first + 1) desks desks_now counts.2 worker later (omega (arith, lt)))
    where
      go : (first ≡ worker) ⊎ (first < worker) → (first + 1 ≤ worker → fault_count (events_by worker (events_of entries)) ≡ 0) → fault_count (events_by worker (events_of entries)) ≡ 0
      go (inl same) more = ap (λ w. fault_count (events_by w (events_of entries))) (sym same) ∙ no_rise _ counts.1
      go (inr later) more = more (omega (arith, later))

-- what was served from an empty output, over desks that never fail
pub drilled : {D : Type 0} (listings : D → ℕ) (seed : ℕ) (input written output : List ℕ) (desks desks_now : List D) → input ≡ script seed → written ≡ [] → length desks ≡ 4
    → IsServed generated 4 listings (λ desk. 0) input (Some written) (Some output) (take 4 desks) (take 4 desks_now) → IsDrilled seed output
drilled listings seed input written output desks desks_now is empty four served =
    let by_script = subst (λ i. IsServed generated 4 listings (λ desk. 0) i (Some written) (Some output) (take 4 desks) (take 4 desks_now)) is served in
    let whole = subst (λ w. IsServed generated 4 listings (λ desk. 0) (script seed) (Some w) (Some output) (take 4 desks) (take 4 desks_now)) empty by_script in
    let same = whole.served in
    let count : length (take 4 desks) ≡ 4 = length-take-le 4 desks (omega (arith, four)) in
    subst (λ o. IsDrilled seed o) (sym same.appended) (record {
      state = same.state;
      legal = same.legal;
      no_fault = no_faults 4 generated beginning _ same.legal.entries same.legal.after same.legal.legal
          (λ worker lt. counts_none listings same.legal.entries 0 (take 4 desks) (take 4 desks_now) same.counts worker (omega arith) (omega (arith, lt, count)));
    })

-- the service ends only if memory ran out, if it is not done
pub only_memory : (ended : ServeEnd) (bytes : List ℕ) → ended ≢ end.Done → length bytes ≤ 2 ^ 26 → (ended ≡ end.ReadFault → Rose 0 0) → (ended ≡ end.WriteFault → Rose 0 0)
    → FitsInput (Some bytes) ended → status_of ended ≡ status.NoMemory
only_memory end.Done bytes other short read write fits = absurd (other refl)
only_memory end.ReadFault bytes other short read write fits = absurd (never_rose (read refl))
only_memory end.WriteFault bytes other short read write fits = absurd (never_rose (write refl))
only_memory end.LineTooLong bytes other short read write fits =
    let finished : (input_of bytes).stop ≡ Finished = short_stop 67108864 (2 ^ 36) bytes (omega (arith, short)) (omega (arith, short)) in
    absurd (cc (fits, finished))
only_memory end.InputTooLong bytes other short read write fits =
    let finished : (input_of bytes).stop ≡ Finished = short_stop 67108864 (2 ^ 36) bytes (omega (arith, short)) (omega (arith, short)) in
    absurd (cc (fits, finished))
only_memory end.NoMemory bytes other short read write fits = refl

module _ (seed : ℕ) (transcript : List ℕ) (before now : Option (List ℕ)) (is : IsDrilled seed transcript) where
  printed_ends : (ended : Status) → IsPrinted (drill_printed seed transcript) before now ended → DrillEnds seed before now ended
  printed_ends status.Done p = (transcript, is, p)
  printed_ends status.WriteFault p = (transcript, is, p)
  printed_ends status.NoMemory p = inr (transcript, is, p)
  printed_ends status.Usage p = absurd (cc p.0)
  printed_ends status.Refused p = absurd (cc p.0)
  printed_ends status.DeskFault p = absurd (cc p.0)
  printed_ends status.ReadFault p = absurd p
  printed_ends status.LineTooLong p = absurd p
  printed_ends status.InputTooLong p = absurd p
  printed_ends status.KeepFault p = absurd p
  printed_ends status.BadKeep p = absurd p
  printed_ends status.KeepFull p = absurd p

  -- the summary of such a transcript was printed
  pub drill_ends : (ended : Status) → SummaryPrinted seed transcript before now ended → DrillEnds seed before now ended
  drill_ends ended (inl (e, none)) = subst (λ s. DrillEnds seed before now s) (sym e) (inl none)
  drill_ends ended (inr p) = printed_ends ended p
