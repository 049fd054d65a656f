-- What an end says of the input, and which counts of failures rose.
use Rattle.std.specs.Prelude.{◌≡◌, ℕ, ◌≤◌, ◌^◌, Bool, true, List, [], Option, Some, None, Result, Ok, Err, refl}
use Rattle.std.specs.Io.KnownBytes.{IsAtEnd}
use Rattle.std.proofs.Common.{ap, arith, inl, inr, subst}
use Rattle.cv_io.specs.declared.write.WriteError.{WriteError}
use Rattle.cv_io.specs.declared.write.WriteError.TheVariants as write
use Rattle.cv_keep.specs.declared.error.KeepError.{KeepError}
use Rattle.cv_keep.specs.declared.error.KeepError.TheVariants as keep
use Rattle.cv_keep_rounds.specs.Keeping.{IsKept, KeeperView, MayBeKept, is_disk_error}
use Rattle.cv_core_machine.specs.Scans.{Trees}
use Rattle.cv_serve_legal.specs.Replay.{Moment}
use Rattle.cv_serve_legal.specs.Rounds.{Round}
use Rattle.cv_serve_legal.specs.Whole.{WholeRound}
use Rattle.cv_serve_round.specs.Kept.{IsKeptOrUnwritten, StopsKept, TornKept}
use Rattle.cv_scan_input.specs.Taken.{IsTaken, IsTakenWithin}
use Rattle.cv_seq.specs.Cause.{BlamedOnly, CausedBy, Rose}
use Rattle.cv_serve.specs.Kept.{WroteKept}
use Rattle.cv_serve.specs.Served.{FitsInput, TakesUpTo}
use Rattle.cv_serve.specs.declared.end.ServeEnd.{ServeEnd}
use Rattle.cv_serve.specs.declared.end.ServeEnd.TheVariants as end
use Rattle.cv_serve_kept.specs.Ends.{ReadsInput}
use Rattle.cv_serve_kept.specs.code.Stops.{end_of, is_desk_stop, is_keep_stop, is_write_stop, stop_end}
use Rattle.cv_serve_kept.specs.declared.end.KeptEnd.TheVariants as kept
use Rattle.cv_serve_kept.specs.declared.stop.Stop.{Stop}
use Rattle.cv_serve_kept.specs.declared.stop.Stop.TheVariants as stop
use Rattle.cv_serve_kept.proofs.Keepers.{faults_later}
use Rattle.cv_serve_kept.proofs.Stopping.{some_same, stops_there}

-- ---- the input

served_same : (a b : ServeEnd) → kept.Served a ≡ kept.Served b → a ≡ b
served_same a b h = cc h

pub reads_served : (before now : Option (List ℕ)) (ended : ServeEnd) → (ended ≡ end.Done → IsAtEnd now) → FitsInput before ended → TakesUpTo before now ended → IsTakenWithin (2 ^ 36) before now
    → (ended ≡ end.InputTooLong → IsTaken (2 ^ 36) before now) → ReadsInput before now (end_of (Ok ended))
reads_served before now ended to_end fits front limit taken = record {
  to_end = λ h. to_end (served_same ended end.Done h);
  fits = fits;
  front = front;
  limit = limit;
  taken = λ h. taken (served_same ended end.InputTooLong h);
}

pub fits_none : (before : Option (List ℕ)) → FitsInput before end.NoMemory
fits_none None = tt
fits_none (Some bytes) = tt

fits_written : (before : Option (List ℕ)) → FitsInput before end.WriteFault
fits_written None = tt
fits_written (Some bytes) = tt

module _ (before now : Option (List ℕ)) (limit : IsTakenWithin (2 ^ 36) before now) where
  pub out_of_memory : ReadsInput before now (kept.Served end.NoMemory)
  out_of_memory = record { to_end = λ h. cc h; fits = fits_none before; front = tt; limit = limit; taken = λ h. cc h }

  pub reads_stopped : (s : Stop) → ReadsInput before now (stop_end s)
  reads_stopped (stop.Keep keep.DiskFault) = record { to_end = λ h. cc h; fits = tt; front = tt; limit = limit; taken = λ h. cc h }
  reads_stopped (stop.Keep keep.Full) = record { to_end = λ h. cc h; fits = tt; front = tt; limit = limit; taken = λ h. cc h }
  reads_stopped (stop.Keep keep.NoMemory) = out_of_memory
  reads_stopped stop.Desk = record { to_end = λ h. cc h; fits = tt; front = tt; limit = limit; taken = λ h. cc h }
  reads_stopped stop.BadKeep = record { to_end = λ h. cc h; fits = tt; front = tt; limit = limit; taken = λ h. cc h }
  reads_stopped (stop.Output write.WriteFault) = record { to_end = λ h. cc h; fits = fits_written before; front = tt; limit = limit; taken = λ h. cc h }
  reads_stopped (stop.Output write.NoMemory) = out_of_memory
  reads_stopped stop.NoMemory = out_of_memory

-- ---- which object a stop blames

pub stop_no_read : (s : Stop) → stop_end s ≡ kept.Served end.ReadFault → ⊥
stop_no_read (stop.Keep keep.DiskFault) h = cc h
stop_no_read (stop.Keep keep.Full) h = cc h
stop_no_read (stop.Keep keep.NoMemory) h = cc h
stop_no_read stop.Desk h = cc h
stop_no_read stop.BadKeep h = cc h
stop_no_read (stop.Output write.WriteFault) h = cc h
stop_no_read (stop.Output write.NoMemory) h = cc h
stop_no_read stop.NoMemory h = cc h

pub write_blamed : (X : Type 0) (s : Stop) → stop_end s ≡ kept.Served end.WriteFault → is_write_stop {X = X} (Err s) ≡ true
write_blamed X (stop.Keep keep.DiskFault) h = absurd (cc h)
write_blamed X (stop.Keep keep.Full) h = absurd (cc h)
write_blamed X (stop.Keep keep.NoMemory) h = absurd (cc h)
write_blamed X stop.Desk h = absurd (cc h)
write_blamed X stop.BadKeep h = absurd (cc h)
write_blamed X (stop.Output write.WriteFault) h = refl
write_blamed X (stop.Output write.NoMemory) h = absurd (cc h)
write_blamed X stop.NoMemory h = absurd (cc h)

pub keep_blamed : (X : Type 0) (s : Stop) → stop_end s ≡ kept.KeepFault → is_keep_stop {X = X} (Err s) ≡ true
keep_blamed X (stop.Keep keep.DiskFault) h = refl
keep_blamed X (stop.Keep keep.Full) h = absurd (cc h)
keep_blamed X (stop.Keep keep.NoMemory) h = absurd (cc h)
keep_blamed X stop.Desk h = absurd (cc h)
keep_blamed X stop.BadKeep h = absurd (cc h)
keep_blamed X (stop.Output write.WriteFault) h = absurd (cc h)
keep_blamed X (stop.Output write.NoMemory) h = absurd (cc h)
keep_blamed X stop.NoMemory h = absurd (cc h)

pub desk_blamed : (X : Type 0) (s : Stop) → stop_end s ≡ kept.DeskFault → is_desk_stop {X = X} (Err s) ≡ true
desk_blamed X (stop.Keep keep.DiskFault) h = absurd (cc h)
desk_blamed X (stop.Keep keep.Full) h = absurd (cc h)
desk_blamed X (stop.Keep keep.NoMemory) h = absurd (cc h)
desk_blamed X stop.Desk h = refl
desk_blamed X stop.BadKeep h = absurd (cc h)
desk_blamed X (stop.Output write.WriteFault) h = absurd (cc h)
desk_blamed X (stop.Output write.NoMemory) h = absurd (cc h)
desk_blamed X stop.NoMemory h = absurd (cc h)

pub keep_blamed_of : (r : Result ServeEnd Stop) → end_of r ≡ kept.KeepFault → is_keep_stop r ≡ true
keep_blamed_of (Ok ended) h = absurd (cc h)
keep_blamed_of (Err s) h = keep_blamed ServeEnd s h

pub desk_blamed_of : (r : Result ServeEnd Stop) → end_of r ≡ kept.DeskFault → is_desk_stop r ≡ true
desk_blamed_of (Ok ended) h = absurd (cc h)
desk_blamed_of (Err s) h = desk_blamed ServeEnd s h

-- a cause that is blamed
pub blamed_rose : (before now : ℕ) (blamed : Bool) → CausedBy before now blamed → blamed ≡ true → Rose before now
blamed_rose before now blamed cause is = subst (λ b. BlamedOnly b before now) is cause.rose

-- a count that rose after it had not fallen
pub rose_later : (before middle now : ℕ) → before ≤ middle → Rose middle now → Rose before now
rose_later before middle now later rose = omega (arith, later, rose)

-- ---- the file

module _ {D J : Type 0} (contents : J → Option (List ℕ)) (keep_faults : J → ℕ) (known : Type 0) (trees : Trees) (workers : ℕ) (start : Moment) (listings faults : D → ℕ)
    (remaining remaining_now w v : Option (List ℕ)) (l n : List D) (x y : KeeperView × J) where
  abbrev Wrote : ServeEnd → Type 0
  Wrote ended = WroteKept known trees workers start listings faults (IsKept contents keep_faults) (MayBeKept contents keep_faults) remaining remaining_now w v l n x y ended

  last_later : (rounds : List WholeRound) (last : WholeRound) (middle : KeeperView × J) (between : Option (List ℕ)) → keep_faults x.1 ≤ keep_faults middle.1
      → IsKeptOrUnwritten (IsKept contents keep_faults) (MayBeKept contents keep_faults) middle last y between v → keep_faults x.1 ≤ keep_faults y.1
  last_later rounds last middle between before (inl h) = omega (arith, before, h.faults_rise)
  last_later rounds last middle between before (inr (inl same, unwritten)) = omega (arith, before, ap (λ (z : KeeperView × J). keep_faults z.1) same)
  last_later rounds last middle between before (inr (inr (bytes, is, h), unwritten)) = omega (arith, before, h.cause.later)

  torn_later : (all : List Round) → TornKept known trees workers start listings faults (IsKept contents keep_faults) (MayBeKept contents keep_faults) all [] w v l n x y → keep_faults x.1 ≤ keep_faults y.1
  torn_later all h = last_later h.torn.whole h.torn.last h.middle h.torn.between (faults_later contents keep_faults x h.torn.whole h.middle h.kept) h.last

  stops_later : (all : List Round) (e : WriteError) → StopsKept known trees workers start listings faults (IsKept contents keep_faults) (MayBeKept contents keep_faults) all [] w v l n x y e → keep_faults x.1 ≤ keep_faults y.1
  stops_later all write.WriteFault h = torn_later all h.0
  stops_later all write.NoMemory (inl h) = torn_later all h
  stops_later all write.NoMemory (inr h) = faults_later contents keep_faults x h.unfinished.whole y h.kept

  -- the count of the disk did not fall
  pub keep_later : (ended : ServeEnd) → Wrote ended → keep_faults x.1 ≤ keep_faults y.1
  keep_later end.Done h = faults_later contents keep_faults x h.counted.rounds y h.kept
  keep_later end.ReadFault h = faults_later contents keep_faults x h.served.rounds y h.kept
  keep_later end.LineTooLong h = faults_later contents keep_faults x h.served.rounds y h.kept
  keep_later end.InputTooLong h = faults_later contents keep_faults x h.served.rounds y h.kept
  keep_later end.WriteFault h = stops_later h.all write.WriteFault h.stops
  keep_later end.NoMemory h = stops_later h.all write.NoMemory h.stops

  module _ (ended : ServeEnd) (none : x.0.error ≡ None) (h : Wrote ended) where
    -- and it rose if the remembered error blames the disk
    disk_rose : y.0.error ≡ Some keep.DiskFault → Rose (keep_faults x.1) (keep_faults y.1)
    disk_rose some =
        let stop = (stops_there contents keep_faults known trees workers start x y w v remaining listings faults l n keep.DiskFault none some remaining_now ended h).0 in
        let there = stop.refusal in
        let is : there.refused.error ≡ keep.DiskFault = some_same y.0.error there.refused.error keep.DiskFault there.refused.remembered some in
        rose_later (keep_faults x.1) (keep_faults there.middle.1) (keep_faults y.1) (faults_later contents keep_faults x stop.rounds there.middle there.kept)
        (blamed_rose (keep_faults there.middle.1) (keep_faults y.1) _ there.refused.cause (blames there.refused.error is))
      where
        blames : (e : KeepError) → e ≡ keep.DiskFault → is_disk_error e ≡ true
        blames keep.DiskFault is = refl
        blames keep.Full is = absurd (cc is)
        blames keep.NoMemory is = absurd (cc is)

    pub keep_cause : (X : Type 0) (e : KeepError) → y.0.error ≡ Some e → CausedBy (keep_faults x.1) (keep_faults y.1) (is_keep_stop {X = X} (Err (stop.Keep e)))
    keep_cause X keep.DiskFault some = record { later = keep_later ended h; rose = disk_rose some }
    keep_cause X keep.Full some = record { later = keep_later ended h; rose = tt }
    keep_cause X keep.NoMemory some = record { later = keep_later ended h; rose = tt }
