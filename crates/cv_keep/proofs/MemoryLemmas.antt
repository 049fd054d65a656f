-- One call more of a disk in memory.
use Rattle.std.proofs.Common.{◌≡◌, inl, inr, ℕ, ◌+◌, ◌<◌, min, Bool, true, false, List, [], ◌∷◌, ◌++◌, length, get_or, take, drop, Option, Some, unwrap_or, option_map, OnOk, OnErr, Result, Ok, Err, refl, sym, ◌∙◌, ap, subst, arith, append_assoc, length-append}
use Rattle.std.proofs.lemmas.Bool.{cases_lt}
use Rattle.std.proofs.lemmas.List.{append-nil, drop-drop, drop_all, drop_min, take_all, take_more, take-append-le}
use Rattle.cv_seq.specs.Cause.{CausedBy}
use Rattle.cv_keep.specs.Disk.{Advances, IsCut, IsDurable, IsSame, IsTorn, written}
use Rattle.cv_keep.specs.Fault.{is_failed}
use Rattle.cv_keep.specs.Memory.{DiskState, MemoryDisk, start, after, run, MayLeave, MayLeaveSince, Recorded, synced_by, syncs_after, refused, refused_by}
use Rattle.cv_keep.specs.code.MemoryLaws.{reads_now, torn_same, torn_written}
use Rattle.cv_keep.specs.declared.fault.DiskFault.{DiskFault}
use Rattle.cv_keep.specs.declared.fault.DiskFault.TheVariants as fault
use Rattle.cv_keep.specs.declared.call.Call.{Call}
use Rattle.cv_keep.specs.declared.call.Call.TheVariants.{Look, Write, Cut, Sync}

pub run_push : (s : DiskState) (calls : List Call) (call : Call) → run s (calls ++ call ∷ []) ≡ after (run s calls) call
run_push s [] call = refl
run_push s (first ∷ calls) call = run_push (after s first) calls call

syncs_push : (n : ℕ) (calls : List Call) (call : Call) → syncs_after n (calls ++ call ∷ []) ≡ syncs_after n calls ++ synced_by (n + length calls) call
syncs_push n [] call =
    append-nil (synced_by n call) ∙ (let same : n ≡ n + 0 = omega arith in ap (λ (k : ℕ). synced_by k call) same)
syncs_push n (first ∷ calls) call =
    ap (λ (l : List ℕ). synced_by n first ++ l) (syncs_push (n + 1) calls call)
    ∙ sym (append_assoc (synced_by n first) (syncs_after (n + 1) calls) (synced_by (n + 1 + length calls) call))
    ∙ (let same : n + 1 + length calls ≡ n + length (first ∷ calls) = omega arith in ap (λ (k : ℕ). syncs_after n (first ∷ calls) ++ synced_by k call) same)

refused_push : (calls : List Call) (call : Call) → refused (calls ++ call ∷ []) ≡ refused calls + refused_by call
refused_push [] call = omega arith
refused_push (first ∷ calls) call = let rest = refused_push calls call in omega (arith, rest)

now_left : (first : List ℕ) (calls : List Call) (image : List ℕ) → MayLeave (run (start first) calls) image → MayLeaveSince first calls (length calls) image
now_left first calls image so =
    (length calls, omega arith, omega arith, subst (λ (l : List Call). MayLeave (run (start first) l) image) (sym (take_all (length calls) calls (omega arith))) so)

by_call : (first : List ℕ) (calls : List Call) (call : Call) (step : List ℕ → List ℕ → Type 0) → ((image : List ℕ) → MayLeave (after (run (start first) calls) call) image → (old : List ℕ) × MayLeave (run (start first) calls) old × step old image) → Advances step (length calls) (length (calls ++ call ∷ [])) (MayLeaveSince first calls) (MayLeaveSince first (calls ++ call ∷ []))
by_call first calls call step next =
    let all = calls ++ call ∷ [] in
    let size : length all ≡ length calls + 1 = omega (arith, length-append calls (call ∷ [])) in
    record {
      later = omega (arith, size);
      follows = λ image left.
          let whole : take left.0 all ≡ all = take_all left.0 all left.1 in
          let made = subst (λ (s : DiskState). MayLeave s image) (ap (run (start first)) whole ∙ run_push (start first) calls call) left.3 in
          let old = next image made in
          (old.0, now_left first calls old.0 old.1, old.2);
      nothing_else = λ t image le left. elim (cases_lt (length calls) left.0) [
        | inl new ↦ inr (left.0, omega (arith, new, size), left.2, left.3)
        | inr earlier ↦ inl (
          left.0,
          left.1,
          earlier,
          subst (λ (l : List Call). MayLeave (run (start first) l) image) (take-append-le left.0 calls (call ∷ []) earlier) left.3,
        )
      ];
      keeps = λ t image le left. (
        left.0,
        left.1,
        omega (arith, left.2, size),
        subst (λ (l : List Call). MayLeave (run (start first) l) image) (sym (take-append-le left.0 calls (call ∷ []) left.2)) left.3,
      );
    }

by_none : (t : ℕ) (p : ℕ → List ℕ → Type 0) (step : List ℕ → List ℕ → Type 0) → ((c : List ℕ) → step c c) → Advances step t t p p
by_none t p step same = record {
  later = omega arith;
  follows = λ c left. (c, left, same c);
  nothing_else = λ s c le left. inl left;
  keeps = λ s c le left. left;
}

-- what a crash may leave, after a call was recorded
recorded_crash : {X : Type 0} (call : Bool → Call) (step : List ℕ → List ℕ → Type 0) (old new : MemoryDisk) (r : Result X DiskFault) → ((c : List ℕ) → step c c) → ((done : Bool) (image : List ℕ) → MayLeave (after (run (start old.first) old.calls) (call done)) image → (c : List ℕ) × MayLeave (run (start old.first) old.calls) c × step c image) → Recorded call old new r → Advances step (length old.calls) (length new.calls) (MayLeaveSince old.first old.calls) (MayLeaveSince new.first new.calls)
recorded_crash call step old new (Ok x) same next is =
    subst (λ (d : MemoryDisk). Advances step (length old.calls) (length d.calls) (MayLeaveSince old.first old.calls) (MayLeaveSince d.first d.calls)) (sym is)
    (by_call old.first old.calls (call true) step (next true))
recorded_crash call step old new (Err fault.Failed) same next is =
    subst (λ (d : MemoryDisk). Advances step (length old.calls) (length d.calls) (MayLeaveSince old.first old.calls) (MayLeaveSince d.first d.calls)) (sym is)
    (by_call old.first old.calls (call false) step (next false))
recorded_crash call step old new (Err fault.NoMemory) same next is =
    subst (λ (d : MemoryDisk). Advances step (length old.calls) (length d.calls) (MayLeaveSince old.first old.calls) (MayLeaveSince d.first d.calls)) (sym is)
    (by_none (length old.calls) (MayLeaveSince old.first old.calls) step same)

pub look_crash : {X : Type 0} (old new : MemoryDisk) (r : Result X DiskFault) → Recorded Look old new r → Advances IsSame (length old.calls) (length new.calls) (MayLeaveSince old.first old.calls) (MayLeaveSince new.first new.calls)
look_crash old new r is = recorded_crash Look IsSame old new r (λ c. refl) (λ done image made. (image, made, refl)) is

pub write_crash : {X : Type 0} (at : ℕ) (bytes : List ℕ) (old new : MemoryDisk) (r : Result X DiskFault) → Recorded (Write at bytes) old new r → Advances (IsTorn at (length bytes)) (length old.calls) (length new.calls) (MayLeaveSince old.first old.calls) (MayLeaveSince new.first new.calls)
write_crash at bytes old new r is = recorded_crash (Write at bytes) (IsTorn at (length bytes)) old new r (torn_same at (length bytes)) (write_next at bytes old) is
  where
    write_next : (at : ℕ) (bytes : List ℕ) (old : MemoryDisk) (done : Bool) (image : List ℕ) → MayLeave (after (run (start old.first) old.calls) (Write at bytes done)) image → (c : List ℕ) × MayLeave (run (start old.first) old.calls) c × IsTorn at (length bytes) c image
    write_next at bytes old true image made = made
    write_next at bytes old false image made = made

pub cut_crash : {X : Type 0} (len : ℕ) (old new : MemoryDisk) (r : Result X DiskFault) → Recorded (Cut len) old new r → Advances (IsCut len) (length old.calls) (length new.calls) (MayLeaveSince old.first old.calls) (MayLeaveSince new.first new.calls)
cut_crash len old new r is = recorded_crash (Cut len) (IsCut len) old new r (λ c. inl refl) (cut_next len old) is
  where
    cut_next : (len : ℕ) (old : MemoryDisk) (done : Bool) (image : List ℕ) → MayLeave (after (run (start old.first) old.calls) (Cut len done)) image → (c : List ℕ) × MayLeave (run (start old.first) old.calls) c × IsCut len c image
    cut_next len old true image made = made
    cut_next len old false image made = made

pub sync_crash : {X : Type 0} (old new : MemoryDisk) (r : Result X DiskFault) → Recorded Sync old new r → Advances IsSame (length old.calls) (length new.calls) (MayLeaveSince old.first old.calls) (MayLeaveSince new.first new.calls)
sync_crash old new r is = recorded_crash Sync IsSame old new r (λ c. refl) (sync_next old) is
  where
    sync_next : (old : MemoryDisk) (done : Bool) (image : List ℕ) → MayLeave (after (run (start old.first) old.calls) (Sync done)) image → (c : List ℕ) × MayLeave (run (start old.first) old.calls) c × IsSame c image
    sync_next old true image made = ((run (start old.first) old.calls).bytes, reads_now old.first old.calls, made)
    sync_next old false image made = (image, made, refl)

abbrev bytes_of : MemoryDisk → List ℕ
bytes_of d = (run (start d.first) d.calls).bytes

-- what is read, after a call was recorded that changes nothing
pub look_contents : {X : Type 0} (old new : MemoryDisk) (r : Result X DiskFault) → Recorded Look old new r → Some (bytes_of new) ≡ Some (bytes_of old)
look_contents old new (Ok x) is = ap (λ (d : MemoryDisk). Some (bytes_of d)) is ∙ ap (λ (s : DiskState). Some s.bytes) (run_push (start old.first) old.calls (Look true))
look_contents old new (Err fault.Failed) is = ap (λ (d : MemoryDisk). Some (bytes_of d)) is ∙ ap (λ (s : DiskState). Some s.bytes) (run_push (start old.first) old.calls (Look false))
look_contents old new (Err fault.NoMemory) is = ap (λ (d : MemoryDisk). Some (bytes_of d)) is

pub sync_contents : {X : Type 0} (old new : MemoryDisk) (r : Result X DiskFault) → Recorded Sync old new r → Some (bytes_of new) ≡ Some (bytes_of old)
sync_contents old new (Ok x) is = ap (λ (d : MemoryDisk). Some (bytes_of d)) is ∙ ap (λ (s : DiskState). Some s.bytes) (run_push (start old.first) old.calls (Sync true))
sync_contents old new (Err fault.Failed) is = ap (λ (d : MemoryDisk). Some (bytes_of d)) is ∙ ap (λ (s : DiskState). Some s.bytes) (run_push (start old.first) old.calls (Sync false))
sync_contents old new (Err fault.NoMemory) is = ap (λ (d : MemoryDisk). Some (bytes_of d)) is

pub write_contents : {X : Type 0} (at : ℕ) (bytes : List ℕ) (old new : MemoryDisk) (r : Result X DiskFault) → Recorded (Write at bytes) old new r → OnOk r (Some (bytes_of new) ≡ option_map (written at bytes) (Some (bytes_of old)))
write_contents at bytes old new (Ok x) is = ap (λ (d : MemoryDisk). Some (bytes_of d)) is ∙ ap (λ (s : DiskState). Some s.bytes) (run_push (start old.first) old.calls (Write at bytes true))
write_contents at bytes old new (Err e) is = tt

pub cut_contents : {X : Type 0} (len : ℕ) (old new : MemoryDisk) (r : Result X DiskFault) → Recorded (Cut len) old new r → OnOk r (Some (bytes_of new) ≡ option_map (take len) (Some (bytes_of old)))
cut_contents len old new (Ok x) is = ap (λ (d : MemoryDisk). Some (bytes_of d)) is ∙ ap (λ (s : DiskState). Some s.bytes) (run_push (start old.first) old.calls (Cut len true))
cut_contents len old new (Err e) is = tt

abbrev syncs_of : MemoryDisk → List ℕ
syncs_of d = syncs_after 0 d.calls

-- the syncs, after a call was recorded that is none that succeeded
recorded_syncs : {X : Type 0} (call : Bool → Call) (old new : MemoryDisk) (r : Result X DiskFault) → ((done : Bool) (n : ℕ) → synced_by n (call done) ≡ []) → Recorded call old new r → syncs_of new ≡ syncs_of old
recorded_syncs call old new (Ok x) none is = ap syncs_of is ∙ syncs_push 0 old.calls (call true) ∙ ap (λ (l : List ℕ). syncs_of old ++ l) (none true (0 + length old.calls)) ∙ append-nil (syncs_of old)
recorded_syncs call old new (Err fault.Failed) none is = ap syncs_of is ∙ syncs_push 0 old.calls (call false) ∙ ap (λ (l : List ℕ). syncs_of old ++ l) (none false (0 + length old.calls)) ∙ append-nil (syncs_of old)
recorded_syncs call old new (Err fault.NoMemory) none is = ap syncs_of is

pub look_syncs : {X : Type 0} (old new : MemoryDisk) (r : Result X DiskFault) → Recorded Look old new r → syncs_after 0 new.calls ≡ syncs_after 0 old.calls
look_syncs old new r is = recorded_syncs Look old new r (λ done n. refl) is

pub write_syncs : {X : Type 0} (at : ℕ) (bytes : List ℕ) (old new : MemoryDisk) (r : Result X DiskFault) → Recorded (Write at bytes) old new r → syncs_after 0 new.calls ≡ syncs_after 0 old.calls
write_syncs at bytes old new r is = recorded_syncs (Write at bytes) old new r (λ done n. refl) is

pub cut_syncs : {X : Type 0} (len : ℕ) (old new : MemoryDisk) (r : Result X DiskFault) → Recorded (Cut len) old new r → syncs_after 0 new.calls ≡ syncs_after 0 old.calls
cut_syncs len old new r is = recorded_syncs (Cut len) old new r (λ done n. refl) is

pub sync_syncs : {X : Type 0} (old new : MemoryDisk) (r : Result X DiskFault) → Recorded Sync old new r → OnOk r (syncs_after 0 new.calls ≡ syncs_after 0 old.calls ++ length new.calls ∷ [])
sync_syncs old new (Ok x) is =
    let size : 0 + length old.calls + 1 ≡ length new.calls = omega (arith, ap (λ (d : MemoryDisk). length d.calls) is, length-append old.calls (Sync true ∷ [])) in
    ap syncs_of is ∙ syncs_push 0 old.calls (Sync true) ∙ ap (λ (n : ℕ). syncs_of old ++ n ∷ []) size
sync_syncs old new (Err e) is = tt

pub not_synced : {X : Type 0} (old new : MemoryDisk) (r : Result X DiskFault) → Recorded Sync old new r → OnErr r (syncs_after 0 new.calls ≡ syncs_after 0 old.calls)
not_synced old new (Ok x) is = tt
not_synced old new (Err fault.Failed) is = ap syncs_of is ∙ syncs_push 0 old.calls (Sync false) ∙ append-nil (syncs_of old)
not_synced old new (Err fault.NoMemory) is = ap syncs_of is

-- after a sync a crash leaves what is read
pub sync_durable : {X : Type 0} (old new : MemoryDisk) (r : Result X DiskFault) → Recorded Sync old new r → OnOk r (IsDurable (bytes_of old) (MayLeaveSince new.first new.calls (length new.calls)))
sync_durable old new (Ok x) is =
    subst (λ (d : MemoryDisk). IsDurable (bytes_of old) (MayLeaveSince d.first d.calls (length d.calls))) (sym is)
    (λ image left.
    let all = old.calls ++ Sync true ∷ [] in
    let whole : take left.0 all ≡ all = take_all left.0 all left.1 in
    subst (λ (s : DiskState). MayLeave s image) (ap (run (start old.first)) whole ∙ run_push (start old.first) old.calls (Sync true)) left.3)
sync_durable old new (Err e) is = tt

-- the count of faults rises by one for a call that was refused
recorded_cause : {X : Type 0} (call : Bool → Call) (old new : MemoryDisk) (r : Result X DiskFault) → refused_by (call false) ≡ 1 → Recorded call old new r → CausedBy (refused old.calls) (refused new.calls) (is_failed r)
recorded_cause call old new (Ok x) one is =
    let grows : refused new.calls ≡ refused old.calls + refused_by (call true) = ap (λ (d : MemoryDisk). refused d.calls) is ∙ refused_push old.calls (call true) in
    record { later = omega (arith, grows); rose = tt }
recorded_cause call old new (Err fault.Failed) one is =
    let grows : refused new.calls ≡ refused old.calls + refused_by (call false) = ap (λ (d : MemoryDisk). refused d.calls) is ∙ refused_push old.calls (call false) in
    record { later = omega (arith, grows); rose = omega (arith, grows, one) }
recorded_cause call old new (Err fault.NoMemory) one is =
    let same : refused new.calls ≡ refused old.calls = ap (λ (d : MemoryDisk). refused d.calls) is in
    record { later = omega (arith, same); rose = tt }

pub look_cause : {X : Type 0} (old new : MemoryDisk) (r : Result X DiskFault) → Recorded Look old new r → CausedBy (refused old.calls) (refused new.calls) (is_failed r)
look_cause old new r is = recorded_cause Look old new r refl is

pub write_cause : {X : Type 0} (at : ℕ) (bytes : List ℕ) (old new : MemoryDisk) (r : Result X DiskFault) → Recorded (Write at bytes) old new r → CausedBy (refused old.calls) (refused new.calls) (is_failed r)
write_cause at bytes old new r is = recorded_cause (Write at bytes) old new r refl is

pub cut_cause : {X : Type 0} (len : ℕ) (old new : MemoryDisk) (r : Result X DiskFault) → Recorded (Cut len) old new r → CausedBy (refused old.calls) (refused new.calls) (is_failed r)
cut_cause len old new r is = recorded_cause (Cut len) old new r refl is

pub sync_cause : {X : Type 0} (old new : MemoryDisk) (r : Result X DiskFault) → Recorded Sync old new r → CausedBy (refused old.calls) (refused new.calls) (is_failed r)
sync_cause old new r is = recorded_cause Sync old new r refl is

-- a write, from the parts that are copied
pub spliced_is : (at : ℕ) (bytes old : List ℕ) → take (min (length old) at) old ++ bytes ++ drop (min (length (drop (min (length old) at) old)) (length bytes)) (drop (min (length old) at) old) ≡ written at bytes old
spliced_is at bytes old = elim (cases_lt at (length old)) [
  | inl inside ↦
      let is : min (length old) at ≡ at = omega (arith, inside) in
      ap (λ (n : ℕ). take n old ++ bytes ++ drop (min (length (drop n old)) (length bytes)) (drop n old)) is
      ∙ ap (λ (l : List ℕ). take at old ++ bytes ++ l) (min_turned (length bytes) (drop at old) ∙ drop-drop (length bytes) at old)
  | inr past ↦
      let is : min (length old) at ≡ length old = omega (arith, past) in
      let all : take (length old) old ≡ take at old = take_all (length old) old (omega arith) ∙ sym (take_all at old past) in
      let none : drop (length old) old ≡ [] = drop_all (length old) old (omega arith) in
      let none_after : drop (at + length bytes) old ≡ [] = drop_all (at + length bytes) old (omega (arith, past)) in
      ap (λ (n : ℕ). take n old ++ bytes ++ drop (min (length (drop n old)) (length bytes)) (drop n old)) is
      ∙ ap (λ (l : List ℕ). l ++ bytes ++ drop (min (length (drop (length old) old)) (length bytes)) (drop (length old) old)) all
      ∙ ap (λ (l : List ℕ). take at old ++ bytes ++ drop (min (length l) (length bytes)) l) none
      ∙ ap (λ (l : List ℕ). take at old ++ bytes ++ l) (drop_nil (min 0 (length bytes)) ∙ sym none_after)
]
  where
    drop_nil : (n : ℕ) → drop {A = ℕ} n [] ≡ []
    drop_nil n = drop_all n [] (omega arith)

    min_turned : (n : ℕ) (xs : List ℕ) → drop (min (length xs) n) xs ≡ drop n xs
    min_turned n xs = (let same : min (length xs) n ≡ min n (length xs) = omega arith in ap (λ (k : ℕ). drop k xs) same) ∙ drop_min n xs

pub look_length : {X : Type 0} (old new : MemoryDisk) (r : Result X DiskFault) → Recorded Look old new r → length (bytes_of new) ≡ length (bytes_of old)
look_length old new r is = ap (λ (o : Option (List ℕ)). length (unwrap_or o [])) (look_contents old new r is)

pub torn_ones : (at n : ℕ) (ones old new : List ℕ) → new ≡ written at ones old → length ones ≡ n → IsTorn at n old new
torn_ones at n ones old new is size = subst (λ (l : List ℕ). IsTorn at n old l) (sym is) (subst (λ (k : ℕ). IsTorn at k old (written at ones old)) size (torn_written at ones old))

-- the next call of a record
pub run_more : (s : DiskState) (calls : List Call) (n : ℕ) (call : Call) → n < length calls → call ≡ get_or calls n call → run s (take (n + 1) calls) ≡ after (run s (take n calls)) call
run_more s calls n call inside is =
    ap (run s) (take_more calls n call inside) ∙ run_push s (take n calls) (get_or calls n call) ∙ ap (λ (x : Call). after (run s (take n calls)) x) (sym is)
