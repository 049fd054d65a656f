-- The laws of a disk, for the disk in memory.
use Rattle.std.specs.Prelude.{◌≡◌, ℕ, ◌+◌, ◌≤◌, min, true, false, List, [], ◌∷◌, ◌++◌, length, take, drop, refl}
use Rattle.std.proofs.Common.{inl, inr, sym, ◌∙◌, ap, subst, arith, append_assoc, length-append, length-take, length-drop}
use Rattle.std.proofs.lemmas.Bool.{cases_lt}
use Rattle.std.proofs.lemmas.List.{take_all, take_at, drop_all, drop_at, take_min, append-nil}
use Rattle.cv_keep.specs.Disk.{IsTorn, written}
use Rattle.cv_keep.specs.Memory.{DiskState, start, after, run, MayLeave, MayLeaveSince}
use Rattle.cv_keep.specs.declared.call.Call.{Call}
use Rattle.cv_keep.specs.declared.call.Call.TheVariants.{Look, Write, Cut, Sync}

written_after : (at : ℕ) (bytes old : List ℕ) → at ≤ length old → drop (at + length bytes) (written at bytes old) ≡ drop (at + length bytes) old
written_after at bytes old inside =
    drop_at (take at old ++ bytes) (drop (at + length bytes) old) (at + length bytes) (omega (arith, inside, length-take at old, length-append (take at old) bytes))

-- bytes that were written are one of the outcomes of that write
pub torn_written : (at : ℕ) (bytes old : List ℕ) → IsTorn at (length bytes) old (written at bytes old)
torn_written at bytes old = elim (cases_lt (length old) at) [
  | inl past ↦
      let all : take at old ≡ old = take_all at old (omega (arith, past)) in
      let none : drop (at + length bytes) old ≡ [] = drop_all (at + length bytes) old (omega (arith, past)) in
      let is : written at bytes old ≡ old ++ bytes =
      ap (λ (l : List ℕ). l ++ bytes ++ drop (at + length bytes) old) all ∙ ap (λ (l : List ℕ). old ++ bytes ++ l) none ∙ append-nil (old ++ bytes) in
      let size : length (written at bytes old) ≡ length old + length bytes = omega (arith, ap length is, length-append old bytes) in
      let short : min at (length old) ≡ length old = omega (arith, past) in
      record {
        before = ap (λ (n : ℕ). take n (written at bytes old)) short ∙ ap (λ (l : List ℕ). take (length old) l) is ∙ take_at old bytes (length old) refl ∙ sym all;
        after = drop_all (at + length bytes) (written at bytes old) (omega (arith, size, past)) ∙ sym none;
        no_shorter = omega (arith, size);
        no_longer = omega (arith, size, past);
      }
  | inr inside ↦
      let front : length (take at old) ≡ at = omega (arith, inside, length-take at old) in
      let short : min at (length old) ≡ at = omega (arith, inside) in
      let size : length (written at bytes old) ≡ at + length bytes + length (drop (at + length bytes) old) =
      omega (arith, front, length-append (take at old ++ bytes) (drop (at + length bytes) old), length-append (take at old) bytes) in
      record {
        before = ap (λ (n : ℕ). take n (written at bytes old)) short
            ∙ ap (λ (l : List ℕ). take at l) (append_assoc (take at old) bytes (drop (at + length bytes) old))
            ∙ take_at (take at old) (bytes ++ drop (at + length bytes) old) at front;
        after = written_after at bytes old inside;
        no_shorter = omega (arith, size, length-drop (at + length bytes) old);
        no_longer = omega (arith, size, length-drop (at + length bytes) old);
      }
]

-- nothing written is one, too
pub torn_same : (at n : ℕ) (old : List ℕ) → IsTorn at n old old
torn_same at n old = record { before = take_min at old; after = refl; no_shorter = omega arith; no_longer = omega arith }

-- what is read is an image, after one call more
reads_after : (s : DiskState) (call : Call) → MayLeave s s.bytes → MayLeave (after s call) (after s call).bytes
reads_after s (Look done) so = so
reads_after s (Write at bytes true) so = (s.bytes, so, torn_written at bytes s.bytes)
reads_after s (Write at bytes false) so = (s.bytes, so, torn_same at (length bytes) s.bytes)
reads_after s (Cut len true) so = (s.bytes, so, inr refl)
reads_after s (Cut len false) so = (s.bytes, so, inl refl)
reads_after s (Sync true) so = refl
reads_after s (Sync false) so = so

reads_run : (s : DiskState) (calls : List Call) → MayLeave s s.bytes → MayLeave (run s calls) (run s calls).bytes
reads_run s [] so = so
reads_run s (call ∷ calls) so = reads_run (after s call) calls (reads_after s call so)

pub reads_now : (first : List ℕ) (calls : List Call) → MayLeave (run (start first) calls) (run (start first) calls).bytes
reads_now first calls = reads_run (start first) calls refl

take_whole : (calls : List Call) → take (length calls) calls ≡ calls
take_whole calls = take_all (length calls) calls (omega arith)

-- what is read may be left now
pub left_now : (first : List ℕ) (calls : List Call) → MayLeaveSince first calls (length calls) (run (start first) calls).bytes
left_now first calls =
    (length calls, omega arith, omega arith, subst (λ (l : List Call). MayLeave (run (start first) l) (run (start first) calls).bytes) (sym (take_whole calls)) (reads_now first calls))

-- a later moment is one of those since an earlier one
pub left_earlier : (first : List ℕ) (calls : List Call) (t u : ℕ) (image : List ℕ) → t ≤ u → MayLeaveSince first calls u image → MayLeaveSince first calls t image
left_earlier first calls t u image le left = (left.0, omega (arith, le, left.1), left.2, left.3)
