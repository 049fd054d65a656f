-- What a read finds in a file that ends with its closed gate.
use Rattle.std.proofs.Common.{◌≡◌, ◌+◌, ◌-◌, ◌≤◌, ℕ, List, [], ◌∷◌, ◌++◌, length, take, drop, Option, Some, None, IfSome, sym, ◌∙◌, ap, subst, arith, length-drop}
use Rattle.std.proofs.lemmas.List.{length-take-le}
use Rattle.cv_keep.specs.Disk.{Advances, IsSame}
use Rattle.cv_keep.specs.Journal.{BelongsTo, IsGate, IsNext, IsSettled}
use Rattle.cv_keep.specs.Records.{records, gate_after}
use Rattle.cv_keep.specs.code.Walk.{IsNextGate}
use Rattle.cv_keep.specs.declared.journal.Kept.{Kept}
use Rattle.cv_keep.proofs.EndLemmas.{settled_length}
use Rattle.cv_keep.proofs.Moments.{durable_same}
use Rattle.cv_keep.proofs.RecordLemmas.{from_gate, gate_after_append}

-- each gate stands before the closed one or is that one
pub gate_before_last : (images : List ℕ → Type 0) (last at : ℕ) (b : List ℕ) → IsSettled last images b → IsGate at b → (at ≤ last) × (length b ≡ last + 1)
gate_before_last images last at b settled gate =
    let all : gate_after (records b) ≡ gate_after gate.0 + gate_after gate.1 = ap gate_after gate.2 ∙ gate_after_append gate.0 gate.1 in
    (omega (arith, settled.place, all, gate.3), settled_length last b [] settled.last)

pub bytes_within : (images : List ℕ → Type 0) (last at next : ℕ) (b : List ℕ) → IsSettled last images b → (at + 9 ≤ next) × (next ≤ last) → at + 9 + (next - (at + 9)) ≤ length b
bytes_within images last at next b settled within = omega (arith, within.0, within.1, settled_length last b [] settled.last)

-- at the closed gate there is no record
pub next_none : (b : List ℕ) (at : ℕ) (before from : List (List ℕ)) → records b ≡ before ++ from → at ≡ gate_after before → IsNextGate b at None → IsNext before from None
next_none b at before [] is place found = tt
next_none b at before (bytes ∷ later) is place found =
    let rest : records (drop at b) ≡ bytes ∷ later = ap (λ (n : ℕ). records (drop n b)) place ∙ from_gate before (bytes ∷ later) b is in
    absurd (cc (rest, found))

-- after any other gate there is one
pub next_some : (b : List ℕ) (at next : ℕ) (kept : Kept) (before from : List (List ℕ)) → records b ≡ before ++ from → at ≡ gate_after before → IsNextGate b at (Some next) → kept.bytes ≡ take (next - (at + 9)) (drop (at + 9) b) → kept.next ≡ next → IsNext before from (Some kept)
next_some b at next kept before [] is place found bytes_are next_is =
    let rest : records (drop at b) ≡ [] = ap (λ (n : ℕ). records (drop n b)) place ∙ from_gate before [] b is in
    absurd (cc (rest, found.2))
next_some b at next kept before (bytes ∷ later) is place found bytes_are next_is =
    let rest : records (drop at b) ≡ bytes ∷ later = ap (λ (n : ℕ). records (drop n b)) place ∙ from_gate before (bytes ∷ later) b is in
    let both : take (next - (at + 9)) (drop (at + 9) b) ∷ records (drop next b) ≡ bytes ∷ later = sym found.2 ∙ rest in
    let same : take (next - (at + 9)) (drop (at + 9) b) ≡ bytes = cc both in
    let size : length bytes ≡ next - (at + 9) =
    sym (ap length same) ∙ length-take-le (next - (at + 9)) (drop (at + 9) b) (omega (arith, found.1, length-drop (at + 9) b)) in
    let after : gate_after (before ++ bytes ∷ []) ≡ gate_after before + (9 + length bytes + 0) = gate_after_append before (bytes ∷ []) in
    (bytes_are ∙ same, omega (arith, next_is, place, after, size, found.0))

-- a call that changes nothing
pub still_belongs : (gate t u : ℕ) (p q : ℕ → List ℕ → Type 0) (o n : Option (List ℕ)) → Advances IsSame t u p q → n ≡ o → BelongsTo gate (p t) o → BelongsTo gate (q u) n
still_belongs gate t u p q None n call same belongs = subst (λ (x : Option (List ℕ)). IfSome x (IsSettled gate (q u))) (sym same) tt
still_belongs gate t u p q (Some b) n call same belongs =
    subst (λ (x : Option (List ℕ)). IfSome x (IsSettled gate (q u))) (sym same) (record {
      durable = durable_same t u p q b call belongs.durable;
      last = belongs.last;
      place = belongs.place;
    })

-- what a read says, if the file is known
pub read_found : (o : Option (List ℕ)) (at next : ℕ) (kept : Kept) → IfSome o (λ b. IsNextGate b at (Some next)) → IfSome o (λ b. kept.bytes ≡ take (next - (at + 9)) (drop (at + 9) b)) → kept.next ≡ next → IfSome o (λ b. (before from : List (List ℕ)) → records b ≡ before ++ from → at ≡ gate_after before → IsNext before from (Some kept))
read_found None at next kept found bytes_are next_is = tt
read_found (Some b) at next kept found bytes_are next_is = λ before from is place. next_some b at next kept before from is place found bytes_are next_is

pub read_none : (o : Option (List ℕ)) (at : ℕ) → IfSome o (λ b. IsNextGate b at None) → IfSome o (λ b. (before from : List (List ℕ)) → records b ≡ before ++ from → at ≡ gate_after before → IsNext before from None)
read_none None at found = tt
read_none (Some b) at found = λ before from is place. next_none b at before from is place found
