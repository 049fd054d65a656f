-- What a keeper of rounds leaves, by the records of its file alone, and why it did not keep the last round.
use Rattle.std.specs.Prelude.{◌≡◌, ◌↔◌, ℕ, ◌+◌, ◌<◌, ◌≤◌, ◌^◌, List, [], ◌∷◌, ◌++◌, length, Option, Some, None, option_map, is_none, IfSome, refl}
use Rattle.std.specs.List.{AllByRecursion}
use Rattle.std.proofs.Common.{◌⊎◌, ap, arith, inl, inr, ◌∙◌}
use Rattle.std.proofs.lemmas.Bool.{cases_lt}
use Rattle.cv_keep.specs.Journal.{IsBeforeOrAfter}
use Rattle.cv_keep.specs.Records.{gate_after, records}
use Rattle.cv_keep.specs.declared.error.KeepError.{KeepError}
use Rattle.cv_keep.specs.declared.error.KeepError.TheVariants as keep
use Rattle.cv_keep_rounds.specs.Keeping.{IsKept, IsRefused, KeeperView, MayBeKept}
use Rattle.cv_keep_rounds.specs.Rounds.{IsRecordOf}
use Rattle.cv_serve_legal.specs.Whole.{WholeRound}
use Rattle.cv_serve_round.specs.Kept.{AreKept}
use Rattle.cv_serve_kept.specs.Rounds.{HasRoomFor, IsFullFor, IsRoundKept, MayBeRoundKept, size_with}

-- the records of a file, if its bytes are known
abbrev pub of_file : Option (List ℕ) → Option (List (List ℕ))
of_file file = option_map records file

appended_of : (o n : Option (List ℕ)) (added : List (List ℕ)) → of_file n ≡ option_map (λ (file : List ℕ). records file ++ added) o → of_file n ≡ option_map (λ (rs : List (List ℕ)). rs ++ added) (of_file o)
appended_of None n added h = h
appended_of (Some file) n added h = h

pub of_records : (o : Option (List ℕ)) (P : List (List ℕ) → Type 0) → IfSome o (λ (file : List ℕ). P (records file)) → IfSome (of_file o) P
of_records None P h = tt
of_records (Some file) P h = h

-- ---- a record that was refused

not_full : (gate size : ℕ) (A : Type 0) → A ↔ (2 ^ 40 < gate + 10 + size) → (A → ⊥) → gate + 10 + size ≤ 2 ^ 40
not_full gate size A full other = by_size (cases_lt (2 ^ 40) (gate + 10 + size))
  where
    by_size : (2 ^ 40 < gate + 10 + size) ⊎ (gate + 10 + size ≤ 2 ^ 40) → gate + 10 + size ≤ 2 ^ 40
    by_size (inl lt) = absurd (other (full.1 lt))
    by_size (inr le) = le

room_at : (o : Option (List ℕ)) (gate : ℕ) (bytes : List ℕ) → IfSome o (λ (file : List ℕ). gate ≡ gate_after (records file)) → gate + 10 + length bytes ≤ 2 ^ 40
    → IfSome o (λ (file : List ℕ). size_with (records file) bytes ≤ 2 ^ 40)
room_at None gate bytes place le = tt
room_at (Some file) gate bytes place le = omega (arith, place, le)

full_at : (o : Option (List ℕ)) (gate : ℕ) (bytes : List ℕ) → IfSome o (λ (file : List ℕ). gate ≡ gate_after (records file)) → 2 ^ 40 < gate + 10 + length bytes
    → IfSome o (λ (file : List ℕ). 2 ^ 40 < size_with (records file) bytes)
full_at None gate bytes place lt = tt
full_at (Some file) gate bytes place lt = omega (arith, place, lt)

-- by the bytes of the file before and after, if they are known
module _ (round : WholeRound) (bytes : List ℕ) (is : IsRecordOf round bytes) where
  by_records : (old new : List ℕ) → size_with (records old) bytes ≤ 2 ^ 40 → IsBeforeOrAfter (records old) bytes new → MayBeRoundKept (Some (records old)) round (Some (records new))
  by_records old new fits (inl same) = inr (ap Some same)
  by_records old new fits (inr more) = inl (record { added = bytes ∷ []; of_round = inl (bytes, is, refl); appended = ap Some more; fits = (fits, tt) })

  by_files : (o n : Option (List ℕ)) → is_none n ≡ is_none o → IfSome o (λ (file : List ℕ). size_with (records file) bytes ≤ 2 ^ 40)
      → IfSome o (λ old. IfSome n (IsBeforeOrAfter (records old) bytes)) → MayBeRoundKept (of_file o) round (of_file n)
  by_files None None known fits h = inr refl
  by_files None (Some new) known fits h = absurd cc
  by_files (Some old) None known fits h = absurd cc
  by_files (Some old) (Some new) known fits h = by_records old new fits h

  room_for : (o : Option (List ℕ)) → IfSome o (λ (file : List ℕ). size_with (records file) bytes ≤ 2 ^ 40) → HasRoomFor (of_file o) round
  room_for None h = tt
  room_for (Some file) h = (bytes, is, h)

  full_for : (o : Option (List ℕ)) → IfSome o (λ (file : List ℕ). 2 ^ 40 < size_with (records file) bytes) → IsFullFor (of_file o) round
  full_for None h = tt
  full_for (Some file) h = (bytes, is, h)

module _ {J : Type 0} (contents : J → Option (List ℕ)) (faults : J → ℕ) where
  -- the records of the file behind a keeper
  abbrev pub behind : KeeperView × J → Option (List (List ℕ))
  behind x = of_file (contents x.1)

  -- a round that was kept
  pub round_less : (x : KeeperView × J) (round : WholeRound) (y : KeeperView × J) → IsKept contents faults x round y → IsRoundKept (behind x) round (behind y)
  round_less x round y h = record {
    added = h.kept;
    of_round = h.of_round;
    appended = appended_of (contents x.1) (contents y.1) h.kept h.records_are;
    fits = of_records (contents x.1) (λ rs. AllByRecursion (λ bytes. size_with rs bytes ≤ 2 ^ 40) h.kept) h.fits;
  }

  module _ (x : KeeperView × J) (round : WholeRound) (bytes : List ℕ) (y : KeeperView × J) (is : IsRecordOf round bytes) (h : IsRefused contents faults x bytes y) where
    fits_at : (h.error ≡ keep.Full → ⊥) → IfSome (contents x.1) (λ (file : List ℕ). size_with (records file) bytes ≤ 2 ^ 40)
    fits_at other = room_at (contents x.1) x.0.journal.gate bytes h.place (not_full x.0.journal.gate (length bytes) (h.error ≡ keep.Full) h.full other)

    -- if the file was full, its records are those of before
    pub same_if_full : h.error ≡ keep.Full → behind y ≡ behind x
    same_if_full e = ap (λ (d : J). of_file (contents d)) (h.full_same e).0

    pub is_full : h.error ≡ keep.Full → IsFullFor (behind x) round
    is_full e = full_for round bytes is (contents x.1) (full_at (contents x.1) x.0.journal.gate bytes h.place (h.full.0 e))

    pub has_room : (h.error ≡ keep.Full → ⊥) → HasRoomFor (behind x) round
    has_room other = room_for round bytes is (contents x.1) (fits_at other)

    unless_full : (h.error ≡ keep.Full → ⊥) → MayBeRoundKept (behind x) round (behind y)
    unless_full other = by_files round bytes is (contents x.1) (contents y.1) h.known (fits_at other) h.records_are

    by_error : (e : KeepError) → h.error ≡ e → MayBeRoundKept (behind x) round (behind y)
    by_error keep.Full e = inr (same_if_full e)
    by_error keep.DiskFault e = unless_full (λ full. cc (e, full))
    by_error keep.NoMemory e = unless_full (λ full. cc (e, full))

    pub refused_less : MayBeRoundKept (behind x) round (behind y)
    refused_less = by_error h.error refl

  -- one that may have been kept
  pub may_less : (x : KeeperView × J) (round : WholeRound) (y : KeeperView × J) → MayBeKept contents faults x round y → MayBeRoundKept (behind x) round (behind y)
  may_less x round y (inl same) = inr (ap behind same)
  may_less x round y (inr (bytes, is, h)) = refused_less x round bytes y is h

  -- ---- the error that is remembered

  -- none is, as long as rounds are kept
  pub error_none : (x : KeeperView × J) (rounds : List WholeRound) (y : KeeperView × J) → x.0.error ≡ None → AreKept (IsKept contents faults) x rounds y → y.0.error ≡ None
  error_none x [] y none h = ap (λ (z : KeeperView × J). z.0.error) h ∙ none
  error_none x (round ∷ rounds) y none h = error_none h.0 rounds y h.1.no_error h.2

  -- the count of the disk does not fall
  pub faults_later : (x : KeeperView × J) (rounds : List WholeRound) (y : KeeperView × J) → AreKept (IsKept contents faults) x rounds y → faults x.1 ≤ faults y.1
  faults_later x [] y h = omega (arith, ap (λ (z : KeeperView × J). faults z.1) h)
  faults_later x (round ∷ rounds) y h = omega (arith, h.1.faults_rise, faults_later h.0 rounds y h.2)
