-- What is kept of a round that has an event, and of one that has none.
use Rattle.std.specs.Prelude.{◌≡◌, ◌==◌, ⊤, ◌^◌, IfSome, true, false, ℕ, zero, suc, ◌+◌, ◌≤◌, ◌<◌, List, [], ◌∷◌, ◌++◌, length, Option, Some, None, option_map, Result, Ok, Err, OnErr, OnOk, refl}
use Rattle.std.specs.List.{AllByRecursion, AllZip}
use Rattle.std.proofs.Common.{ap, arith, inl, inr, sym, ◌∙◌}
use Rattle.std.proofs.lemmas.List.{append-nil, nil_from_length}
use Rattle.std.proofs.lemmas.Bool.{eqb-true}
use Rattle.cv_keep.specs.Journal.{BelongsTo}
use Rattle.cv_keep.specs.Records.{gate_after, records}
use Rattle.cv_core_records.specs.declared.event.EventEntry.{EventEntry}
use Rattle.cv_keep_record.specs.declared.event.KeptEvent.{KeptEvent}
use Rattle.cv_serve_legal.specs.Whole.{WholeRound}
use Rattle.cv_transcript.specs.Order.{events_of}
use Rattle.cv_keep_rounds.specs.Keeping.{IsKept, KeeperView}
use Rattle.cv_keep_rounds.specs.Rounds.{IsKeptEvent, IsRecordOf}

-- whether there are bytes, given their number
pub no_bytes : (bytes : List ℕ) (len : ℕ) → len ≡ length bytes → (len == 0) ≡ true → [] ≡ bytes
no_bytes bytes len is none = sym (nil_from_length bytes (sym is ∙ eqb-true len 0 none))

pub some_bytes : (bytes : List ℕ) (len : ℕ) → len ≡ length bytes → (len == 0) ≡ false → 0 < length bytes
some_bytes bytes zero is some = absurd cc
some_bytes bytes (suc n) is some = omega (arith, is)

-- no record more
none_more : (file : Option (List ℕ)) → option_map records file ≡ option_map (λ b. records b ++ []) file
none_more None = refl
none_more (Some b) = ap Some (sym (append-nil (records b)))

-- a round without events has no record
pub no_record : (round : WholeRound) (bytes : List ℕ) → events_of round.entries ≡ [] → IsRecordOf round bytes → ⊥
no_record round bytes none is = by_events (events_of round.entries) none is.events is.each is.spelled.some where
  by_events : (events : List EventEntry) → events ≡ [] → (kept : List KeptEvent) → AllZip (IsKeptEvent round.lines) events kept → 0 < length kept → ⊥
  by_events [] none [] each some = omega (arith, some)
  by_events [] none (event ∷ kept) each some = each
  by_events (event ∷ events) none kept each some = absurd cc

-- where the closed gate of a file stands
pub place_of : (file : Option (List ℕ)) (gate : ℕ) (images : List ℕ → Type 0) → BelongsTo gate images file → IfSome file (λ b. gate ≡ gate_after (records b))
place_of None gate images h = tt
place_of (Some b) gate images h = h.place

-- the file has room for a record
pub room_of : (file : Option (List ℕ)) (gate : ℕ) (images : List ℕ → Type 0) (len : ℕ) → BelongsTo gate images file → gate + 10 + len ≤ 2 ^ 40
    → IfSome file (λ b. gate_after (records b) + 10 + len ≤ 2 ^ 40)
room_of None gate images len h room = tt
room_of (Some b) gate images len h room = omega (arith, h.place, room)

none_fits : (file : Option (List ℕ)) → IfSome file (λ b. ⊤)
none_fits None = tt
none_fits (Some b) = tt

one_fits : (file : Option (List ℕ)) (P : List ℕ → List ℕ → Type 0) (bytes : List ℕ) → IfSome file (λ b. P b bytes) → IfSome file (λ b. AllByRecursion (P b) (bytes ∷ []))
one_fits None P bytes h = tt
one_fits (Some b) P bytes h = (h, tt)

-- a round without events is kept as it is
pub kept_none : {D : Type 0} (contents : D → Option (List ℕ)) (faults : D → ℕ) (x : KeeperView × D) (round : WholeRound) → events_of round.entries ≡ [] → x.0.error ≡ None
    → IsKept contents faults x round x
kept_none contents faults x round none no_error = record {
  kept = [];
  of_round = inr (none, refl);
  records_are = none_more (contents x.1);
  fits = none_fits (contents x.1);
  same = λ _. refl;
  no_error = no_error;
  faults_rise = omega arith;
}

-- a round with its record
pub kept_one : {D : Type 0} (contents : D → Option (List ℕ)) (faults : D → ℕ) (x y : KeeperView × D) (round : WholeRound) (bytes : List ℕ) → IsRecordOf round bytes
    → option_map records (contents y.1) ≡ option_map (λ b. records b ++ bytes ∷ []) (contents x.1)
    → IfSome (contents x.1) (λ file. gate_after (records file) + 10 + length bytes ≤ 2 ^ 40) → y.0.error ≡ None → faults x.1 ≤ faults y.1
    → IsKept contents faults x round y
kept_one contents faults x y round bytes is records_are fits no_error later = record {
  kept = bytes ∷ [];
  of_round = inl (bytes, is, refl);
  records_are = records_are;
  fits = one_fits (contents x.1) (λ file one. gate_after (records file) + 10 + length one ≤ 2 ^ 40) bytes fits;
  same = λ none. absurd (no_record round bytes none is);
  no_error = no_error;
  faults_rise = later;
}

-- what an answer says leads to more
pub on_err : {X E : Type 0} {P Q : Type 0} (r : Result X E) → (P → Q) → OnErr r P → OnErr r Q
on_err (Ok x) so p = tt
on_err (Err e) so p = so p

pub on_ok_three : {X E : Type 0} {P Q R S : Type 0} (r : Result X E) → (P → Q → R → S) → OnOk r P → OnOk r Q → OnOk r R → OnOk r S
on_ok_three (Ok x) so p q r = so p q r
on_ok_three (Err e) so p q r = tt
