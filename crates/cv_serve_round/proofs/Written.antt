-- Lines one after the other have the bytes of their entries, also where only some of the bytes were written.
use Rattle.std.specs.Prelude.{◌≡◌, ℕ, ◌+◌, ◌<◌, List, [], ◌∷◌, ◌++◌, drop, get_or, length, map, take, Option, IfErr, IsErrAnd, OnErr, OnOk, Result, Ok, Err, refl}
use Rattle.std.specs.Io.KnownBytes.{Appends}
use Rattle.std.specs.List.{AllByRecursion, AllZip, flat_map}
use Rattle.std.proofs.Common.{ap, arith, inl, length-append, subst, sym, ◌∙◌}
use Rattle.std.proofs.KnownBytes.{Appends-trans}
use Rattle.std.proofs.Math.Seq.{take-append-add}
use Rattle.std.proofs.lemmas.Grind.{flat_map-append}
use Rattle.std.proofs.lemmas.List.{drop_more, take-append-drop, take-append-le}
use Rattle.cv_io.specs.Writes.{AppendsPrefix}
use Rattle.cv_io.specs.declared.write.WriteError.{WriteError}
use Rattle.cv_io.specs.declared.write.WriteError.TheVariants as error
use Rattle.cv_transcript.specs.Entry.{entry_text}
use Rattle.cv_transcript.specs.declared.entry.Entry.{Entry}
use Rattle.cv_core_machine.specs.Scans.{Trees}
use Rattle.cv_serve_legal.specs.ParsedLine.{IsTaken}
use Rattle.cv_serve_legal.specs.Replay.{Moment}
use Rattle.cv_serve_legal.specs.Round.{IsLegalRound}
use Rattle.cv_serve_legal.specs.Rounds.{Round}
use Rattle.cv_serve_legal.specs.Served.{LinesAscend}
use Rattle.cv_serve_legal.specs.Whole.{WholeRound, whole_round}
use Rattle.cv_serve_legal.specs.declared.parsed_line.ParsedLine.{ParsedLine}
use Rattle.cv_serve_round.specs.Printed.{HasTag}
use Rattle.cv_serve_round.specs.Round.{DesksCounted}
use Rattle.cv_serve_round.specs.code.LineParts.{LegalTexts, RoundRun, RoundStops, RoundTorn}

abbrev joined : List (List ℕ) → List ℕ
joined [] = []
joined (text ∷ texts) = text ++ joined texts

mapped : {X : Type 0} (f : X → List ℕ) (xs : List X) → flat_map f xs ≡ joined (map f xs)
mapped f [] = refl
mapped f (x ∷ xs) = ap (λ rest. f x ++ rest) (mapped f xs)

pub same_bytes : {S : Type 0} (f : S → List ℕ) (lines : List S) (entries : List Entry) → map f lines ≡ map entry_text entries → flat_map f lines ≡ flat_map entry_text entries
same_bytes f lines entries h = mapped f lines ∙ ap joined h ∙ sym (mapped entry_text entries)

-- bytes were written, and then the first of some more
pub prefix_after : (w m v : Option (List ℕ)) (front part back : List ℕ) → Appends w m front → AppendsPrefix m v part → AppendsPrefix w v (front ++ (part ++ back))
prefix_after w m v front part back h (count, most, k) =
    let size : length (front ++ (part ++ back)) ≡ length front + (length part + length back) = omega (arith, length-append front (part ++ back), length-append part back) in
    let bytes : take (length front + count) (front ++ (part ++ back)) ≡ front ++ take count part =
    take-append-add front (part ++ back) count ∙ ap (λ v. front ++ v) (take-append-le count part back most) in
    (length front + count, omega (arith, size, most), subst (Appends w v) (sym bytes) (Appends-trans w m v front (take count part) h k))

-- lines were written whole, and of the next one the first bytes
pub lines_part : {S : Type 0} (f : S → List ℕ) (lines : List S) (i : ℕ) (line : S) (w m v : Option (List ℕ)) → i < length lines → line ≡ get_or lines i line
    → Appends w m (flat_map f (take i lines)) → AppendsPrefix m v (f line) → AppendsPrefix w v (flat_map f lines)
lines_part f lines i line w m v low at h k =
    let split : lines ≡ take i lines ++ line ∷ drop (i + 1) lines =
    sym (take-append-drop i lines) ∙ ap (λ back. take i lines ++ back) (drop_more lines i line low) ∙ ap (λ x. take i lines ++ x ∷ drop (i + 1) lines) (sym at) in
    let text : flat_map f lines ≡ flat_map f (take i lines) ++ (f line ++ flat_map f (drop (i + 1) lines)) = ap (flat_map f) split ∙ flat_map-append f (take i lines) (line ∷ drop (i + 1) lines) in
    subst (AppendsPrefix w v) (sym text) (prefix_after w m v (flat_map f (take i lines)) (f line) (flat_map f (drop (i + 1) lines)) h k)

-- ---- by the answer of a call

pub on_err_any : {T E P : Type 0} (r : Result T E) → P → OnErr r P
on_err_any (Ok x) p = tt
on_err_any (Err error) p = p

pub if_err_weaker : {T E : Type 0} (P Q : E → Type 0) (r : Result T E) → ((error : E) → P error → Q error) → IfErr r P → IfErr r Q
if_err_weaker P Q (Ok x) step h = tt
if_err_weaker P Q (Err error) step h = step error h

-- with what is known at every error
pub if_err_with : {T E F : Type 0} (P Q : E → Type 0) (r : Result T E) → OnErr r F → (F → (error : E) → P error → Q error) → IfErr r P → IfErr r Q
if_err_with P Q (Ok x) fact step h = tt
if_err_with P Q (Err error) fact step h = step fact error h

-- an error that is handed on
pub if_handed : {E : Type 0} (P : E → Type 0) (error : E) (r : Result Unit E) → IsErrAnd r (λ e. e ≡ error) → P error → IfErr r P
if_handed P error (Ok x) from h = absurd from
if_handed P error (Err e) from h = subst P (sym from) h

-- ---- a round

-- the lines of the entries of a round
pub legal_texts : {D : Type 0} (known : Type 0) (trees : Trees) (workers : ℕ) (listings faults : D → ℕ) (texts : List (List ℕ)) (size : ℕ) (taken : List ParsedLine) (before after : Moment) (l n : List D) (shown entries : List Entry)
    → size ≡ workers → shown ≡ entries
    → (known → (lines : Round) (last : ℕ) → AllZip IsTaken lines taken → LinesAscend lines last → IsLegalRound trees size before lines entries after)
    → DesksCounted listings faults 0 l n entries → texts ≡ map (λ entry. entry_text entry) shown → AllByRecursion HasTag shown
    → LegalTexts known trees workers listings faults taken before l entries texts after n
legal_texts known trees workers listings faults texts size taken before after l n shown entries many same legal counts text tags = record {
  made = record {
    entries = shown;
    legal = λ k lines last read ascend.
        subst (λ count. IsLegalRound trees count before lines shown after) many
        (subst (λ es. IsLegalRound trees size before lines es after) (sym same) (legal k lines last read ascend));
    tags = tags;
    counts = subst (λ es. DesksCounted listings faults 0 l n es) (sym same) counts;
  };
  entries_are = same;
  printed = text;
}

-- the bytes of the lines of a round are those of its entries
pub text_of_lines : {D : Type 0} (known : Type 0) (trees : Trees) (workers : ℕ) (listings faults : D → ℕ) (taken : List ParsedLine) (before after : Moment) (l n : List D) {S : Type 0} (f : S → List ℕ) (lines shown : List S) (entries given : List Entry)
    → LegalTexts known trees workers listings faults taken before l entries (map f lines) after n → shown ≡ lines → given ≡ entries → flat_map f shown ≡ flat_map entry_text given
text_of_lines known trees workers listings faults taken before after l n f lines shown entries given t same_lines same_entries =
    ap (flat_map f) same_lines ∙ same_bytes f lines t.made.entries t.printed ∙ ap (flat_map entry_text) (t.entries_are ∙ sym same_entries)

module _ {D S : Type 0} (known : Type 0) (trees : Trees) (workers : ℕ) (listings faults : D → ℕ) (noted : Round → Type 0) (ends : S → WholeRound → Moment → S → Type 0) (may_stop : WriteError → S → WholeRound → Moment → S → Type 0) (texts : List (List ℕ)) (taken given : List ParsedLine)
    (entries given_entries : List Entry) (before after : Moment) (l n : List D) (held held_now : S)
    (is : taken ≡ given) (same_entries : given_entries ≡ entries) (t : LegalTexts known trees workers listings faults taken before l entries texts after n) where
  entries_are : given_entries ≡ t.made.entries
  entries_are = same_entries ∙ sym t.entries_are

  -- it was kept and written, and what follows its lines was done
  pub round_run : (r : Result Unit WriteError) → ((round : Round) → noted round → OnOk r (ends held (whole_round round given_entries) after held_now))
      → OnOk r (RoundRun known trees workers listings faults noted ends given before after l n held held_now)
  round_run (Ok x) ended = subst (λ some. RoundRun known trees workers listings faults noted ends some before after l n held held_now) is (record {
    made = t.made;
    ended = λ round is_noted. subst (λ es. ends held (whole_round round es) after held_now) entries_are (ended round is_noted);
  })
  round_run (Err error) ended = tt

  -- it stopped somewhere
  round_torn : (error : WriteError) → ((round : Round) → noted round → may_stop error held (whole_round round given_entries) after held_now)
      → RoundTorn known trees workers listings faults noted (may_stop error) given before l n held held_now
  round_torn error stopped = subst (λ some. RoundTorn known trees workers listings faults noted (may_stop error) some before l n held held_now) is (record {
    after = after;
    made = t.made;
    stopped = λ round is_noted. subst (λ es. may_stop error held (whole_round round es) after held_now) entries_are (stopped round is_noted);
  })

  pub round_stopped : (error : WriteError) → ((round : Round) → noted round → may_stop error held (whole_round round given_entries) after held_now)
      → RoundStops known trees workers listings faults noted may_stop given before l n held held_now error
  round_stopped error.WriteFault stopped = round_torn error.WriteFault stopped
  round_stopped error.NoMemory stopped = inl (round_torn error.NoMemory stopped)

  pub round_stops_by : (r : Result Unit WriteError) → ((round : Round) → noted round → IfErr r (λ error. may_stop error held (whole_round round given_entries) after held_now))
      → IfErr r (RoundStops known trees workers listings faults noted may_stop given before l n held held_now)
  round_stops_by (Ok x) stopped = tt
  round_stops_by (Err error) stopped = round_stopped error stopped
