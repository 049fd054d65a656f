-- The rounds of lines, as they are cut, are those of which `Division` says how each ends.
use Rattle.std.specs.Prelude.{◌≡◌, ℕ, ◌+◌, ◌<◌, ◌≤◌, Bool, true, false, ◌&&◌, cond, nat_le, nat_lt, List, [], ◌∷◌, ◌++◌, filter, flat_map, fold, length, refl}
use Rattle.std.specs.List.{AllByRecursion}
use Rattle.std.proofs.Common.{ap, append_assoc, arith, inl, inr, subst, sym, ◌∙◌}
use Rattle.std.proofs.lemmas.Bool.{leb-false, leb-true, ltb-false, ltb-true}
use Rattle.std.proofs.lemmas.List.{append-nil}
use Rattle.cv_base.specs.Lines.{Line}
use Rattle.cv_base.specs.Texts.{is_cons, is_nil}
use Rattle.cv_base.proofs.AllItems.{all_more}
use Rattle.cv_serve_legal.specs.Division.{AreEnded, AreRounds, Ends, HasText, IsShort, IsWithin}
use Rattle.cv_serve_legal.specs.Laws.{has_text}
use Rattle.cv_serve_legal.specs.Rounds.{Cut, Round, RoundLimits, counted, cut_line, cut_lines, end_before, end_full, end_round, input_lines, put_line, rounds_of, size_of}

-- more lines after those that follow a round
ends_more : (limits : RoundLimits) (round : Round) (rest lines more : List Line) → Ends limits round rest lines → Ends limits round (rest ++ more) (lines ++ more)
ends_more limits round rest lines more (inl h) = inl (record {
  empty = h.empty;
  none = h.none;
  short = h.short;
  joined = ap (λ x. x ++ more) h.joined ∙ append_assoc round (h.empty ∷ rest) more;
})
ends_more limits round rest lines more (inr (inl h)) = inr (inl (record {
  full = h.full;
  joined = ap (λ x. x ++ more) h.joined ∙ append_assoc round rest more;
}))
ends_more limits round rest lines more (inr (inr h)) = inr (inr (record {
  has_lines = h.has_lines;
  next = h.next;
  later = h.later ++ more;
  begins = ap (λ x. x ++ more) h.begins;
  text = h.text;
  past = h.past;
  short = h.short;
  joined = ap (λ x. x ++ more) h.joined ∙ append_assoc round rest more;
}))

-- more lines come to the round that has begun
extend : (limits : RoundLimits) (rounds : List Round) (begun : Round) (lines more : List Line) → AreEnded limits rounds begun lines
    → AreEnded limits rounds (begun ++ more) (lines ++ more)
extend limits [] begun lines more h = ap (λ x. x ++ more) h
extend limits (round ∷ rounds) begun lines more h =
    (h.0, h.1, (h.2.0 ++ more, ends_more limits round h.2.0 lines more h.2.1, extend limits rounds begun h.2.0 more h.2.2))

-- what divides the round that has begun divides all lines
replace : (limits : RoundLimits) (rounds tail : List Round) (begun last : Round) (lines : List Line) → AreEnded limits rounds begun lines
    → AreEnded limits tail last begun → AreEnded limits (rounds ++ tail) last lines
replace limits [] tail begun last lines h t = subst (λ x. AreEnded limits tail last x) (sym h) t
replace limits (round ∷ rounds) tail begun last lines h t =
    (h.0, h.1, (h.2.0, h.2.1, replace limits rounds tail begun last h.2.0 h.2.2 t))

-- what is cut so far
abbrev pub Divides : RoundLimits → Cut → List Line → Type 0
Divides limits cut lines = AreRounds limits cut.rounds cut.begun lines

more_by_one : (lines : List Line) (line : Line) → length (lines ++ line ∷ []) ≡ length lines + 1
more_by_one [] line = refl
more_by_one (first ∷ lines) line = let e = more_by_one lines line in grind (arith, e)

is_text : (text : List ℕ) → is_nil text ≡ false → 0 < length text
is_text [] h = absurd (cc h)
is_text (byte ∷ bytes) h = omega arith

is_some : (lines : List Line) → is_cons lines ≡ true → 0 < length lines
is_some [] h = absurd (cc h)
is_some (line ∷ lines) h = omega arith

is_empty : (text : List ℕ) → is_nil text ≡ true → text ≡ []
is_empty [] h = refl
is_empty (byte ∷ bytes) h = absurd (cc h)

-- a round that may be full ends if it is
ended_full : (limits : RoundLimits) (cut : Cut) (lines : List Line) → 0 < limits.lines → AreEnded limits cut.rounds cut.begun lines
    → AllByRecursion HasText cut.begun → IsWithin limits cut.begun → length cut.begun ≤ limits.lines → Divides limits (end_full limits cut) lines
ended_full limits cut lines some h text within most = by_length (nat_le limits.lines (length cut.begun)) refl where
  by_length : (b : Bool) → nat_le limits.lines (length cut.begun) ≡ b → Divides limits (cond b (end_round cut) cut) lines
  by_length true is = record {
    ended = replace limits cut.rounds (cut.begun ∷ []) cut.begun [] lines h
        (text, within, ([], inr (inl (record { full = let l = leb-true limits.lines (length cut.begun) is in omega (arith, l, most); joined = sym (append-nil cut.begun) })), refl));
    text = tt;
    within = inl (omega arith);
    short = some;
  }
  by_length false is = record { ended = h; text = text; within = within; short = leb-false _ _ is }

both_true : (a b : Bool) → a && b ≡ true → (a ≡ true) × (b ≡ true)
both_true true true h = (refl, refl)
both_true true false h = absurd (cc h)
both_true false b h = absurd (cc h)

pub size_by_one : (lines : List Line) (line : Line) → size_of (lines ++ line ∷ []) ≡ size_of lines + length line.text
size_by_one [] line = omega arith
size_by_one (first ∷ lines) line = let e = size_by_one lines line in grind (arith, e)

-- a line for which there is room keeps the round within its bytes
within_one : (limits : RoundLimits) (begun : Round) (line : Line) → is_cons begun && nat_lt limits.bytes (size_of begun + length line.text) ≡ false
    → IsWithin limits (begun ++ line ∷ [])
within_one limits [] line is = inr refl
within_one limits (first ∷ begun) line is =
    let e = size_by_one (first ∷ begun) line in
    let fits = ltb-false _ _ is in
    inl (grind (arith, e, fits))

-- one more line
cut_one : (limits : RoundLimits) (cut : Cut) (lines : List Line) (line : Line) → 0 < limits.lines → Divides limits cut lines
    → Divides limits (cut_line limits cut line) (lines ++ line ∷ [])
cut_one limits cut lines line some h = by_text (is_nil line.text) refl where
  longer : AreEnded limits cut.rounds (cut.begun ++ line ∷ []) (lines ++ line ∷ [])
  longer = extend limits cut.rounds cut.begun lines (line ∷ []) h.ended

  by_room : (b : Bool) → is_cons cut.begun && nat_lt limits.bytes (size_of cut.begun + length line.text) ≡ b → HasText line
      → Divides limits (end_full limits (put_line line (cond b (end_round cut) cut))) (lines ++ line ∷ [])
  by_room true is text =
      let parts = both_true (is_cons cut.begun) (nat_lt limits.bytes (size_of cut.begun + length line.text)) is in
      let past = ltb-true limits.bytes (size_of cut.begun + length line.text) parts.1 in
      ended_full limits (put_line line (end_round cut)) (lines ++ line ∷ []) some
      (replace limits cut.rounds (cut.begun ∷ []) (cut.begun ++ line ∷ []) (line ∷ []) (lines ++ line ∷ []) longer
      (h.text, h.within, (line ∷ [], inr (inr (record { has_lines = is_some cut.begun parts.0; next = line; later = []; begins = refl; text = text; past = past; short = h.short; joined = refl })), refl)))
      (text, tt) (inr refl) (omega (arith, some))
  by_room false is text =
      ended_full limits (put_line line cut) (lines ++ line ∷ []) some longer (all_more HasText cut.begun line h.text text)
      (within_one limits cut.begun line is)
      (let e = more_by_one cut.begun line in omega (arith, e, h.short))

  by_text : (b : Bool) → is_nil line.text ≡ b
      → Divides limits (cond b (end_round cut) (end_full limits (put_line line (end_before limits line cut)))) (lines ++ line ∷ [])
  by_text true is = record {
    ended = replace limits cut.rounds (cut.begun ∷ []) (cut.begun ++ line ∷ []) [] (lines ++ line ∷ []) longer
        (h.text, h.within, ([], inl (record { empty = line; none = is_empty line.text is; short = h.short; joined = refl }), refl));
    text = tt;
    within = inl (omega arith);
    short = some;
  }
  by_text false is = by_room (is_cons cut.begun && nat_lt limits.bytes (size_of cut.begun + length line.text)) refl (is_text line.text is)

-- more lines
cut_more : (limits : RoundLimits) (more lines : List Line) (cut : Cut) → 0 < limits.lines → Divides limits cut lines
    → Divides limits (fold (cut_line limits) cut more) (lines ++ more)
cut_more limits [] lines cut some h = subst (λ x. Divides limits cut x) (sym (append-nil lines)) h
cut_more limits (line ∷ more) lines cut some h =
    subst (λ x. Divides limits (fold (cut_line limits) (cut_line limits cut line) more) x) (append_assoc lines (line ∷ []) more)
    (cut_more limits more (lines ++ line ∷ []) (cut_line limits cut line) some (cut_one limits cut lines line some h))

-- all lines
pub divides : (limits : RoundLimits) (lines : List Line) → 0 < limits.lines → Divides limits (cut_lines limits lines) lines
divides limits lines some = cut_more limits lines [] (record { rounds = []; begun = [] }) some (record { ended = refl; text = tt; within = inl (omega arith); short = some })

-- each line that is not empty is of one round, in their order
filter_text : (round : Round) (rest : List Line) → AllByRecursion HasText round → filter has_text (round ++ rest) ≡ round ++ filter has_text rest
filter_text [] rest h = refl
filter_text (line ∷ lines) rest h = by_text line.text h.0 (filter_text lines rest h.1) where
  by_text : (text : List ℕ) → 0 < length text → filter has_text (lines ++ rest) ≡ lines ++ filter has_text rest
      → cond (is_cons text) (line ∷ filter has_text (lines ++ rest)) (filter has_text (lines ++ rest)) ≡ line ∷ lines ++ filter has_text rest
  by_text [] k same = absurd (omega (arith, k))
  by_text (byte ∷ bytes) k same = ap (λ x. line ∷ x) same

filter_empty : (line : Line) (rest : List Line) → line.text ≡ [] → filter has_text (line ∷ rest) ≡ filter has_text rest
filter_empty line rest h = ap (λ text. cond (is_cons text) (line ∷ filter has_text rest) (filter has_text rest)) h

filter_ended : (limits : RoundLimits) (round : Round) (rest lines : List Line) → AllByRecursion HasText round → Ends limits round rest lines
    → filter has_text lines ≡ round ++ filter has_text rest
filter_ended limits round rest lines t (inl h) =
    ap (λ x. filter has_text x) h.joined ∙ filter_text round (h.empty ∷ rest) t ∙ ap (λ x. round ++ x) (filter_empty h.empty rest h.none)
filter_ended limits round rest lines t (inr (inl h)) = ap (λ x. filter has_text x) h.joined ∙ filter_text round rest t
filter_ended limits round rest lines t (inr (inr h)) = ap (λ x. filter has_text x) h.joined ∙ filter_text round rest t

all_lines : (limits : RoundLimits) (rounds : List Round) (begun : Round) (lines : List Line) → AllByRecursion HasText begun → AreEnded limits rounds begun lines
    → flat_map (λ round. round) rounds ++ begun ≡ filter has_text lines
all_lines limits [] begun lines t h =
    sym (ap (λ x. filter has_text x) (h ∙ sym (append-nil begun)) ∙ filter_text begun [] t ∙ append-nil begun)
all_lines limits (round ∷ rounds) begun lines t h =
    append_assoc round (flat_map (λ round. round) rounds) begun
    ∙ ap (λ x. round ++ x) (all_lines limits rounds begun h.2.0 t h.2.2)
    ∙ sym (filter_ended limits round h.2.0 lines h.0 h.2.1)

-- with the round that has begun, if it has a line
with_begun : (cut : Cut) → flat_map (λ round. round) (counted true cut) ≡ flat_map (λ round. round) cut.rounds ++ cut.begun
with_begun cut = by_begun cut.begun where
  last : (rounds : List Round) (begun : Round) → flat_map (λ round. round) (rounds ++ begun ∷ []) ≡ flat_map (λ round. round) rounds ++ begun
  last [] begun = append-nil begun
  last (round ∷ rounds) begun = ap (λ x. round ++ x) (last rounds begun) ∙ sym (append_assoc round (flat_map (λ round. round) rounds) begun)

  by_begun : (begun : Round)
      → flat_map (λ round. round) (cond (is_cons begun) (cut.rounds ++ begun ∷ []) cut.rounds) ≡ flat_map (λ round. round) cut.rounds ++ begun
  by_begun [] = sym (append-nil _)
  by_begun (line ∷ lines) = last cut.rounds (line ∷ lines)

-- the rounds of an input that ended have all its lines that are not empty
pub lines_kept : (limits : RoundLimits) (bytes : List ℕ) → 0 < limits.lines
    → flat_map (λ round. round) (rounds_of limits bytes true) ≡ filter has_text (input_lines bytes true)
lines_kept limits bytes some =
    let lines = input_lines bytes true in
    let h = divides limits lines some in
    with_begun (cut_lines limits lines) ∙ all_lines limits (cut_lines limits lines).rounds (cut_lines limits lines).begun lines h.text h.ended

-- ---- how long rounds are

short_ended : (limits : RoundLimits) (round : Round) (rest lines : List Line) → Ends limits round rest lines → length round ≤ limits.lines
short_ended limits round rest lines (inl h) = omega (arith, h.short)
short_ended limits round rest lines (inr (inl h)) = omega (arith, h.full)
short_ended limits round rest lines (inr (inr h)) = omega (arith, h.short)

all_short : (limits : RoundLimits) (rounds : List Round) (begun : Round) (lines : List Line) → AreEnded limits rounds begun lines
    → AllByRecursion (IsShort limits) rounds
all_short limits [] begun lines h = tt
all_short limits (round ∷ rounds) begun lines h =
    ((short_ended limits round h.2.0 lines h.2.1, h.1), all_short limits rounds begun h.2.0 h.2.2)

short_with : (limits : RoundLimits) (rounds : List Round) (round : Round) → AllByRecursion (IsShort limits) rounds → IsShort limits round
    → AllByRecursion (IsShort limits) (rounds ++ round ∷ [])
short_with limits [] round h k = (k, tt)
short_with limits (first ∷ rounds) round h k = (h.0, short_with limits rounds round h.1 k)

pub rounds_short : (limits : RoundLimits) (bytes : List ℕ) (ended : Bool) → 0 < limits.lines
    → AllByRecursion (IsShort limits) (rounds_of limits bytes ended)
rounds_short limits bytes ended some = by_last (ended && is_cons cut.begun) where
  cut : Cut
  cut = cut_lines limits (input_lines bytes ended)

  h : Divides limits cut (input_lines bytes ended)
  h = divides limits (input_lines bytes ended) some

  by_last : (b : Bool) → AllByRecursion (IsShort limits) (cond b (cut.rounds ++ cut.begun ∷ []) cut.rounds)
  by_last true = short_with limits cut.rounds cut.begun (all_short limits cut.rounds cut.begun _ h.ended) (let s = h.short in omega (arith, s), h.within)
  by_last false = all_short limits cut.rounds cut.begun _ h.ended
