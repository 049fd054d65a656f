-- The relation of `Division` determines the rounds: lines that are divided so are cut so.
use Rattle.std.specs.Prelude.{◌≡◌, ℕ, ◌+◌, ◌<◌, false, ◌&&◌, cond, nat_lt, List, [], ◌∷◌, ◌++◌, fold, length, refl}
use Rattle.std.specs.List.{AllByRecursion}
use Rattle.std.proofs.Common.{ap, append_assoc, arith, inl, inr, subst, sym, ◌∙◌}
use Rattle.std.proofs.lemmas.Bool.{le-leb, lt-ltb, lt-leb, le-ltb}
use Rattle.std.proofs.lemmas.List.{append-nil, length-append}
use Rattle.std.proofs.lemmas.List.Sums.{fold-append}
use Rattle.cv_base.specs.Lines.{Line}
use Rattle.cv_base.specs.Texts.{is_cons, is_nil}
use Rattle.cv_serve_legal.specs.Division.{AreEnded, AreRounds, Ends, HasText, IsWithin}
use Rattle.cv_serve_legal.specs.Rounds.{Cut, Round, RoundLimits, cut_line, cut_lines, end_before, end_full, end_round, put_line, size_of}

-- these rounds ended, and these lines are of the one that has begun
abbrev cut_at : List Round → Round → Cut
cut_at rounds begun = record { rounds = rounds; begun = begun }

size_both : (xs ys : List Line) → size_of (xs ++ ys) ≡ size_of xs + size_of ys
size_both [] ys = omega arith
size_both (x ∷ xs) ys = let e = size_both xs ys in grind (arith, e)

no_nil : (text : List ℕ) → 0 < length text → is_nil text ≡ false
no_nil [] h = absurd (omega (arith, h))
no_nil (byte ∷ bytes) h = refl

-- ---- one more line of a round

-- there is room for each line of a round that is within its bytes
has_room : (limits : RoundLimits) (begun : Round) (line : Line) (later : List Line) → IsWithin limits (begun ++ line ∷ later)
    → is_cons begun && nat_lt limits.bytes (size_of begun + length line.text) ≡ false
has_room limits [] line later h = refl
has_room limits (first ∷ begun) line later (inl fits) =
    let e : size_of ((first ∷ begun) ++ line ∷ later) ≡ size_of (first ∷ begun) + (length line.text + size_of later) = size_both (first ∷ begun) (line ∷ later) in
    le-ltb limits.bytes (size_of (first ∷ begun) + length line.text) (grind (arith, e, fits))
has_room limits (first ∷ begun) line later (inr one) =
    let e = length-append begun (line ∷ later) in
    absurd (omega (arith, e, one))

-- a line of a round comes to it
comes : (limits : RoundLimits) (rounds : List Round) (begun : Round) (line : Line) (later : List Line) → HasText line → IsWithin limits (begun ++ line ∷ later)
    → cut_line limits (cut_at rounds begun) line ≡ end_full limits (cut_at rounds (begun ++ line ∷ []))
comes limits rounds begun line later text within =
    let cut = cut_at rounds begun in
    ap (λ b. cond b (end_round cut) (end_full limits (put_line line (end_before limits line cut)))) (no_nil line.text text)
    ∙ ap (λ b. end_full limits (put_line line (cond b (end_round cut) cut))) (has_room limits begun line later within)

goes_on : (limits : RoundLimits) (rounds : List Round) (begun : Round) → length begun < limits.lines → end_full limits (cut_at rounds begun) ≡ cut_at rounds begun
goes_on limits rounds begun short = ap (λ b. cond b (end_round (cut_at rounds begun)) (cut_at rounds begun)) (lt-leb limits.lines (length begun) short)

is_full : (limits : RoundLimits) (rounds : List Round) (begun : Round) → length begun ≡ limits.lines
    → end_full limits (cut_at rounds begun) ≡ cut_at (rounds ++ begun ∷ []) []
is_full limits rounds begun full =
    ap (λ b. cond b (end_round (cut_at rounds begun)) (cut_at rounds begun)) (le-leb limits.lines (length begun) (omega (arith, full)))

-- ---- all lines of a round

-- a round that may have one more line goes on
stays : (limits : RoundLimits) (rounds : List Round) (begun lines : List Line) → AllByRecursion HasText lines → IsWithin limits (begun ++ lines)
    → length (begun ++ lines) < limits.lines → fold (cut_line limits) (cut_at rounds begun) lines ≡ cut_at rounds (begun ++ lines)
stays limits rounds begun [] text within short = ap (λ x. cut_at rounds x) (sym (append-nil begun))
stays limits rounds begun (line ∷ lines) text within short =
    let same = append_assoc begun (line ∷ []) lines in
    let both = length-append begun (line ∷ lines) in
    let one = length-append begun (line ∷ []) in
    ap (λ cut. fold (cut_line limits) cut lines)
    (comes limits rounds begun line lines text.0 within ∙ goes_on limits rounds (begun ++ line ∷ []) (omega (arith, short, both, one)))
    ∙ stays limits rounds (begun ++ line ∷ []) lines text.1 (subst (λ x. IsWithin limits x) (sym same) within) (subst (λ x. length x < limits.lines) (sym same) short)
    ∙ ap (λ x. cut_at rounds x) same

-- a round ends with the last line that it may have
fills : (limits : RoundLimits) (rounds : List Round) (begun : Round) (line : Line) (lines : List Line) → AllByRecursion HasText (line ∷ lines)
    → IsWithin limits (begun ++ line ∷ lines) → length (begun ++ line ∷ lines) ≡ limits.lines
    → fold (cut_line limits) (cut_at rounds begun) (line ∷ lines) ≡ cut_at (rounds ++ (begun ++ line ∷ lines) ∷ []) []
fills limits rounds begun line [] text within full =
    comes limits rounds begun line [] text.0 within ∙ is_full limits rounds (begun ++ line ∷ []) full
fills limits rounds begun line (next ∷ lines) text within full =
    let same = append_assoc begun (line ∷ []) (next ∷ lines) in
    let both = length-append begun (line ∷ next ∷ lines) in
    let one = length-append begun (line ∷ []) in
    ap (λ cut. fold (cut_line limits) cut (next ∷ lines))
    (comes limits rounds begun line (next ∷ lines) text.0 within ∙ goes_on limits rounds (begun ++ line ∷ []) (omega (arith, full, both, one)))
    ∙ fills limits rounds (begun ++ line ∷ []) next lines text.1 (subst (λ x. IsWithin limits x) (sym same) within) (subst (λ x. length x ≡ limits.lines) (sym same) full)
    ∙ ap (λ x. cut_at (rounds ++ x ∷ []) []) same

filled : (limits : RoundLimits) (rounds : List Round) (round : Round) → 0 < limits.lines → AllByRecursion HasText round → IsWithin limits round
    → length round ≡ limits.lines → fold (cut_line limits) (cut_at rounds []) round ≡ cut_at (rounds ++ round ∷ []) []
filled limits rounds [] some text within full = absurd (omega (arith, some, full))
filled limits rounds (line ∷ lines) some text within full = fills limits rounds [] line lines text within full

-- ---- the end of a round

-- a round with a line ends before the line that would bring it past its bytes
ends_before : (limits : RoundLimits) (rounds : List Round) (round : Round) (next : Line) → 0 < length round → HasText next
    → limits.bytes < size_of round + length next.text → cut_line limits (cut_at rounds round) next ≡ cut_line limits (cut_at (rounds ++ round ∷ []) []) next
ends_before limits rounds [] next some text past = absurd (omega (arith, some))
ends_before limits rounds (line ∷ lines) next some text past =
    let cut = cut_at rounds (line ∷ lines) in
    let ended = end_round cut in
    ap (λ b. cond b ended (end_full limits (put_line next (end_before limits next cut)))) (no_nil next.text text)
    ∙ ap (λ b. end_full limits (put_line next (cond b ended cut))) (lt-ltb limits.bytes (size_of (line ∷ lines) + length next.text) past)
    ∙ sym (ap (λ b. cond b (end_round ended) (end_full limits (put_line next (end_before limits next ended)))) (no_nil next.text text))

-- lines that follow others
after_round : (limits : RoundLimits) (cut : Cut) (round rest lines : List Line) → lines ≡ round ++ rest
    → fold (cut_line limits) cut lines ≡ fold (cut_line limits) (fold (cut_line limits) cut round) rest
after_round limits cut round rest lines is = ap (λ x. fold (cut_line limits) cut x) is ∙ fold-append (cut_line limits) cut round rest

-- a round that ends is cut
one_round : (limits : RoundLimits) (rounds : List Round) (round : Round) (rest lines : List Line) → 0 < limits.lines → AllByRecursion HasText round
    → IsWithin limits round → Ends limits round rest lines
    → fold (cut_line limits) (cut_at rounds []) lines ≡ fold (cut_line limits) (cut_at (rounds ++ round ∷ []) []) rest
one_round limits rounds round rest lines some text within (inl h) =
    let cut = cut_at rounds round in
    after_round limits (cut_at rounds []) round (h.empty ∷ rest) lines h.joined
    ∙ ap (λ x. fold (cut_line limits) x (h.empty ∷ rest)) (stays limits rounds [] round text within h.short)
    ∙ ap (λ t. fold (cut_line limits) (cond (is_nil t) (end_round cut) (end_full limits (put_line h.empty (end_before limits h.empty cut)))) rest) h.none
one_round limits rounds round rest lines some text within (inr (inl h)) =
    after_round limits (cut_at rounds []) round rest lines h.joined
    ∙ ap (λ x. fold (cut_line limits) x rest) (filled limits rounds round some text within h.full)
one_round limits rounds round rest lines some text within (inr (inr h)) =
    after_round limits (cut_at rounds []) round rest lines h.joined
    ∙ ap (λ x. fold (cut_line limits) x rest) (stays limits rounds [] round text within h.short)
    ∙ ap (λ x. fold (cut_line limits) (cut_at rounds round) x) h.begins
    ∙ ap (λ x. fold (cut_line limits) x h.later) (ends_before limits rounds round h.next h.has_lines h.text h.past)
    ∙ ap (λ x. fold (cut_line limits) (cut_at (rounds ++ round ∷ []) []) x) (sym h.begins)

all_rounds : (limits : RoundLimits) (before rounds : List Round) (begun : Round) (lines : List Line) → 0 < limits.lines → AllByRecursion HasText begun
    → IsWithin limits begun → length begun < limits.lines → AreEnded limits rounds begun lines
    → fold (cut_line limits) (cut_at before []) lines ≡ cut_at (before ++ rounds) begun
all_rounds limits before [] begun lines some text within short h =
    ap (λ x. fold (cut_line limits) (cut_at before []) x) h
    ∙ stays limits before [] begun text within short
    ∙ ap (λ x. cut_at x begun) (sym (append-nil before))
all_rounds limits before (round ∷ rounds) begun lines some text within short h =
    one_round limits before round h.2.0 lines some h.0 h.1 h.2.1
    ∙ all_rounds limits (before ++ round ∷ []) rounds begun h.2.0 some text within short h.2.2
    ∙ ap (λ x. cut_at x begun) (append_assoc before (round ∷ []) rounds)

-- lines that are divided so are cut so
pub determined : (limits : RoundLimits) (rounds : List Round) (begun : Round) (lines : List Line) → AreRounds limits rounds begun lines
    → cut_lines limits lines ≡ record { rounds = rounds; begun = begun }
determined limits rounds begun lines h =
    let short = h.short in
    all_rounds limits [] rounds begun lines (omega (arith, short)) h.text h.within h.short h.ended
