-- Lines and readings by the first line end.
use Rattle.std.proofs.Common.{◌≡◌, ℕ, suc, ◌+◌, ◌-◌, ◌<◌, ◌≤◌, List, [], ◌∷◌, ◌++◌, length, take, refl, sym, ◌∙◌, ap, subst, arith, length-append, inl, inr, Bool, true, false}
use Rattle.std.specs.Prelude.{nat_le}
use Rattle.std.specs.List.{slice_split, onto_first}
use Rattle.std.proofs.lemmas.Bool.{cases_lt, lt-leb, le-ltb, lt-ltb, le-leb}
use Rattle.std.proofs.lemmas.List.{take_at, take_all}
use Rattle.std.proofs.Math.Seq.{take-append-add}
use Rattle.std.proofs.lemmas.List.Elements.{All-head, All-tail, All-nil}
use Rattle.std.proofs.lemmas.List.Splits.{slice_split_none, slice_split_at, slice_split-cons_no, slice_split-cons_yes}
use Rattle.cv_io.specs.Lines.{LF, is_line_end, HasNoLineEnd, text_of, last_lines, lines_from, lines_of, Finished, LongLine, LongInput, Reading, stopped, line_then, reading_from, reading_of}

-- the pieces: the first one, and the later ones
pub record Pieces (front ys : List ℕ) : Type 0 where
  pub rest : List ℕ
  pub later : List (List ℕ)
  pub are : slice_split is_line_end (front ++ ys) ≡ (front ++ rest) ∷ later

pieces_under : (x : ℕ) (xs ys : List ℕ) → Pieces xs ys → is_line_end x ≡ false → Pieces (x ∷ xs) ys
pieces_under x xs ys p e = record {
  rest = p.rest;
  later = p.later;
  are = slice_split-cons_no is_line_end x (xs ++ ys) e ∙ ap (onto_first x) p.are;
}

pub split_first : (ys : List ℕ) → Pieces [] ys
split_first [] = record { rest = []; later = []; are = refl }
split_first (y ∷ ys) = by (is_line_end y) refl (split_first ys)
  where
    by : (b : Bool) → is_line_end y ≡ b → Pieces [] ys → Pieces [] (y ∷ ys)
    by true e p = record { rest = []; later = slice_split is_line_end ys; are = slice_split-cons_yes is_line_end y ys e }
    by false e p = record { rest = y ∷ p.rest; later = p.later; are = slice_split-cons_no is_line_end y ys e ∙ ap (onto_first y) p.are }

-- bytes without a line end stand whole at the front of the first piece
split_front : (front ys : List ℕ) → HasNoLineEnd front → Pieces front ys
split_front [] ys h = split_first ys
split_front (x ∷ xs) ys h = pieces_under x xs ys (split_front xs ys (All-tail (λ b. is_line_end b ≡ false) x xs h)) (All-head (λ b. is_line_end b ≡ false) x xs h)

-- ---- the first line ends at an LF

-- a first piece with later ones is a line
lines_from-cons : (piece ys : List ℕ) → Pieces [] ys → lines_from (piece ∷ slice_split is_line_end ys) ≡ text_of piece ∷ lines_from (slice_split is_line_end ys)
lines_from-cons piece ys p = subst (λ (ps : List (List ℕ)). lines_from (piece ∷ ps) ≡ text_of piece ∷ lines_from ps) (sym p.are) refl

pub lines_of-line : (piece rest : List ℕ) → HasNoLineEnd piece → lines_of (piece ++ LF ∷ rest) ≡ text_of piece ∷ lines_of rest
unfolding lines_of
lines_of-line piece rest h = ap lines_from (slice_split_at is_line_end piece LF rest h refl) ∙ lines_from-cons piece rest (split_first rest)

pub lines_of-nil : lines_of [] ≡ []
unfolding lines_of
lines_of-nil = refl

last_lines-some : (piece : List ℕ) → 0 < length piece → last_lines piece ≡ text_of piece ∷ []
last_lines-some [] h = absurd (omega (arith, h))
last_lines-some (x ∷ xs) h = refl

pub lines_of-last : (piece : List ℕ) → HasNoLineEnd piece → 0 < length piece → lines_of piece ≡ text_of piece ∷ []
unfolding lines_of
lines_of-last piece h some = ap lines_from (slice_split_none is_line_end piece h) ∙ last_lines-some piece some

-- ---- readings

-- the same comparison of two numbers that are both larger by k
nat_le-alike : (a b m n k : ℕ) → a ≡ k + m → b ≡ k + n → nat_le a b ≡ nat_le m n
nat_le-alike a b m n k e f =
    elim (cases_lt n m) [
      | inl h ↦ lt-leb a b (omega arith) ∙ sym (lt-leb m n h)
      | inr h ↦ le-leb a b (omega arith) ∙ sym (le-leb m n h)
    ]

-- a line that is short enough, and then the reading of the rest
reading_from-cons : (max_line : ℕ) (is_cut : Bool) (piece ys : List ℕ) → length piece ≤ max_line → Pieces [] ys
    → reading_from max_line is_cut (piece ∷ slice_split is_line_end ys) ≡ line_then (text_of piece) (reading_from max_line is_cut (slice_split is_line_end ys))
reading_from-cons max_line is_cut piece ys h p =
    subst (λ (ps : List (List ℕ)). reading_from max_line is_cut (piece ∷ ps) ≡ line_then (text_of piece) (reading_from max_line is_cut ps)) (sym p.are)
    (rw (le-ltb max_line (length piece) h) refl)

reading_from-last : (max_line : ℕ) (piece : List ℕ) → length piece ≤ max_line → reading_from max_line false (piece ∷ []) ≡ record { lines = last_lines piece; stop = Finished }
reading_from-last max_line piece h = rw (le-ltb max_line (length piece) h) refl

reading_from-cut : (max_line : ℕ) (piece : List ℕ) → length piece ≤ max_line → reading_from max_line true (piece ∷ []) ≡ stopped LongInput
reading_from-cut max_line piece h = rw (le-ltb max_line (length piece) h) refl

reading_from-long : (max_line : ℕ) (is_cut : Bool) (piece : List ℕ) (later : List (List ℕ)) → max_line < length piece → reading_from max_line is_cut (piece ∷ later) ≡ stopped LongLine
reading_from-long max_line is_cut piece [] h = rw (lt-ltb max_line (length piece) h) refl
reading_from-long max_line is_cut piece (next ∷ later) h = rw (lt-ltb max_line (length piece) h) refl

pub reading_of-line : (max_line room : ℕ) (piece rest : List ℕ) → HasNoLineEnd piece → length piece ≤ max_line
    → reading_of max_line (length piece + 1 + room) (piece ++ LF ∷ rest) ≡ line_then (text_of piece) (reading_of max_line room rest)
unfolding reading_of
reading_of-line max_line room piece rest h short =
    let more : length piece + 1 + room ≡ length piece + suc room = omega arith in
    let seen : take (length piece + 1 + room) (piece ++ LF ∷ rest) ≡ piece ++ LF ∷ take room rest =
    ap (λ n. take n (piece ++ LF ∷ rest)) more ∙ take-append-add piece (LF ∷ rest) (suc room) in
    let cut : nat_le (length piece + 1 + room) (length (piece ++ LF ∷ rest)) ≡ nat_le room (length rest) =
    nat_le-alike _ _ room (length rest) (length piece + 1) refl (omega (arith, length-append piece (LF ∷ rest))) in
    (λ i. reading_from max_line (cut i) (slice_split is_line_end (seen i)))
    ∙ ap (reading_from max_line (nat_le room (length rest))) (slice_split_at is_line_end piece LF (take room rest) h refl)
    ∙ reading_from-cons max_line (nat_le room (length rest)) piece (take room rest) short (split_first (take room rest))

-- the end is seen after the last piece
seen_last : (max_line room : ℕ) (piece : List ℕ) → HasNoLineEnd piece → length piece ≤ max_line → length piece < room → reading_of max_line room piece ≡ record { lines = last_lines piece; stop = Finished }
unfolding reading_of
seen_last max_line room piece h short fits =
    (λ i. reading_from max_line (lt-leb room (length piece) fits i) (slice_split is_line_end (take_all room piece (omega arith) i)))
    ∙ ap (reading_from max_line false) (slice_split_none is_line_end piece h)
    ∙ reading_from-last max_line piece short

pub reading_of-nil : (max_line room : ℕ) → 0 < room → reading_of max_line room [] ≡ stopped Finished
reading_of-nil max_line room h = seen_last max_line room [] (All-nil (λ b. is_line_end b ≡ false)) (omega arith) h

pub reading_of-last : (max_line room : ℕ) (piece : List ℕ) → HasNoLineEnd piece → length piece ≤ max_line → 0 < length piece → length piece < room
    → reading_of max_line room piece ≡ line_then (text_of piece) (stopped Finished)
reading_of-last max_line room piece h short some fits =
    seen_last max_line room piece h short fits ∙ ap (λ (ls : List (List ℕ)). let r : Reading = record { lines = ls; stop = Finished } in r) (last_lines-some piece some)

pub reading_of-long_line : (max_line room : ℕ) (front rest : List ℕ) → HasNoLineEnd front → max_line < length front → length front ≤ room
    → reading_of max_line room (front ++ rest) ≡ stopped LongLine
unfolding reading_of
reading_of-long_line max_line room front rest h long fits =
    let more : room ≡ length front + (room - length front) = omega arith in
    let seen : take room (front ++ rest) ≡ front ++ take (room - length front) rest =
    ap (λ n. take n (front ++ rest)) more ∙ take-append-add front rest (room - length front) in
    let pieces = split_front front (take (room - length front) rest) h in
    let is_cut = nat_le room (length (front ++ rest)) in
    ap (λ v. reading_from max_line is_cut (slice_split is_line_end v)) seen
    ∙ ap (reading_from max_line is_cut) pieces.are
    ∙ reading_from-long max_line is_cut (front ++ pieces.rest) pieces.later (omega (arith, length-append front pieces.rest))

pub reading_of-long_input : (max_line room : ℕ) (front rest : List ℕ) → HasNoLineEnd front → length front ≤ max_line → length front ≡ room
    → reading_of max_line room (front ++ rest) ≡ stopped LongInput
unfolding reading_of
reading_of-long_input max_line room front rest h short all =
    (λ i. reading_from max_line (le-leb room (length (front ++ rest)) (omega (arith, length-append front rest)) i) (slice_split is_line_end (take_at front rest room all i)))
    ∙ ap (reading_from max_line true) (slice_split_none is_line_end front h)
    ∙ reading_from-cut max_line front short
