-- A short input has no line that is too long, and is not too long itself: its lines stop at its end.
use Rattle.std.proofs.Common.{◌≡◌, ℕ, ◌+◌, ◌≤◌, ◌<◌, Bool, true, false, cond, List, [], ◌∷◌, length, refl, arith}
use Rattle.std.specs.Prelude.{⊤, nat_le}
use Rattle.std.specs.List.{onto_first, slice_split}
use Rattle.std.proofs.lemmas.Bool.{le-ltb, leb-true}
use Rattle.std.proofs.lemmas.List.{take_all}
use Rattle.cv_io.specs.Lines.{Finished, is_line_end, pieces_of, reading_from, reading_of}

-- no list is longer than this
abbrev AreShort : ℕ → List (List ℕ) → Type 0
AreShort most [] = ⊤
AreShort most (piece ∷ pieces) = (length piece ≤ most) × AreShort most pieces

still_short : (most more : ℕ) (pieces : List (List ℕ)) → most ≤ more → AreShort most pieces → AreShort more pieces
still_short most more [] le h = tt
still_short most more (piece ∷ pieces) le h = (omega (arith, le, h.0), still_short most more pieces le h.1)

one_more : (byte most : ℕ) (pieces : List (List ℕ)) → AreShort most pieces → AreShort (most + 1) (onto_first byte pieces)
one_more byte most [] h = (omega arith, tt)
one_more byte most (piece ∷ pieces) h = (omega (arith, h.0), still_short most (most + 1) pieces (omega arith) h.1)

by_end : (b : Bool) (byte most : ℕ) (pieces : List (List ℕ)) → AreShort most pieces → AreShort (most + 1) (cond b ([] ∷ pieces) (onto_first byte pieces))
by_end true byte most pieces h = (omega arith, still_short most (most + 1) pieces (omega arith) h)
by_end false byte most pieces h = one_more byte most pieces h

-- no piece of bytes is longer than they are
pieces_short : (bytes : List ℕ) → AreShort (length bytes) (slice_split is_line_end bytes)
pieces_short [] = (omega arith, tt)
pieces_short (byte ∷ bytes) =
    still_short (length bytes + 1) (length (byte ∷ bytes)) _ (omega arith) (by_end (is_line_end byte) byte (length bytes) (slice_split is_line_end bytes) (pieces_short bytes))

stop_at_end : (most : ℕ) (pieces : List (List ℕ)) → AreShort most pieces → (reading_from most false pieces).stop ≡ Finished
stop_at_end most [] h = refl
stop_at_end most (piece ∷ []) h = rw (le-ltb most (length piece) h.0) refl
stop_at_end most (piece ∷ next ∷ later) h = rw (le-ltb most (length piece) h.0) (stop_at_end most (next ∷ later) h.1)

not_cut : (room : ℕ) (bytes : List ℕ) → length bytes < room → nat_le room (length bytes) ≡ false
not_cut room bytes lt = go (nat_le room (length bytes)) refl
  where
    go : (b : Bool) → nat_le room (length bytes) ≡ b → b ≡ false
    go false e = refl
    go true e = absurd (omega (arith, lt, leb-true room (length bytes) e))

-- the reading of short bytes
pub short_stop : (most room : ℕ) (bytes : List ℕ) → length bytes ≤ most → length bytes < room → (reading_of most room bytes).stop ≡ Finished
unfolding reading_of
short_stop most room bytes le lt =
    rw (not_cut room bytes lt, take_all room bytes (omega (arith, lt))) (stop_at_end most (pieces_of bytes) (still_short (length bytes) most _ le (pieces_short bytes)))
