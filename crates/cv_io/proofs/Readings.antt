-- A reading that finishes gives all lines.
use Rattle.std.proofs.Common.{◌≡◌, ℕ, List, [], ◌∷◌, length, take, refl, sym, ◌∙◌, ap, subst, arith, take_all, inl, inr, Bool, true, false, cond}
use Rattle.std.specs.Prelude.{nat_lt, nat_le}
use Rattle.std.specs.List.{slice_split}
use Rattle.std.proofs.lemmas.Bool.{cases_lt, false≢true, le-leb}
use Rattle.cv_io.specs.Lines.{is_line_end, text_of, last_lines, lines_from, lines_of, Reading, Finished, LongLine, LongInput, stopped, line_then, reading_from, reading_of}
use Rattle.cv_io.proofs.Lines.{split_first}

abbrev ends_with : List (List ℕ) → Reading
ends_with lines = record { lines = lines; stop = Finished }

at_last : (is_long is_cut : Bool) (lines : List (List ℕ)) → (cond is_long (stopped LongLine) (cond is_cut (stopped LongInput) (ends_with lines))).stop ≡ Finished
    → (is_cut ≡ false) × ((cond is_long (stopped LongLine) (cond is_cut (stopped LongInput) (ends_with lines))).lines ≡ lines)
at_last true is_cut lines h = absurd (cc)
at_last false true lines h = absurd (cc)
at_last false false lines h = (refl, refl)

at_next : (is_long : Bool) (line : List ℕ) (rest : Reading) → (cond is_long (stopped LongLine) (line_then line rest)).stop ≡ Finished
    → (rest.stop ≡ Finished) × ((cond is_long (stopped LongLine) (line_then line rest)).lines ≡ line ∷ rest.lines)
at_next true line rest h = absurd (cc)
at_next false line rest h = (h, refl)

over_pieces : (max_line : ℕ) (is_cut : Bool) (piece : List ℕ) (later : List (List ℕ)) → (reading_from max_line is_cut (piece ∷ later)).stop ≡ Finished
    → (is_cut ≡ false) × ((reading_from max_line is_cut (piece ∷ later)).lines ≡ lines_from (piece ∷ later))
over_pieces max_line is_cut piece [] h = at_last (nat_lt max_line (length piece)) is_cut (last_lines piece) h
over_pieces max_line is_cut piece (next ∷ later) h =
    let step = at_next (nat_lt max_line (length piece)) (text_of piece) (reading_from max_line is_cut (next ∷ later)) h in
    let rest = over_pieces max_line is_cut next later step.0 in
    (rest.0, step.1 ∙ ap (λ ls. text_of piece ∷ ls) rest.1)

over_split : (max_line : ℕ) (is_cut : Bool) (bytes : List ℕ) → (reading_from max_line is_cut (slice_split is_line_end bytes)).stop ≡ Finished
    → (is_cut ≡ false) × ((reading_from max_line is_cut (slice_split is_line_end bytes)).lines ≡ lines_from (slice_split is_line_end bytes))
over_split max_line is_cut bytes =
    let p = split_first bytes in
    subst (λ (ps : List (List ℕ)). (reading_from max_line is_cut ps).stop ≡ Finished → (is_cut ≡ false) × ((reading_from max_line is_cut ps).lines ≡ lines_from ps))
    (sym p.are) (over_pieces max_line is_cut p.rest p.later)

pub reading_finished : (max_line room : ℕ) (bytes : List ℕ) → (reading_of max_line room bytes).stop ≡ Finished → (reading_of max_line room bytes).lines ≡ lines_of bytes
unfolding reading_of lines_of
reading_finished max_line room bytes h =
    let all = over_split max_line (nat_le room (length bytes)) (take room bytes) h in
    elim (cases_lt (length bytes) room) [
      | inl less ↦ all.1 ∙ ap (λ v. lines_from (slice_split is_line_end v)) (take_all room bytes (omega arith))
      | inr more ↦ absurd (false≢true (sym all.0 ∙ le-leb room (length bytes) more))
    ]
