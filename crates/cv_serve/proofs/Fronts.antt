-- The rounds of the lines that ended among the bytes that were taken.
use Rattle.std.specs.Prelude.{◌≡◌, ℕ, false, List, [], ◌∷◌, ◌++◌, map, refl}
use Rattle.std.specs.List.{AllByRecursion, slice_split}
use Rattle.std.proofs.Common.{ap, append_assoc, append-nil, subst, sym, ◌∙◌}
use Rattle.std.proofs.lemmas.List.Splits.{slice_split_at, slice_split_none}
use Rattle.cv_base.specs.Lines.{numbered}
use Rattle.cv_io.specs.Lines.{HasNoLineEnd, LF, is_line_end, lines_of, pieces_of, text_of}
use Rattle.cv_io.proofs.Lines.{Pieces, lines_of-line, lines_of-nil, split_first}
use Rattle.cv_scan_input.specs.Unrefused.{IsPiece, ended_lines}
use Rattle.cv_serve_legal.specs.Rounds.{cut_lines, round_limits, rounds_of}
use Rattle.cv_serve_legal.specs.Rounds as rounds

pub one_line : (piece rest more : List ℕ) → ((piece ++ LF ∷ []) ++ rest) ++ more ≡ piece ++ LF ∷ (rest ++ more)
one_line piece rest more = append_assoc (piece ++ LF ∷ []) rest more ∙ append_assoc piece (LF ∷ []) (rest ++ more)

-- whole lines, and then those of the rest
pub lines_ended : (pieces : List (List ℕ)) (rest : List ℕ) → AllByRecursion IsPiece pieces → lines_of (ended_lines pieces ++ rest) ≡ map text_of pieces ++ lines_of rest
lines_ended [] rest h = refl
lines_ended (piece ∷ pieces) rest h =
    ap lines_of (one_line piece (ended_lines pieces) rest) ∙ lines_of-line piece (ended_lines pieces ++ rest) h.0.whole
    ∙ ap (λ texts. text_of piece ∷ texts) (lines_ended pieces rest h.1)

pub lines_all : (pieces : List (List ℕ)) → AllByRecursion IsPiece pieces → lines_of (ended_lines pieces) ≡ map text_of pieces
lines_all pieces h =
    ap lines_of (sym (append-nil (ended_lines pieces))) ∙ lines_ended pieces [] h ∙ ap (λ last. map text_of pieces ++ last) lines_of-nil ∙ append-nil (map text_of pieces)

ended_first : (piece bytes : List ℕ) → Pieces [] bytes
    → rounds.ended_lines (piece ∷ slice_split is_line_end bytes) ≡ text_of piece ∷ rounds.ended_lines (slice_split is_line_end bytes)
ended_first piece bytes p = subst (λ (pieces : List (List ℕ)). rounds.ended_lines (piece ∷ pieces) ≡ text_of piece ∷ rounds.ended_lines pieces) (sym p.are) refl

-- the lines that ended are those before the line that has begun
ended_texts : (pieces : List (List ℕ)) (begun : List ℕ) → AllByRecursion IsPiece pieces → HasNoLineEnd begun
    → rounds.ended_lines (pieces_of (ended_lines pieces ++ begun)) ≡ map text_of pieces
ended_texts [] begun h none = ap rounds.ended_lines (slice_split_none is_line_end begun none)
ended_texts (piece ∷ pieces) begun h none =
    let rest : List ℕ = ended_lines pieces ++ begun in
    ap (λ bytes. rounds.ended_lines (pieces_of bytes)) (one_line piece (ended_lines pieces) begun)
    ∙ ap rounds.ended_lines (slice_split_at is_line_end piece LF rest h.0.whole refl)
    ∙ ended_first piece rest (split_first rest)
    ∙ ap (λ texts. text_of piece ∷ texts) (ended_texts pieces begun h.1 none)

pub rounds_ended : (pieces : List (List ℕ)) (begun : List ℕ) (texts : List (List ℕ)) → AllByRecursion IsPiece pieces → HasNoLineEnd begun → map text_of pieces ≡ texts
    → rounds_of round_limits (ended_lines pieces ++ begun) false ≡ (cut_lines round_limits (numbered 1 texts)).rounds
rounds_ended pieces begun texts h none texts_are =
    ap (λ lines. (cut_lines round_limits (numbered 1 lines)).rounds) (ended_texts pieces begun h none ∙ texts_are)
