-- Lines and readings, computed.
use Rattle.std.specs.Prelude.{◌≡◌, ℕ, List, [], ◌∷◌, ◌++◌, codes, refl}
use Rattle.cv_io.specs.Lines.{LF, CR, lines_of, Finished, LongLine, LongInput, stopped, line_then, reading_of}

abbrev lf : List ℕ
lf = LF ∷ []

abbrev crlf : List ℕ
crlf = CR ∷ LF ∷ []

-- each LF ends a line, an empty one too, and the CR before it is dropped
ends : lines_of (codes "a" ++ lf ++ lf ++ codes "b" ++ crlf) ≡ codes "a" ∷ [] ∷ codes "b" ∷ []
unfolding lines_of
ends = refl

-- one CR is dropped, and only at the end
carriage : lines_of (codes "a" ++ CR ∷ codes "b" ++ CR ∷ CR ∷ LF ∷ []) ≡ (codes "a" ++ CR ∷ codes "b" ++ CR ∷ []) ∷ []
unfolding lines_of
carriage = refl

-- what stands after the last LF is a line, with its CR dropped
last : lines_of (codes "a" ++ lf ++ codes "b" ++ CR ∷ []) ≡ codes "a" ∷ codes "b" ∷ []
unfolding lines_of
last = refl

-- a last piece that is only a CR is an empty line, and no bytes are no line
alone : lines_of (CR ∷ []) ≡ [] ∷ []
unfolding lines_of
alone = refl

none : lines_of [] ≡ []
unfolding lines_of
none = refl

-- a line may have as many bytes as the limit says, its CR among them, and no more
long_line : reading_of 4 100 (codes "abcd" ++ lf ++ codes "abcde" ++ lf) ≡ line_then (codes "abcd") (stopped LongLine)
unfolding reading_of
long_line = refl

long_with_cr : reading_of 4 100 (codes "abc" ++ crlf ++ codes "abcd" ++ crlf) ≡ line_then (codes "abc") (stopped LongLine)
unfolding reading_of
long_with_cr = refl

-- an input has fewer bytes than its limit
long_input : reading_of 4 5 (codes "abcd" ++ lf) ≡ line_then (codes "abcd") (stopped LongInput)
unfolding reading_of
long_input = refl

whole_input : reading_of 4 6 (codes "abcd" ++ lf) ≡ line_then (codes "abcd") (stopped Finished)
unfolding reading_of
whole_input = refl

-- the byte that stands first decides, and of two limits at one byte the line's
line_at_same_byte : reading_of 4 5 (codes "abcde") ≡ stopped LongLine
unfolding reading_of
line_at_same_byte = refl

input_at_earlier_byte : reading_of 4 4 (codes "abcde") ≡ stopped LongInput
unfolding reading_of
input_at_earlier_byte = refl
