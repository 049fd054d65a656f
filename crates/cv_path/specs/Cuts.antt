-- Texts cut at a byte, and what is dropped at their ends (defined by this project).
use Rattle.std.specs.Prelude.{ℕ, Bool, false, ◌||◌, ◌==◌, if◌then◌else◌, List, [], ◌∷◌, Option, None, Some}
use Rattle.std.specs.Option.{option_map}

-- what stands before the first byte that passes a test, and what after it
abbrev pub cut : (ℕ → Bool) → List ℕ → Option (List ℕ × List ℕ)
cut passes [] = None
cut passes (x ∷ xs) = if passes x then Some ([], xs) else option_map (λ p. (x ∷ p.0, p.1)) (cut passes xs)

-- the byte at the end of a line
abbrev pub is_lf : ℕ → Bool
is_lf byte = byte == 10

-- a blank is a space or a tab
abbrev pub is_blank : ℕ → Bool
is_blank byte = byte == 32 || byte == 9

-- a text begins with a blank
abbrev pub begins_with_blank : List ℕ → Bool
begins_with_blank [] = false
begins_with_blank (x ∷ xs) = is_blank x

-- a text without the bytes at its front that are to be dropped
abbrev pub without_front : (ℕ → Bool) → List ℕ → List ℕ
without_front drops [] = []
without_front drops (x ∷ xs) = if drops x then without_front drops xs else x ∷ xs

-- what is dropped at the end of a line: blanks and CRs
abbrev pub is_dropped : ℕ → Bool
is_dropped byte = is_blank byte || byte == 13

-- a byte before what is kept after it: the byte is dropped if nothing is kept after it and it is to be dropped
abbrev pub keep : (ℕ → Bool) → ℕ → List ℕ → List ℕ
keep drops x [] = if drops x then [] else x ∷ []
keep drops x (y ∷ ys) = x ∷ y ∷ ys

-- a text without the bytes at its end that are to be dropped
abbrev pub without_end : (ℕ → Bool) → List ℕ → List ℕ
without_end drops [] = []
without_end drops (x ∷ xs) = keep drops x (without_end drops xs)
