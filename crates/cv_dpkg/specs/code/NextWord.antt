-- The words of a text one after the other, as the code reads them. `proofs/` shows that these are the words of `Fields.antt`.
use Rattle.std.specs.Prelude.{ℕ, ◌&&◌, if◌then◌else◌, not, List, [], ◌∷◌, Option, None, Some}
use Rattle.std.specs.Option.{is_some, option_and_then}
use Rattle.cv_base.specs.Cuts.{cut, is_blank, without_front}
use Rattle.cv_dpkg.specs.Fields.{is_state}

-- a word up to a blank or to the end
abbrev pub word_by : List ℕ → Option (List ℕ × List ℕ) → List ℕ × List ℕ
word_by text None = (text, [])
word_by text (Some p) = p

-- a word at the front of a text that no blank leads
abbrev pub word_at : List ℕ → Option (List ℕ × List ℕ)
word_at [] = None
word_at (x ∷ xs) = Some (word_by (x ∷ xs) (cut is_blank (x ∷ xs)))

-- the first word, and what stands after it
abbrev pub next_word : List ℕ → Option (List ℕ × List ℕ)
next_word text = word_at (without_front is_blank text)

-- the last of three words
abbrev pub third_by : List ℕ × List ℕ → Option (List ℕ)
third_by p = if not (is_some (next_word p.1)) && is_state p.0 then Some p.0 else None

-- the state, word by word
abbrev pub state_by : List ℕ → Option (List ℕ)
state_by text = option_and_then (λ a. option_and_then (λ b. option_and_then third_by (next_word b.1)) (next_word a.1)) (next_word text)
