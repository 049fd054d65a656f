-- The words of a value, one after the other.
use Rattle.std.proofs.Common.{◌≡◌, ℕ, Bool, true, false, ◌&&◌, if◌then◌else◌, not, List, [], ◌∷◌, Option, None, Some, refl, sym, ap, ◌∙◌}
use Rattle.std.specs.List.{filter}
use Rattle.std.specs.Option.{is_some, option_and_then, option_map}
use Rattle.cv_base.specs.Cuts.{cut, is_blank}
use Rattle.cv_base.specs.Texts.{is_nil}
use Rattle.cv_base.proofs.Cuts.{pieces, split_cut}
use Rattle.cv_dpkg.specs.Fields.{is_state, state_of, third_state, words}
use Rattle.cv_dpkg.specs.code.NextWord.{next_word, state_by, third_by, word_at, word_by}

-- the words that follow from the first one
abbrev pub words_by : Option (List ℕ × List ℕ) → List (List ℕ)
words_by None = []
words_by (Some p) = p.0 ∷ words p.1

abbrev is_long : List ℕ → Bool
is_long w = not (is_nil w)

first_by : (x : ℕ) (xs : List ℕ) (c : Option (List ℕ × List ℕ)) → filter is_long (pieces is_blank (x ∷ xs) (option_map (λ p. (x ∷ p.0, p.1)) c))
    ≡ words_by (Some (word_by (x ∷ xs) (option_map (λ p. (x ∷ p.0, p.1)) c)))
first_by x xs None = refl
first_by x xs (Some c) = refl

first_word : (x : ℕ) (xs : List ℕ) → is_blank x ≡ false → words (x ∷ xs) ≡ words_by (word_at (x ∷ xs))
first_word x xs e = ap (filter is_long) (split_cut is_blank (x ∷ xs)) ∙ simp e (first_by x xs (cut is_blank xs))

-- the words of a text follow from its first one
next_words : (t : List ℕ) → words t ≡ words_by (next_word t)
next_words [] = refl
next_words (x ∷ xs) = by (is_blank x) refl (next_words xs) where
  by : (b : Bool) → is_blank x ≡ b → words xs ≡ words_by (next_word xs) → words (x ∷ xs) ≡ words_by (next_word (x ∷ xs))
  by true e h = simp e h
  by false e h = first_word x xs e ∙ simp e refl

third_none : (c : List ℕ × List ℕ) (n : Option (List ℕ × List ℕ)) (a b : List ℕ) → (if not (is_some n) && is_state c.0 then Some c.0 else None) ≡ third_state (a ∷ b ∷ c.0 ∷ words_by n)
third_none c None a b = refl
third_none c (Some d) a b = refl

third_is : (a b : List ℕ) (n : Option (List ℕ × List ℕ)) → option_and_then third_by n ≡ third_state (a ∷ b ∷ words_by n)
third_is a b None = refl
third_is a b (Some c) = third_none c (next_word c.1) a b ∙ ap (λ ws. third_state (a ∷ b ∷ c.0 ∷ ws)) (sym (next_words c.1))

second_is : (a : List ℕ) (n : Option (List ℕ × List ℕ)) → option_and_then (λ b. option_and_then third_by (next_word b.1)) n ≡ third_state (a ∷ words_by n)
second_is a None = refl
second_is a (Some b) = third_is a b.0 (next_word b.1) ∙ ap (λ ws. third_state (a ∷ b.0 ∷ ws)) (sym (next_words b.1))

first_is : (n : Option (List ℕ × List ℕ)) → option_and_then (λ a. option_and_then (λ b. option_and_then third_by (next_word b.1)) (next_word a.1)) n ≡ third_state (words_by n)
first_is None = refl
first_is (Some a) = second_is a.0 (next_word a.1) ∙ ap (λ ws. third_state (a.0 ∷ ws)) (sym (next_words a.1))

-- the state that is read word by word is that of the value
pub state_steps : (t : List ℕ) → state_by t ≡ state_of t
state_steps t = first_is (next_word t) ∙ ap third_state (sym (next_words t))
