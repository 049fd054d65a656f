-- Words at the front of a text, in any case: where a text begins with a word of the grammar, that word is found.
use Rattle.std.proofs.Common.{◌≡◌, ℕ, Bool, true, false, not, ◌==◌, ◌&&◌, ◌||◌, if◌then◌else◌, List, [], ◌∷◌, ◌++◌, map, Option, Some, None, is_some, option_map, unwrap_or, refl, ap, sym, ◌∙◌, codes}
use Rattle.std.specs.Char.{to_ascii_lowercase}
use Rattle.std.specs.Option.{option_or}
use Rattle.std.proofs.lemmas.Bool.{and_parts, eqb-true, eq-eqb, not-true}
use lib.Pointwise.{pointwise}
use Rattle.cv_pep440.specs.Words.{alpha_words, beta_words, candidate_words, dev_words, post_words, is_word, rank_of}
use Rattle.cv_pep440.specs.Parts.{Word, after_word, pre_word, word_of}

abbrev pub lower : List ℕ → List ℕ
lower text = map to_ascii_lowercase text

-- the first byte of a text passes, or there is none
abbrev pub starts : (ℕ → Bool) → List ℕ → Bool
starts test [] = true
starts test (c ∷ cs) = test c

-- the text has a first byte, and it passes
abbrev pub opens : (ℕ → Bool) → List ℕ → Bool
opens test [] = false
opens test (c ∷ cs) = test c

pub starts_weaker : (test weaker : ℕ → Bool) → ((c : ℕ) → test c ≡ true → weaker c ≡ true) → (text : List ℕ) → starts test text ≡ true → starts weaker text ≡ true
starts_weaker test weaker up [] h = refl
starts_weaker test weaker up (c ∷ cs) h = up c h

pub opens_weaker : (test weaker : ℕ → Bool) → ((c : ℕ) → test c ≡ true → weaker c ≡ true) → (text : List ℕ) → opens test text ≡ true → opens weaker text ≡ true
opens_weaker test weaker up [] h = cc
opens_weaker test weaker up (c ∷ cs) h = up c h

pub starts-opens : (test : ℕ → Bool) (word text : List ℕ) → opens test word ≡ true → starts test (word ++ text) ≡ true
starts-opens test [] text h = cc
starts-opens test (c ∷ cs) text h = h

-- a byte that is not this letter, in any case
abbrev pub but : ℕ → ℕ → Bool
but letter c = not (to_ascii_lowercase c == letter)

-- a byte that may follow a word: with `l`, `e`, `v` or `c` a word could go on
abbrev pub may_follow : ℕ → Bool
may_follow c = but 108 c && (but 101 c && (but 118 c && but 99 c))

same_is : (xs ys : List ℕ) → pointwise ◌==◌ xs ys ≡ true → xs ≡ ys
same_is [] [] h = refl
same_is [] (y ∷ ys) h = cc
same_is (x ∷ xs) [] h = cc
same_is (x ∷ xs) (y ∷ ys) h =
    let parts = and_parts (x == y) (pointwise ◌==◌ xs ys) h in
    let first = eqb-true x y parts.0 in
    let more = same_is xs ys parts.1 in
    λ i. first i ∷ more i

-- a word at the front of a text is read, and what remains of a longer one is looked for after it
fits : (name word rest text : List ℕ) → lower word ≡ name → after_word (name ++ rest) (word ++ text) ≡ after_word rest text
fits [] [] rest text e = refl
fits [] (c ∷ word) rest text e = absurd (cc e)
fits (n ∷ name) [] rest text e = absurd (cc e)
fits (n ∷ name) (c ∷ word) rest text e =
    let first : to_ascii_lowercase c ≡ n = cc e in
    let more : lower word ≡ name = cc e in
    simp (eq-eqb (to_ascii_lowercase c) n first) (fits name word rest text more)

-- two words that differ before either ends
abbrev mismatch : List ℕ → List ℕ → Bool
mismatch [] word = false
mismatch (n ∷ name) [] = false
mismatch (n ∷ name) (c ∷ word) = if c == n then mismatch name word else true

clash_by : (n c : ℕ) (name word text : List ℕ) (same : Bool) → (to_ascii_lowercase c == n) ≡ same → mismatch (n ∷ name) (lower (c ∷ word)) ≡ true
    → (mismatch name (lower word) ≡ true → after_word name (word ++ text) ≡ None) → after_word (n ∷ name) ((c ∷ word) ++ text) ≡ None
clash_by n c name word text true e h more = simp e (more (simp e at h))
clash_by n c name word text false e h more = simp e

clash : (name word text : List ℕ) → mismatch name (lower word) ≡ true → after_word name (word ++ text) ≡ None
clash [] word text h = absurd (cc h)
clash (n ∷ name) [] text h = absurd (cc h)
clash (n ∷ name) (c ∷ word) text h = clash_by n c name word text (to_ascii_lowercase c == n) refl h (clash name word text)

-- a word whose first letter the text does not begin with
pub no_word : (letter : ℕ) (rest text : List ℕ) → starts (but letter) text ≡ true → after_word (letter ∷ rest) text ≡ None
no_word letter rest [] h = refl
no_word letter rest (c ∷ cs) h = simp (not-true (to_ascii_lowercase c == letter) h)

-- the words of a pre-release, one after the other
abbrev pre_from : Option (List ℕ) → Option (List ℕ) → Option (List ℕ) → Option (List ℕ) → Option (List ℕ) → Option (List ℕ) → Option (List ℕ) → Option (List ℕ) → Option Word
pre_from alpha a beta b preview pre rc c =
    option_or (option_map (λ rest. record { rank = 1; rest = rest }) (option_or alpha (option_or a None)))
    (option_or (option_map (λ rest. record { rank = 2; rest = rest }) (option_or beta (option_or b None)))
    (option_map (λ rest. record { rank = 3; rest = rest }) (option_or preview (option_or pre (option_or rc (option_or c None))))))

abbrev post_from : Option (List ℕ) → Option (List ℕ) → Option (List ℕ) → Option Word
post_from post rev r = option_map (λ rest. record { rank = 0; rest = rest }) (option_or post (option_or rev (option_or r None)))

-- the word is one of two, of three or of four
two : {A : Type 0} (a b : Bool) → (a || (b || false)) ≡ true → (a ≡ true → A) → (b ≡ true → A) → A
two true b h f g = f refl
two false true h f g = g refl
two false false h f g = absurd (cc h)

one : (a : Bool) → (a || false) ≡ true → a ≡ true
one true h = refl
one false h = cc

three : {A : Type 0} (a b c : Bool) → (a || (b || (c || false))) ≡ true → (a ≡ true → A) → (b ≡ true → A) → (c ≡ true → A) → A
three true b c h f g k = f refl
three false b c h f g k = two b c h g k

four : {A : Type 0} (a b c d : Bool) → (a || (b || (c || (d || false)))) ≡ true → (a ≡ true → A) → (b ≡ true → A) → (c ≡ true → A) → (d ≡ true → A) → A
four true b c d h f g k l = f refl
four false b c d h f g k l = three b c d h g k l

module _ (word text : List ℕ) (follow : starts may_follow text ≡ true) where
  not_l : starts (but 108) text ≡ true
  not_l = starts_weaker may_follow (but 108) (λ c h. (and_parts (but 108 c) (but 101 c && (but 118 c && but 99 c)) h).0) text follow

  not_evc : starts (λ c. but 101 c && (but 118 c && but 99 c)) text ≡ true
  not_evc = starts_weaker may_follow (λ c. but 101 c && (but 118 c && but 99 c)) (λ c h. (and_parts (but 108 c) (but 101 c && (but 118 c && but 99 c)) h).1) text follow

  not_e : starts (but 101) text ≡ true
  not_e = starts_weaker (λ c. but 101 c && (but 118 c && but 99 c)) (but 101) (λ c h. (and_parts (but 101 c) (but 118 c && but 99 c) h).0) text not_evc

  not_vc : starts (λ c. but 118 c && but 99 c) text ≡ true
  not_vc = starts_weaker (λ c. but 101 c && (but 118 c && but 99 c)) (λ c. but 118 c && but 99 c) (λ c h. (and_parts (but 101 c) (but 118 c && but 99 c) h).1) text not_evc

  not_v : starts (but 118) text ≡ true
  not_v = starts_weaker (λ c. but 118 c && but 99 c) (but 118) (λ c h. (and_parts (but 118 c) (but 99 c) h).0) text not_vc

  not_c : starts (but 99) text ≡ true
  not_c = starts_weaker (λ c. but 118 c && but 99 c) (but 99) (λ c h. (and_parts (but 118 c) (but 99 c) h).1) text not_vc

  abbrev at_front : List ℕ → Option (List ℕ)
  at_front name = after_word name (word ++ text)

  -- what clashes with a word that is known
  apart : (name known : List ℕ) → lower word ≡ known → mismatch name known ≡ true → at_front name ≡ None
  apart name known e h = clash name word text (ap (mismatch name) e ∙ h)

  alpha_word : is_word alpha_words word ≡ true → pre_word (word ++ text) ≡ Some (record { rank = 1; rest = text })
  alpha_word h = two (pointwise ◌==◌ (lower word) (codes "alpha")) (pointwise ◌==◌ (lower word) (codes "a")) h
      (λ s. let e = same_is (lower word) (codes "alpha") s in
      λ i. pre_from (fits (codes "alpha") word [] text e i) (at_front (codes "a")) (at_front (codes "beta")) (at_front (codes "b")) (at_front (codes "preview")) (at_front (codes "pre")) (at_front (codes "rc")) (at_front (codes "c")))
      (λ s. let e = same_is (lower word) (codes "a") s in
      let alpha : at_front (codes "alpha") ≡ None = fits (codes "a") word (codes "lpha") text e ∙ no_word 108 (codes "pha") text not_l in
      λ i. pre_from (alpha i) (fits (codes "a") word [] text e i) (at_front (codes "beta")) (at_front (codes "b")) (at_front (codes "preview")) (at_front (codes "pre")) (at_front (codes "rc")) (at_front (codes "c")))

  beta_word : is_word beta_words word ≡ true → pre_word (word ++ text) ≡ Some (record { rank = 2; rest = text })
  beta_word h = two (pointwise ◌==◌ (lower word) (codes "beta")) (pointwise ◌==◌ (lower word) (codes "b")) h
      (λ s. let e = same_is (lower word) (codes "beta") s in
      λ i. pre_from (apart (codes "alpha") (codes "beta") e refl i) (apart (codes "a") (codes "beta") e refl i) (fits (codes "beta") word [] text e i) (at_front (codes "b")) (at_front (codes "preview")) (at_front (codes "pre")) (at_front (codes "rc")) (at_front (codes "c")))
      (λ s. let e = same_is (lower word) (codes "b") s in
      let beta : at_front (codes "beta") ≡ None = fits (codes "b") word (codes "eta") text e ∙ no_word 101 (codes "ta") text not_e in
      λ i. pre_from (apart (codes "alpha") (codes "b") e refl i) (apart (codes "a") (codes "b") e refl i) (beta i) (fits (codes "b") word [] text e i) (at_front (codes "preview")) (at_front (codes "pre")) (at_front (codes "rc")) (at_front (codes "c")))

  candidate_word : is_word candidate_words word ≡ true → pre_word (word ++ text) ≡ Some (record { rank = 3; rest = text })
  candidate_word h = four (pointwise ◌==◌ (lower word) (codes "preview")) (pointwise ◌==◌ (lower word) (codes "pre")) (pointwise ◌==◌ (lower word) (codes "rc")) (pointwise ◌==◌ (lower word) (codes "c")) h
      (λ s. let e = same_is (lower word) (codes "preview") s in
      λ i. pre_from (apart (codes "alpha") (codes "preview") e refl i) (apart (codes "a") (codes "preview") e refl i) (apart (codes "beta") (codes "preview") e refl i) (apart (codes "b") (codes "preview") e refl i)
      (fits (codes "preview") word [] text e i) (at_front (codes "pre")) (at_front (codes "rc")) (at_front (codes "c")))
      (λ s. let e = same_is (lower word) (codes "pre") s in
      let preview : at_front (codes "preview") ≡ None = fits (codes "pre") word (codes "view") text e ∙ no_word 118 (codes "iew") text not_v in
      λ i. pre_from (apart (codes "alpha") (codes "pre") e refl i) (apart (codes "a") (codes "pre") e refl i) (apart (codes "beta") (codes "pre") e refl i) (apart (codes "b") (codes "pre") e refl i)
      (preview i) (fits (codes "pre") word [] text e i) (at_front (codes "rc")) (at_front (codes "c")))
      (λ s. let e = same_is (lower word) (codes "rc") s in
      λ i. pre_from (apart (codes "alpha") (codes "rc") e refl i) (apart (codes "a") (codes "rc") e refl i) (apart (codes "beta") (codes "rc") e refl i) (apart (codes "b") (codes "rc") e refl i)
      (apart (codes "preview") (codes "rc") e refl i) (apart (codes "pre") (codes "rc") e refl i) (fits (codes "rc") word [] text e i) (at_front (codes "c")))
      (λ s. let e = same_is (lower word) (codes "c") s in
      λ i. pre_from (apart (codes "alpha") (codes "c") e refl i) (apart (codes "a") (codes "c") e refl i) (apart (codes "beta") (codes "c") e refl i) (apart (codes "b") (codes "c") e refl i)
      (apart (codes "preview") (codes "c") e refl i) (apart (codes "pre") (codes "c") e refl i) (apart (codes "rc") (codes "c") e refl i) (fits (codes "c") word [] text e i))

  ranked : (rank : ℕ) → rank_of word ≡ Some rank → pre_word (word ++ text) ≡ Some (record { rank = rank; rest = text }) → pre_word (word ++ text) ≡ Some (record { rank = unwrap_or (rank_of word) 0; rest = text })
  ranked rank e h = h ∙ sym (ap (λ r. Some (record { rank = unwrap_or r 0; rest = text })) e)

  pre_by : (alpha beta candidate : Bool) → is_word alpha_words word ≡ alpha → is_word beta_words word ≡ beta → is_word candidate_words word ≡ candidate
      → is_some (rank_of word) ≡ true → pre_word (word ++ text) ≡ Some (record { rank = unwrap_or (rank_of word) 0; rest = text })
  pre_by true beta candidate e f g known = ranked 1 (simp e) (alpha_word e)
  pre_by false true candidate e f g known = ranked 2 (simp (e, f)) (beta_word f)
  pre_by false false true e f g known = ranked 3 (simp (e, f, g)) (candidate_word g)
  pre_by false false false e f g known = absurd (cc (simp (e, f, g) at known))

  -- the word of a pre-release is read
  pub pre_word_read : is_some (rank_of word) ≡ true → pre_word (word ++ text) ≡ Some (record { rank = unwrap_or (rank_of word) 0; rest = text })
  pre_word_read known = pre_by (is_word alpha_words word) (is_word beta_words word) (is_word candidate_words word) refl refl refl known

  -- the word of a post-release is read, and is none of a pre-release
  abbrev Post : Type 0
  Post = (word_of 0 post_words (word ++ text) ≡ Some (record { rank = 0; rest = text })) × (pre_word (word ++ text) ≡ None)

  pub post_word_read : is_word post_words word ≡ true → Post
  post_word_read h = three (pointwise ◌==◌ (lower word) (codes "post")) (pointwise ◌==◌ (lower word) (codes "rev")) (pointwise ◌==◌ (lower word) (codes "r")) h
      (λ s. let e = same_is (lower word) (codes "post") s in (
        (λ i. post_from (fits (codes "post") word [] text e i) (at_front (codes "rev")) (at_front (codes "r"))),
        (λ i. pre_from (apart (codes "alpha") (codes "post") e refl i) (apart (codes "a") (codes "post") e refl i) (apart (codes "beta") (codes "post") e refl i) (apart (codes "b") (codes "post") e refl i)
            (apart (codes "preview") (codes "post") e refl i) (apart (codes "pre") (codes "post") e refl i) (apart (codes "rc") (codes "post") e refl i) (apart (codes "c") (codes "post") e refl i)),
      ))
      (λ s. let e = same_is (lower word) (codes "rev") s in (
        (λ i. post_from (apart (codes "post") (codes "rev") e refl i) (fits (codes "rev") word [] text e i) (at_front (codes "r"))),
        (λ i. pre_from (apart (codes "alpha") (codes "rev") e refl i) (apart (codes "a") (codes "rev") e refl i) (apart (codes "beta") (codes "rev") e refl i) (apart (codes "b") (codes "rev") e refl i)
            (apart (codes "preview") (codes "rev") e refl i) (apart (codes "pre") (codes "rev") e refl i) (apart (codes "rc") (codes "rev") e refl i) (apart (codes "c") (codes "rev") e refl i)),
      ))
      (λ s. let e = same_is (lower word) (codes "r") s in
      let rev : at_front (codes "rev") ≡ None = fits (codes "r") word (codes "ev") text e ∙ no_word 101 (codes "v") text not_e in
      let rc : at_front (codes "rc") ≡ None = fits (codes "r") word (codes "c") text e ∙ no_word 99 [] text not_c in (
        (λ i. post_from (apart (codes "post") (codes "r") e refl i) (rev i) (fits (codes "r") word [] text e i)),
        (λ i. pre_from (apart (codes "alpha") (codes "r") e refl i) (apart (codes "a") (codes "r") e refl i) (apart (codes "beta") (codes "r") e refl i) (apart (codes "b") (codes "r") e refl i)
            (apart (codes "preview") (codes "r") e refl i) (apart (codes "pre") (codes "r") e refl i) (rc i) (apart (codes "c") (codes "r") e refl i)),
      ))

  -- the word of a development release is read
  pub dev_word_read : is_word dev_words word ≡ true → word_of 0 dev_words (word ++ text) ≡ Some (record { rank = 0; rest = text })
  dev_word_read h =
      let s : pointwise ◌==◌ (lower word) (codes "dev") ≡ true = one (pointwise ◌==◌ (lower word) (codes "dev")) h in
      let e = same_is (lower word) (codes "dev") s in
      λ i. option_map (λ rest. record { rank = 0; rest = rest }) (option_or (fits (codes "dev") word [] text e i) None)

-- a text that begins with none of these letters begins with no word
pub no_pre_word : (text : List ℕ) → starts (but 97) text ≡ true → starts (but 98) text ≡ true → starts (but 112) text ≡ true → starts (but 114) text ≡ true → starts (but 99) text ≡ true → pre_word text ≡ None
no_pre_word text a b p r c = λ i. pre_from (no_word 97 (codes "lpha") text a i) (no_word 97 [] text a i) (no_word 98 (codes "eta") text b i) (no_word 98 [] text b i)
    (no_word 112 (codes "review") text p i) (no_word 112 (codes "re") text p i) (no_word 114 (codes "c") text r i) (no_word 99 [] text c i)

pub no_post_word : (text : List ℕ) → starts (but 112) text ≡ true → starts (but 114) text ≡ true → word_of 0 post_words text ≡ None
no_post_word text p r = λ i. post_from (no_word 112 (codes "ost") text p i) (no_word 114 (codes "ev") text r i) (no_word 114 [] text r i)

pub no_dev_word : (text : List ℕ) → starts (but 100) text ≡ true → word_of 0 dev_words text ≡ None
no_dev_word text d = λ i. option_map (λ rest. record { rank = 0; rest = rest }) (option_or (no_word 100 (codes "ev") text d i) None)

-- the letters that begin a word of the grammar, in lower case
abbrev pub part_letter : ℕ → Bool
part_letter x = x == 97 || (x == 98 || (x == 99 || (x == 100 || (x == 112 || x == 114))))

-- those of a post-release and a development release, and `+`
abbrev pub later_byte : ℕ → Bool
later_byte x = x == 112 || (x == 114 || (x == 100 || x == 43))

-- that of a development release, and `+`
abbrev pub dev_byte : ℕ → Bool
dev_byte x = x == 100 || x == 43

-- the first letter of a word passes a test
opens_letter : (test : ℕ → Bool) (letter : ℕ) (rest word : List ℕ) → lower word ≡ letter ∷ rest → test letter ≡ true → opens (λ c. test (to_ascii_lowercase c)) word ≡ true
opens_letter test letter rest [] e h = absurd (cc e)
opens_letter test letter rest (c ∷ cs) e h = let first : to_ascii_lowercase c ≡ letter = cc e in ap test first ∙ h

module _ (word : List ℕ) where
  abbrev Opens : Type 0
  Opens = opens (λ c. part_letter (to_ascii_lowercase c)) word ≡ true

  letter : (first : ℕ) (rest : List ℕ) → pointwise ◌==◌ (lower word) (first ∷ rest) ≡ true → part_letter first ≡ true → Opens
  letter first rest s h = opens_letter part_letter first rest word (same_is (lower word) (first ∷ rest) s) h

  alpha_opens : is_word alpha_words word ≡ true → Opens
  alpha_opens h = two (pointwise ◌==◌ (lower word) (codes "alpha")) (pointwise ◌==◌ (lower word) (codes "a")) h (λ s. letter 97 (codes "lpha") s refl) (λ s. letter 97 [] s refl)

  beta_opens : is_word beta_words word ≡ true → Opens
  beta_opens h = two (pointwise ◌==◌ (lower word) (codes "beta")) (pointwise ◌==◌ (lower word) (codes "b")) h (λ s. letter 98 (codes "eta") s refl) (λ s. letter 98 [] s refl)

  candidate_opens : is_word candidate_words word ≡ true → Opens
  candidate_opens h = four (pointwise ◌==◌ (lower word) (codes "preview")) (pointwise ◌==◌ (lower word) (codes "pre")) (pointwise ◌==◌ (lower word) (codes "rc")) (pointwise ◌==◌ (lower word) (codes "c")) h
      (λ s. letter 112 (codes "review") s refl) (λ s. letter 112 (codes "re") s refl) (λ s. letter 114 (codes "c") s refl) (λ s. letter 99 [] s refl)

  opens_by : (alpha beta candidate : Bool) → is_word alpha_words word ≡ alpha → is_word beta_words word ≡ beta → is_word candidate_words word ≡ candidate → is_some (rank_of word) ≡ true → Opens
  opens_by true beta candidate e f g known = alpha_opens e
  opens_by false true candidate e f g known = beta_opens f
  opens_by false false true e f g known = candidate_opens g
  opens_by false false false e f g known = absurd (cc (simp (e, f, g) at known))

  -- a word begins with one of these letters
  pub pre_word_opens : is_some (rank_of word) ≡ true → Opens
  pre_word_opens known = opens_by (is_word alpha_words word) (is_word beta_words word) (is_word candidate_words word) refl refl refl known

  pub post_word_opens : is_word post_words word ≡ true → opens (λ c. later_byte (to_ascii_lowercase c)) word ≡ true
  post_word_opens h = three (pointwise ◌==◌ (lower word) (codes "post")) (pointwise ◌==◌ (lower word) (codes "rev")) (pointwise ◌==◌ (lower word) (codes "r")) h
      (λ s. opens_letter later_byte 112 (codes "ost") word (same_is (lower word) (codes "post") s) refl)
      (λ s. opens_letter later_byte 114 (codes "ev") word (same_is (lower word) (codes "rev") s) refl)
      (λ s. opens_letter later_byte 114 [] word (same_is (lower word) (codes "r") s) refl)

  pub dev_word_opens : is_word dev_words word ≡ true → opens (λ c. dev_byte (to_ascii_lowercase c)) word ≡ true
  dev_word_opens h = opens_letter dev_byte 100 (codes "ev") word (same_is (lower word) (codes "dev") (one (pointwise ◌==◌ (lower word) (codes "dev")) h)) refl
