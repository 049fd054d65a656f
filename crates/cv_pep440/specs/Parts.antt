-- How the text of a Python version is read, from the left: each part is as long as it can be, and where a part is absent, the
-- next one begins in its place. So each of these functions is defined for any text. The texts of the grammar are read in full,
-- into the parts from which they are written.
use Rattle.std.specs.Prelude.{ℕ, Bool, true, false, ◌==◌, ◌&&◌, if◌then◌else◌, List, [], ◌∷◌, Option, Some, None, option_map}
use Rattle.std.specs.Char.{to_ascii_lowercase}
use Rattle.std.specs.List.{list_all, onto_first, slice_split}
use Rattle.std.specs.Option.{option_or}
use Rattle.cv_order.specs.Digits.{is_digit, front_digits, after_digits}
use Rattle.cv_order.specs.Filled.{later}
use Rattle.cv_pep440.specs.Bytes.{BANG, DOT, HYPHEN, PLUS, is_mark, is_run, is_separator}
use Rattle.cv_pep440.specs.Words.{ALPHA_RANK, BETA_RANK, CANDIDATE_RANK, ONLY_RANK, alpha_words, beta_words, candidate_words, dev_words, post_words}

-- the text begins with this byte
abbrev pub begins_with : ℕ → List ℕ → Bool
begins_with byte [] = false
begins_with byte (c ∷ cs) = c == byte

-- the text begins with a digit
abbrev pub begins_with_digit : List ℕ → Bool
begins_with_digit [] = false
begins_with_digit (c ∷ cs) = is_digit c

-- what comes after the optional `v`
abbrev pub after_mark : List ℕ → List ℕ
after_mark [] = []
after_mark (c ∷ cs) = if is_mark c then cs else c ∷ cs

-- `epoch!`: digits and a `!`
abbrev pub has_epoch : List ℕ → Bool
has_epoch text = begins_with_digit text && begins_with BANG (after_digits text)

-- the digits of the epoch, none where it is absent
abbrev pub epoch_of : List ℕ → List ℕ
epoch_of text = if has_epoch text then front_digits text else []

-- what comes after the epoch
abbrev pub after_epoch : List ℕ → List ℕ
after_epoch text = if has_epoch text then later (after_digits text) else text

-- the numbers of the release, each by its digits: a dot that a digit follows begins another one
abbrev pub release_of : List ℕ → List (List ℕ)
release_of [] = [] ∷ []
release_of (c ∷ cs) =
    if is_digit c then onto_first c (release_of cs)
    else if c == DOT && begins_with_digit cs then [] ∷ release_of cs
    else [] ∷ []

-- what comes after the release
abbrev pub after_release : List ℕ → List ℕ
after_release [] = []
after_release (c ∷ cs) =
    if is_digit c then after_release cs
    else if c == DOT && begins_with_digit cs then after_release cs
    else c ∷ cs

-- what comes after the optional separator
abbrev pub after_separator : List ℕ → List ℕ
after_separator [] = []
after_separator (c ∷ cs) = if is_separator c then cs else c ∷ cs

-- what comes after the word, which is in lower case, where the text begins with it in any case
abbrev pub after_word : List ℕ → List ℕ → Option (List ℕ)
after_word [] text = Some text
after_word (w ∷ word) [] = None
after_word (w ∷ word) (c ∷ text) = if to_ascii_lowercase c == w then after_word word text else None

-- what comes after the first of these words that the text begins with
abbrev pub after_any : List (List ℕ) → List ℕ → Option (List ℕ)
after_any [] text = None
after_any (word ∷ words) text = option_or (after_word word text) (after_any words text)

-- a word by its rank among the words of a part, and what comes after it
pub record Word : Type 0 where
  pub rank : ℕ
  pub rest : List ℕ

-- one of these words, which have this rank
abbrev pub word_of : ℕ → List (List ℕ) → List ℕ → Option Word
word_of rank words text = option_map (λ rest. record { rank = rank; rest = rest }) (after_any words text)

-- the word of a pre-release
abbrev pub pre_word : List ℕ → Option Word
pre_word text = option_or (word_of ALPHA_RANK alpha_words text) (option_or (word_of BETA_RANK beta_words text) (word_of CANDIDATE_RANK candidate_words text))

-- a part of a version by the rank of its word and the digits of its number, none where it is absent; and what comes after it
pub record Part : Type 0 where
  pub rank : ℕ
  pub number : List ℕ
  pub rest : List ℕ

-- `[separator]digits`, the number after a word
abbrev pub number_of : List ℕ → List ℕ
number_of text = front_digits (after_separator text)

-- what comes after that number; where no digits stand, a separator is no part of it
abbrev pub after_number : List ℕ → List ℕ
after_number text = if begins_with_digit (after_separator text) then after_digits (after_separator text) else text

-- the number that stands after the word belongs to it
abbrev pub with_number : Option Word → Option Part
with_number word = option_map (λ w. record { rank = w.rank; number = number_of w.rest; rest = after_number w.rest }) word

-- `[separator]word[[separator]digits]` of a pre-release
abbrev pub pre_of : List ℕ → Option Part
pre_of text = with_number (pre_word (after_separator text))

-- `-digits`, a post-release without a word
abbrev pub bare_post_of : List ℕ → Option Part
bare_post_of [] = None
bare_post_of (c ∷ cs) =
    if c == HYPHEN && begins_with_digit cs then Some (record { rank = ONLY_RANK; number = front_digits cs; rest = after_digits cs }) else None

-- `-digits`, or `[separator]word[[separator]digits]` of a post-release
abbrev pub post_of : List ℕ → Option Part
post_of text = option_or (bare_post_of text) (with_number (word_of ONLY_RANK post_words (after_separator text)))

-- `[separator]word[[separator]digits]` of a development release
abbrev pub dev_of : List ℕ → Option Part
dev_of text = with_number (word_of ONLY_RANK dev_words (after_separator text))

-- what comes after a part, if the text begins with it
abbrev pub after_part : Option Part → List ℕ → List ℕ
after_part None text = text
after_part (Some part) text = part.rest

-- the runs of a local version, between separators
abbrev pub runs : List ℕ → List (List ℕ)
runs text = slice_split is_separator text

-- nothing, or `+` and the runs of a local version
abbrev pub is_local : List ℕ → Bool
is_local [] = true
is_local (c ∷ cs) = c == PLUS && list_all is_run (runs cs)

-- the runs of the local version, where there is one
abbrev pub local_of : List ℕ → Option (List (List ℕ))
local_of [] = None
local_of (c ∷ cs) = Some (runs cs)

-- where the release begins
abbrev pub release_text : List ℕ → List ℕ
release_text text = after_epoch (after_mark text)

-- the optional parts after the release, and what comes after them
pub record Tail : Type 0 where
  pub pre : Option Part
  pub post : Option Part
  pub dev : Option Part
  pub rest : List ℕ

-- the parts before are known: the text begins with a development release or none
abbrev pub tail_at_dev : Option Part → Option Part → List ℕ → Tail
tail_at_dev pre post text = record { pre = pre; post = post; dev = dev_of text; rest = after_part (dev_of text) text }

-- the text begins with a post-release or none
abbrev pub tail_at_post : Option Part → List ℕ → Tail
tail_at_post pre text = tail_at_dev pre (post_of text) (after_part (post_of text) text)

-- the text begins with a pre-release or none
abbrev pub tail_of : List ℕ → Tail
tail_of text = tail_at_post (pre_of text) (after_part (pre_of text) text)

-- the text is a version
abbrev pub is_version : List ℕ → Bool
is_version text = begins_with_digit (release_text text) && is_local ((tail_of (after_release (release_text text))).rest)
