-- Which texts are versions of Alpine packages, after apk-package(5): they are written
--     number{.number}[letter]{_suffix[number]}[-rnumber]
-- A number is one or more digits, however many; the letter is one of a to z; the suffix is one of a table. apk itself knows
-- a commit hash after `~` too; in this profile such a text is not a valid version.
use Rattle.std.specs.Prelude.{◌≡◌, ℕ, Bool, false, ◌==◌, IsTrue, if◌then◌else◌, List, [], ◌∷◌, ◌++◌, Option, Some, None, is_some, codes}
use Rattle.std.specs.Char.{is_ascii_lowercase}
use Rattle.std.specs.List.{AllByRecursion, flat_map, list_all}
use Rattle.std.specs.Option.{option_to_list}
use lib.Pointwise.{pointwise}
use Rattle.cv_order.specs.Digits.{is_digit}

-- the byte `.`, before each number but the first
abbrev pub DOT : ℕ
DOT = 46

-- the byte `_`, before each suffix
abbrev pub UNDERSCORE : ℕ
UNDERSCORE = 95

-- the byte `-`, before the build number
abbrev pub HYPHEN : ℕ
HYPHEN = 45

-- the byte `r` after it
abbrev pub BUILD_MARK : ℕ
BUILD_MARK = 114

-- a letter from a to z
abbrev pub is_letter : ℕ → Bool
is_letter byte = is_ascii_lowercase byte

-- digits, one or more, and nothing else
abbrev pub is_number : List ℕ → Bool
is_number [] = false
is_number (c ∷ cs) = list_all is_digit (c ∷ cs)

-- the word is this one
abbrev pub same_word : List ℕ → List ℕ → Bool
same_word word name = pointwise ◌==◌ word name

-- the rank of a suffix, where its word is one of the table; 4 is the rank of the end of the suffixes
abbrev pub rank_of : List ℕ → Option ℕ
rank_of word =
    if same_word word (codes "alpha") then Some 0
    else if same_word word (codes "beta") then Some 1
    else if same_word word (codes "pre") then Some 2
    else if same_word word (codes "rc") then Some 3
    else if same_word word (codes "cvs") then Some 5
    else if same_word word (codes "svn") then Some 6
    else if same_word word (codes "git") then Some 7
    else if same_word word (codes "hg") then Some 8
    else if same_word word (codes "p") then Some 9
    else None

-- `suffix[number]`; no digits, where the number is absent
pub record WrittenSuffix : Type 0 where
  pub word : List ℕ
  pub digits : List ℕ

-- the parts of a version as they are written
pub record Written : Type 0 where
  pub first : List ℕ
  pub more : List (List ℕ)
  pub letter : Option ℕ
  pub suffixes : List WrittenSuffix
  pub build : Option (List ℕ)

-- `number{.number}[letter]`
abbrev pub release_text : List ℕ → List (List ℕ) → Option ℕ → List ℕ
release_text first more letter = first ++ (flat_map (λ number. DOT ∷ number) more ++ option_to_list letter)

-- `suffix[number]`
abbrev pub suffix_text : WrittenSuffix → List ℕ
suffix_text s = s.word ++ s.digits

-- `{_suffix[number]}`
abbrev pub suffixes_text : List WrittenSuffix → List ℕ
suffixes_text suffixes = flat_map (λ s. UNDERSCORE ∷ suffix_text s) suffixes

-- `[-rnumber]`
abbrev pub build_text : Option (List ℕ) → List ℕ
build_text None = []
build_text (Some number) = HYPHEN ∷ BUILD_MARK ∷ number

-- the text of a version
abbrev pub text_of : Written → List ℕ
text_of w = release_text w.first w.more w.letter ++ (suffixes_text w.suffixes ++ build_text w.build)

-- the word is letters, one of the table, and the number, if present, is digits
pub record IsSuffixWritten (s : WrittenSuffix) : Type 0 where
  pub letters : IsTrue (list_all is_letter s.word)
  pub known : IsTrue (is_some (rank_of s.word))
  pub digits : IsTrue (list_all is_digit s.digits)

-- each part is as the grammar requires
pub record IsWellWritten (w : Written) : Type 0 where
  pub first : IsTrue (is_number w.first)
  pub more : IsTrue (list_all is_number w.more)
  pub letter : IsTrue (list_all is_letter (option_to_list w.letter))
  pub suffixes : AllByRecursion IsSuffixWritten w.suffixes
  pub build : IsTrue (list_all is_number (option_to_list w.build))

-- the text is a version
pub record IsVersion (text : List ℕ) : Type 0 where
  pub written : Written
  pub well : IsWellWritten written
  pub spelled : text ≡ text_of written
