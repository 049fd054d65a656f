-- Which texts are versions of Python packages, after PEP 440 (Appendix B): they are written
--     [v][epoch!]number{.number}[pre][post][dev][+local]
-- Letters count in any case, and a number is one or more digits, however many. The grammar here is narrower than that of
-- PEP 440's appendix: no blanks are dropped at the ends, and after a word a separator is written before digits alone.
use Rattle.std.specs.Prelude.{◌≡◌, ℕ, Bool, true, false, IsTrue, IfSome, List, [], ◌∷◌, ◌++◌, Option, Some, None, is_some, is_none}
use Rattle.std.specs.List.{flat_map, list_all}
use Rattle.std.specs.Option.{option_to_list}
use Rattle.cv_pep440.specs.Bytes.{BANG, DOT, HYPHEN, PLUS, is_mark, is_number, is_run, is_separator}
use Rattle.cv_pep440.specs.Words.{dev_words, is_word, post_words, rank_of}

-- `[separator]digits`
pub record WrittenNumber : Type 0 where
  pub separator : Option ℕ
  pub digits : List ℕ

-- `[separator]word[[separator]digits]`
pub record WrittenPart : Type 0 where
  pub separator : Option ℕ
  pub word : List ℕ
  pub number : Option WrittenNumber

-- a post-release with a word, or `-digits`
pub data WrittenPost : Type 0 where
  Named : WrittenPart → WrittenPost
  Bare : List ℕ → WrittenPost

-- a run of a local version, after a separator
pub record WrittenRun : Type 0 where
  pub separator : ℕ
  pub run : List ℕ

-- the runs of a local version
pub record WrittenLocal : Type 0 where
  pub first : List ℕ
  pub more : List WrittenRun

-- the parts of a version as they are written
pub record Written : Type 0 where
  pub mark : Option ℕ
  pub epoch : Option (List ℕ)
  pub first : List ℕ
  pub more : List (List ℕ)
  pub pre : Option WrittenPart
  pub post : Option WrittenPost
  pub dev : Option WrittenPart
  pub local : Option WrittenLocal

-- `[epoch!]`
abbrev pub epoch_text : Option (List ℕ) → List ℕ
epoch_text None = []
epoch_text (Some digits) = digits ++ BANG ∷ []

-- `{.number}`
abbrev pub numbers_text : List (List ℕ) → List ℕ
numbers_text numbers = flat_map (λ number. DOT ∷ number) numbers

-- `[[separator]digits]`
abbrev pub number_text : Option WrittenNumber → List ℕ
number_text None = []
number_text (Some number) = option_to_list number.separator ++ number.digits

-- `[separator]word[[separator]digits]`
abbrev pub part_text : WrittenPart → List ℕ
part_text part = option_to_list part.separator ++ (part.word ++ number_text part.number)

-- such a part, or nothing
abbrev pub optional_text : Option WrittenPart → List ℕ
optional_text None = []
optional_text (Some part) = part_text part

-- a post-release, or nothing
abbrev pub post_text : Option WrittenPost → List ℕ
post_text None = []
post_text (Some (Named part)) = part_text part
post_text (Some (Bare digits)) = HYPHEN ∷ digits

-- `{separator run}`
abbrev pub runs_text : List WrittenRun → List ℕ
runs_text runs = flat_map (λ run. run.separator ∷ run.run) runs

-- `[+local]`
abbrev pub local_text : Option WrittenLocal → List ℕ
local_text None = []
local_text (Some local) = PLUS ∷ (local.first ++ runs_text local.more)

-- what comes after a release
abbrev pub suffixes_text : Written → List ℕ
suffixes_text w = optional_text w.pre ++ (post_text w.post ++ (optional_text w.dev ++ local_text w.local))

-- the text of a version
abbrev pub text_of : Written → List ℕ
text_of w = option_to_list w.mark ++ (epoch_text w.epoch ++ (w.first ++ (numbers_text w.more ++ suffixes_text w)))

-- each byte of an optional one is a separator
abbrev pub is_optional_separator : Option ℕ → Bool
is_optional_separator separator = list_all is_separator (option_to_list separator)

-- the number is as the grammar requires
pub record IsNumberWritten (number : WrittenNumber) : Type 0 where
  pub separator : IsTrue (is_optional_separator number.separator)
  pub digits : IsTrue (is_number number.digits)

-- the part is as the grammar requires, where its word passes
pub record IsPartWritten (test : List ℕ → Bool) (part : WrittenPart) : Type 0 where
  pub separator : IsTrue (is_optional_separator part.separator)
  pub word : IsTrue (test part.word)
  pub number : IfSome part.number IsNumberWritten

-- the post-release is as the grammar requires
abbrev pub IsPostWritten : WrittenPost → Type 0
IsPostWritten (Named part) = IsPartWritten (is_word post_words) part
IsPostWritten (Bare digits) = IsTrue (is_number digits)

-- the local version is as the grammar requires
pub record IsLocalWritten (local : WrittenLocal) : Type 0 where
  pub first : IsTrue (is_run local.first)
  pub separators : IsTrue (list_all (λ run. is_separator run.separator) local.more)
  pub runs : IsTrue (list_all (λ run. is_run run.run) local.more)

-- the part has no number
abbrev pub lacks_number : Option WrittenPart → Bool
lacks_number None = false
lacks_number (Some part) = is_none part.number

-- the post-release has no word
abbrev pub is_bare : Option WrittenPost → Bool
is_bare None = false
is_bare (Some (Named part)) = false
is_bare (Some (Bare digits)) = true

-- each part is as the grammar requires. `-digits` right after the word of a pre-release is its number, and no post-release
pub record IsWellWritten (w : Written) : Type 0 where
  pub mark : IsTrue (list_all is_mark (option_to_list w.mark))
  pub epoch : IsTrue (list_all is_number (option_to_list w.epoch))
  pub first : IsTrue (is_number w.first)
  pub more : IsTrue (list_all is_number w.more)
  pub pre : IfSome w.pre (IsPartWritten (λ word. is_some (rank_of word)))
  pub post : IfSome w.post IsPostWritten
  pub dev : IfSome w.dev (IsPartWritten (is_word dev_words))
  pub local : IfSome w.local IsLocalWritten
  pub longest : lacks_number w.pre ≡ true → is_bare w.post ≡ false

-- the text is a version
pub record IsVersion (text : List ℕ) : Type 0 where
  pub written : Written
  pub well : IsWellWritten written
  pub spelled : text ≡ text_of written
