-- How the text of a version is cut, and the test for versions by its parts: the build number comes after the only hyphen,
-- the suffixes after the underscores before it, and the numbers between the dots before those. Each cut is defined for any
-- text, and the test passes exactly the texts of the grammar.
use Rattle.std.specs.Prelude.{ℕ, Bool, true, false, not, ◌&&◌, ◌==◌, List, [], ◌∷◌, Option, Some, None, is_some}
use Rattle.std.specs.List.{list_all, slice_split}
use Rattle.cv_order.specs.Digits.{is_digit, front_while, after_while, front_digits, after_digits}
use Rattle.cv_apkver.specs.Grammar.{DOT, UNDERSCORE, HYPHEN, BUILD_MARK, is_letter, is_number, rank_of}

-- what comes before the first byte c: all of it, if there is none
abbrev pub before : ℕ → List ℕ → List ℕ
before c text = front_while (λ x. not (x == c)) text

-- what follows the first item
abbrev pub rest_of : List ℕ → Option (List ℕ)
rest_of [] = None
rest_of (x ∷ xs) = Some xs

-- what comes after the first byte c, where there is one
abbrev pub after : ℕ → List ℕ → Option (List ℕ)
after c text = rest_of (after_while (λ x. not (x == c)) text)

-- the pieces of a text between the bytes c
abbrev pub pieces : ℕ → List ℕ → List (List ℕ)
pieces c text = slice_split (λ x. x == c) text

-- the pieces of what comes after a byte: none, where it does not stand
abbrev pub pieces_after : ℕ → Option (List ℕ) → List (List ℕ)
pieces_after c None = []
pieces_after c (Some text) = pieces c text

-- `number{.number}[letter]`: what stands before the suffixes and the build number
abbrev pub release_part : List ℕ → List ℕ
release_part text = before UNDERSCORE (before HYPHEN text)

-- each `suffix[number]`, in order
abbrev pub suffix_parts : List ℕ → List (List ℕ)
suffix_parts text = pieces_after UNDERSCORE (after UNDERSCORE (before HYPHEN text))

-- `rnumber`, where a build number is given
abbrev pub build_part : List ℕ → Option (List ℕ)
build_part text = after HYPHEN text

-- the longest run of lower-case letters at the front of a text
abbrev pub front_letters : List ℕ → List ℕ
front_letters text = front_while is_letter text

-- what comes after those letters
abbrev pub after_letters : List ℕ → List ℕ
after_letters text = after_while is_letter text

-- one letter or nothing
abbrev pub is_letter_or_nothing : List ℕ → Bool
is_letter_or_nothing [] = true
is_letter_or_nothing (c ∷ []) = is_letter c
is_letter_or_nothing (c ∷ d ∷ ds) = false

-- `number[letter]`
abbrev pub is_last_number : List ℕ → Bool
is_last_number text = is_number (front_digits text) && is_letter_or_nothing (after_digits text)

-- `number{.number}[letter]`, by its pieces between the dots
abbrev pub is_release : List (List ℕ) → Bool
is_release [] = false
is_release (last ∷ []) = is_last_number last
is_release (number ∷ next ∷ more) = is_number number && is_release (next ∷ more)

-- `suffix[number]`
abbrev pub is_suffix : List ℕ → Bool
is_suffix text = is_some (rank_of (front_letters text)) && list_all is_digit (after_letters text)

-- nothing, or `rnumber`
abbrev pub is_build : Option (List ℕ) → Bool
is_build None = true
is_build (Some []) = false
is_build (Some (mark ∷ number)) = mark == BUILD_MARK && is_number number

-- the text is a version
abbrev pub is_version : List ℕ → Bool
is_version text = is_release (pieces DOT (release_part text)) && (list_all is_suffix (suffix_parts text) && is_build (build_part text))
