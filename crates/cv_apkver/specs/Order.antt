-- The order of versions of Alpine packages, by keys, after apk. A key is read from any text. Where the text is a version
-- it is that of the parts from which the version is written. Unlike in apk itself, leading zeros never count.
use Rattle.std.specs.Prelude.{ℕ, List, [], ◌∷◌, map, find, Option, Some, None, unwrap_or}
use Rattle.std.specs.declared.cmp.Ordering.{Ordering}
use Rattle.std.specs.Ordering.{on, then_cmp, nat_cmp}
use Rattle.std.specs.Option.{option_cmp}
use Rattle.std.specs.Cmp.{IsTotalOrder, on_total, then_total, nat_cmp_total}
use Rattle.std.specs.Cmp.Lexicographic.{slice_cmp, lists_total, options_total}
use Rattle.cv_order.specs.Digits.{front_digits, number_cmp, number_total}
use Rattle.cv_order.specs.Filled.{filled_cmp, filled_total}
use Rattle.cv_apkver.specs.Grammar.{DOT, Written, is_letter, rank_of}
use Rattle.cv_apkver.specs.Parts.{pieces, release_part, suffix_parts, build_part, front_letters, after_letters}

-- a suffix by its rank and the digits of its number, none where it is absent
pub record Suffix : Type 0 where
  pub rank : ℕ
  pub number : List ℕ

-- what decides how a version compares: its numbers, its letter, its suffixes and its build number. Each number is given by
-- its digits, and an absent one by none
pub record Key : Type 0 where
  pub numbers : List (List ℕ)
  pub letter : Option ℕ
  pub suffixes : List Suffix
  pub build : List ℕ

-- the end of the suffixes, as a suffix: it stands between `rc` and `cvs`
abbrev pub suffix_end : Suffix
suffix_end = record { rank = 4; number = [] }

-- the suffix of this word and these digits; a word that is not of the table gets the rank of the end
abbrev pub suffix_from : List ℕ → List ℕ → Suffix
suffix_from word digits = record { rank = unwrap_or (rank_of word) 4; number = digits }

-- the key of a version by the parts from which it is written
abbrev pub written_key : Written → Key
written_key w = record {
  numbers = w.first ∷ w.more;
  letter = w.letter;
  suffixes = map (λ s. suffix_from s.word s.digits) w.suffixes;
  build = unwrap_or w.build [];
}

-- the suffix of a piece `suffix[number]`
abbrev pub suffix_of : List ℕ → Suffix
suffix_of text = suffix_from (front_letters text) (front_digits (after_letters text))

-- the digits of each number
abbrev pub digits_of : List (List ℕ) → List (List ℕ)
digits_of parts = map front_digits parts

-- the digits of the build number, none where it is absent
abbrev pub build_digits : Option (List ℕ) → List ℕ
build_digits None = []
build_digits (Some []) = []
build_digits (Some (mark ∷ number)) = front_digits number

-- the key of a version from its whole text
abbrev pub key_of : List ℕ → Key
key_of text = record {
  numbers = digits_of (pieces DOT (release_part text));
  letter = find is_letter (release_part text);
  suffixes = map suffix_of (suffix_parts text);
  build = build_digits (build_part text);
}

-- by rank and then by number
abbrev pub suffix_cmp : Suffix → Suffix → Ordering
suffix_cmp = then_cmp (on (λ s. s.rank) nat_cmp) (on (λ s. s.number) number_cmp)

-- lists of suffixes, place by place, where the list that ends goes on with the end
abbrev pub suffixes_cmp : List Suffix → List Suffix → Ordering
suffixes_cmp = filled_cmp suffix_cmp suffix_end

-- by the numbers, where the list that ends first is less; by the letter, where none is least; by the suffixes; by the build
-- number
abbrev pub key_cmp : Key → Key → Ordering
key_cmp = then_cmp (on (λ k. k.numbers) (slice_cmp number_cmp))
    (then_cmp (on (λ k. k.letter) (option_cmp nat_cmp)) (then_cmp (on (λ k. k.suffixes) suffixes_cmp) (on (λ k. k.build) number_cmp)))

-- the order of versions
abbrev pub version_cmp : List ℕ → List ℕ → Ordering
version_cmp = on key_of key_cmp

-- any two suffixes compare, transitively, and turned round in reverse
pub suffix_total : IsTotalOrder suffix_cmp
suffix_total = then_total (on_total (λ s. s.rank) nat_cmp_total) (on_total (λ s. s.number) number_total)

-- keys likewise
pub key_total : IsTotalOrder key_cmp
key_total = then_total (on_total (λ k. k.numbers) (lists_total number_total))
    (then_total (on_total (λ k. k.letter) (options_total nat_cmp_total))
    (then_total (on_total (λ k. k.suffixes) (filled_total suffix_end suffix_total)) (on_total (λ k. k.build) number_total)))

-- versions likewise
pub version_total : IsTotalOrder version_cmp
version_total = on_total key_of key_total
