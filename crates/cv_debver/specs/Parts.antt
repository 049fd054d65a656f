-- How an upstream version or a revision is compared, after Debian Policy 5.6.12: it is cut into pairs of a part without
-- digits and the digits after it, each as long as it can be, and the first pair that differs decides; the shorter list goes
-- on with empty pairs.
use Rattle.std.specs.Prelude.{ℕ, ◌+◌, not, zero, suc, List, [], ◌∷◌, length, map, if◌then◌else◌, ◌==◌}
use Rattle.std.specs.Char.{is_ascii_alphabetic}
use Rattle.std.specs.declared.cmp.Ordering.{Ordering}
use Rattle.std.specs.Ordering.{nat_cmp, on, then_cmp}
use Rattle.std.specs.Cmp.{IsTotalOrder, on_total, then_total, nat_cmp_total}
use Rattle.cv_order.specs.Digits.{is_digit, front_while, after_while, front_digits, after_digits, number_cmp, number_total}
use Rattle.cv_order.specs.Filled.{filled_cmp, filled_total}

-- a part without digits, here a word, and the digits after it; either may be empty
pub data Pair : Type 0 where
  of : List ℕ → List ℕ → Pair

-- the part without digits
abbrev pub word : Pair → List ℕ
word (of letters figures) = letters

-- the digits after it
abbrev pub number : Pair → List ℕ
number (of letters figures) = figures

-- the longest part without digits that a text begins with
abbrev pub front_word : List ℕ → List ℕ
front_word text = front_while (λ byte. not (is_digit byte)) text

-- what comes after that part
abbrev pub after_word : List ℕ → List ℕ
after_word text = after_while (λ byte. not (is_digit byte)) text

-- the first pair of a text: the longest part without digits, then the longest run of digits
abbrev pub first_pair : List ℕ → Pair
first_pair text = of (front_word text) (front_digits (after_word text))

-- what comes after the first pair
abbrev pub after_pair : List ℕ → List ℕ
after_pair text = after_digits (after_word text)

-- the pairs that a text begins with, at most this many
abbrev pub first_pairs : ℕ → List ℕ → List Pair
first_pairs count [] = []
first_pairs zero (byte ∷ rest) = []
first_pairs (suc count) (byte ∷ rest) = first_pair (byte ∷ rest) ∷ first_pairs count (after_pair (byte ∷ rest))

-- all pairs of a text, which are no more than its bytes
abbrev pub pairs : List ℕ → List Pair
pairs text = first_pairs (length text) text

-- what a byte of a word weighs: `~`, which is 126, less than the word's end, the end less than a letter, a letter less than
-- any other byte. Policy's numbers are -1, 0, the code and the code plus 256; here each is one higher, so that none is negative.
abbrev pub weight_of : ℕ → ℕ
weight_of byte = if byte == 126 then 0 else (if is_ascii_alphabetic byte then byte + 1 else byte + 257)

-- the end of a word
abbrev pub end_weight : ℕ
end_weight = 1

-- words by their weights, the shorter one going on with its end
abbrev pub word_cmp : List ℕ → List ℕ → Ordering
word_cmp = on (map weight_of) (filled_cmp nat_cmp end_weight)

-- the word, then the digits as a number, of which an empty run is 0
abbrev pub pair_cmp : Pair → Pair → Ordering
pair_cmp = then_cmp (on word word_cmp) (on number number_cmp)

-- the first pair that differs decides, the shorter list going on with empty pairs
abbrev pub part_cmp : List ℕ → List ℕ → Ordering
part_cmp = on pairs (filled_cmp pair_cmp (of [] []))

-- words are in a total order
pub word_total : IsTotalOrder word_cmp
word_total = on_total (map weight_of) (filled_total end_weight nat_cmp_total)

-- pairs are in a total order
pub pair_total : IsTotalOrder pair_cmp
pair_total = then_total (on_total word word_total) (on_total number number_total)

-- parts are in a total order
pub part_total : IsTotalOrder part_cmp
part_total = on_total pairs (filled_total (of [] []) pair_total)
