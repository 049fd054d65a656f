-- The order of Python versions by their keys, after PEP 440 ("Summary of permitted suffixes and relative ordering" and "Local version
-- identifiers").
use Rattle.std.specs.Prelude.{ℕ, Bool, ◌==◌, if◌then◌else◌, List, [], ◌∷◌, map, Option, Some, None}
use Rattle.std.specs.Char.{to_ascii_lowercase}
use Rattle.std.specs.List.{list_all}
use Rattle.std.specs.declared.cmp.Ordering.{Ordering}
use Rattle.std.specs.Ordering.{on, then_cmp, nat_cmp}
use Rattle.std.specs.Option.{option_cmp}
use Rattle.std.specs.Cmp.{IsTotalOrder, on_total, then_total, nat_cmp_total}
use Rattle.std.specs.Cmp.Lexicographic.{slice_cmp, lists_total, options_total}
use Rattle.cv_order.specs.Digits.{is_digit, number_cmp, number_total}
use Rattle.cv_pep440.specs.Key.{Key, Ranked, key_of}

-- the digits are zeros, 48, or none
abbrev pub is_zero : List ℕ → Bool
is_zero digits = list_all (λ byte. byte == 48) digits

-- the number before these, unless it is a zero and the last
abbrev pub unless_last_zero : List ℕ → List (List ℕ) → List (List ℕ)
unless_last_zero number [] = if is_zero number then [] else number ∷ []
unless_last_zero number (next ∷ numbers) = number ∷ next ∷ numbers

-- the numbers of a release without the zeros at its end
abbrev pub without_last_zeros : List (List ℕ) → List (List ℕ)
without_last_zeros [] = []
without_last_zeros (number ∷ numbers) = unless_last_zero number (without_last_zeros numbers)

-- releases number by number, without the zeros at their ends; a release that goes on from another is greater
abbrev pub release_cmp : List (List ℕ) → List (List ℕ) → Ordering
release_cmp = on without_last_zeros (slice_cmp number_cmp)

-- by rank and then by number
abbrev pub ranked_cmp : Ranked → Ranked → Ordering
ranked_cmp = then_cmp (on (λ r. r.rank) nat_cmp) (on (λ r. r.number) number_cmp)

-- a development release by rank: it stands before a version that is none
abbrev pub dev_key : Option (List ℕ) → Ranked
dev_key (Some number) = record { rank = 0; number = number }
dev_key None = record { rank = 1; number = [] }

-- a run of a local version: a run with a letter, of rank 0, by its letters in lower case, and a run of digits by its number
pub record Run : Type 0 where
  pub rank : ℕ
  pub letters : List ℕ
  pub number : List ℕ

-- the run of these bytes
abbrev pub run_key : List ℕ → Run
run_key text = if list_all is_digit text then record { rank = 1; letters = []; number = text } else record { rank = 0; letters = map to_ascii_lowercase text; number = [] }

-- a run with a letter is less than a run of digits
abbrev pub run_cmp : Run → Run → Ordering
run_cmp = then_cmp (on (λ r. r.rank) nat_cmp) (then_cmp (on (λ r. r.letters) (slice_cmp nat_cmp)) (on (λ r. r.number) number_cmp))

-- local versions run by run; one that goes on from another is greater
abbrev pub local_cmp : List (List ℕ) → List (List ℕ) → Ordering
local_cmp = slice_cmp (on run_key run_cmp)

-- by pre-release; by post-release, where none is least; by development release, where none is greatest; by local version,
-- where none is least
abbrev pub suffixes_cmp : Key → Key → Ordering
suffixes_cmp = then_cmp (on (λ k. k.pre) ranked_cmp)
    (then_cmp (on (λ k. k.post) (option_cmp number_cmp)) (then_cmp (on (λ k. dev_key k.dev) ranked_cmp) (on (λ k. k.local) (option_cmp local_cmp))))

-- by epoch, by release, and by what comes after
abbrev pub key_cmp : Key → Key → Ordering
key_cmp = then_cmp (on (λ k. k.epoch) number_cmp) (then_cmp (on (λ k. k.release) release_cmp) suffixes_cmp)

-- the order of versions
abbrev pub version_cmp : List ℕ → List ℕ → Ordering
version_cmp = on key_of key_cmp

-- ranks and numbers are in a total order
pub ranked_total : IsTotalOrder ranked_cmp
ranked_total = then_total (on_total (λ r. r.rank) nat_cmp_total) (on_total (λ r. r.number) number_total)

-- runs likewise
pub run_total : IsTotalOrder run_cmp
run_total = then_total (on_total (λ r. r.rank) nat_cmp_total) (then_total (on_total (λ r. r.letters) (lists_total nat_cmp_total)) (on_total (λ r. r.number) number_total))

-- what comes after a release likewise
pub suffixes_total : IsTotalOrder suffixes_cmp
suffixes_total = then_total (on_total (λ k. k.pre) ranked_total)
    (then_total (on_total (λ k. k.post) (options_total number_total))
    (then_total (on_total (λ k. dev_key k.dev) ranked_total) (on_total (λ k. k.local) (options_total (lists_total (on_total run_key run_total))))))

-- keys likewise
pub key_total : IsTotalOrder key_cmp
key_total = then_total (on_total (λ k. k.epoch) number_total) (then_total (on_total (λ k. k.release) (on_total without_last_zeros (lists_total number_total))) suffixes_total)

-- versions likewise
pub version_total : IsTotalOrder version_cmp
version_total = on_total key_of key_total
