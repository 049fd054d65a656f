-- Words for the clauses of private functions: a walk over the numbers of a release and over the runs of a local version.
use Rattle.std.specs.Prelude.{ℕ, ◌+◌, ◌==◌, ◌&&◌, not, if◌then◌else◌, List, [], ◌∷◌, length, Option, Some, None}
use Rattle.std.specs.declared.cmp.Ordering.{Ordering}
use Rattle.cv_order.specs.Digits.{front_while, after_while, number_cmp}
use Rattle.cv_order.specs.Filled.{filled_cmp}
use Rattle.cv_pep440.specs.Bytes.{DOT, is_separator}
use Rattle.cv_pep440.specs.Parts.{begins_with_digit, release_of, runs}

-- the next number of a release, after a dot; nothing, where no digit follows
abbrev pub next_number : List ℕ → List ℕ
next_number [] = []
next_number (c ∷ cs) = if c == DOT && begins_with_digit cs then cs else []

-- what stands before the first separator
abbrev pub front_run : List ℕ → List ℕ
front_run text = front_while (λ byte. not (is_separator byte)) text

-- what follows the first item
abbrev pub rest_of : List ℕ → Option (List ℕ)
rest_of [] = None
rest_of (x ∷ xs) = Some xs

-- what comes after the first separator, where there is one
abbrev pub after_run : List ℕ → Option (List ℕ)
after_run text = rest_of (after_while (λ byte. not (is_separator byte)) text)

-- the runs of what comes after a separator
abbrev pub runs_after : Option (List ℕ) → List (List ℕ)
runs_after None = []
runs_after (Some text) = runs text

-- how much remains to read of a text, if there is one
abbrev pub remaining_len : Option (List ℕ) → ℕ
remaining_len None = 0
remaining_len (Some text) = length text + 1

-- releases number by number, where the one that ends first goes on with empty numbers, which are 0
abbrev pub places_cmp : List ℕ → List ℕ → Ordering
places_cmp a b = filled_cmp number_cmp [] (release_of a) (release_of b)
