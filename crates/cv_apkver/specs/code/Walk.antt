-- Words for the clauses of private functions: a walk over suffixes, one at a time.
use Rattle.std.specs.Prelude.{ℕ, ◌+◌, List, [], ◌∷◌, length, Option, Some, None}
use Rattle.cv_apkver.specs.Order.{Suffix, suffix_end, suffix_of}

-- the suffix of the first piece, or the end
abbrev pub first_suffix : List (List ℕ) → Suffix
first_suffix [] = suffix_end
first_suffix (part ∷ parts) = suffix_of part

-- how much remains to read of a text, if there is one
abbrev pub remaining_len : Option (List ℕ) → ℕ
remaining_len None = 0
remaining_len (Some text) = length text + 1
