-- The order of field names by which the names of a paragraph are found again, and a field as the code holds it.
use Rattle.std.specs.Prelude.{ℕ, List, map}
use Rattle.std.specs.Char.{to_ascii_lowercase}
use Rattle.std.specs.Cmp.Lexicographic.{slice_cmp}
use Rattle.std.specs.Ordering.{nat_cmp, on}
use Rattle.std.specs.declared.cmp.Ordering.{Ordering}
use Rattle.cv_dpkg.specs.Fields.{Pair}
use Rattle.cv_dpkg.specs.declared.field.Entry.{Entry}

-- names are ordered by their bytes with ASCII letters in lower case
abbrev pub name_cmp : List ℕ → List ℕ → Ordering
name_cmp = on (map to_ascii_lowercase) (slice_cmp nat_cmp)

-- a field as the code holds it
abbrev pub entry_of : Entry → Pair
entry_of e = record { name = e.name.now; value = e.value.now }
