-- The order of field names is total. Names that differ but in the case of ASCII letters are equal in it.
use Rattle.std.specs.Prelude.{map}
use Rattle.std.specs.Char.{to_ascii_lowercase}
use Rattle.std.specs.Cmp.{IsTotalOrder, on_total}
use Rattle.std.specs.Cmp.Lexicographic.{nat_list_cmp_total}
use Rattle.std.specs.Ordering.{on}
use Rattle.std.specs.declared.cmp.Ordering.{Ordering}
use Rattle.cv_dpkg.specs.code.Names.{name_cmp}
use Rattle.cv_dpkg.specs.declared.names.FieldName.{FieldName}

-- names as the code holds them, by what they read
abbrev pub field_name_cmp : FieldName → FieldName → Ordering
field_name_cmp = on (λ n. n.text.now) name_cmp

-- field names are in a total order
pub field_name_total : IsTotalOrder field_name_cmp
field_name_total = on_total (λ (n : FieldName). n.text.now) (on_total (map to_ascii_lowercase) nat_list_cmp_total)
