-- Names that are the same.
use Rattle.std.proofs.Common.{◌≡◌, ℕ, List, map, sym}
use Rattle.std.specs.Char.{to_ascii_lowercase}
use Rattle.std.specs.Cmp.Lexicographic.{texts_ties}
use Rattle.std.specs.Ordering.{is_eq}
use Rattle.cv_base.specs.Texts.{same_name}
use Rattle.cv_dpkg.specs.code.Names.{name_cmp}

-- two names are the same where the order puts neither before the other
pub same_by_order : (a b : List ℕ) → is_eq (name_cmp a b) ≡ same_name a b
same_by_order a b = sym (texts_ties (map to_ascii_lowercase a) (map to_ascii_lowercase b))
