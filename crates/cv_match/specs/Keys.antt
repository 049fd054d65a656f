-- The names under which the records about a package are looked up (defined by this project, after the way in which the
-- ecosystem of a record matches that of a package).
use Rattle.std.specs.Prelude.{ℕ, Bool, false, if◌then◌else◌, List, [], ◌∷◌, filter, map, Option, Some, None}
use Rattle.std.specs.Cmp.Lexicographic.{slice_cmp}
use Rattle.std.specs.List.{list_any}
use Rattle.std.specs.Ordering.{is_eq, nat_cmp, on, then_cmp}
use Rattle.std.specs.declared.cmp.Ordering.{Ordering}
use Rattle.cv_base.specs.Texts.{same}
use Rattle.cv_base.specs.declared.advisory.Advisory.{Advisory}
use Rattle.cv_base.specs.declared.«package».Package.{Package}
use Rattle.cv_base.specs.declared.«package».PackageName.{PackageName}
use Rattle.cv_match.specs.Affects.{family, key_name}

-- names of packages in order, by ecosystem and then by name
abbrev pub name_cmp : PackageName → PackageName → Ordering
name_cmp = then_cmp (on (λ n. n.ecosystem) (slice_cmp nat_cmp)) (on (λ n. n.name) (slice_cmp nat_cmp))

-- an affected entry is about the package of this name
abbrev pub is_key : PackageName → Option PackageName → Bool
is_key key None = false
is_key key (Some name) = is_eq (name_cmp name key)

-- a record has an entry about the package of this name
abbrev pub is_named : PackageName → Advisory → Bool
is_named key a = list_any (λ entry. is_key key entry.«package») a.affected

-- the name with the whole ecosystem of the package
abbrev pub whole_key : Package → PackageName
whole_key p = record { ecosystem = p.ecosystem; name = key_name p }

-- the name with the part of the ecosystem before the first colon
abbrev pub family_key : Package → PackageName
family_key p = record { ecosystem = family p.ecosystem; name = key_name p }

-- the keys of a package: these two names, and one where they are equal
abbrev pub keys_of : Package → List PackageName
keys_of p = if same (family p.ecosystem) p.ecosystem then whole_key p ∷ [] else whole_key p ∷ family_key p ∷ []

-- a record names one of the keys of the package
abbrev pub is_about : Package → Advisory → Bool
is_about p a = list_any (λ key. is_named key a) (keys_of p)

-- the records of each feed that name one of its keys
abbrev pub feeds_about : Package → List (List ℕ × List Advisory) → List (List ℕ × List Advisory)
feeds_about p feeds = map (λ (feed : List ℕ × List Advisory). (feed.0, filter (is_about p) feed.1)) feeds
