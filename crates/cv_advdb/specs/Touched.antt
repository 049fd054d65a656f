-- The keys that are touched when other records take the place of those of a feed (defined by this project): those under which a
-- record was added, removed or changed.
use Rattle.std.specs.Prelude.{◌≡◌, Bool, true, false, List, filter, Some}
use Rattle.std.specs.List.{list_any}
use Rattle.std.specs.List.Sorted.{IsStrictlySortedBy}
use Rattle.cv_base.specs.declared.advisory.Advisory.{Advisory}
use Rattle.cv_base.specs.declared.«package».Package.{Package}
use Rattle.cv_base.specs.declared.«package».PackageName.{PackageName}
use Rattle.cv_match.specs.Keys.{is_key, is_named, keys_of, name_cmp}

-- the key is one of these names
abbrev pub has_name : PackageName → List PackageName → Bool
has_name key names = list_any (λ name. is_key key (Some name)) names

-- a package has one of these keys
abbrev pub is_touched : List PackageName → Package → Bool
is_touched touched p = list_any (λ key. has_name key touched) (keys_of p)

-- the records that name the key
abbrev pub records_under : PackageName → List Advisory → List Advisory
records_under key records = filter (is_named key) records

-- the keys that are touched where `after` takes the place of `before`: exactly those under which other records stand. They are
-- sorted by ecosystem and then by name, each once
pub record IsTouched (before after : List Advisory) (keys : List PackageName) : Type 0 where
  pub sorted : IsStrictlySortedBy name_cmp keys
  pub touched : (key : PackageName) → has_name key keys ≡ true → ¬ (records_under key before ≡ records_under key after)
  pub untouched : (key : PackageName) → has_name key keys ≡ false → records_under key before ≡ records_under key after
