-- Chosen keys in ascending order, around one key.
use Rattle.std.specs.Prelude.{◌≡◌, Bool, List}
use Rattle.std.specs.List.Sorted.{IsStrictlySortedBy}
use Rattle.std.specs.declared.cmp.Ordering.{Ordering}
use Rattle.std.specs.declared.cmp.Ordering.TheVariants.{Less}
use Rattle.cv_tree.specs.Entries.{IsAscending, is_among}

-- the chosen keys ascend, and those of the entries
pub record AreAscending {K V : Type 0} (cmp : K → K → Ordering) (keys : List K) (es : List (K × V)) : Type 0 where
  pub chosen : IsStrictlySortedBy cmp keys
  pub entries : IsAscending cmp es

-- which of the keys may stand left of a key, whether it is one of them, and which may stand right of it
pub record IsAround {K : Type 0} (cmp : K → K → Ordering) (keys : List K) (key : K) (before : List K) (here : Bool) (after : List K) : Type 0 where
  pub before_ascends : IsStrictlySortedBy cmp before
  pub after_ascends : IsStrictlySortedBy cmp after
  pub left : (k : K) → cmp k key ≡ Less → is_among cmp keys k ≡ is_among cmp before k
  pub middle : here ≡ is_among cmp keys key
  pub right : (k : K) → cmp key k ≡ Less → is_among cmp keys k ≡ is_among cmp after k
