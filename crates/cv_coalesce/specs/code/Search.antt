-- What a search for a front of a path finds in a sorted list of paths.
use Rattle.std.specs.Prelude.{◌≡◌, ℕ, ◌<◌, ◌≤◌, Bool, true, false, List, length, take, Option, Some, None}
use Rattle.std.specs.List.{list_any}
use Rattle.std.specs.Ordering.{is_lt}
use Rattle.cv_base.specs.Path.{Path, path_cmp, same_path}
use Rattle.cv_coalesce.specs.declared.search.Front.{Front}
use Rattle.cv_coalesce.specs.declared.search.Front.TheVariants.{Found, Missing, Last}

-- a list has the front of a path of this depth
abbrev pub has_front : List Path → Path → ℕ → Bool
has_front ts p depth = list_any (λ (t : Path). same_path t (take depth p)) ts

-- a front of this depth was found, or is missing, or it and all longer ones are
abbrev pub IsFront : List Path → Path → ℕ → Front → Type 0
IsFront ts p depth Found = has_front ts p depth ≡ true
IsFront ts p depth Missing = has_front ts p depth ≡ false
IsFront ts p depth Last = (k : ℕ) → depth ≤ k → k < length p → has_front ts p k ≡ false

-- a path, if there is one, comes before another one
abbrev pub is_lower : Option Path → Path → Bool
is_lower None p = false
is_lower (Some t) p = is_lt (path_cmp t p)
