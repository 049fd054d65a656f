-- Which fix of a range is the least one above a version (defined by this project).
use Rattle.std.specs.Prelude.{ℕ, Bool, false, not, ◌&&◌, List, Option, Some, None}
use Rattle.std.specs.List.{list_any}
use Rattle.std.specs.declared.cmp.Ordering.{Ordering}
use Rattle.cv_match_range.specs.declared.placed.Placed.{Placed}
use Rattle.cv_match_range.specs.declared.placed.Placed.TheVariants.{Introduced, Fixed, LastAffected, Limit}
use Rattle.cv_match_range.specs.declared.placed.Bound.TheVariants.{At}
use Rattle.cv_match_range.specs.Within.{lt}

-- a fix that is above v and below f
abbrev pub is_fix_between : {V : Type 0} → (V → V → Ordering) → V → V → Placed V → Bool
is_fix_between R v f (Introduced i) = false
is_fix_between R v f (Fixed g) = lt R (At v) (At g) && lt R (At g) (At f)
is_fix_between R v f (LastAffected l) = false
is_fix_between R v f (Limit l) = false

-- a fix above v, and none of all is above v and below it
abbrev pub is_least_fix : {V : Type 0} → (V → V → Ordering) → List (Placed V) → V → Placed V → Bool
is_least_fix R all v (Introduced i) = false
is_least_fix R all v (Fixed f) = lt R (At v) (At f) && not (list_any (is_fix_between R v f) all)
is_least_fix R all v (LastAffected l) = false
is_least_fix R all v (Limit l) = false

-- the version of a fix
abbrev pub fix_text : Placed (List ℕ) → Option (List ℕ)
fix_text (Introduced i) = None
fix_text (Fixed f) = Some f
fix_text (LastAffected l) = None
fix_text (Limit l) = None
