-- A range of an advisory once its events are read: by their versions, or by the texts of these. One in which nothing can lie has no
-- events.
use Rattle.std.specs.Prelude.{ℕ, Bool, false, if◌then◌else◌, List, map, Option, Some, None, option_map}
use Rattle.std.specs.List.{position_from}
use Rattle.std.specs.declared.cmp.Ordering.{Ordering}
use Rattle.cv_base.specs.declared.«package».PackageKind.{PackageKind}
use Rattle.cv_base.specs.declared.advisory.Range.{Range}
use Rattle.cv_match_range.specs.declared.placed.Bound.{Bound}
use Rattle.cv_match_range.specs.declared.placed.Bound.TheVariants.{Start, At, End}
use Rattle.cv_match_range.specs.declared.placed.Placed.{Placed}
use Rattle.cv_match_range.specs.declared.placed.Placed.TheVariants.{Introduced, Fixed, LastAffected, Limit}
use Rattle.cv_match_range.specs.Fix.{is_least_fix}
use Rattle.cv_match_range.specs.Within.{holds, is_range_of, placed}

-- a bound by the text of its version
abbrev pub bound_text : {V : Type 0} → (V → List ℕ) → Bound V → Bound (List ℕ)
bound_text text Start = Start
bound_text text (At version) = At (text version)
bound_text text End = End

-- an event by the text of its version
abbrev pub event_text : {V : Type 0} → (V → List ℕ) → Placed V → Placed (List ℕ)
event_text text (Introduced i) = Introduced (bound_text text i)
event_text text (Fixed f) = Fixed (text f)
event_text text (LastAffected l) = LastAffected (text l)
event_text text (Limit l) = Limit (bound_text text l)

-- a range by the texts of its versions
abbrev pub range_text : {V : Type 0} → (V → List ℕ) → Option (List (Placed V)) → Option (List (Placed (List ℕ)))
range_text text range = option_map (map (event_text text)) range

-- the events of a range, where something can lie in it
abbrev pub events_of : PackageKind → Range → Option (List (Placed (List ℕ)))
events_of kind range = if is_range_of kind range then Some (map placed range.turns) else None

-- the version is within the range
abbrev pub range_holds : (List ℕ → List ℕ → Ordering) → List ℕ → Option (List (Placed (List ℕ))) → Bool
range_holds R version None = false
range_holds R version (Some events) = holds R events version

-- the place of the least fix of a range above the version
abbrev pub fix_in : (List ℕ → List ℕ → Ordering) → List ℕ → Option (List (Placed (List ℕ))) → Option ℕ
fix_in R version None = None
fix_in R version (Some events) = position_from (is_least_fix R events version) 0 events
