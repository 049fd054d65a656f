-- Words for the clauses of private functions: walks over the events of a range, one at a time.
use Rattle.std.specs.Prelude.{ℕ, ◌+◌, Bool, false, not, if◌then◌else◌, List, [], ◌∷◌, Option, Some, None, option_map}
use Rattle.std.specs.List.{list_any}
use Rattle.std.specs.declared.cmp.Ordering.{Ordering}
use Rattle.cv_match_range.specs.declared.placed.Bound.{Bound}
use Rattle.cv_match_range.specs.declared.placed.Bound.TheVariants.{At}
use Rattle.cv_match_range.specs.declared.placed.Placed.{Placed}
use Rattle.cv_match_range.specs.declared.placed.Placed.TheVariants.{Introduced, Fixed, LastAffected, Limit}
use Rattle.cv_match_range.specs.declared.within.Fix.{Fix}
use Rattle.cv_match_range.specs.Within.{ends, le, lt}

-- the later of an introduction and the best so far
abbrev pub later_of : {V : Type 0} → (V → V → Ordering) → Bound V → Option (Bound V) → Bound V
later_of R i None = i
later_of R i (Some b) = if lt R b i then i else b

-- the latest introduction up to v, of the best so far and one more event
abbrev pub later_start : {V : Type 0} → (V → V → Ordering) → V → Option (Bound V) → Placed V → Option (Bound V)
later_start R v best (Introduced i) = if le R i (At v) then Some (later_of R i best) else best
later_start R v best (Fixed f) = best
later_start R v best (LastAffected l) = best
later_start R v best (Limit l) = best

-- and of all that remain
abbrev pub last_start : {V : Type 0} → (V → V → Ordering) → V → Option (Bound V) → List (Placed V) → Option (Bound V)
last_start R v best [] = best
last_start R v best (event ∷ events) = last_start R v (later_start R v best event) events

-- what came in there is still there at v
abbrev pub lasts : {V : Type 0} → (V → V → Ordering) → List (Placed V) → V → Option (Bound V) → Bool
lasts R all v None = false
lasts R all v (Some from) = not (list_any (ends R from v) all)

-- a fix by its place and its version
abbrev pub numbered : {V : Type 0} → Fix V → ℕ × V
numbered f = (f.place, f.version.now)

-- the lesser of the least fix so far and one more
abbrev pub lesser_of : {V : Type 0} → (V → V → Ordering) → Option (ℕ × V) → ℕ → V → ℕ × V
lesser_of R None place f = (place, f)
lesser_of R (Some b) place f = if lt R (At f) (At b.1) then (place, f) else b

-- the least fix above v, of the least so far and one more event
abbrev pub lesser_fix : {V : Type 0} → (V → V → Ordering) → V → Option (ℕ × V) → ℕ → Placed V → Option (ℕ × V)
lesser_fix R v best place (Introduced i) = best
lesser_fix R v best place (Fixed f) = if lt R (At v) (At f) then Some (lesser_of R best place f) else best
lesser_fix R v best place (LastAffected l) = best
lesser_fix R v best place (Limit l) = best

-- and of all that remain, the first of which has this place: its place
abbrev pub least_place : {V : Type 0} → (V → V → Ordering) → V → Option (ℕ × V) → ℕ → List (Placed V) → Option ℕ
least_place R v best place [] = option_map (λ f. f.0) best
least_place R v best place (event ∷ events) = least_place R v (lesser_fix R v best place event) (place + 1) events
