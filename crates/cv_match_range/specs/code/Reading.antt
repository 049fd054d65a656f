-- Words for the clauses of private functions: the events of a range are read one at a time.
use Rattle.std.specs.Prelude.{ℕ, if◌then◌else◌, List, [], ◌∷◌, ◌++◌, Option, Some, None, option_map}
use Rattle.cv_base.specs.declared.«package».PackageKind.{PackageKind}
use Rattle.cv_base.specs.declared.advisory.Turn.{Turn}
use Rattle.cv_match_range.specs.declared.placed.Bound.{Bound}
use Rattle.cv_match_range.specs.declared.placed.Placed.{Placed}
use Rattle.cv_match_range.specs.Within.{is_bound_of, is_readable, placed}

-- a bound, where it can be read
abbrev pub read_bound : PackageKind → Bound (List ℕ) → Option (Bound (List ℕ))
read_bound kind bound = if is_bound_of kind bound then Some bound else None

-- an event, where it can be read
abbrev pub read_event : PackageKind → Turn → Option (Placed (List ℕ))
read_event kind turn = if is_readable kind (placed turn) then Some (placed turn) else None

-- one event before others, where both can be read
abbrev pub cons_read : Option (Placed (List ℕ)) → Option (List (Placed (List ℕ))) → Option (List (Placed (List ℕ)))
cons_read None events = None
cons_read (Some event) events = option_map (λ rest. event ∷ rest) events

-- all events, where each can be read
abbrev pub read_events : PackageKind → List Turn → Option (List (Placed (List ℕ)))
read_events kind [] = Some []
read_events kind (turn ∷ turns) = cons_read (read_event kind turn) (read_events kind turns)

-- what was read stands before what is read of the rest
abbrev pub onto : List (Placed (List ℕ)) → Option (List (Placed (List ℕ))) → Option (List (Placed (List ℕ)))
onto front read = option_map (λ rest. front ++ rest) read
