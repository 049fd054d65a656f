-- The events of a range are read one at a time.
use Rattle.std.proofs.Common.{◌≡◌, ℕ, Bool, true, false, ◌&&◌, if◌then◌else◌, List, [], ◌∷◌, ◌++◌, map, Option, Some, None, refl, sym, append_assoc}
use Rattle.std.specs.List.{list_all}
use Rattle.cv_base.specs.declared.«package».PackageKind.{PackageKind}
use Rattle.cv_base.specs.declared.advisory.Range.{Range}
use Rattle.cv_base.specs.declared.advisory.Turn.{Turn}
use Rattle.cv_match_range.specs.declared.placed.Placed.{Placed}
use Rattle.cv_match_range.specs.code.Reading.{cons_read, onto, read_event, read_events}
use Rattle.cv_match_range.specs.ReadRange.{events_of}
use Rattle.cv_match_range.specs.Within.{belongs, is_readable, placed}

-- one event more was read
pub onto_more : (kind : PackageKind) (front : List (Placed (List ℕ))) (turn : Turn) (turns : List Turn) (event : Placed (List ℕ))
    → Some event ≡ read_event kind turn → onto (front ++ event ∷ []) (read_events kind turns) ≡ onto front (read_events kind (turn ∷ turns))
onto_more kind front turn turns event h = rw (sym h) (joined (read_events kind turns)) where
  joined : (read : Option (List (Placed (List ℕ)))) → onto (front ++ event ∷ []) read ≡ onto front (cons_read (Some event) read)
  joined None = refl
  joined (Some rest) = rw append_assoc refl

-- an event that cannot be read ends it
pub onto_none : (kind : PackageKind) (front : List (Placed (List ℕ))) (turn : Turn) (turns : List Turn)
    → None ≡ read_event kind turn → onto front (read_events kind (turn ∷ turns)) ≡ None
onto_none kind front turn turns h = rw (sym h) refl

-- all events are read where each can be
all_read : (kind : PackageKind) (turns : List Turn)
    → read_events kind turns ≡ (if list_all (λ t. is_readable kind (placed t)) turns then Some (map placed turns) else None)
all_read kind [] = refl
all_read kind (turn ∷ turns) = rw (all_read kind turns) (by_event (is_readable kind (placed turn)) (list_all (λ t. is_readable kind (placed t)) turns)) where
  by_event : (here rest : Bool) → cons_read (if here then Some (placed turn) else None) (if rest then Some (map placed turns) else None)
      ≡ (if here && rest then Some (placed turn ∷ map placed turns) else None)
  by_event true true = refl
  by_event true false = refl
  by_event false true = refl
  by_event false false = refl

-- the range is read where its type belongs to the kind
pub events_read : (kind : PackageKind) (range : Range) → belongs kind range.kind ≡ true → events_of kind range ≡ read_events kind range.turns
events_read kind range h = rw (h, all_read kind range.turns) refl

-- and else nothing is in it
pub no_events : (kind : PackageKind) (range : Range) → belongs kind range.kind ≡ false → events_of kind range ≡ None
no_events kind range h = rw h refl
