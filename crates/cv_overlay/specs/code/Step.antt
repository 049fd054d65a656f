-- The first fault of a tree, found by one look at the entry before each. It is shown in `proofs/` that this is the
-- fault of `Fault.antt`, which looks at all entries before.
use Rattle.std.specs.Prelude.{ℕ, ◌+◌, Bool, true, ◌&&◌, ◌||◌, not, List, [], ◌∷◌, Option, Some, None}
use Rattle.std.specs.Option.{option_or}
use Rattle.cv_base.specs.Path.{is_above, same_path, parent_of}
use Rattle.cv_overlay.specs.Fault.{comes_before, fault_by, needs_parent}
use Rattle.cv_overlay.specs.Mark.{Outline}
use Rattle.cv_overlay.specs.declared.fault.TreeFault.{TreeFault}

-- an entry stands after the one before it
abbrev pub follows : Option Outline → Outline → Bool
follows None e = true
follows (Some b) e = comes_before b.path e.path

-- an entry needs no parent, or the entry before it is its parent and a directory, or lies within its parent
abbrev pub stands_by_parent : Option Outline → Outline → Bool
stands_by_parent None e = not (needs_parent e.path)
stands_by_parent (Some b) e =
    not (needs_parent e.path) || (is_above (parent_of e.path) b.path || (b.is_dir && same_path b.path (parent_of e.path)))

-- the fault of the entry at an index, with the entry before it
abbrev pub fault_after : ℕ → Option Outline → Outline → Option TreeFault
fault_after i before e = fault_by (follows before e) (stands_by_parent before e) i e

-- the first fault of entries of which the first has this index, with the entry before them
abbrev pub fault_from : ℕ → Option Outline → List Outline → Option TreeFault
fault_from i before [] = None
fault_from i before (e ∷ es) = option_or (fault_after i before e) (fault_from (i + 1) (Some e) es)
