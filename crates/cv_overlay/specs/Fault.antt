-- When a tree is good, after the OCI image specification 1.1, layer.md: a changeset names each path once, and the
-- directories of an entry. Defined by this project: the order of paths, that a parent stands before its entries as a
-- directory, the limit of entries, that a bad mark is refused, and which of several faults is named.
use Rattle.std.specs.Prelude.{ℕ, ◌+◌, Bool, true, false, ◌&&◌, ◌||◌, not, nat_lt, if◌then◌else◌, List, [], ◌∷◌, length, map, Option, Some, None}
use Rattle.std.specs.List.{list_all, list_any}
use Rattle.std.specs.declared.cmp.Ordering.{Ordering}
use Rattle.std.specs.declared.cmp.Ordering.TheVariants.{Less, Equal, Greater}
use Rattle.std.specs.Option.{option_or}
use Rattle.cv_base.specs.Path.{Path, path_cmp, same_path, parent_of}
use Rattle.cv_base.specs.declared.limits.TheConstants.{MAX_ENTRIES}
use Rattle.cv_base.specs.declared.tree.ListEntry.{ListEntry}
use Rattle.cv_base.specs.declared.tree.TreeEntry.{TreeEntry}
use Rattle.cv_overlay.specs.Mark.{Outline, listed, outline, is_bad}
use Rattle.cv_overlay.specs.declared.fault.TreeFault.{TreeFault}
use Rattle.cv_overlay.specs.declared.fault.TreeFault.TheVariants.{Unsorted, NoParent, BadMark, TooMany}

-- the first of two comes before the second
abbrev pub is_less : Ordering → Bool
is_less Less = true
is_less Equal = false
is_less Greater = false

-- a path comes before another one
abbrev pub comes_before : Path → Path → Bool
comes_before p q = is_less (path_cmp p q)

-- an entry stands after all entries before it
abbrev pub is_sorted_after : List Outline → Outline → Bool
is_sorted_after before e = list_all (λ b. comes_before b.path e.path) before

-- a path of at most one component needs no parent
abbrev pub needs_parent : Path → Bool
needs_parent [] = false
needs_parent (c ∷ []) = false
needs_parent (c ∷ d ∷ ds) = true

-- some entry before is the parent of this one, and a directory
abbrev pub has_parent : List Outline → Outline → Bool
has_parent before e = not (needs_parent e.path) || list_any (λ b. b.is_dir && same_path b.path (parent_of e.path)) before

-- which fault of the entry at an index is named: it is not in order, has no parent, or is a bad mark
abbrev pub fault_by : (in_order with_parent : Bool) → ℕ → Outline → Option TreeFault
fault_by in_order with_parent i e =
    if not in_order then Some (Unsorted i)
    else (if not with_parent then Some (NoParent i)
    else (if is_bad e.path e.is_dir then Some (BadMark i) else None))

-- the fault of the entry at an index, with all entries before it
abbrev pub fault_at : ℕ → List Outline → Outline → Option TreeFault
fault_at i before e = fault_by (is_sorted_after before e) (has_parent before e) i e

-- the first fault of entries of which the first has this index, with all entries before them, the last one first
abbrev pub first_fault : ℕ → List Outline → List Outline → Option TreeFault
first_fault i before [] = None
first_fault i before (e ∷ es) = option_or (fault_at i before e) (first_fault (i + 1) (e ∷ before) es)

-- the fault of a list of entries, and none if it is a good tree
abbrev pub fault : List Outline → Option TreeFault
fault es = if nat_lt MAX_ENTRIES (length es) then Some TooMany else first_fault 0 [] es

-- that of a listing
abbrev pub list_fault : List ListEntry → Option TreeFault
list_fault es = fault (map listed es)

-- that of a tree
abbrev pub tree_fault : List TreeEntry → Option TreeFault
tree_fault es = fault (map outline es)
