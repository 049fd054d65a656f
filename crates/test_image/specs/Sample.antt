-- The rows that the tests list and read (defined by this project), as plain data: one is not a valid path, and one has the
-- path of an earlier one.
use Rattle.std.specs.Prelude.{ℕ, List, [], ◌∷◌, codes, Option, Some}
use Rattle.cv_base.specs.declared.tree.Kind.{Kind}
use Rattle.cv_base.specs.declared.tree.Kind.TheVariants as kind
use Rattle.cv_desk.specs.Row.{Row}

-- a row of a table
abbrev pub row : List ℕ → Kind → List ℕ → Row
row path kind bytes = record { path = path; kind = kind; bytes = bytes }

-- one layer, for all digests
abbrev pub sample_rows : List ℕ → Option (List Row)
sample_rows digest =
    Some (row (codes "etc") kind.Dir [] ∷ row (codes "etc/os-release") kind.File (codes "ID=debian\n") ∷ row (codes "etc//shadow") kind.File []
    ∷ row (codes "etc/os-release") kind.Dir [] ∷ row (codes "notes") kind.File (codes "four") ∷ [])
