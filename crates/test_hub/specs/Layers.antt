-- The layer that the tests index, as plain data.
use Rattle.std.specs.Prelude.{ℕ, List, [], ◌∷◌, codes, Option, Some}
use Rattle.cv_base.specs.declared.tree.Kind.TheVariants as kind
use Rattle.cv_desk.specs.Row.{Row}

-- a folder
abbrev pub dir : List ℕ → Row
dir path = record { path = path; kind = kind.Dir; bytes = [] }

-- one layer, for all digests, with one npm package
abbrev pub layer_rows : List ℕ → Option (List Row)
layer_rows digest =
    Some (dir (codes "node_modules") ∷ dir (codes "node_modules/x")
    ∷ record { path = codes "node_modules/x/package.json"; kind = kind.File; bytes = codes "{\"name\":\"x\",\"version\":\"1.0.0\"}" } ∷ [])
