-- The rows of a table of layers, as plain data.
use Rattle.std.specs.Prelude.{ℕ, List}
use Rattle.cv_base.specs.declared.tree.Kind.{Kind}

-- a row of a table: the text of a path, what is there, and the bytes of a file
pub record Row : Type 0 where
  pub path : List ℕ
  pub kind : Kind
  pub bytes : List ℕ
