-- What the height of a search tree says of the number of its entries (defined by this project).
use Rattle.std.specs.Prelude.{ℕ, ◌+◌, ◌*◌, ◌≤◌, ◌<◌, ◌^◌}

-- The height of a balanced tree of this number of entries. A way down has no more nodes than there are entries; fewer than
-- 2 ^ height entries have their place in that number of levels; and with each two levels the entries at least double, so
-- that the height is at most twice the logarithm of their number and one more.
pub record IsHeightOf (height count : ℕ) : Type 0 where
  pub needed : height ≤ count
  pub enough : count < 2 ^ height
  pub doubling : (steps : ℕ) → 2 * steps ≤ height → 2 ^ steps ≤ count + 1
