-- The height of a node over two branches.
use Rattle.std.proofs.Common.{◌≡◌, ℕ, zero, suc, ◌+◌, ◌*◌, ◌<◌, ◌≤◌, ◌^◌, List, ◌∷◌, ◌++◌, length, max, arith, refl, length-append}
use Rattle.std.proofs.Math.Nat.{le-max_left, le-max_right}
use Rattle.std.proofs.Math.Pow.{pow_mono}
use native.Mathlib.Numerals.{unary_clauses}
use Rattle.cv_tree.specs.Heights.{IsHeightOf}
use Rattle.cv_tree.specs.Shapes.{AreWithin}

-- twice this number of entries and one more have their place in one more level
more : (a b l r : ℕ) → l < 2 ^ a → r < 2 ^ b → l + (r + 1) < 2 ^ (max a b + 1)
more a b l r left right =
    let over_left : a ≤ max a b = le-max_left a b in
    let over_right : b ≤ max a b = le-max_right a b in
    let on_left : 2 ^ a ≤ 2 ^ max a b = pow_mono over_left in
    let on_right : 2 ^ b ≤ 2 ^ max a b = pow_mono over_right in
    let twice : 2 ^ (max a b + 1) ≡ 2 ^ max a b * 2 = simp unary_clauses refl in
    omega (arith, on_left, on_right, left, right, twice)

-- both branches are at most two lower than the node
doubled : (a b l r : ℕ) → IsHeightOf a l → IsHeightOf b r → AreWithin 1 a b → (steps : ℕ) → 2 * steps ≤ max a b + 1 → 2 ^ steps ≤ l + (r + 1) + 1
doubled a b l r left right near zero h = omega arith
doubled a b l r left right near (suc k) h =
    let on_left : 2 ^ k ≤ l + 1 = left.doubling k (omega (arith, near.left_at_most, near.right_at_most, h)) in
    let on_right : 2 ^ k ≤ r + 1 = right.doubling k (omega (arith, near.left_at_most, near.right_at_most, h)) in
    let twice : 2 ^ (suc k) ≡ 2 ^ k * 2 = simp unary_clauses refl in
    omega (arith, on_left, on_right, twice)

-- the height of a node from those of its branches
counted : (a b l r : ℕ) → IsHeightOf a l → IsHeightOf b r → AreWithin 1 a b → IsHeightOf (max a b + 1) (l + (r + 1))
counted a b l r left right near = record {
  needed = omega (arith, left.needed, right.needed);
  enough = more a b l r left.enough right.enough;
  doubling = doubled a b l r left right near;
}

-- a node has the entries of its branches and its own
pub fork_height : {X : Type 0} (a b height : ℕ) (xs ys : List X) (x : X) → height ≡ max a b + 1 → IsHeightOf a (length xs) → IsHeightOf b (length ys) → AreWithin 1 a b
    → IsHeightOf height (length (xs ++ x ∷ ys))
fork_height a b height xs ys x is left right near =
    let sum : length (xs ++ x ∷ ys) ≡ length xs + (length ys + 1) = omega (arith, length-append xs (x ∷ ys)) in
    rw (is, sum) (counted a b (length xs) (length ys) left right near)
