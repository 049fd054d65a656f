-- Paths by their texts, as the code walks them. It is shown in `proofs/` that these are the definitions of
-- `Path.antt`.
use Rattle.std.specs.Prelude.{ℕ, ◌<◌, ◌-◌, Bool, true, false, ◌&&◌, ◌==◌, if◌then◌else◌, List, [], ◌∷◌, ◌++◌, map}
use Rattle.std.specs.Cmp.Lexicographic.{slice_cmp}
use Rattle.std.specs.List.{AllByRecursion}
use Rattle.std.specs.Ordering.{nat_cmp}
use Rattle.std.specs.declared.cmp.Ordering.{Ordering}
use Rattle.cv_path.specs.Path.{is_slash}

-- a byte's rank among the bytes of a path: a slash comes before all else
abbrev pub rank : ℕ → ℕ
rank byte = if is_slash byte then 0 else byte

-- the order of two texts by the ranks of their bytes
abbrev pub text_cmp : List ℕ → List ℕ → Ordering
text_cmp a b = slice_cmp nat_cmp (map rank a) (map rank b)

-- the second text begins with the first one and a slash after it
abbrev pub goes_on : List ℕ → List ℕ → Bool
goes_on [] [] = false
goes_on [] (y ∷ ys) = is_slash y
goes_on (x ∷ xs) [] = false
goes_on (x ∷ xs) (y ∷ ys) = (x == y) && goes_on xs ys

-- the path of one text is above that of another
abbrev pub is_above_text : List ℕ → List ℕ → Bool
is_above_text [] [] = false
is_above_text [] (y ∷ ys) = true
is_above_text (x ∷ xs) u = goes_on (x ∷ xs) u

-- no byte is a NUL: a slash is then the least of the ranks, and of no other byte
abbrev pub HasNoNul : List ℕ → Type 0
HasNoNul t = AllByRecursion (λ b. 0 < b) t

-- a byte is the slash at which a front ends that has this many slashes more
abbrev pub is_end : ℕ → ℕ → Bool
is_end byte slashes = is_slash byte && (slashes == 0)

-- how many slashes more a front has after a byte of it
abbrev pub slashes_after : ℕ → ℕ → ℕ
slashes_after byte slashes = if is_slash byte then slashes - 1 else slashes

-- the front of a text that ends before the slash with this index, or all of a text that has no such slash
abbrev pub front_text : ℕ → List ℕ → List ℕ
front_text slashes [] = []
front_text slashes (x ∷ xs) = if is_end x slashes then [] else x ∷ front_text (slashes_after x slashes) xs

-- a directory's text and a name with a slash between them, or the name alone at the top
abbrev pub joined : List ℕ → List ℕ → List ℕ
joined [] name = name
joined (b ∷ bs) name = (b ∷ bs) ++ 47 ∷ name
