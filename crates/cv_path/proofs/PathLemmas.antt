-- Paths by their texts: that the walks of the code over the bytes are the words of `specs/Path.antt`.
use Rattle.std.proofs.Common.{◌≡◌, ℕ, ◌<◌, Bool, true, false, ◌&&◌, ◌||◌, not, cond, ◌==◌, List, [], ◌∷◌, refl, sym, ◌∙◌, ap, arith}
use Rattle.std.specs.Cmp.Lexicographic.{slice_cmp}
use Rattle.std.specs.List.{list_all, list_any, slice_split, onto_first, join_with_byte}
use Rattle.std.specs.Ordering.{nat_cmp, ordering_then}
use Rattle.std.specs.declared.cmp.Ordering.{Ordering}
use Rattle.std.specs.declared.cmp.Ordering.TheVariants.{Less, Equal, Greater}
use Rattle.std.proofs.lemmas.Bool.Decides.{nat_tests}
use Rattle.std.proofs.lemmas.List.Splits.{join_with_byte-slice_split}
use Rattle.std.proofs.Math.Bool.{and_assoc}
use Rattle.cv_path.specs.Path.{Path, components, is_above, is_component, is_slash, is_special, path_cmp}
use Rattle.cv_path.specs.code.PathText.{goes_on, rank, text_cmp, HasNoNul, is_above_text}
use Rattle.cv_path.specs.Texts.{is_cons, same}
use Rattle.cv_path.proofs.Bools.{and_left, and_right}

-- joining the components gives the text back
pub join_components : (t : List ℕ) → join_with_byte 47 (components t) ≡ t
join_components [] = refl
join_components (x ∷ xs) = join_with_byte-slice_split 47 (x ∷ xs)

cons_by : (x : ℕ) (s : Path) (b : Bool) → is_cons (cond b ([] ∷ s) (onto_first x s)) ≡ true
cons_by x s true = refl
cons_by x [] false = refl
cons_by x (h ∷ r) false = refl

-- a split has a first part
pub split_cons : (t : List ℕ) → is_cons (slice_split is_slash t) ≡ true
split_cons [] = refl
split_cons (x ∷ xs) = cons_by x (slice_split is_slash xs) (is_slash x)

-- The order.

first_less : (s : Path) → is_cons s ≡ true → path_cmp [] s ≡ Less
first_less [] h = cc
first_less (c ∷ cs) h = refl

first_greater : (s : Path) → is_cons s ≡ true → path_cmp s [] ≡ Greater
first_greater [] h = cc
first_greater (c ∷ cs) h = refl

low : (y : ℕ) → 0 < y → nat_cmp 0 y ≡ Less
low y h = grind (arith, nat_tests)

high : (x : ℕ) → 0 < x → nat_cmp x 0 ≡ Greater
high x h = grind (arith, nat_tests)

then_assoc : (a b c : Ordering) → ordering_then a (ordering_then b c) ≡ ordering_then (ordering_then a b) c
then_assoc Less b c = refl
then_assoc Equal b c = refl
then_assoc Greater b c = refl

-- the heads differ where one of them is a slash alone
slash_less : (y : ℕ) (s p : Path) (o : Ordering) → 0 < y → ordering_then (nat_cmp 0 y) o ≡ path_cmp ([] ∷ s) (onto_first y p)
slash_less y s [] o h = rw (low y h) refl
slash_less y s (c ∷ cs) o h = rw (low y h) refl

slash_greater : (x : ℕ) (s p : Path) (o : Ordering) → 0 < x → ordering_then (nat_cmp x 0) o ≡ path_cmp (onto_first x s) ([] ∷ p)
slash_greater x [] p o h = rw (high x h) refl
slash_greater x (c ∷ cs) p o h = rw (high x h) refl

heads : (x y : ℕ) (s p : Path) → is_cons s ≡ true → is_cons p ≡ true
    → ordering_then (nat_cmp x y) (path_cmp s p) ≡ path_cmp (onto_first x s) (onto_first y p)
heads x y [] p h k = cc
heads x y (c ∷ cs) [] h k = cc
heads x y (c ∷ cs) (d ∷ ds) h k = then_assoc (nat_cmp x y) (slice_cmp nat_cmp c d) (path_cmp cs ds)

step : (x y : ℕ) (s p : Path) (b c : Bool) → is_cons s ≡ true → is_cons p ≡ true → 0 < x → 0 < y
    → ordering_then (nat_cmp (cond b 0 x) (cond c 0 y)) (path_cmp s p) ≡ path_cmp (cond b ([] ∷ s) (onto_first x s)) (cond c ([] ∷ p) (onto_first y p))
step x y s p true true h k m n = refl
step x y s p true false h k m n = slash_less y s p (path_cmp s p) n
step x y s p false true h k m n = slash_greater x s p (path_cmp s p) m
step x y s p false false h k m n = heads x y s p h k

order_split : (t u : List ℕ) → HasNoNul t → HasNoNul u → text_cmp t u ≡ path_cmp (slice_split is_slash t) (slice_split is_slash u)
order_split [] [] m n = refl
order_split [] (y ∷ ys) m n = nil_less y (slice_split is_slash ys) (is_slash y) (split_cons ys) where
  nil_less : (y : ℕ) (s : Path) (c : Bool) → is_cons s ≡ true → Less ≡ path_cmp ([] ∷ []) (cond c ([] ∷ s) (onto_first y s))
  nil_less y s true h = sym (first_less s h)
  nil_less y [] false h = refl
  nil_less y (d ∷ ds) false h = refl
order_split (x ∷ xs) [] m n = nil_greater x (slice_split is_slash xs) (is_slash x) (split_cons xs) where
  nil_greater : (x : ℕ) (s : Path) (c : Bool) → is_cons s ≡ true → Greater ≡ path_cmp (cond c ([] ∷ s) (onto_first x s)) ([] ∷ [])
  nil_greater x s true h = sym (first_greater s h)
  nil_greater x [] false h = refl
  nil_greater x (d ∷ ds) false h = refl
order_split (x ∷ xs) (y ∷ ys) m n =
    ap (ordering_then (nat_cmp (rank x) (rank y))) (order_split xs ys m.1 n.1)
    ∙ step x y (slice_split is_slash xs) (slice_split is_slash ys) (is_slash x) (is_slash y) (split_cons xs) (split_cons ys) m.0 n.0

-- the order of two texts by ranks is that of their components
pub order_components : (t u : List ℕ) → HasNoNul t → HasNoNul u → text_cmp t u ≡ path_cmp (components t) (components u)
order_components [] [] m n = refl
order_components [] (y ∷ ys) m n = sym (first_less (slice_split is_slash (y ∷ ys)) (split_cons (y ∷ ys)))
order_components (x ∷ xs) [] m n = sym (first_greater (slice_split is_slash (x ∷ xs)) (split_cons (x ∷ xs)))
order_components (x ∷ xs) (y ∷ ys) m n = order_split (x ∷ xs) (y ∷ ys) m n

-- Being above.

-- the top is above every other path, and below none
pub top_above : (s : Path) → is_cons s ≡ true → is_above [] s ≡ true
top_above [] h = cc
top_above (c ∷ cs) h = refl

pub none_above : (s : Path) → is_above s [] ≡ false
none_above [] = refl
none_above (c ∷ cs) = refl

above_heads : (x y : ℕ) (s p : Path) → is_cons s ≡ true → is_cons p ≡ true
    → ((x == y) && is_above s p) ≡ is_above (onto_first x s) (onto_first y p)
above_heads x y [] p h k = cc
above_heads x y (c ∷ cs) [] h k = cc
above_heads x y (c ∷ cs) (d ∷ ds) h k = sym (and_assoc (x == y) (same c d) (is_above cs ds))

differ_left : (y : ℕ) (s p : Path) → false ≡ is_above ([] ∷ s) (onto_first y p)
differ_left y s [] = refl
differ_left y s (c ∷ cs) = refl

differ_right : (x : ℕ) (s p : Path) → false ≡ is_above (onto_first x s) ([] ∷ p)
differ_right x [] p = refl
differ_right x (c ∷ cs) p = refl

both_slashes : (x y : ℕ) → is_slash x ≡ true → is_slash y ≡ true → (x == y) ≡ true
both_slashes x y h k = grind (arith, nat_tests)

left_slash : (x y : ℕ) → is_slash x ≡ true → is_slash y ≡ false → (x == y) ≡ false
left_slash x y h k = grind (arith, nat_tests)

right_slash : (x y : ℕ) → is_slash x ≡ false → is_slash y ≡ true → (x == y) ≡ false
right_slash x y h k = grind (arith, nat_tests)

above_step : (x y : ℕ) (s p : Path) (b c : Bool) → is_slash x ≡ b → is_slash y ≡ c → is_cons s ≡ true → is_cons p ≡ true
    → ((x == y) && is_above s p) ≡ is_above (cond b ([] ∷ s) (onto_first x s)) (cond c ([] ∷ p) (onto_first y p))
above_step x y s p true true e f h k = rw (both_slashes x y e f) refl
above_step x y s p true false e f h k = rw (left_slash x y e f) (differ_left y s p)
above_step x y s p false true e f h k = rw (right_slash x y e f) (differ_right x s p)
above_step x y s p false false e f h k = above_heads x y s p h k

above_split : (t u : List ℕ) → goes_on t u ≡ is_above (slice_split is_slash t) (slice_split is_slash u)
above_split [] [] = refl
above_split [] (y ∷ ys) = at_end y (slice_split is_slash ys) (is_slash y) (split_cons ys) where
  at_end : (y : ℕ) (s : Path) (c : Bool) → is_cons s ≡ true → c ≡ is_above ([] ∷ []) (cond c ([] ∷ s) (onto_first y s))
  at_end y s true h = sym (top_above s h)
  at_end y s false h = differ_left y [] s
above_split (x ∷ xs) [] = past_end x (slice_split is_slash xs) (is_slash x) (split_cons xs) where
  past_end : (x : ℕ) (s : Path) (c : Bool) → is_cons s ≡ true → false ≡ is_above (cond c ([] ∷ s) (onto_first x s)) ([] ∷ [])
  past_end x s true h = sym (none_above s)
  past_end x s false h = differ_right x s []
above_split (x ∷ xs) (y ∷ ys) =
    ap (λ b. (x == y) && b) (above_split xs ys)
    ∙ above_step x y (slice_split is_slash xs) (slice_split is_slash ys) (is_slash x) (is_slash y) refl refl (split_cons xs) (split_cons ys)

-- a text whose path is above another one's
pub above_components : (t u : List ℕ) → is_above_text t u ≡ is_above (components t) (components u)
above_components [] [] = refl
above_components [] (y ∷ ys) = sym (top_above (slice_split is_slash (y ∷ ys)) (split_cons (y ∷ ys)))
above_components (x ∷ xs) [] = sym (none_above (slice_split is_slash (x ∷ xs)))
above_components (x ∷ xs) (y ∷ ys) = above_split (x ∷ xs) (y ∷ ys)

-- What is read has no NUL.

abbrev no_nul : List ℕ → Bool
no_nul t = not (list_any (λ b. b == 0) t)

all_no_nul : (s : Path) → list_all is_component s ≡ true → list_all no_nul s ≡ true
all_no_nul [] h = refl
all_no_nul (c ∷ cs) h =
    let first = and_right (not (is_special c)) (no_nul c) (and_left (is_component c) (list_all is_component cs) h) in
    let others = all_no_nul cs (and_right (is_component c) (list_all is_component cs) h) in
    simp (first, others)

positive : (x : ℕ) → not (x == 0) ≡ true → 0 < x
positive x h = grind (arith, nat_tests)

slash_positive : (x : ℕ) → is_slash x ≡ true → 0 < x
slash_positive x h = grind (arith, nat_tests)

neither : (a b : Bool) → not (a || b) ≡ true → (not a ≡ true) × (not b ≡ true)
neither true b h = cc
neither false b h = (refl, h)

onto_no_nul : (x : ℕ) (s : Path) → list_all no_nul (onto_first x s) ≡ true → (0 < x) × (list_all no_nul s ≡ true)
onto_no_nul x [] h = (positive x ((neither (x == 0) false (and_left (not ((x == 0) || false)) true h)).0), refl)
onto_no_nul x (c ∷ cs) h =
    let others = and_right (no_nul (x ∷ c)) (list_all no_nul cs) h in
    let parts = neither (x == 0) (list_any (λ b. b == 0) c) (and_left (no_nul (x ∷ c)) (list_all no_nul cs) h) in
    (positive x parts.0, simp (parts.1, others))

split_no_nul : (t : List ℕ) → list_all no_nul (slice_split is_slash t) ≡ true → HasNoNul t
split_no_nul [] h = tt
split_no_nul (x ∷ xs) h = by_slash (is_slash x) refl h (λ k. split_no_nul xs k) where
  by_slash : (b : Bool) → is_slash x ≡ b → list_all no_nul (cond b ([] ∷ slice_split is_slash xs) (onto_first x (slice_split is_slash xs))) ≡ true
      → (list_all no_nul (slice_split is_slash xs) ≡ true → HasNoNul xs) → HasNoNul (x ∷ xs)
  by_slash true e k others = (slash_positive x e, others k)
  by_slash false e k others = let parts = onto_no_nul x (slice_split is_slash xs) k in (parts.0, others parts.1)

pub components_no_nul : (t : List ℕ) → list_all is_component (slice_split is_slash t) ≡ true → HasNoNul t
components_no_nul t h = split_no_nul t (all_no_nul (slice_split is_slash t) h)
