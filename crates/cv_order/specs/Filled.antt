-- How two lists of parts are compared where the shorter one stands for one that goes on with a filler for ever, as the
-- parts of Debian's versions (Debian Policy 5.6.12) and the suffixes of apk's.
use Rattle.std.specs.Prelude.{◌≡◌, List, [], ◌∷◌, refl}
use Rattle.std.specs.declared.cmp.Ordering.{Ordering}
use Rattle.std.specs.declared.cmp.Ordering.TheVariants.{Less, Equal, Greater}
use Rattle.std.specs.Ordering.{ordering_then, ordering_reverse}
use Rattle.std.specs.Cmp.{IsTotalOrder, then_flip, alike_right, tied_itself}
use Rattle.std.proofs.Common.{sym}

-- the first place that differs decides, where the list that ends first goes on with the filler for ever
abbrev pub filled_cmp : {K : Type 0} → (K → K → Ordering) → K → List K → List K → Ordering
filled_cmp R filler [] [] = Equal
filled_cmp R filler [] (y ∷ ys) = ordering_then (R filler y) (filled_cmp R filler [] ys)
filled_cmp R filler (x ∷ xs) [] = ordering_then (R x filler) (filled_cmp R filler xs [])
filled_cmp R filler (x ∷ xs) (y ∷ ys) = ordering_then (R x y) (filled_cmp R filler xs ys)

-- the places after the first one
abbrev pub later : {K : Type 0} → List K → List K
later [] = []
later (x ∷ xs) = xs

turned : (a a' p p' : Ordering) → a ≡ ordering_reverse a' → p ≡ ordering_reverse p' → ordering_then a p ≡ ordering_reverse (ordering_then a' p')
turned a a' p p' e f = rw (e, f) (then_flip a' p')

chained : (a b c p q r : Ordering) → (a ≡ Less → b ≡ Less → c ≡ Less) → (a ≡ Equal → c ≡ b) → (b ≡ Equal → a ≡ c) → (p ≡ Less → q ≡ Less → r ≡ Less)
    → ordering_then a p ≡ Less → ordering_then b q ≡ Less → ordering_then c r ≡ Less
chained Less Less c p q r both left right more g h = rw (both refl refl) refl
chained Less Equal c p q r both left right more g h = rw (sym (right refl)) refl
chained Less Greater c p q r both left right more g h = cc
chained Equal Less c p q r both left right more g h = rw (left refl) refl
chained Equal Equal c p q r both left right more g h = rw (left refl) (more g h)
chained Equal Greater c p q r both left right more g h = cc
chained Greater b c p q r both left right more g h = cc

alike : (a b c p q r : Ordering) → (a ≡ Equal → c ≡ b) → (p ≡ Equal → r ≡ q) → ordering_then a p ≡ Equal → ordering_then c r ≡ ordering_then b q
alike Less b c p q r same more h = cc
alike Equal b c p q r same more h = rw (same refl, more h) refl
alike Greater b c p q r same more h = cc

module _ {K : Type 0} {R : K → K → Ordering} (filler : K) (o : IsTotalOrder R) where
  turns : (xs ys : List K) → filled_cmp R filler xs ys ≡ ordering_reverse (filled_cmp R filler ys xs)
  turns [] [] = refl
  turns [] (y ∷ ys) = turned (R filler y) (R y filler) (filled_cmp R filler [] ys) (filled_cmp R filler ys []) (o.antisymm filler y) (turns [] ys)
  turns (x ∷ xs) [] = turned (R x filler) (R filler x) (filled_cmp R filler xs []) (filled_cmp R filler [] xs) (o.antisymm x filler) (turns xs [])
  turns (x ∷ xs) (y ∷ ys) = turned (R x y) (R y x) (filled_cmp R filler xs ys) (filled_cmp R filler ys xs) (o.antisymm x y) (turns xs ys)

  -- one place, and what follows from the places after it
  chains_at : (x y z : K) (p q r : Ordering) → (p ≡ Less → q ≡ Less → r ≡ Less) → ordering_then (R x y) p ≡ Less → ordering_then (R y z) q ≡ Less → ordering_then (R x z) r ≡ Less
  chains_at x y z p q r more = chained (R x y) (R y z) (R x z) p q r (o.trans x y z) (o.congr x y z) (alike_right o y z x) more

  chains : (xs ys zs : List K) → filled_cmp R filler xs ys ≡ Less → filled_cmp R filler ys zs ≡ Less → filled_cmp R filler xs zs ≡ Less
  chains [] [] [] = λ g h. g
  chains [] [] (z ∷ zs) = λ g h. h
  chains [] (y ∷ ys) [] = λ g h. rw (tied_itself o filler) at (chains_at filler y filler (filled_cmp R filler [] ys) (filled_cmp R filler ys []) Equal (chains [] ys []) g h)
  chains [] (y ∷ ys) (z ∷ zs) = chains_at filler y z (filled_cmp R filler [] ys) (filled_cmp R filler ys zs) (filled_cmp R filler [] zs) (chains [] ys zs)
  chains (x ∷ xs) [] [] = λ g h. g
  chains (x ∷ xs) [] (z ∷ zs) = chains_at x filler z (filled_cmp R filler xs []) (filled_cmp R filler [] zs) (filled_cmp R filler xs zs) (chains xs [] zs)
  chains (x ∷ xs) (y ∷ ys) [] = chains_at x y filler (filled_cmp R filler xs ys) (filled_cmp R filler ys []) (filled_cmp R filler xs []) (chains xs ys [])
  chains (x ∷ xs) (y ∷ ys) (z ∷ zs) = chains_at x y z (filled_cmp R filler xs ys) (filled_cmp R filler ys zs) (filled_cmp R filler xs zs) (chains xs ys zs)

  alike_at : (x y z : K) (p q r : Ordering) → (p ≡ Equal → r ≡ q) → ordering_then (R x y) p ≡ Equal → ordering_then (R x z) r ≡ ordering_then (R y z) q
  alike_at x y z p q r more = alike (R x y) (R y z) (R x z) p q r (o.congr x y z) more

  alikes : (xs ys zs : List K) → filled_cmp R filler xs ys ≡ Equal → filled_cmp R filler xs zs ≡ filled_cmp R filler ys zs
  alikes [] [] zs = λ h. refl
  alikes [] (y ∷ ys) [] = λ h. rw (tied_itself o filler) at (alike_at filler y filler (filled_cmp R filler [] ys) (filled_cmp R filler ys []) Equal (alikes [] ys []) h)
  alikes [] (y ∷ ys) (z ∷ zs) = alike_at filler y z (filled_cmp R filler [] ys) (filled_cmp R filler ys zs) (filled_cmp R filler [] zs) (alikes [] ys zs)
  alikes (x ∷ xs) [] [] = λ h. h
  alikes (x ∷ xs) [] (z ∷ zs) = alike_at x filler z (filled_cmp R filler xs []) (filled_cmp R filler [] zs) (filled_cmp R filler xs zs) (alikes xs [] zs)
  alikes (x ∷ xs) (y ∷ ys) [] = alike_at x y filler (filled_cmp R filler xs ys) (filled_cmp R filler ys []) (filled_cmp R filler xs []) (alikes xs ys [])
  alikes (x ∷ xs) (y ∷ ys) (z ∷ zs) = alike_at x y z (filled_cmp R filler xs ys) (filled_cmp R filler ys zs) (filled_cmp R filler xs zs) (alikes xs ys zs)

-- it is a total order where the places are compared by one
pub filled_total : {K : Type 0} {R : K → K → Ordering} (filler : K) → IsTotalOrder R → IsTotalOrder (filled_cmp R filler)
filled_total filler o = record { antisymm = turns filler o; trans = chains filler o; congr = alikes filler o }
