-- The latest introduction up to a version decides whether the events have it within: what ends it ends every earlier one.
use Rattle.std.proofs.Common.{◌≡◌, Bool, true, false, not, ◌&&◌, ◌||◌, if◌then◌else◌, List, [], ◌∷◌, Option, Some, None, refl, sym, ◌∙◌}
use Rattle.std.specs.List.{list_any}
use Rattle.std.specs.declared.cmp.Ordering.{Ordering}
use Rattle.std.specs.declared.cmp.Ordering.TheVariants.{Less, Equal, Greater}
use Rattle.std.specs.Ordering.{is_le, is_lt, ordering_reverse}
use Rattle.std.specs.Cmp.{IsTotalOrder, alike_right}
use Rattle.std.proofs.Math.Bool.{or-false}
use Rattle.cv_match_range.specs.declared.placed.Bound.{Bound}
use Rattle.cv_match_range.specs.declared.placed.Bound.TheVariants.{At}
use Rattle.cv_match_range.specs.declared.placed.Placed.{Placed}
use Rattle.cv_match_range.specs.declared.placed.Placed.TheVariants.{Introduced, Fixed, LastAffected, Limit}
use Rattle.cv_match_range.specs.Within.{bound_cmp, bound_total, brings, ends, le, lt}
use Rattle.cv_match_range.specs.code.Walk.{lasts, last_start, later_of, later_start}

-- ---- orders, by their answers

below : (r s t : Ordering) → (r ≡ Less → s ≡ Less → t ≡ Less) → (r ≡ Equal → t ≡ s) → (s ≡ Equal → r ≡ t) → is_le r ≡ true → is_lt s ≡ true → is_lt t ≡ true
below Less Less t both left right p q = rw (both refl refl) refl
below Less Equal t both left right p q = cc
below Less Greater t both left right p q = cc
below Equal s t both left right p q = rw (left refl) q
below Greater s t both left right p q = cc

at_most : (r s t : Ordering) → (r ≡ Less → s ≡ Less → t ≡ Less) → (r ≡ Equal → t ≡ s) → (s ≡ Equal → r ≡ t) → is_le r ≡ true → is_le s ≡ true → is_le t ≡ true
at_most Less Less t both left right p q = rw (both refl refl) refl
at_most Less Equal t both left right p q = rw (sym (right refl)) refl
at_most Less Greater t both left right p q = cc
at_most Equal s t both left right p q = rw (left refl) q
at_most Greater s t both left right p q = cc

above : (r s t : Ordering) → (r ≡ Less → s ≡ Less → t ≡ Less) → (s ≡ Equal → r ≡ t) → is_lt r ≡ true → is_le s ≡ true → is_lt t ≡ true
above Less Less t both right p q = rw (both refl refl) refl
above Less Equal t both right p q = rw (sym (right refl)) refl
above Less Greater t both right p q = cc
above Equal s t both right p q = cc
above Greater s t both right p q = cc

turned : (r s : Ordering) → s ≡ ordering_reverse r → is_lt r ≡ false → is_le s ≡ true
turned Less s e p = cc
turned Equal s e p = rw e refl
turned Greater s e p = rw e refl

pub weaker : (r : Ordering) → is_lt r ≡ true → is_le r ≡ true
weaker Less p = refl
weaker Equal p = cc
weaker Greater p = cc

-- ---- tests

or_more : (a b c d : Bool) → (a ≡ true → c ≡ true) → (b ≡ true → d ≡ true) → a || b ≡ true → c || d ≡ true
or_more true b c d f g e = rw (f refl) refl
or_more false b true d f g e = refl
or_more false b false d f g e = g e

pub any_more : {A : Type 0} (p q : A → Bool) → ((x : A) → p x ≡ true → q x ≡ true) → (xs : List A) → list_any p xs ≡ true → list_any q xs ≡ true
any_more p q f [] e = e
any_more p q f (x ∷ xs) e = or_more (p x) (list_any p xs) (q x) (list_any q xs) (f x) (any_more p q f xs) e

not_more : (a b : Bool) → (a ≡ true → b ≡ true) → not b ≡ true → not a ≡ true
not_more true b f e = rw (f refl) at e
not_more false b f e = refl

-- a test that implies another adds nothing to it
absorbed : (a b c : Bool) → (a ≡ true → c ≡ true) → (a || b) || c ≡ b || c
absorbed true true c f = refl
absorbed true false c f = sym (f refl)
absorbed false b c f = refl

-- the one that is implied is lost, and the one that implies it stays
replaced : (a b c : Bool) → (c ≡ true → a ≡ true) → (a || b) || c ≡ b || a
replaced true true c f = refl
replaced true false c f = refl
replaced false true c f = refl
replaced false false true f = sym (f refl)
replaced false false false f = refl

or_none : (a b : Bool) → (a || b) || false ≡ b || a
or_none true true = refl
or_none true false = refl
or_none false true = refl
or_none false false = refl

module _ {V : Type 0} (R : V → V → Ordering) (o : IsTotalOrder R) where
  pub lt_from : (x y z : Bound V) → le R x y ≡ true → lt R y z ≡ true → lt R x z ≡ true
  lt_from x y z = let b = bound_total o in below (bound_cmp R x y) (bound_cmp R y z) (bound_cmp R x z) (b.trans x y z) (b.congr x y z) (alike_right b y z x)

  pub le_from : (x y z : Bound V) → le R x y ≡ true → le R y z ≡ true → le R x z ≡ true
  le_from x y z = let b = bound_total o in at_most (bound_cmp R x y) (bound_cmp R y z) (bound_cmp R x z) (b.trans x y z) (b.congr x y z) (alike_right b y z x)

  pub lt_to : (x y z : Bound V) → lt R x y ≡ true → le R y z ≡ true → lt R x z ≡ true
  lt_to x y z = let b = bound_total o in above (bound_cmp R x y) (bound_cmp R y z) (bound_cmp R x z) (b.trans x y z) (alike_right b y z x)

  pub le_other : (x y : Bound V) → lt R x y ≡ false → le R y x ≡ true
  le_other x y = turned (bound_cmp R x y) (bound_cmp R y x) ((bound_total o).antisymm y x)

  and_kept : (a b c : Bool) → (a ≡ true → b ≡ true) → a && c ≡ true → b && c ≡ true
  and_kept true b c f e = rw (f refl) e
  and_kept false b c f e = cc

  -- what ends a later introduction ends an earlier one
  ends_more : (x y : Bound V) (v : V) → le R x y ≡ true → (t : Placed V) → ends R y v t ≡ true → ends R x v t ≡ true
  ends_more x y v h (Introduced i) e = e
  ends_more x y v h (Fixed f) e = and_kept (lt R y (At f)) (lt R x (At f)) (le R (At f) (At v)) (lt_from x y (At f) h) e
  ends_more x y v h (LastAffected l) e = and_kept (le R y (At l)) (le R x (At l)) (lt R (At l) (At v)) (le_from x y (At l) h) e
  ends_more x y v h (Limit l) e = e

  lasts_more : (all : List (Placed V)) (v : V) (x y : Bound V) → le R x y ≡ true → not (list_any (ends R x v) all) ≡ true → not (list_any (ends R y v) all) ≡ true
  lasts_more all v x y h = not_more (list_any (ends R y v) all) (list_any (ends R x v) all) (any_more (ends R y v) (ends R x v) (ends_more x y v h) all)

  -- one introduction more, of those that remain
  one_more : (all : List (Placed V)) (v : V) (i : Bound V) (best : Option (Bound V)) (r : Bool)
      → (not (list_any (ends R i v) all) || r) || lasts R all v best ≡ r || lasts R all v (Some (later_of R i best))
  one_more all v i None r = or_none (not (list_any (ends R i v) all)) r
  one_more all v i (Some b) r = by_order (lt R b i) refl where
    by_order : (t : Bool) → lt R b i ≡ t → (not (list_any (ends R i v) all) || r) || lasts R all v (Some b) ≡ r || lasts R all v (Some (if t then i else b))
    by_order true e = replaced (not (list_any (ends R i v) all)) r (not (list_any (ends R b v) all)) (lasts_more all v b i (weaker (bound_cmp R b i) e))
    by_order false e = absorbed (not (list_any (ends R i v) all)) r (not (list_any (ends R b v) all)) (lasts_more all v i b (le_other b i e))

  by_place : (all : List (Placed V)) (v : V) (i : Bound V) (best : Option (Bound V)) (r : Bool) (t : Bool) → le R i (At v) ≡ t
      → (le R i (At v) && not (list_any (ends R i v) all) || r) || lasts R all v best ≡ r || lasts R all v (if le R i (At v) then Some (later_of R i best) else best)
  by_place all v i best r true e = rw e (one_more all v i best r)
  by_place all v i best r false e = rw e refl

  one_event : (all : List (Placed V)) (v : V) (best : Option (Bound V)) (t : Placed V) (r : Bool)
      → (brings R all v t || r) || lasts R all v best ≡ r || lasts R all v (later_start R v best t)
  one_event all v best (Introduced i) r = by_place all v i best r (le R i (At v)) refl
  one_event all v best (Fixed f) r = refl
  one_event all v best (LastAffected l) r = refl
  one_event all v best (Limit l) r = refl

  latest : (all : List (Placed V)) (v : V) (best : Option (Bound V)) (ts : List (Placed V))
      → list_any (brings R all v) ts || lasts R all v best ≡ lasts R all v (last_start R v best ts)
  latest all v best [] = refl
  latest all v best (t ∷ ts) = one_event all v best t (list_any (brings R all v) ts) ∙ latest all v (later_start R v best t) ts

-- the events have the version within where the latest introduction up to it lasts
pub brings_last : {V : Type 0} (R : V → V → Ordering) (o : IsTotalOrder R) (all : List (Placed V)) (v : V)
    → list_any (brings R all v) all ≡ lasts R all v (last_start R v None all)
brings_last R o all v = sym (or-false (list_any (brings R all v) all)) ∙ latest R o all v None all
