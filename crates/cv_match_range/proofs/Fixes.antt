-- The least fix above a version is found in one pass, which keeps the least so far.
use Rattle.std.proofs.Common.{◌≡◌, ℕ, ◌+◌, Bool, true, false, not, ◌&&◌, ◌||◌, if◌then◌else◌, List, [], ◌∷◌, Option, Some, None, refl, sym, ap, ◌∙◌}
use Rattle.std.specs.List.{list_any, position_from}
use Rattle.std.specs.declared.cmp.Ordering.{Ordering}
use Rattle.std.specs.Ordering.{is_lt}
use Rattle.std.specs.Cmp.{IsTotalOrder, tied_itself}
use Rattle.std.proofs.Math.Bool.{and-false, or-true}
use Rattle.std.proofs.lemmas.Bool.{and_from, and_parts}
use Rattle.cv_match_range.specs.declared.placed.Bound.TheVariants.{At}
use Rattle.cv_match_range.specs.declared.placed.Placed.{Placed}
use Rattle.cv_match_range.specs.declared.placed.Placed.TheVariants.{Introduced, Fixed, LastAffected, Limit}
use Rattle.cv_match_range.specs.Fix.{is_fix_between, is_least_fix}
use Rattle.cv_match_range.specs.Within.{bound_cmp, bound_total, le, lt}
use Rattle.cv_match_range.specs.code.Walk.{least_place, lesser_of}
use Rattle.cv_match_range.proofs.Introductions.{any_more, weaker, le_other, lt_to}

-- two tests that agree on a list find the same place
place_same : {A : Type 0} (p q : A → Bool) → ((x : A) → p x ≡ q x) → (i : ℕ) (xs : List A) → position_from p i xs ≡ position_from q i xs
place_same p q same i [] = refl
place_same p q same i (x ∷ xs) = rw (same x, place_same p q same (i + 1) xs) refl

module _ {V : Type 0} (R : V → V → Ordering) (o : IsTotalOrder R) (v : V) where
  -- an event that is no fix above v does not count
  not_least : (t : Placed V) (ts : List (Placed V)) → ((f : V) → is_fix_between R v f t ≡ false) → (x : Placed V) → is_least_fix R (t ∷ ts) v x ≡ is_least_fix R ts v x
  not_least t ts none (Introduced i) = refl
  not_least t ts none (Fixed f) = rw (none f) refl
  not_least t ts none (LastAffected l) = refl
  not_least t ts none (Limit l) = refl

  skipped : (t : Placed V) (ts : List (Placed V)) → ((f : V) → is_fix_between R v f t ≡ false) → is_least_fix R (t ∷ ts) v t ≡ false
      → (i : ℕ) → position_from (is_least_fix R (t ∷ ts) v) i (t ∷ ts) ≡ position_from (is_least_fix R ts v) (i + 1) ts
  skipped t ts none here i = rw here (place_same (is_least_fix R (t ∷ ts) v) (is_least_fix R ts v) (not_least t ts none) (i + 1) ts)

  -- a fix that is between v and an earlier one is between v and a later one
  between_more : (f g : V) → le R (At f) (At g) ≡ true → (t : Placed V) → is_fix_between R v f t ≡ true → is_fix_between R v g t ≡ true
  between_more f g h (Introduced i) e = e
  between_more f g h (Fixed x) e = let parts = and_parts (lt R (At v) (At x)) (lt R (At x) (At f)) e in
      and_from (lt R (At v) (At x)) (lt R (At x) (At g)) parts.0 (lt_to R o (At x) (At f) (At g) parts.1 h)
  between_more f g h (LastAffected l) e = e
  between_more f g h (Limit l) e = e

  not_itself : (f : V) → lt R (At f) (At f) ≡ false
  not_itself f = ap is_lt (tied_itself (bound_total o) (At f))

  -- where a fix of the rest is between v and f, f does not count
  hidden_by : (f g : V) (ts : List (Placed V)) (a : Bool) → list_any (is_fix_between R v f) ts ≡ true → (s : Bool) → lt R (At f) (At g) ≡ s
      → a && not ((lt R (At v) (At f) && lt R (At f) (At g)) || list_any (is_fix_between R v g) ts) ≡ a && not (list_any (is_fix_between R v g) ts)
  hidden_by f g ts a h true e =
      let more : list_any (is_fix_between R v g) ts ≡ true = any_more (is_fix_between R v f) (is_fix_between R v g) (between_more f g (weaker (bound_cmp R (At f) (At g)) e)) ts h in
      rw (more, or-true (lt R (At v) (At f) && lt R (At f) (At g))) refl
  hidden_by f g ts a h false e = rw (e, and-false (lt R (At v) (At f))) refl

  hidden : (f : V) (ts : List (Placed V)) → list_any (is_fix_between R v f) ts ≡ true → (x : Placed V) → is_least_fix R (Fixed f ∷ ts) v x ≡ is_least_fix R ts v x
  hidden f ts h (Introduced i) = refl
  hidden f ts h (Fixed g) = hidden_by f g ts (lt R (At v) (At g)) h (lt R (At f) (At g)) refl
  hidden f ts h (LastAffected l) = refl
  hidden f ts h (Limit l) = refl

  -- the place of the least fix, where the first event is a fix above v
  settled : (f : V) (ts : List (Placed V)) (i : ℕ) → lt R (At v) (At f) ≡ true → (s : Bool) → list_any (is_fix_between R v f) ts ≡ s
      → (if s then position_from (is_least_fix R ts v) (i + 1) ts else Some i) ≡ position_from (is_least_fix R (Fixed f ∷ ts) v) i (Fixed f ∷ ts)
  settled f ts i above true e =
      rw (above, not_itself f, e) (sym (place_same (is_least_fix R (Fixed f ∷ ts) v) (is_least_fix R ts v) (hidden f ts e) (i + 1) ts))
  settled f ts i above false e = rw (above, not_itself f, e) refl

  -- what the least so far and the events that remain give
  abbrev given : ℕ × V → ℕ → List (Placed V) → Option ℕ
  given b i ts = if list_any (is_fix_between R v b.1) ts then position_from (is_least_fix R ts v) i ts else Some b.0

  -- a fix above v that is below the best so far takes its place, and another one changes nothing
  taken : (b : ℕ × V) (f : V) (i : ℕ) (ts : List (Placed V)) → lt R (At v) (At f) ≡ true → (s : Bool) → lt R (At f) (At b.1) ≡ s
      → given (if s then (i, f) else b) (i + 1) ts ≡ given b i (Fixed f ∷ ts)
  taken b f i ts above true e =
      let some : lt R (At v) (At f) && lt R (At f) (At b.1) ≡ true = and_from (lt R (At v) (At f)) (lt R (At f) (At b.1)) above e in
      rw some (settled f ts i above (list_any (is_fix_between R v f) ts) refl)
  taken b f i ts above false e =
      let none : lt R (At v) (At f) && lt R (At f) (At b.1) ≡ false = rw (e, and-false (lt R (At v) (At f))) refl in
      rw none (kept (list_any (is_fix_between R v b.1) ts) refl) where
        kept : (s : Bool) → list_any (is_fix_between R v b.1) ts ≡ s
            → (if s then position_from (is_least_fix R ts v) (i + 1) ts else Some b.0)
            ≡ (if s then position_from (is_least_fix R (Fixed f ∷ ts) v) i (Fixed f ∷ ts) else Some b.0)
        kept true h =
            let more : list_any (is_fix_between R v f) ts ≡ true = any_more (is_fix_between R v b.1) (is_fix_between R v f) (between_more b.1 f (le_other R o (At f) (At b.1) e)) ts h in
            settled f ts i above true more
        kept false h = refl

  -- an event that is no fix above v changes nothing
  passed : (b : ℕ × V) (t : Placed V) (i : ℕ) (ts : List (Placed V)) → ((f : V) → is_fix_between R v f t ≡ false) → is_least_fix R (t ∷ ts) v t ≡ false
      → given b (i + 1) ts ≡ given b i (t ∷ ts)
  passed b t i ts none here = rw (none b.1, skipped t ts none here i) refl

  not_above : (f : V) → lt R (At v) (At f) ≡ false → (g : V) → is_fix_between R v g (Fixed f) ≡ false
  not_above f e g = rw e refl

  not_here : (f : V) (ts : List (Placed V)) → lt R (At v) (At f) ≡ false → is_least_fix R ts v (Fixed f) ≡ false
  not_here f ts e = rw e refl

  fix_more : (b : ℕ × V) (f : V) (i : ℕ) (ts : List (Placed V)) (s : Bool) → lt R (At v) (At f) ≡ s
      → least_place R v (Some (lesser_of R (Some b) i f)) (i + 1) ts ≡ given (lesser_of R (Some b) i f) (i + 1) ts
      → least_place R v (Some b) (i + 1) ts ≡ given b (i + 1) ts
      → least_place R v (if s then Some (lesser_of R (Some b) i f) else Some b) (i + 1) ts ≡ given b i (Fixed f ∷ ts)
  fix_more b f i ts true e p q = p ∙ taken b f i ts e (lt R (At f) (At b.1)) refl
  fix_more b f i ts false e p q = q ∙ passed b (Fixed f) i ts (not_above f e) (not_here f (Fixed f ∷ ts) e)

  least_some : (b : ℕ × V) (i : ℕ) (ts : List (Placed V)) → least_place R v (Some b) i ts ≡ given b i ts
  least_some b i [] = refl
  least_some b i (Introduced x ∷ ts) = least_some b (i + 1) ts ∙ passed b (Introduced x) i ts (λ f. refl) refl
  least_some b i (Fixed f ∷ ts) =
      fix_more b f i ts (lt R (At v) (At f)) refl (least_some (lesser_of R (Some b) i f) (i + 1) ts) (least_some b (i + 1) ts)
  least_some b i (LastAffected l ∷ ts) = least_some b (i + 1) ts ∙ passed b (LastAffected l) i ts (λ f. refl) refl
  least_some b i (Limit l ∷ ts) = least_some b (i + 1) ts ∙ passed b (Limit l) i ts (λ f. refl) refl

  first_fix : (f : V) (i : ℕ) (ts : List (Placed V)) (s : Bool) → lt R (At v) (At f) ≡ s
      → least_place R v None (i + 1) ts ≡ position_from (is_least_fix R ts v) (i + 1) ts
      → least_place R v (if s then Some (i, f) else None) (i + 1) ts ≡ position_from (is_least_fix R (Fixed f ∷ ts) v) i (Fixed f ∷ ts)
  first_fix f i ts true e p = least_some (i, f) (i + 1) ts ∙ settled f ts i e (list_any (is_fix_between R v f) ts) refl
  first_fix f i ts false e p = p ∙ sym (skipped (Fixed f) ts (not_above f e) (not_here f (Fixed f ∷ ts) e) i)

  least_none : (i : ℕ) (ts : List (Placed V)) → least_place R v None i ts ≡ position_from (is_least_fix R ts v) i ts
  least_none i [] = refl
  least_none i (Introduced x ∷ ts) = least_none (i + 1) ts ∙ sym (skipped (Introduced x) ts (λ f. refl) refl i)
  least_none i (Fixed f ∷ ts) = first_fix f i ts (lt R (At v) (At f)) refl (least_none (i + 1) ts)
  least_none i (LastAffected l ∷ ts) = least_none (i + 1) ts ∙ sym (skipped (LastAffected l) ts (λ f. refl) refl i)
  least_none i (Limit l ∷ ts) = least_none (i + 1) ts ∙ sym (skipped (Limit l) ts (λ f. refl) refl i)

-- the place that the pass gives is that of the least fix above v, the first of equal ones
pub least_is : {V : Type 0} (R : V → V → Ordering) (o : IsTotalOrder R) (v : V) (ts : List (Placed V)) → least_place R v None 0 ts ≡ position_from (is_least_fix R ts v) 0 ts
least_is R o v ts = least_none R o v 0 ts
