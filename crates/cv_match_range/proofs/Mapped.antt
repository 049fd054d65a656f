-- What holds of events by their versions holds of them by the texts of these.
use Rattle.std.proofs.Common.{◌≡◌, ℕ, ◌+◌, zero, suc, Bool, List, [], ◌∷◌, map, option_map, refl}
use Rattle.std.specs.List.{list_any, position_from, slice_get}
use Rattle.std.specs.declared.cmp.Ordering.{Ordering}
use Rattle.std.specs.Ordering.{on}
use Rattle.cv_match_range.specs.declared.placed.Bound.{Bound}
use Rattle.cv_match_range.specs.declared.placed.Bound.TheVariants.{Start, At, End}
use Rattle.cv_match_range.specs.declared.placed.Placed.{Placed}
use Rattle.cv_match_range.specs.declared.placed.Placed.TheVariants.{Introduced, Fixed, LastAffected, Limit}
use Rattle.cv_match_range.specs.Fix.{is_fix_between, is_least_fix}
use Rattle.cv_match_range.specs.ReadRange.{bound_text, event_text}
use Rattle.cv_match_range.specs.Within.{bound_cmp, brings, ends, holds, is_limit, is_limit_above}

-- ---- lists

pub any_map : {A B : Type 0} (f : A → B) (p : B → Bool) (q : A → Bool) → ((x : A) → p (f x) ≡ q x) → (xs : List A) → list_any p (map f xs) ≡ list_any q xs
any_map f p q same [] = refl
any_map f p q same (x ∷ xs) = rw (same x, any_map f p q same xs) refl

pub place_map : {A B : Type 0} (f : A → B) (p : B → Bool) (q : A → Bool) → ((x : A) → p (f x) ≡ q x) → (i : ℕ) (xs : List A)
    → position_from p i (map f xs) ≡ position_from q i xs
place_map f p q same i [] = refl
place_map f p q same i (x ∷ xs) = rw (same x, place_map f p q same (i + 1) xs) refl

pub get_map : {A B : Type 0} (f : A → B) (xs : List A) (i : ℕ) → slice_get (map f xs) i ≡ option_map f (slice_get xs i)
get_map f [] i = refl
get_map f (x ∷ xs) zero = refl
get_map f (x ∷ xs) (suc i) = get_map f xs i

-- ---- events

module _ {V : Type 0} (f : V → List ℕ) (R : List ℕ → List ℕ → Ordering) where
  cmp_text : (x y : Bound V) → bound_cmp R (bound_text f x) (bound_text f y) ≡ bound_cmp (on f R) x y
  cmp_text Start Start = refl
  cmp_text Start (At y) = refl
  cmp_text Start End = refl
  cmp_text (At x) Start = refl
  cmp_text (At x) (At y) = refl
  cmp_text (At x) End = refl
  cmp_text End Start = refl
  cmp_text End (At y) = refl
  cmp_text End End = refl

  above_text : (v : V) (t : Placed V) → is_limit_above R (f v) (event_text f t) ≡ is_limit_above (on f R) v t
  above_text v (Introduced i) = refl
  above_text v (Fixed x) = refl
  above_text v (LastAffected l) = refl
  above_text v (Limit l) = rw (cmp_text (At v) l) refl

  limit_text : (t : Placed V) → is_limit (event_text f t) ≡ is_limit t
  limit_text (Introduced i) = refl
  limit_text (Fixed x) = refl
  limit_text (LastAffected l) = refl
  limit_text (Limit l) = refl

  ends_text : (from : Bound V) (v : V) (t : Placed V) → ends R (bound_text f from) (f v) (event_text f t) ≡ ends (on f R) from v t
  ends_text from v (Introduced i) = refl
  ends_text from v (Fixed x) = rw (cmp_text from (At x)) refl
  ends_text from v (LastAffected l) = rw (cmp_text from (At l)) refl
  ends_text from v (Limit l) = refl

  brings_text : (all : List (Placed V)) (v : V) (t : Placed V) → brings R (map (event_text f) all) (f v) (event_text f t) ≡ brings (on f R) all v t
  brings_text all v (Introduced i) =
      rw (cmp_text i (At v), any_map (event_text f) (ends R (bound_text f i) (f v)) (ends (on f R) i v) (ends_text i v) all) refl
  brings_text all v (Fixed x) = refl
  brings_text all v (LastAffected l) = refl
  brings_text all v (Limit l) = refl

  -- whether the events have the version within
  pub holds_text : (v : V) (all : List (Placed V)) → holds R (map (event_text f) all) (f v) ≡ holds (on f R) all v
  holds_text v all = rw (
    any_map (event_text f) is_limit is_limit limit_text all,
    any_map (event_text f) (is_limit_above R (f v)) (is_limit_above (on f R) v) (above_text v) all,
    any_map (event_text f) (brings R (map (event_text f) all) (f v)) (brings (on f R) all v) (brings_text all v) all,
  ) refl

  between_text : (v x : V) (t : Placed V) → is_fix_between R (f v) (f x) (event_text f t) ≡ is_fix_between (on f R) v x t
  between_text v x (Introduced i) = refl
  between_text v x (Fixed y) = refl
  between_text v x (LastAffected l) = refl
  between_text v x (Limit l) = refl

  fix_text : (all : List (Placed V)) (v : V) (t : Placed V) → is_least_fix R (map (event_text f) all) (f v) (event_text f t) ≡ is_least_fix (on f R) all v t
  fix_text all v (Introduced i) = refl
  fix_text all v (Fixed x) = rw (any_map (event_text f) (is_fix_between R (f v) (f x)) (is_fix_between (on f R) v x) (between_text v x) all) refl
  fix_text all v (LastAffected l) = refl
  fix_text all v (Limit l) = refl

  -- where the least fix stands
  pub least_text : (v : V) (all : List (Placed V))
      → position_from (is_least_fix R (map (event_text f) all) (f v)) 0 (map (event_text f) all) ≡ position_from (is_least_fix (on f R) all v) 0 all
  least_text v all = place_map (event_text f) (is_least_fix R (map (event_text f) all) (f v)) (is_least_fix (on f R) all v) (fix_text all v) 0 all
