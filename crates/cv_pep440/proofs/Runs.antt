-- The runs of a local version, one after the other: what stands before the first separator, and the runs of what comes after.
use Rattle.std.proofs.Common.{◌≡◌, ℕ, Bool, true, false, not, List, [], ◌∷◌, length, take, drop, Option, Some, None, ◌<◌, ◌+◌, ◌-◌, refl, ap, ◌∙◌, add-one, length-drop, drop-cons, arith}
use Rattle.std.proofs.lemmas.List.{take_all}
use Rattle.std.proofs.lemmas.List.Quantifiers.{position-Some}
use Rattle.std.specs.declared.cmp.Ordering.TheVariants.{Less, Greater}
use Rattle.std.specs.Ordering.{ordering_then}
use Rattle.std.specs.Char.{is_ascii_alphanumeric}
use Rattle.std.specs.List.{list_all, onto_first, position}
use Rattle.cv_order.proofs.Fronts.{after_none, after_some, front_none, front_some}
use Rattle.cv_pep440.specs.Order.{local_cmp, run_cmp, run_key}
use Rattle.cv_pep440.specs.Bytes.{is_run, is_separator}
use Rattle.cv_pep440.specs.Parts.{runs}
use Rattle.cv_pep440.specs.code.Walk.{after_run, front_run, remaining_len, rest_of, runs_after}

abbrev in_run : ℕ → Bool
in_run byte = not (is_separator byte)

-- by the place of the separator
pub front_run_some : (xs : List ℕ) (i : ℕ) → position is_separator xs ≡ Some i → front_run xs ≡ take i xs
front_run_some xs = front_some in_run is_separator (λ x. refl) xs

pub front_run_none : (xs : List ℕ) → position is_separator xs ≡ None → front_run xs ≡ xs
front_run_none xs = front_none in_run is_separator (λ x. refl) xs

next_of : (xs : List ℕ) (i : ℕ) → i < length xs → rest_of (drop i xs) ≡ Some (take (length xs - (i + 1)) (drop (i + 1) xs))
next_of xs i h =
    let all : take (length xs - (i + 1)) (drop (i + 1) xs) ≡ drop (i + 1) xs = take_all _ (drop (i + 1) xs) (omega (arith, length-drop (i + 1) xs)) in
    rw (all, add-one, drop-cons xs i 0 h) refl

pub after_run_some : (xs : List ℕ) (i : ℕ) → position is_separator xs ≡ Some i → after_run xs ≡ Some (take (length xs - (i + 1)) (drop (i + 1) xs))
after_run_some xs i h = ap rest_of (after_some in_run is_separator (λ x. refl) xs i h) ∙ next_of xs i (position-Some is_separator xs i 0 h).0

pub after_run_none : (xs : List ℕ) → position is_separator xs ≡ None → after_run xs ≡ None
after_run_none xs h = ap rest_of (after_none in_run is_separator (λ x. refl) xs h)

cut_step : (x : ℕ) (xs : List ℕ) (b : Bool) → is_separator x ≡ b → runs xs ≡ front_run xs ∷ runs_after (after_run xs) → runs (x ∷ xs) ≡ front_run (x ∷ xs) ∷ runs_after (after_run (x ∷ xs))
cut_step x xs true h ih = simp h
cut_step x xs false h ih = simp h (ap (onto_first x) ih)

-- the first run, and the runs after it
pub runs_cut : (xs : List ℕ) → runs xs ≡ front_run xs ∷ runs_after (after_run xs)
runs_cut [] = refl
runs_cut (x ∷ xs) = cut_step x xs (is_separator x) refl (runs_cut xs)

shorter_step : (x : ℕ) (xs rest : List ℕ) (b : Bool) → is_separator x ≡ b → (after_run xs ≡ Some rest → length rest < length xs) → after_run (x ∷ xs) ≡ Some rest → length rest < length (x ∷ xs)
shorter_step x xs rest true h ih e =
    let same : xs ≡ rest = cc (simp h at e) in omega (arith, ap length same)
shorter_step x xs rest false h ih e = let less : length rest < length xs = ih (simp h at e) in omega arith

shorter : (xs rest : List ℕ) → after_run xs ≡ Some rest → length rest < length xs
shorter [] rest e = absurd (cc e)
shorter (x ∷ xs) rest e = shorter_step x xs rest (is_separator x) refl (shorter xs rest) e

-- what comes after a run leaves less to read
pub after_len : (xs : List ℕ) → remaining_len (after_run xs) < length xs + 1
after_len xs = by_case (after_run xs) refl where
  by_case : (o : Option (List ℕ)) → after_run xs ≡ o → remaining_len (after_run xs) < length xs + 1
  by_case None e = rw e (omega arith)
  by_case (Some rest) e = let less : length rest < length xs = shorter xs rest e in rw e (omega arith)

-- a run is not empty
pub run_some : (text : List ℕ) → 0 < length text → is_run text ≡ list_all is_ascii_alphanumeric text
run_some [] some = absurd (omega (arith, some))
run_some (x ∷ xs) some = refl

-- the first runs decide, and then the runs after them
pub runs_place : (a b : List ℕ) → local_cmp (runs a) (runs b)
    ≡ ordering_then (run_cmp (run_key (front_run a)) (run_key (front_run b))) (local_cmp (runs_after (after_run a)) (runs_after (after_run b)))
runs_place a b = rw (runs_cut a, runs_cut b) refl

-- a local version that has not ended is greater than one that has
pub runs_left : (a : List ℕ) → local_cmp (runs a) [] ≡ Greater
runs_left a = rw (runs_cut a) refl

pub runs_right : (b : List ℕ) → local_cmp [] (runs b) ≡ Less
runs_right b = rw (runs_cut b) refl
