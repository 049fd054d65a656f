-- The pieces of a text, one after the other: what stands before the first cut, and the pieces of what comes after it.
use Rattle.std.proofs.Common.{◌≡◌, ℕ, Bool, true, false, List, [], ◌∷◌, length, Option, Some, None, ◌<◌, ◌+◌, ◌==◌, ◌&&◌, refl, ap, ◌∙◌, arith}
use Rattle.std.specs.List.{onto_first}
use Rattle.cv_apkver.specs.Grammar.{DOT, is_number}
use Rattle.cv_apkver.specs.Parts.{before, after, is_last_number, is_release, pieces, pieces_after}
use Rattle.cv_apkver.specs.code.Walk.{remaining_len}

cut_step : (c x : ℕ) (xs : List ℕ) (b : Bool) → (x == c) ≡ b → pieces c xs ≡ before c xs ∷ pieces_after c (after c xs)
    → pieces c (x ∷ xs) ≡ before c (x ∷ xs) ∷ pieces_after c (after c (x ∷ xs))
cut_step c x xs true h ih = simp h
cut_step c x xs false h ih = simp h (ap (onto_first x) ih)

-- a text is the piece before the first cut and the pieces after it
pub pieces_cut : (c : ℕ) (xs : List ℕ) → pieces c xs ≡ before c xs ∷ pieces_after c (after c xs)
pieces_cut c [] = refl
pieces_cut c (x ∷ xs) = cut_step c x xs (x == c) refl (pieces_cut c xs)

shorter_step : (c x : ℕ) (xs rest : List ℕ) (b : Bool) → (x == c) ≡ b → (after c xs ≡ Some rest → length rest < length xs) → after c (x ∷ xs) ≡ Some rest → length rest < length (x ∷ xs)
shorter_step c x xs rest true h ih e =
    let same : xs ≡ rest = cc (simp h at e) in omega (arith, ap length same)
shorter_step c x xs rest false h ih e = let less : length rest < length xs = ih (simp h at e) in omega arith

-- what comes after a cut is shorter
pub shorter : (c : ℕ) (xs rest : List ℕ) → after c xs ≡ Some rest → length rest < length xs
shorter c [] rest e = absurd (cc e)
shorter c (x ∷ xs) rest e = shorter_step c x xs rest (x == c) refl (shorter c xs rest) e

-- the last piece of a release
pub release_last : (text : List ℕ) → after DOT text ≡ None → is_release (pieces DOT text) ≡ is_last_number (before DOT text)
release_last text e = rw (pieces_cut DOT text, e) refl

release_both : (text rest : List ℕ) → after DOT text ≡ Some rest → is_release (pieces DOT text) ≡ (is_number (before DOT text) && is_release (pieces DOT rest))
release_both text rest e = rw (pieces_cut DOT text, e, pieces_cut DOT rest) refl

-- a piece that another one follows
pub release_more : (text rest : List ℕ) → after DOT text ≡ Some rest → is_number (before DOT text) ≡ true → is_release (pieces DOT text) ≡ is_release (pieces DOT rest)
release_more text rest e h = release_both text rest e ∙ ap (λ b. b && is_release (pieces DOT rest)) h

pub release_bad : (text rest : List ℕ) → after DOT text ≡ Some rest → is_number (before DOT text) ≡ false → is_release (pieces DOT text) ≡ false
release_bad text rest e h = release_both text rest e ∙ ap (λ b. b && is_release (pieces DOT rest)) h

-- what comes after a cut leaves less to read
pub after_len : (c : ℕ) (xs : List ℕ) → remaining_len (after c xs) < length xs + 1
after_len c xs = by_case (after c xs) refl where
  by_case : (o : Option (List ℕ)) → after c xs ≡ o → remaining_len (after c xs) < length xs + 1
  by_case None e = rw e (omega arith)
  by_case (Some rest) e = let less : length rest < length xs = shorter c xs rest e in rw e (omega arith)
