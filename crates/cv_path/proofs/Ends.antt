-- The bytes that are dropped at the end of a text.
use Rattle.std.proofs.Common.{◌≡◌, ℕ, Bool, true, false, List, [], ◌∷◌, ◌++◌, refl, sym, ap, ◌∙◌}
use Rattle.cv_path.specs.Cuts.{keep, without_end}

more : (p : ℕ → Bool) (ys : List ℕ) (x : ℕ) → p x ≡ true → without_end p (ys ++ x ∷ []) ≡ without_end p ys
more p [] x e = simp e
more p (y ∷ ys) x e = ap (keep p y) (more p ys x e)

kept : (p : ℕ → Bool) (y : ℕ) (ys : List ℕ) (x : ℕ) → keep p y (ys ++ x ∷ []) ≡ y ∷ (ys ++ x ∷ [])
kept p y [] x = refl
kept p y (z ∷ zs) x = refl

done : (p : ℕ → Bool) (ys : List ℕ) (x : ℕ) → p x ≡ false → without_end p (ys ++ x ∷ []) ≡ ys ++ x ∷ []
done p [] x e = simp e
done p (y ∷ ys) x e = ap (keep p y) (done p ys x e) ∙ kept p y ys x

-- a last byte that is dropped goes
pub end_more : (p : ℕ → Bool) (xs ys : List ℕ) (x : ℕ) → xs ≡ ys ++ x ∷ [] → p x ≡ true → without_end p ys ≡ without_end p xs
end_more p xs ys x e h = sym (ap (without_end p) e ∙ more p ys x h)

-- and one that is not keeps the text as it is
pub end_done : (p : ℕ → Bool) (xs ys : List ℕ) (x : ℕ) → xs ≡ ys ++ x ∷ [] → p x ≡ false → xs ≡ without_end p xs
end_done p xs ys x e h = e ∙ (sym (done p ys x h) ∙ ap (without_end p) (sym e))
