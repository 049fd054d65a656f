-- The desks of the workers are the first ones of all.
use Rattle.std.specs.Prelude.{◌≡◌, ℕ, ◌≤◌, List, ◌++◌, length, take}
use Rattle.std.proofs.Common.{ap, append_assoc, subst, sym, ◌∙◌}
use Rattle.std.proofs.lemmas.List.{take-take, take_at}

-- they are so after a run, too
front_of : {X : Type 0} (new back tail : List X) (count len : ℕ) → length new ≡ count → count ≤ len → take count (take len (new ++ back ++ tail)) ≡ new
front_of new back tail count len size within =
    take-take count len (new ++ back ++ tail) within ∙ ap (take count) (append_assoc new back tail) ∙ take_at new (back ++ tail) count size

-- what is said of a run over them alone is said of the first ones of all
pub over_mine : {D E : Type 0} (P : ℕ → List D → List D → E → Type 0) (count len : ℕ) (mine desks new back tail : List D) (ended stopped : E)
    → length mine ≡ count → mine ≡ take count desks → length new ≡ length mine → count ≤ len → ended ≡ stopped
    → P (length mine) mine new stopped → P count (take count desks) (take count (take len (new ++ back ++ tail))) ended
over_mine {D} P count len mine desks new back tail ended stopped size front same within is h =
    subst (λ (n : ℕ). P n (take count desks) (take count (take len (new ++ back ++ tail))) ended) size
    (subst (λ (ds : List D). P (length mine) ds (take count (take len (new ++ back ++ tail))) ended) front
    (subst (λ (ds : List D). P (length mine) mine ds ended) (sym (front_of new back tail count len (same ∙ size) within))
    (subst (P (length mine) mine new) (sym is) h)))
