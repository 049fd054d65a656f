-- Items are put in order one by one, the last of them first.
use Rattle.std.specs.Prelude.{◌≡◌, List, [], ◌∷◌, ◌++◌, refl}
use Rattle.std.specs.BTreeSet.{insert_key}
use Rattle.std.specs.declared.cmp.Ordering.{Ordering}
use Rattle.std.proofs.Common.{ap}
use Rattle.cv_base.specs.InOrder.{in_order}

-- items put among others that are in order
abbrev pub put_all : {K : Type 0} → (K → K → Ordering) → List K → List K → List K
put_all cmp others [] = others
put_all cmp others (k ∷ ks) = insert_key cmp (put_all cmp others ks) k

-- the last one is put first
pub put_last : {K : Type 0} (cmp : K → K → Ordering) (others ks : List K) (k : K) → put_all cmp others (ks ++ k ∷ []) ≡ put_all cmp (insert_key cmp others k) ks
put_last cmp others [] k = refl
put_last {K} cmp others (q ∷ ks) k = ap (λ (xs : List K). insert_key cmp xs q) (put_last cmp others ks k)

-- put among none they are in order
pub put_none : {K : Type 0} (cmp : K → K → Ordering) (ks : List K) → put_all cmp [] ks ≡ in_order cmp ks
put_none cmp [] = refl
put_none {K} cmp (k ∷ ks) = ap (λ (xs : List K). insert_key cmp xs k) (put_none cmp ks)
