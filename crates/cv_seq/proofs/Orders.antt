-- Laws of orders.
use Rattle.std.specs.Prelude.{◌≡◌, true, refl}
use Rattle.std.specs.Cmp.{IsTotalOrder}
use Rattle.std.specs.Ordering.{is_eq, ordering_reverse}
use Rattle.std.specs.declared.cmp.Ordering.{Ordering}
use Rattle.std.specs.declared.cmp.Ordering.TheVariants.{Less, Equal, Greater}
use Rattle.std.proofs.Common.{ap, ◌∙◌}

-- of two keys the one that is not after is before
pub turned : {K : Type 0} {cmp : K → K → Ordering} → IsTotalOrder cmp → (p q : K) → cmp p q ≡ Greater → cmp q p ≡ Less
turned o p q h = o.antisymm q p ∙ ap ordering_reverse h

pub equal_of : (r : Ordering) → is_eq r ≡ true → r ≡ Equal
equal_of Less h = cc
equal_of Equal h = refl
equal_of Greater h = cc
