-- The definitions, computed on examples.
use Rattle.std.proofs.Common.{◌≡◌, [], ◌∷◌, refl, codes}
use Rattle.std.specs.declared.cmp.Ordering.TheVariants.{Less, Equal, Greater}
use Rattle.std.specs.Ordering.{nat_cmp}
use Rattle.cv_order.specs.Digits.{front_digits, after_digits, without_zeros, number_cmp}
use Rattle.cv_order.specs.Filled.{filled_cmp}

-- a text is cut where its digits end
cut : (front_digits (codes "010-a") ≡ codes "010") × (after_digits (codes "010-a") ≡ codes "-a")
cut = (refl, refl)

-- leading zeros do not count, and a run of zeros is the empty run, which is 0
zeros : (without_zeros (codes "0010") ≡ codes "10") × (number_cmp (codes "007") (codes "7") ≡ Equal) × (number_cmp (codes "000") [] ≡ Equal)
zeros = (refl, refl, refl)

-- numbers past 64 bits, and past any number of bits
long : (number_cmp (codes "100000000000000000000000000001") (codes "100000000000000000000000000000") ≡ Greater) × (number_cmp (codes "18446744073709551616") (codes "1") ≡ Greater) × (number_cmp (codes "9") (codes "10") ≡ Less)
long = (refl, refl, refl)

-- the shorter list goes on with the filler, here 5
filled : (filled_cmp nat_cmp 5 (1 ∷ []) (1 ∷ 6 ∷ []) ≡ Less) × (filled_cmp nat_cmp 5 (1 ∷ []) (1 ∷ 4 ∷ []) ≡ Greater) × (filled_cmp nat_cmp 5 (1 ∷ []) (1 ∷ 5 ∷ []) ≡ Equal)
filled = (refl, refl, refl)
