-- The count of faults, computed.
use Rattle.std.specs.Prelude.{◌-◌, ◌^◌}
use Rattle.std.proofs.Common.{arith}
use Rattle.cv_seq.specs.Cause.{Rose}

-- a first fault is a rise
first : Rose 0 1
first = omega arith

-- a saturated count may stay there
last : Rose (2 ^ 64 - 1) (2 ^ 64 - 1)
last = omega arith

-- a count that stands has not risen
standing : Rose 3 3 → ⊥
standing h = omega (arith, h)

-- nor has the constant count of an object that never fails
calm : Rose 0 0 → ⊥
calm h = omega (arith, h)
