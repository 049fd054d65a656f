-- What a seal has summed so far, as bytes.
use Rattle.std.specs.Prelude.{ℕ, List}
use Rattle.sha2.specs.Hashers.{Holds256}
use Rattle.cv_seal.specs.declared.seal.Seal.{Seal}

-- the seal has summed these bytes
unfoldable pub HasSummed : Seal → List ℕ → Type 0
HasSummed seal bytes = Holds256 seal.hasher bytes
