-- What a seal has taken in so far, as the list of the entries that it was given.
use Rattle.std.specs.Prelude.{List}
use Rattle.cv_seal.specs.Seal.{SealedEntry, summed_bytes}
use Rattle.cv_seal.specs.code.Summed.{HasSummed}
use Rattle.cv_seal.specs.declared.seal.Seal.{Seal}

-- the seal has taken in these entries, in this order
unfoldable pub HasTaken : Seal → List SealedEntry → Type 0
HasTaken seal entries = HasSummed seal (summed_bytes entries)
