-- The records of files, computed.
use Rattle.std.proofs.Common.{◌≡◌, ℕ, List, [], ◌∷◌, ◌++◌, refl}
use Rattle.cv_keep.specs.Records.{records, size, gate_after}
use Rattle.cv_keep.specs.Disk.{written}

-- a record of two bytes after an open gate
abbrev two : List ℕ
two = 1 ∷ 0 ∷ 0 ∷ 0 ∷ 0 ∷ 0 ∷ 0 ∷ 0 ∷ 2 ∷ 7 ∷ 8 ∷ []

-- an empty file and a file of one gate, open or closed, have no record
none : (records [] ≡ []) × (records (0 ∷ []) ≡ []) × (records (1 ∷ []) ≡ [])
unfolding records size
none = (refl, refl, refl)

-- a record counts only with the gate after it, whatever that is
whole : (records two ≡ []) × (records (two ++ 0 ∷ []) ≡ (7 ∷ 8 ∷ []) ∷ []) × (records (two ++ 1 ∷ []) ≡ (7 ∷ 8 ∷ []) ∷ [])
unfolding records size
whole = (refl, refl, refl)

-- a gate other than 01 is closed, and ends the list
closed : (records (2 ∷ 0 ∷ 0 ∷ 0 ∷ 0 ∷ 0 ∷ 0 ∷ 0 ∷ 0 ∷ 0 ∷ []) ≡ []) × (records (two ++ 0 ∷ two ++ 0 ∷ []) ≡ (7 ∷ 8 ∷ []) ∷ [])
unfolding records size
closed = (refl, refl)

-- an empty record is one
empty : records (1 ∷ 0 ∷ 0 ∷ 0 ∷ 0 ∷ 0 ∷ 0 ∷ 0 ∷ 0 ∷ two ++ 0 ∷ []) ≡ [] ∷ (7 ∷ 8 ∷ []) ∷ []
unfolding records size
empty = refl

-- the gate after a record of two bytes
place : gate_after ((7 ∷ 8 ∷ []) ∷ []) ≡ 11
place = refl

-- a write over the end of a file
over : written 2 (5 ∷ 6 ∷ []) (1 ∷ 2 ∷ 3 ∷ []) ≡ 1 ∷ 2 ∷ 5 ∷ 6 ∷ []
over = refl
