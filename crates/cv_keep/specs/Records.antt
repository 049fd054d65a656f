-- The records of a file (defined by this project). A gate byte stands at 0. An open gate, 01, is followed by a length in eight
-- bytes, the most significant one first, a record of that many bytes, and the next gate; it counts only where all of these lie
-- inside the file. Any other gate is closed and ends the list, as does the end of an empty file.
use Rattle.std.specs.Prelude.{◌≡◌, ℕ, zero, suc, ◌+◌, ◌==◌, ◌&&◌, nat_lt, Bool, if◌then◌else◌, List, [], ◌∷◌, length, take, drop}
use Rattle.std.specs.Int.{w64, from_be_bytes}

-- the length of the record, which stands after its gate
unfoldable pub size : List ℕ → ℕ
size rest = from_be_bytes w64 (take 8 rest)

-- the gate is open, and its record and the next gate lie inside the file
abbrev pub counts : ℕ → List ℕ → Bool
counts gate rest = (gate == 1) && nat_lt (8 + size rest) (length rest)

-- the first records of a file, at most this number
abbrev pub first_records : ℕ → List ℕ → List (List ℕ)
first_records zero file = []
first_records (suc more) [] = []
first_records (suc more) (gate ∷ rest) =
    if counts gate rest then take (size rest) (drop 8 rest) ∷ first_records more (drop (8 + size rest) rest) else []

-- the records of a file; there are no more of them than it has bytes
unfoldable pub records : List ℕ → List (List ℕ)
records file = first_records (length file) file

-- where the gate stands that follows these records
abbrev pub gate_after : List (List ℕ) → ℕ
gate_after [] = 0
gate_after (bytes ∷ more) = 9 + length bytes + gate_after more

-- an image has the records of a file
abbrev pub HasRecordsOf : List ℕ → List ℕ → Type 0
HasRecordsOf file image = records image ≡ records file
