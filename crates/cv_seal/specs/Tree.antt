-- The seal of a layer as it is stored (defined by this project): all entries of its tree in their order, each as a listing gives
-- it, and with its bytes where they are summed.
use Rattle.std.specs.Prelude.{ℕ, if◌then◌else◌, List, [], map}
use Rattle.cv_desk.specs.Stored.{Item, Dir, File, Other, Stored, listed}
use Rattle.cv_seal.specs.Seal.{SealedEntry, is_summed, seal_of}

-- the bytes of an item; only a file has some
abbrev pub bytes_of : Item → List ℕ
bytes_of Dir = []
bytes_of (File bytes) = bytes
bytes_of Other = []

-- an entry of a tree, with its bytes where they are summed
abbrev pub sealed : Stored → SealedEntry
sealed e = record { entry = listed e; content = if is_summed (listed e) then bytes_of e.item else [] }

-- the seal of a tree
unfoldable pub tree_seal : List Stored → List ℕ
tree_seal stored = seal_of (map sealed stored)
