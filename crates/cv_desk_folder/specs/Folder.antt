-- Layers as folders (defined by this project): the folder of a layer is `layers/sha256/` and the 64 digits of its digest, below
-- the working directory.
use Rattle.std.specs.Prelude.{ℕ, ◌+◌, List, ◌++◌, codes}
use Rattle.cv_base.specs.declared.limits.TheConstants.{MAX_ENTRIES}
use Rattle.hex.specs.Hex.{encode_lower}

-- the folder of a layer
abbrev pub folder_text : List ℕ → List ℕ
folder_text digest = codes "layers/sha256/" ++ encode_lower digest

-- the most entries that a walk lists: one more than a layer may have, so that a layer with more entries is refused
abbrev pub most_entries : ℕ
most_entries = MAX_ENTRIES + 1
