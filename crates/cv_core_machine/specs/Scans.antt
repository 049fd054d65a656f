-- The scan of a registered image (defined by this project): that of its layers as a desk's type names them, with their stated
-- seals.
use Rattle.std.specs.Prelude.{ℕ, List, map, Option, None, IsSome}
use Rattle.std.specs.Option.{unwrap_or}
use Rattle.cv_desk.specs.Stored.{Stored}
use Rattle.cv_scan.specs.Scan.{Scanned, scan}
use Rattle.cv_core_machine.specs.State.{Feeds}
use Rattle.cv_core_machine.specs.declared.image.Image.{Image}

-- the layer of each digest, and none where there is no such layer
abbrev pub Trees : Type 0
Trees = List ℕ → Option (List Stored)

-- a desk's type says of each digest whether there is such a layer, and what it has
abbrev pub StatesEveryLayer : (List ℕ → Option (Option (List Stored))) → Type 0
StatesEveryLayer tree = (digest : List ℕ) → IsSome (tree digest)

-- the layers of a desk's type that is known
abbrev pub trees_of : (List ℕ → Option (Option (List Stored))) → Trees
trees_of tree digest = unwrap_or (tree digest) None

-- the scan of an image with the records of these feeds
abbrev pub image_scan : Trees → Feeds → Image → Scanned
image_scan trees feeds image = scan (map trees image.layers) image.seals feeds
