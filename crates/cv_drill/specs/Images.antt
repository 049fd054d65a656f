-- The images of the drill and their layers (defined by this project). The digest of an image or a layer says what it is: the
-- first byte is a role, the next four are a number, the most significant byte first, and the others are 0.
use Rattle.std.specs.Prelude.{ℕ, ◌+◌, ◌*◌, ◌%◌, ◌==◌, if◌then◌else◌, List, [], ◌∷◌, ◌++◌, map, codes, replicate}
use Rattle.std.specs.Int.{to_be_bytes, w32}
use Rattle.serde_json.specs.Data.{Data, array, no_members, member, number, unsigned, object, string}
use Rattle.serde_json.specs.View.{items_of}
use Rattle.cv_base.specs.Digest.{digest_text}
use Rattle.cv_drill.specs.declared.digest.Role.{Role}
use Rattle.cv_drill.specs.declared.digest.Role.TheVariants.{System, Database, Modules, Opaque, Image}

-- the byte of a role
abbrev pub role_byte : Role → ℕ
role_byte System = 0
role_byte Database = 1
role_byte Modules = 2
role_byte Opaque = 3
role_byte Image = 255

-- the digest of a role and a number
abbrev pub role_digest : Role → ℕ → List ℕ
role_digest role n = role_byte role ∷ to_be_bytes w32 n ++ replicate 27 0

-- an image by its number
abbrev pub image : ℕ → List ℕ
image i = role_digest Image i

-- the layers that every image has
abbrev pub lower_layers : ℕ → ℕ → List (List ℕ)
lower_layers offset i =
    role_digest System (offset + i % 50)
    ∷ role_digest Database (offset + (3 * i + 1) % 50)
    ∷ role_digest Modules (offset + (7 * i + 2) % 50)
    ∷ []

-- the layers above them: an image with an odd number hides its modules, and has others
abbrev pub upper_layers : ℕ → ℕ → List (List ℕ)
upper_layers offset i =
    if i % 2 == 1 then role_digest Opaque (offset + i % 50) ∷ role_digest Modules (offset + (i + 5) % 50) ∷ [] else []

-- the layers of an image, the lowest first
abbrev pub layers : ℕ → ℕ → List (List ℕ)
layers offset i = lower_layers offset i ++ upper_layers offset i

-- a layer in a manifest
abbrev pub layer_data : List ℕ → Data
layer_data layer = object (member (codes "hash") (string (digest_text layer)) no_members)

-- the manifest of an image
abbrev pub manifest_data : List ℕ → List (List ℕ) → Data
manifest_data hash ls =
    object (member (codes "hash") (string (digest_text hash))
    (member (codes "layers") (array (items_of (map layer_data ls))) no_members))

-- the lane that asks about an image
abbrev pub lane : ℕ → ℕ
lane i = i % 8

-- the request that registers an image
abbrev pub register_data : ℕ → ℕ → Data
register_data offset i =
    object (member (codes "do") (string (codes "register"))
    (member (codes "lane") (number (unsigned (lane i)))
    (member (codes "manifest") (manifest_data (image i) (layers offset i)) no_members)))

-- the request for a report on an image
abbrev pub report_data : ℕ → Data
report_data i =
    object (member (codes "do") (string (codes "report"))
    (member (codes "image") (string (digest_text (image i)))
    (member (codes "lane") (number (unsigned (lane i))) no_members)))
