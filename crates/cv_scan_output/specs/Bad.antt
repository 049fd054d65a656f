-- Why an image has no packages, as JSON (defined by this project). Indices of layers and entries count from 0, lines from 1.
-- A printed name is the words of the variant's name in lower case with `_` between them.
use Rattle.std.specs.Prelude.{ℕ, List, codes}
use Rattle.std.specs.List.{join_with_byte}
use Rattle.serde_json.specs.Data.{Data, no_members, member, number, object, string, unsigned}
use Rattle.cv_base.specs.Digest.{digest_text}
use Rattle.cv_base.specs.Path.{Path}
use Rattle.cv_base.specs.declared.fault.What.{What}
use Rattle.cv_base.specs.declared.fault.What.TheVariants.{NoColon, BadField, RepeatedField, LooseContinuation, NoPackage, NoVersion, BadStatus, BadValue, NoName, Repeated}
use Rattle.cv_overlay.specs.declared.fault.ImageFault.{ImageFault}
use Rattle.cv_overlay.specs.declared.fault.ImageFault.TheVariants.{NoLayer, BadTree, BadSeal, BadFile, TooLarge}
use Rattle.cv_overlay.specs.declared.fault.TreeFault.{TreeFault}
use Rattle.cv_overlay.specs.declared.fault.TreeFault.TheVariants.{Unsorted, NoParent, BadMark, TooMany}
use Rattle.cv_scan_output.specs.Line.{line_text}

-- a layer that is absent
abbrev pub no_layer_data : ℕ → Data
no_layer_data layer = object (member (codes "cause") (string (codes "no_layer")) (member (codes "layer") (number (unsigned layer)) no_members))

-- a layer with a bad entry
abbrev pub entry_data : ℕ → ℕ → List ℕ → Data
entry_data layer entry what =
    object (member (codes "cause") (string (codes "bad_tree"))
    (member (codes "entry") (number (unsigned entry))
    (member (codes "layer") (number (unsigned layer))
    (member (codes "what") (string what) no_members))))

-- a layer with too many entries
abbrev pub too_many_data : ℕ → Data
too_many_data layer =
    object (member (codes "cause") (string (codes "bad_tree"))
    (member (codes "layer") (number (unsigned layer))
    (member (codes "what") (string (codes "too_many")) no_members)))

-- a layer whose tree has a fault
abbrev pub bad_tree_data : ℕ → TreeFault → Data
bad_tree_data layer (Unsorted entry) = entry_data layer entry (codes "unsorted")
bad_tree_data layer (NoParent entry) = entry_data layer entry (codes "no_parent")
bad_tree_data layer (BadMark entry) = entry_data layer entry (codes "bad_mark")
bad_tree_data layer TooMany = too_many_data layer

-- a layer whose tree has another seal than the stated one
abbrev pub bad_seal_data : ℕ → List ℕ → List ℕ → Data
bad_seal_data layer stated found =
    object (member (codes "cause") (string (codes "bad_seal"))
    (member (codes "found") (string (digest_text found))
    (member (codes "layer") (number (unsigned layer))
    (member (codes "stated") (string (digest_text stated)) no_members))))

-- the printed name of what is wrong with a line of a package database
abbrev pub what_name : What → List ℕ
what_name NoColon = codes "no_colon"
what_name BadField = codes "bad_field"
what_name RepeatedField = codes "repeated_field"
what_name LooseContinuation = codes "loose_continuation"
what_name NoPackage = codes "no_package"
what_name NoVersion = codes "no_version"
what_name BadStatus = codes "bad_status"
what_name BadValue = codes "bad_value"
what_name NoName = codes "no_name"
what_name Repeated = codes "repeated"

-- a package file with a bad line; a path is its components with `/` between them
abbrev pub bad_file_data : Path → ℕ → What → Data
bad_file_data path line what =
    object (member (codes "cause") (string (codes "bad_file"))
    (member (codes "line") (number (unsigned line))
    (member (codes "path") (string (join_with_byte 47 path))
    (member (codes "what") (string (what_name what)) no_members))))

-- a package file with too many bytes
abbrev pub too_large_data : Path → Data
too_large_data path = object (member (codes "cause") (string (codes "too_large")) (member (codes "path") (string (join_with_byte 47 path)) no_members))

-- why an image has no packages
abbrev pub bad_data : ImageFault → Data
bad_data (NoLayer layer) = no_layer_data layer
bad_data (BadTree layer fault) = bad_tree_data layer fault
bad_data (BadSeal layer stated found) = bad_seal_data layer stated found
bad_data (BadFile path line what) = bad_file_data path line what
bad_data (TooLarge path) = too_large_data path

-- the JSON value of a bad image
abbrev pub bad_image_data : List ℕ → ImageFault → Data
bad_image_data image bad =
    object (member (codes "bad") (bad_data bad)
    (member (codes "image") (string (digest_text image))
    (member (codes "reply") (string (codes "bad_image")) no_members)))

-- an image that has no packages, with the reason
unfoldable pub bad_image_text : List ℕ → ImageFault → List ℕ
bad_image_text image bad = line_text (bad_image_data image bad)
