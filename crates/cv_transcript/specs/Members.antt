-- Members of an object (defined by this project). Each goes to the place of its name, in the order of bytes.
use Rattle.std.specs.Prelude.{ℕ, List, map, Option, Some, None}
use Rattle.serde_json.specs.Data.{Data, Members, array, null, number, put, string, unsigned}
use Rattle.cv_base.specs.Digest.{digest_text}
use Rattle.cv_scan_output.specs.Finding.{items_of}

-- with a text
abbrev pub put_text : List ℕ → List ℕ → Members → Members
put_text name text members = put name (string text) members

-- with a whole number
abbrev pub put_number : List ℕ → ℕ → Members → Members
put_number name n members = put name (number (unsigned n)) members

-- with a digest, in full
abbrev pub put_digest : List ℕ → List ℕ → Members → Members
put_digest name digest members = put name (string (digest_text digest)) members

-- a digest
abbrev pub digest_data : List ℕ → Data
digest_data digest = string (digest_text digest)

-- a list of digests
abbrev pub digests_data : List (List ℕ) → Data
digests_data digests = array (items_of (map digest_data digests))

-- a seal, or null if there is none
abbrev pub seal_data : Option (List ℕ) → Data
seal_data None = null
seal_data (Some digest) = digest_data digest

-- a list of seals
abbrev pub seals_data : List (Option (List ℕ)) → Data
seals_data seals = array (items_of (map seal_data seals))
