-- What an affected entry is once its versions are read.
use Rattle.std.specs.Prelude.{ℕ, List, map}
use Rattle.cv_base.specs.declared.«package».PackageKind.{PackageKind}
use Rattle.cv_base.specs.declared.advisory.Affected.{Affected}
use Rattle.cv_match.specs.declared.entry.PreparedEntry.{PreparedEntry}
use Rattle.cv_match_range.specs.ReadRange.{events_of, range_text}

-- an entry by the texts of its versions
abbrev pub entry_text : {V : Type 0} → (V → List ℕ) → PreparedEntry V → PreparedEntry (List ℕ)
entry_text text entry = record { «package» = entry.«package»; ranges = map (range_text text) entry.ranges; versions = entry.versions }

-- an entry, read
abbrev pub prepared_entry : PackageKind → Affected → PreparedEntry (List ℕ)
prepared_entry kind entry = record { «package» = entry.«package»; ranges = map (events_of kind) entry.ranges; versions = entry.versions }
