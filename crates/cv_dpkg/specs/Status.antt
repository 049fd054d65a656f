-- A whole dpkg status file (Debian Policy 5.1, deb-control(5), dpkg(1)), as this project reads it. An empty line ends a
-- paragraph, several are one end, and so is the end of the file.
--
-- `status bytes rule` takes the bytes of the file and the rule on paragraphs without Status. It gives the packages that
-- count, in the order of their paragraphs, each as a `DebPackage` (name, version, source, source_version, arch), or the
-- fault at the least faulty line as a `FileBad` (its number from 1, and what is wrong).
use Rattle.std.specs.Prelude.{ℕ, Bool, true, false, ◌&&◌, ◌||◌, if◌then◌else◌, not, List, [], ◌∷◌, codes, map, Option, None, Some, Result, unwrap_or}
use Rattle.std.specs.List.{list_all, list_any, slice_split}
use Rattle.std.specs.Option.{is_some, option_map_or}
use Rattle.cv_base.specs.Cuts.{is_dropped, is_lf, without_end}
use Rattle.cv_base.specs.Printing.{is_printing}
use Rattle.cv_base.specs.Texts.{is_nil, same, same_name}
use Rattle.cv_base.specs.declared.fault.FileBad.{FileBad}
use Rattle.cv_base.specs.declared.fault.What.{What}
use Rattle.cv_base.specs.declared.fault.What.TheVariants.{NoColon, BadField, RepeatedField, LooseContinuation, NoPackage, NoVersion, BadStatus, BadValue}
use Rattle.cv_stanza.specs.Blocks.{BlockRules, read_blocks, unless}
use Rattle.cv_dpkg.specs.Fields.{Facts, Pair, facts, field_of, is_continuation, is_name, named, origin_of, state_of}
use Rattle.cv_dpkg.specs.declared.field.Field.{Field}
use Rattle.cv_dpkg.specs.declared.field.Field.TheVariants.{Package, Status, Version, Source, Architecture, Unused}
use Rattle.cv_dpkg.specs.declared.package.DebPackage.{DebPackage}
use Rattle.cv_dpkg.specs.declared.rule.StatusRule.{StatusRule}
use Rattle.cv_dpkg.specs.declared.rule.StatusRule.TheVariants.{Needed, Optional}

-- the fault of a value. Package is not empty; Package, Version and Architecture are printing bytes; Status is three words, the
-- last one a state; Source is empty, a name, or a name and a version in brackets; and other values may be anything.
abbrev pub value_fault : Field → List ℕ → Option What
value_fault Package v = unless (not (is_nil v) && list_all is_printing v) BadValue
value_fault Status v = unless (is_some (state_of v)) BadStatus
value_fault Version v = unless (list_all is_printing v) BadValue
value_fault Source v = unless (is_some (origin_of v)) BadValue
value_fault Architecture v = unless (list_all is_printing v) BadValue
value_fault Unused v = None

-- whether a field with this name stands among lines, used or not
abbrev pub stands : List ℕ → List (List ℕ) → Bool
stands name lines = list_any (λ t. option_map_or (λ f. same_name f.name name) (field_of t) false) lines

-- the fault of a field after these lines of its paragraph: a bad name, then a name that stood before, then a bad value
abbrev pub field_fault : List (List ℕ) → Option Pair → Option What
field_fault before None = Some NoColon
field_fault before (Some f) =
    if not (is_name f.name) then Some BadField
    else (if stands f.name before then Some RepeatedField else value_fault (named f.name) f.value)

-- the fault of a line after these lines of its paragraph
abbrev pub line_fault : List (List ℕ) → List ℕ → Option What
line_fault before text =
    if is_continuation text then (if is_nil before then Some LooseContinuation else None)
    else field_fault before (field_of text)

-- whether a value is absent or empty
abbrev pub is_missing : Option (List ℕ) → Bool
is_missing None = true
is_missing (Some v) = is_nil v

-- a package of which nothing but its configuration may remain
abbrev pub is_gone : List ℕ → Bool
is_gone state = same state (codes "not-installed") || same state (codes "config-files")

-- a package that was being installed, which has no version yet where it never was installed
abbrev pub is_half : List ℕ → Option (List ℕ) → Bool
is_half state version = same state (codes "half-installed") && is_missing version

-- whether the package of a paragraph counts, by its state and its version. One without a state counts.
abbrev pub counts : Option (List ℕ) → Option (List ℕ) → Bool
counts None version = true
counts (Some state) version = not (is_gone state || is_half state version)

-- whether a paragraph may lack its Status
abbrev pub is_optional : StatusRule → Bool
is_optional Needed = false
is_optional Optional = true

-- the fault of a whole paragraph: no Package, then no Status where it is needed, then no version of a package that counts
abbrev pub whole_fault : StatusRule → Facts → Option What
whole_fault rule f =
    if not (is_some f.name) then Some NoPackage
    else (if not (is_some f.state || is_optional rule) then Some BadStatus
    else unless (not (counts f.state f.version && is_missing f.version)) NoVersion)

-- a package with its name and version. Its source is Source's name, and else its own; the source's version is the one in
-- brackets, and else its own. An absent architecture is the empty text.
abbrev pub package_of : List ℕ → List ℕ → Facts → DebPackage
package_of n v f = record { name = n; version = v; source = unwrap_or f.source n; source_version = unwrap_or f.source_version v; arch = unwrap_or f.arch [] }

-- a package that has a name and a version, which each one that counts has where there is no fault
abbrev pub package_by : Option (List ℕ) → Option (List ℕ) → Facts → List DebPackage
package_by None version f = []
package_by (Some n) None f = []
package_by (Some n) (Some v) f = package_of n v f ∷ []

-- the package of a paragraph, if it counts
abbrev pub package_in : Facts → List DebPackage
package_in f = if counts f.state f.version then package_by f.name f.version f else []

-- the rules of the blocks, each of which is a paragraph
abbrev pub rules : StatusRule → BlockRules DebPackage
rules rule = record {
  line_fault = line_fault;
  whole_fault = λ lines. whole_fault rule (facts lines);
  items = λ lines. package_in (facts lines);
}

-- the lines of a file lie between LFs, and blanks and CRs at their ends are dropped
abbrev pub lines : List ℕ → List (List ℕ)
lines bytes = map (without_end is_dropped) (slice_split is_lf bytes)

-- the packages of a status file, or its first fault
abbrev pub status : List ℕ → StatusRule → Result (List DebPackage) FileBad
status bytes rule = read_blocks (rules rule) (lines bytes)
