-- A whole installed database of apk (Alpine wiki, "Apk spec", installed database v2), as this project reads it. An empty line
-- ends a package, several are one end, and so is the end of the file.
--
-- `installed bytes` takes the bytes of the file. It gives its packages in order, each as an `ApkPackage` (name, version, arch,
-- origin), or the fault at the least faulty line as a `FileBad` (its number from 1, and what is wrong).
use Rattle.std.specs.Prelude.{ℕ, ◌&&◌, if◌then◌else◌, not, List, Option, None, Some, Result}
use Rattle.std.specs.List.{list_all, slice_split}
use Rattle.std.specs.Option.{is_some}
use Rattle.cv_base.specs.Cuts.{is_lf}
use Rattle.cv_base.specs.Printing.{is_printing}
use Rattle.cv_base.specs.Texts.{is_nil}
use Rattle.cv_base.specs.declared.fault.FileBad.{FileBad}
use Rattle.cv_base.specs.declared.fault.What.{What}
use Rattle.cv_base.specs.declared.fault.What.TheVariants.{NoColon, NoVersion, BadValue, NoName, Repeated}
use Rattle.cv_stanza.specs.Blocks.{BlockRules, read_blocks, unless}
use Rattle.cv_apkdb.specs.Package.{Entry, Facts, entry_of, facts, is_used, package_in, value}
use Rattle.cv_apkdb.specs.declared.letter.Letter.{Letter}
use Rattle.cv_apkdb.specs.declared.letter.Letter.TheVariants.{Name, Version, Arch, Origin, Unused}
use Rattle.cv_apkdb.specs.declared.package.ApkPackage.{ApkPackage}

-- the fault of a value: a used letter has printing bytes, and P and V at least one
abbrev pub value_fault : Letter → List ℕ → Option What
value_fault Name v = unless (not (is_nil v) && list_all is_printing v) BadValue
value_fault Version v = unless (not (is_nil v) && list_all is_printing v) BadValue
value_fault Arch v = unless (list_all is_printing v) BadValue
value_fault Origin v = unless (list_all is_printing v) BadValue
value_fault Unused v = None

-- the fault of an entry after these lines of its package: a used letter that stood before, then a bad value
abbrev pub entry_fault : List (List ℕ) → Option Entry → Option What
entry_fault before None = Some NoColon
entry_fault before (Some e) = if is_used e.letter && is_some (value e.letter before) then Some Repeated else value_fault e.letter e.value

-- the fault of a whole package: no name, then no version
abbrev pub whole_fault : Facts → Option What
whole_fault f = if not (is_some f.name) then Some NoName else unless (is_some f.version) NoVersion

-- the rules of the blocks, each of which is a package
abbrev pub rules : BlockRules ApkPackage
rules = record {
  line_fault = λ before line. entry_fault before (entry_of line);
  whole_fault = λ lines. whole_fault (facts lines);
  items = λ lines. package_in (facts lines);
}

-- the lines of a file lie between LFs, and nothing is dropped at their ends
abbrev pub lines : List ℕ → List (List ℕ)
lines bytes = slice_split is_lf bytes

-- the packages of an installed database, or its first fault
abbrev pub installed : List ℕ → Result (List ApkPackage) FileBad
installed bytes = read_blocks rules (lines bytes)
