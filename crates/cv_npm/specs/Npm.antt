-- The package that npm's package.json names (npm's documentation of package.json, "name" and "version"), as this project reads
-- it. What is JSON is what `serde_json` reads.
--
-- `npm bytes` takes the bytes of the file. It gives the package of the members `name` and `version`, if the bytes are an
-- object with both, each a text that is not empty. In every other case it gives none: no JSON, not UTF-8, no object, a
-- member that is absent, no text or empty. A file has no fault.
use Rattle.std.specs.Prelude.{ℕ, if◌then◌else◌, List, codes, Option, None, option_and_then}
use Rattle.std.specs.Option.{option_map}
use Rattle.std.specs.Str.{is_utf8}
use Rattle.serde_json.specs.Data.{Data}
use Rattle.serde_json.specs.Find.{as_str, get}
use Rattle.serde_json.specs.Read.{read}
use Rattle.cv_base.specs.Texts.{filled}
use Rattle.cv_npm.specs.declared.package.NpmPackage.{NpmPackage}

-- the value that bytes are, if they are a JSON text in UTF-8
abbrev pub json_of : List ℕ → Option Data
json_of bytes = if is_utf8 bytes then read bytes else None

-- a member that is a text and not empty. Only an object has members, and of a key that stands twice the last one counts.
abbrev pub text_at : List ℕ → Data → Option (List ℕ)
text_at key value = option_and_then filled (option_and_then as_str (get key value))

-- a package of a name and a version, if both are present
abbrev pub package_of : Option (List ℕ) → Option (List ℕ) → Option NpmPackage
package_of name version = option_and_then (λ n. option_map (λ v. record { name = n; version = v }) version) name

-- the package that a value names
abbrev pub package_in : Data → Option NpmPackage
package_in value = package_of (text_at (codes "name") value) (text_at (codes "version") value)

-- the package of a package.json
abbrev pub npm : List ℕ → Option NpmPackage
npm bytes = option_and_then package_in (json_of bytes)
