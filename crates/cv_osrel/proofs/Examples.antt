-- The definitions, computed on examples.
use Rattle.std.proofs.Common.{◌≡◌, ℕ, List, [], ◌∷◌, ◌++◌, refl, codes, Option, None, Some}
use Rattle.std.specs.Str.{is_utf8, chars}
use Rattle.cv_base.specs.declared.package.PackageKind.TheVariants.{Deb, Apk, Npm, Pypi}
use Rattle.cv_osrel.specs.Ecosystem.{branch, eco}
use Rattle.cv_osrel.specs.System.{os_of, trimmed, value_by}
use Rattle.cv_osrel.specs.Value.{value_of}
use Rattle.cv_osrel.specs.declared.name.OsName.{OsName}

-- the three forms, with nothing after a closing quote
forms : (value_of (codes "\"a b\"") ≡ Some (codes "a b")) × (value_of (codes "'a \"\\ b'") ≡ Some (codes "a \"\\ b")) × (value_of (codes "3.18") ≡ Some (codes "3.18"))
    × (value_of [] ≡ Some []) × (value_of (codes "\"\"") ≡ Some []) × (value_of (codes "''") ≡ Some [])
forms = (refl, refl, refl, refl, refl, refl)

-- a backslash before `"`, `$`, a backslash and a backquote is dropped, and any other stays
escapes : (value_of (codes "\"\\\"\\$\\\\\\`\\n\"") ≡ Some (codes "\"$\\`\\n")) × (value_of (codes "\"a\\\\\"") ≡ Some (codes "a\\")) × (value_of (codes "\"a\\\"") ≡ None)
escapes = (refl, refl, refl)

-- what is no value
no_values : (value_of (codes "a b") ≡ None) × (value_of (codes "a\\b") ≡ None) × (value_of (codes "a\"") ≡ None) × (value_of (codes "a'b'") ≡ None)
    × (value_of (codes "\"a\"b") ≡ None) × (value_of (codes "'a' ") ≡ None) × (value_of (codes "\"a") ≡ None) × (value_of (codes "'a") ≡ None)
no_values = (refl, refl, refl, refl, refl, refl, refl, refl)

-- blanks and CRs are dropped at both ends of a line
ends : trimmed (codes " \t\rID=a b \r") ≡ codes "ID=a b"
ends = refl

-- a name stands right before its `=`, and the value right after it
assignments : (value_by (codes "ID") (codes "ID=debian") ≡ Some (codes "debian")) × (value_by (codes "ID") (codes "ID=a=b") ≡ Some (codes "a=b"))
    × (value_by (codes "ID") (codes "ID =debian") ≡ None) × (value_by (codes "ID") (codes "ID= debian") ≡ None) × (value_by (codes "ID") (codes "#ID=debian") ≡ None)
    × (value_by (codes "ID") (codes "VERSION_ID=12") ≡ None) × (value_by (codes "1ID") (codes "1ID=debian") ≡ None) × (value_by (codes "ID") (codes "ID") ≡ None)
    × (value_by (codes "ID") (codes "id=debian") ≡ None)
unfolding is_utf8 chars lib.Utf8.encode
assignments = (refl, refl, refl, refl, refl, refl, refl, refl, refl)

abbrev linux : OsName
linux = record { id = codes "linux"; version = None }

-- an ordinary file
debian : os_of (codes "PRETTY_NAME=\"Debian GNU/Linux 12 (bookworm)\"\nNAME=\"Debian GNU/Linux\"\nVERSION_ID=\"12\"\nID=debian\nHOME_URL=\"https://www.debian.org/\"\n")
    ≡ record { id = codes "debian"; version = Some (codes "12") }
unfolding is_utf8 chars lib.Utf8.encode
debian = refl

-- the last assignment counts, also an empty one; and a value that is not UTF-8 leaves the one before in force
last : (os_of (codes "ID=a\nID=b\nVERSION_ID=1\nVERSION_ID=\n") ≡ record { id = codes "b"; version = None }) × (os_of (codes "ID=a\nID=''") ≡ linux)
    × (os_of (codes "ID=a\nID=" ++ 255 ∷ 10 ∷ []) ≡ record { id = codes "a"; version = None }) × (os_of [] ≡ linux)
unfolding is_utf8 chars lib.Utf8.encode
last = (refl, refl, refl, refl)

-- digits, a dot and digits at the front
branches : (branch (codes "3.18.4") ≡ Some (codes "3.18")) × (branch (codes "3.18_alpha") ≡ Some (codes "3.18")) × (branch (codes "3") ≡ None) × (branch (codes "3.") ≡ None)
    × (branch (codes ".18") ≡ None) × (branch (codes "v3.18") ≡ None) × (branch [] ≡ None) × (branch (codes "edge") ≡ None)
branches = (refl, refl, refl, refl, refl, refl, refl, refl)

-- the table
abbrev at : List ℕ → Option (List ℕ) → Option OsName
at i v = Some (record { id = i; version = v })

table : (eco (at (codes "debian") (Some (codes "12"))) Npm ≡ codes "npm") × (eco None Npm ≡ codes "npm") × (eco None Deb ≡ codes "unknown") × (eco None Apk ≡ codes "unknown")
    × (eco (at (codes "debian") (Some (codes "12"))) Deb ≡ codes "Debian:12") × (eco (at (codes "debian") None) Deb ≡ codes "Debian")
    × (eco (at (codes "alpine") (Some (codes "3.18.4"))) Apk ≡ codes "Alpine:v3.18") × (eco (at (codes "alpine") (Some (codes "edge"))) Apk ≡ codes "Alpine")
    × (eco (at (codes "alpine") None) Apk ≡ codes "Alpine") × (eco (at (codes "ubuntu") (Some (codes "22.04"))) Deb ≡ codes "ubuntu:22.04") × (eco (at (codes "arch") None) Deb ≡ codes "arch")
    × (eco (at (codes "debian") (Some (codes "12"))) Pypi ≡ codes "PyPI") × (eco None Pypi ≡ codes "PyPI")
table = (refl, refl, refl, refl, refl, refl, refl, refl, refl, refl, refl, refl, refl)
