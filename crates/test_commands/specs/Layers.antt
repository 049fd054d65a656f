-- The layers that the tests scan, as plain data.
use Rattle.std.specs.Prelude.{ℕ, ◌==◌, if◌then◌else◌, List, [], ◌∷◌, codes, Option, Some, None}
use Rattle.cv_base.specs.declared.tree.Kind.TheVariants as kind
use Rattle.cv_desk.specs.Row.{Row}

-- a folder
abbrev pub dir : List ℕ → Row
dir path = record { path = path; kind = kind.Dir; bytes = [] }

-- a file with these bytes
abbrev pub file : List ℕ → List ℕ → Row
file path bytes = record { path = path; kind = kind.File; bytes = bytes }

-- the files of a layer below the folder of dpkg
abbrev pub with_dpkg : List Row → List Row
with_dpkg files = dir (codes "var") ∷ dir (codes "var/lib") ∷ dir (codes "var/lib/dpkg") ∷ files

-- the status file with these bytes
abbrev pub status_file : List ℕ → Row
status_file bytes = file (codes "var/lib/dpkg/status") bytes

-- the mark that hides the status file
abbrev pub no_status : Row
no_status = file (codes "var/lib/dpkg/.wh.status") []

-- a Debian system with a status file of these bytes
abbrev pub debian : List ℕ → List Row
debian bytes =
    dir (codes "etc") ∷ record { path = codes "etc/os-release"; kind = kind.Other; bytes = [] }
    ∷ dir (codes "usr") ∷ dir (codes "usr/lib") ∷ file (codes "usr/lib/os-release") (codes "ID=debian\nVERSION_ID=\"12\"\n")
    ∷ with_dpkg (status_file bytes ∷ [])

-- a status file with a package below its fixed version
abbrev pub old_status : List ℕ
old_status = codes "Package: libssl3\nStatus: install ok installed\nArchitecture: amd64\nSource: openssl (3.0.9-1)\nVersion: 3.0.9-1+b1\n"

-- at the fixed version
abbrev pub fixed_status : List ℕ
fixed_status = codes "Package: libssl3\nStatus: install ok installed\nArchitecture: amd64\nSource: openssl (3.0.11-1)\nVersion: 3.0.11-1\n"

-- with a version of one digit
abbrev pub short_status : List ℕ
short_status = codes "Package: libssl3\nStatus: install ok installed\nArchitecture: amd64\nSource: openssl (9)\nVersion: 9\n"

-- with another package
abbrev pub other_status : List ℕ
other_status = codes "Package: zlib1g\nStatus: install ok installed\nArchitecture: amd64\nSource: zlib\nVersion: 1:1.2.13.dfsg-1\n"

-- the files of a layer below the modules of one program
abbrev pub in_app : List Row → List Row
in_app rows = dir (codes "app") ∷ dir (codes "app/node_modules") ∷ rows

-- two npm packages
abbrev pub modules : List Row
modules =
    in_app (dir (codes "app/node_modules/x") ∷ file (codes "app/node_modules/x/package.json") (codes "{\"name\":\"x\",\"version\":\"1.0.0\"}")
    ∷ dir (codes "srv") ∷ dir (codes "srv/node_modules") ∷ dir (codes "srv/node_modules/y")
    ∷ file (codes "srv/node_modules/y/package.json") (codes "{\"name\":\"y\",\"version\":\"1.0.0\"}") ∷ [])

-- the mark that hides all below one of their folders
abbrev pub opaque : List Row
opaque = in_app (file (codes "app/node_modules/.wh..wh..opq") [] ∷ [])

-- an Alpine system
abbrev pub alpine : List Row
alpine =
    dir (codes "etc") ∷ file (codes "etc/os-release") (codes "ID=alpine\nVERSION_ID=3.18.4\n")
    ∷ dir (codes "lib") ∷ dir (codes "lib/apk") ∷ dir (codes "lib/apk/db")
    ∷ file (codes "lib/apk/db/installed") (codes "P:libcrypto3\nV:3.1.1-r1\nA:x86_64\no:openssl\n\n") ∷ []

-- a Python package
abbrev pub python : List Row
python =
    dir (codes "opt") ∷ dir (codes "opt/Foo_Bar-1.0.dist-info")
    ∷ file (codes "opt/Foo_Bar-1.0.dist-info/METADATA") (codes "Name: Foo.Bar\nVersion: 1.0\n\ntext\n") ∷ []

-- a status file whose line 3 has no colon
abbrev pub broken : List Row
broken = with_dpkg (status_file (codes "Package: a\nStatus: install ok installed\nnocolon\n") ∷ [])

-- the rows of the digests that begin with this byte, if they have a layer
abbrev pub rows_by : ℕ → Option (List Row)
rows_by byte =
    if byte == 170 then Some (debian old_status)
    else (if byte == 187 then Some (with_dpkg (no_status ∷ []))
    else (if byte == 204 then Some (with_dpkg (no_status ∷ status_file other_status ∷ []))
    else (if byte == 221 then Some modules
    else (if byte == 238 then Some opaque
    else (if byte == 255 then Some broken
    else (if byte == 0 then Some (file (codes "app") [] ∷ [])
    else (if byte == 34 then Some alpine
    else (if byte == 51 then Some (debian fixed_status)
    else (if byte == 68 then Some (with_dpkg (dir (codes "var/lib/dpkg/status") ∷ []))
    else (if byte == 85 then Some (file (codes ".wh.") [] ∷ [])
    else (if byte == 102 then Some (file (codes ".wh..wh..opq") [] ∷ [])
    else (if byte == 119 then Some (debian short_status)
    else (if byte == 136 then Some python
    else None)))))))))))))

-- the rows of a digest, by its first byte
abbrev pub rows_of : List ℕ → Option (List Row)
rows_of [] = None
rows_of (byte ∷ bytes) = rows_by byte
