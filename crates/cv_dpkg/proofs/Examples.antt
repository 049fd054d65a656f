-- The definitions, computed on examples.
use Rattle.std.proofs.Common.{◌≡◌, ℕ, List, [], ◌∷◌, ◌++◌, refl, codes, None, Some, Result, Ok, Err}
use Rattle.cv_base.specs.Cuts.{is_dropped, without_end}
use Rattle.cv_base.specs.declared.fault.FileBad.{FileBad}
use Rattle.cv_base.specs.declared.fault.What.{What}
use Rattle.cv_base.specs.declared.fault.What.TheVariants.{NoColon, BadField, RepeatedField, LooseContinuation, NoPackage, NoVersion, BadStatus, BadValue}
use Rattle.cv_dpkg.specs.Fields.{origin_of, state_of, words}
use Rattle.cv_dpkg.specs.Status.{status}
use Rattle.cv_dpkg.specs.declared.package.DebPackage.{DebPackage}
use Rattle.cv_dpkg.specs.declared.rule.StatusRule.TheVariants.{Needed, Optional}

-- lines with an LF each
abbrev text : List (List ℕ) → List ℕ
text [] = []
text (l ∷ ls) = l ++ 10 ∷ text ls

-- a fault at a line
abbrev bad : ℕ → What → Result (List DebPackage) FileBad
bad n w = Err (record { line = n; what = w })

-- blanks and CRs at a line's end are dropped, and the last empty piece is a line that ends nothing more
dropped : without_end is_dropped (codes "a b \r\t") ≡ codes "a b"
dropped = refl

-- words lie between any number of blanks, and the third one is the state
between : (words (codes "install  ok\tinstalled") ≡ codes "install" ∷ codes "ok" ∷ codes "installed" ∷ []) × (state_of (codes "install ok") ≡ None)
    × (state_of (codes "install ok Installed") ≡ None) × (state_of (codes "a b unpacked c") ≡ None) × (state_of (codes "a b unpacked") ≡ Some (codes "unpacked"))
between = (refl, refl, refl, refl, refl)

-- a source is empty, a name, or a name and a version in brackets with blanks between them or none
sources : (origin_of [] ≡ Some (record { name = None; version = None })) × (origin_of (codes "gcc") ≡ Some (record { name = Some (codes "gcc"); version = None }))
    × (origin_of (codes "gcc(1)") ≡ Some (record { name = Some (codes "gcc"); version = Some (codes "1") }))
    × (origin_of (codes "gcc  (1)") ≡ Some (record { name = Some (codes "gcc"); version = Some (codes "1") }))
sources = (refl, refl, refl, refl)

-- what is none of them
no_sources : (origin_of (codes "gcc 1") ≡ None) × (origin_of (codes "gcc ()") ≡ None) × (origin_of (codes "(1)") ≡ None) × (origin_of (codes "gcc (1) x") ≡ None)
    × (origin_of (codes "gcc (1 2)") ≡ None) × (origin_of (codes "gcc ((1)") ≡ None) × (origin_of (codes "gcc)") ≡ None)
no_sources = (refl, refl, refl, refl, refl, refl, refl)

-- a paragraph without Status counts where it may, and else is refused at its last line
abbrev base : List ℕ
base = text (codes "Package: base" ∷ codes "Version: 1" ∷ [])

unmarked : (status base Optional ≡ Ok (record { name = codes "base"; version = codes "1"; source = codes "base"; source_version = codes "1"; arch = [] } ∷ []))
    × (status base Needed ≡ bad 2 BadStatus)
unmarked = (refl, refl)

-- a package that is not installed needs no version, and one that is installed does
unversioned : (status (text (codes "Package: old" ∷ codes "Status: unknown ok not-installed" ∷ [])) Needed ≡ Ok [])
    × (status (text (codes "Package: old" ∷ codes "Status: install ok installed" ∷ [])) Needed ≡ bad 2 NoVersion)
unversioned = (refl, refl)

-- an ordinary paragraph, and one that is half installed and has no version
abbrev ordinary : List ℕ
ordinary = text (codes "Package: libc6" ∷ codes "Status: install ok installed" ∷ codes "Maintainer: A B <a@example.org>" ∷ codes "Architecture: amd64" ∷ codes "Source: glibc" ∷ codes "Version: 2.36-9+deb12u4"
    ∷ codes "Conffiles:" ∷ codes " /etc/x.conf 00ff" ∷ codes "Description: C library" ∷ codes " Text." ∷ codes " ." ∷ [] ∷ codes "Package: half" ∷ codes "Status: install reinstreq half-installed" ∷ [] ∷ [])

ordinary_read : status ordinary Needed
    ≡ Ok (record { name = codes "libc6"; version = codes "2.36-9+deb12u4"; source = codes "glibc"; source_version = codes "2.36-9+deb12u4"; arch = codes "amd64" } ∷ [])
ordinary_read = refl

-- names in any case, a source with a version, an architecture that is empty, lines of blanks at both ends, and no LF at the end
shaped : status (codes "\n \t\r\npackage:libssl3\nSTATUS:\thold ok config-files\n\n\nPackage: libssl3\r\nsource: openssl(3.0)\nStatus:  install  ok  installed\nArchitecture:\nVersion: 3.0+b1") Needed
    ≡ Ok (record { name = codes "libssl3"; version = codes "3.0+b1"; source = codes "openssl"; source_version = codes "3.0"; arch = [] } ∷ [])
shaped = refl

-- a continuation line is ignored, that of Version too, unless no field stands before it
continued : (status (codes "Package: a\nVersion: 1\n .2\n") Optional ≡ Ok (record { name = codes "a"; version = codes "1"; source = codes "a"; source_version = codes "1"; arch = [] } ∷ []))
    × (status (codes "Package: a\nVersion: 1\n\n .2\n") Optional ≡ bad 4 LooseContinuation)
continued = (refl, refl)

-- the fault at the least line is answered, the line's own first
least : (status (codes "Version: 1\n\nnocolon\n") Needed ≡ bad 1 NoPackage) × (status (codes "Version: 1\nnocolon") Needed ≡ bad 2 NoColon)
    × (status (codes "-a: 1\nb") Optional ≡ bad 1 BadField) × (status (codes "X: 1\nx : 2") Optional ≡ bad 2 BadField) × (status (codes "X: 1\nx: 2") Optional ≡ bad 2 RepeatedField)
    × (status (codes "Package:\n") Optional ≡ bad 1 BadValue) × (status (codes "Status: ok") Optional ≡ bad 1 BadStatus)
least = (refl, refl, refl, refl, refl, refl, refl)
