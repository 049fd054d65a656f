-- The definitions, computed on examples.
use Rattle.std.proofs.Common.{◌≡◌, ℕ, List, [], ◌∷◌, refl, codes, Result, Ok, Err}
use Rattle.cv_base.specs.declared.fault.FileBad.{FileBad}
use Rattle.cv_base.specs.declared.fault.What.{What}
use Rattle.cv_base.specs.declared.fault.What.TheVariants.{NoColon, NoVersion, BadValue, NoName, Repeated}
use Rattle.cv_apkdb.specs.Installed.{installed}
use Rattle.cv_apkdb.specs.declared.package.ApkPackage.{ApkPackage}

-- a fault at a line
abbrev bad : ℕ → What → Result (List ApkPackage) FileBad
bad n w = Err (record { line = n; what = w })

-- an ordinary package, with letters that are ignored, some of them twice
ordinary : installed (codes "C:Q1AA=\nP:musl\nV:1.2.4-r1\nA:x86_64\nS:383459\nT:the C library\nL:MIT\no:musl\nF:lib\nR:libc.so.1\na:0:0:755\nZ:Q1AA=\nF:usr\nR:x\n\n")
    ≡ Ok (record { name = codes "musl"; version = codes "1.2.4-r1"; arch = codes "x86_64"; origin = codes "musl" } ∷ [])
ordinary = refl

-- several empty lines are one end, and the end of the file is one too; an absent architecture is empty, and an absent or
-- empty origin the name
ends : (installed [] ≡ Ok []) × (installed (codes "\n\n") ≡ Ok [])
    × (installed (codes "\nV:1\nP:a\n\n\nP:b\nV:2\no:\nA:") ≡ Ok (record { name = codes "a"; version = codes "1"; arch = []; origin = codes "a" } ∷ record { name = codes "b"; version = codes "2"; arch = []; origin = codes "b" } ∷ []))
    × (installed (codes "P:a\nV:1\no:b\n") ≡ Ok (record { name = codes "a"; version = codes "1"; arch = []; origin = codes "b" } ∷ []))
ends = (refl, refl, refl, refl)

-- a line without a colon in the second place, among them one of blanks; a used letter that stood before; and values that
-- are empty or do not print
lines : (installed (codes "P\n") ≡ bad 1 NoColon) × (installed (codes "P:a\nV:1\n ") ≡ bad 3 NoColon) × (installed (codes "PV:1") ≡ bad 1 NoColon)
    × (installed (codes "P:a\nP:a") ≡ bad 2 Repeated) × (installed (codes "P:a\nV:1\nA:x\no:a\no:") ≡ bad 5 Repeated) × (installed (codes "A:\nA:\t") ≡ bad 2 Repeated)
    × (installed (codes "P:") ≡ bad 1 BadValue) × (installed (codes "V:\n") ≡ bad 1 BadValue) × (installed (codes "A:x y") ≡ bad 1 BadValue) × (installed (codes "o:a\r\n") ≡ bad 1 BadValue)
lines = (refl, refl, refl, refl, refl, refl, refl, refl, refl, refl)

-- a package without a name or a version, at its last line
wholes : (installed (codes "V:1\n") ≡ bad 1 NoName) × (installed (codes "P:a\nA:x\n\nP:b\nV:1\n") ≡ bad 2 NoVersion) × (installed (codes "A:x") ≡ bad 1 NoName)
wholes = (refl, refl, refl)

-- the least line counts, and a line's own fault before that of its package
least : (installed (codes "P:a\n\nP") ≡ bad 1 NoVersion) × (installed (codes "P:a\nX") ≡ bad 2 NoColon)
least = (refl, refl)

-- letters of a package before it do not count
apart : installed (codes "P:a\nV:1\n\nP:a\nV:1\n")
    ≡ Ok (record { name = codes "a"; version = codes "1"; arch = []; origin = codes "a" } ∷ record { name = codes "a"; version = codes "1"; arch = []; origin = codes "a" } ∷ [])
apart = refl
