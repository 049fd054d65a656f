-- The definitions, computed on examples.
use Rattle.std.proofs.Common.{◌≡◌, ℕ, List, [], ◌∷◌, ◌++◌, codes, Option, None, Some, refl}
use Rattle.cv_pypi.specs.Fields.{value_by, without_cr}
use Rattle.cv_pypi.specs.Metadata.{header_lines, pypi}
use Rattle.cv_pypi.specs.Name.{normalized}
use Rattle.cv_pypi.specs.declared.package.PypiPackage.{PypiPackage}

-- a package that is found
abbrev found : List ℕ → List ℕ → List ℕ → Option PypiPackage
found name version source = Some (record { name = name; version = version; source = source })

-- an ordinary file: what stands after the first empty line is no field
ordinary : pypi (codes "Metadata-Version: 2.1\nName: Foo.Bar\nVersion: 1.0\nSummary: a\n\nName: b\nVersion: 2\n") ≡ found (codes "Foo.Bar") (codes "1.0") (codes "foo-bar")
ordinary = refl

-- a name as it is written, and the source, by which records know the package
row : pypi (codes "Name: Foo.Bar\nVersion: 1.0\n\ntext\n") ≡ found (codes "Foo.Bar") (codes "1.0") (codes "foo-bar")
row = refl

-- no empty line, and no LF at the end
unended : (pypi (codes "Name: a\nVersion: 1\n") ≡ found (codes "a") (codes "1") (codes "a")) × (pypi (codes "Version: 1\nName: a") ≡ found (codes "a") (codes "1") (codes "a"))
unended = (refl, refl)

-- lines that are ignored: those that continue a field, a line of blanks, one without a colon
ignored : (pypi (codes "Text: a\n Name: x\n\tVersion: y\n \t\nText\nName: a\nVersion: 1\n") ≡ found (codes "a") (codes "1") (codes "a"))
    × (pypi (codes "Name:\n a\nVersion: 1\n") ≡ None)
ignored = (refl, refl)

-- the first field of a name counts, in any case, also an empty one
first : (pypi (codes "NAME:a\nversion:\t1 \nName: b\nVersion: 2") ≡ found (codes "a") (codes "1") (codes "a"))
    × (pypi (codes "Name:\nName: b\nVersion: 2\n") ≡ None) × (pypi (codes "Name: a b\nName: b\nVersion: 2\n") ≡ None)
first = (refl, refl, refl)

-- no name, no version, and nothing
absent : (pypi (codes "Version: 1\n") ≡ None) × (pypi (codes "Name: a\n") ≡ None) × (pypi [] ≡ None) × (pypi (codes "Name: a\n\nVersion: 1\n") ≡ None)
absent = (refl, refl, refl, refl)

-- the first Version likewise, and a value with a byte that does not print: a DEL here
versions : (pypi (codes "Version: 1\nVersion: 2\nName: a\n") ≡ found (codes "a") (codes "1") (codes "a")) × (pypi (codes "Name: a\nVersion:\nVersion: 1\n") ≡ None)
    × (pypi (codes "Name: a\nVersion: " ++ 127 ∷ codes "\nVersion: 1\n") ≡ None)
versions = (refl, refl, refl)

-- a byte order mark is a part of the name of the first field
marked : (pypi (239 ∷ 187 ∷ 191 ∷ codes "Name: a\nVersion: 1\n") ≡ None)
    × (pypi (239 ∷ 187 ∷ 191 ∷ codes "Metadata-Version: 2.1\nName: a\nVersion: 1\n") ≡ found (codes "a") (codes "1") (codes "a"))
marked = (refl, refl)

-- one CR is dropped at the end of a line, and then it may be empty; a line of blanks is not
ends : (without_cr (codes "a\r\r") ≡ codes "a\r") × (header_lines (codes "A: b\r\n \t\nc\r\n\r\nD: e\n") ≡ codes "A: b" ∷ codes " \t" ∷ codes "c" ∷ [])
    × (pypi (codes "Name: a\r\nVersion: 1\r\n\r\n") ≡ found (codes "a") (codes "1") (codes "a")) × (pypi (codes "Name: a\r\r\nVersion: 1\n") ≡ None)
ends = (refl, refl, refl, refl)

-- blanks are dropped at the ends of the value, and not before the colon; a line that begins with a blank is no field
fields : (value_by (codes "Name") (codes "name: \ta: b \t") ≡ Some (codes "a: b")) × (value_by (codes "Name") (codes "Name : a") ≡ None)
    × (value_by (codes "Name") (codes " Name: a") ≡ None) × (value_by (codes "Name") (codes "Name a") ≡ None) × (value_by (codes "Name") (codes "Names: a") ≡ None)
fields = (refl, refl, refl, refl, refl)

-- names of PEP 503 and others: runs at the ends are runs, too
names : (normalized (codes "Friendly-Bard") ≡ codes "friendly-bard") × (normalized (codes "FrIeNdLy-._.-bArD") ≡ codes "friendly-bard") × (normalized (codes "friendly--bard") ≡ codes "friendly-bard")
    × (normalized (codes "_.a1") ≡ codes "-a1") × (normalized (codes "A..") ≡ codes "a-") × (normalized (codes "._-") ≡ codes "-")
names = (refl, refl, refl, refl, refl, refl)
