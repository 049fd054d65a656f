-- The definitions, computed on examples.
use Rattle.std.proofs.Common.{◌≡◌, ℕ, Bool, true, false, List, [], ◌∷◌, Option, Some, None, refl, codes}
use Rattle.cv_base.specs.declared.«package».Package.{Package}
use Rattle.cv_base.specs.declared.«package».PackageKind.TheVariants.{Deb, Pypi}
use Rattle.cv_base.specs.declared.advisory.Advisory.{Advisory}
use Rattle.cv_base.specs.declared.advisory.Affected.{Affected}
use Rattle.cv_base.specs.declared.advisory.Range.{Range}
use Rattle.cv_base.specs.declared.advisory.RangeKind.{RangeKind}
use Rattle.cv_base.specs.declared.advisory.RangeKind.TheVariants.{Ecosystem}
use Rattle.cv_base.specs.declared.advisory.Turn.{Turn}
use Rattle.cv_base.specs.declared.advisory.Turn.TheVariants.{Introduced, Fixed, LastAffected}
use Rattle.cv_base.specs.declared.finding.Finding.{Finding}
use Rattle.cv_match_range.specs.Within.{within}
use Rattle.cv_match.specs.Affects.{affects, fixed, family}
use Rattle.cv_match.specs.Findings.{findings}

abbrev openssl : List ℕ → Package
openssl version = record {
  kind = Deb;
  path = codes "var" ∷ codes "lib" ∷ codes "dpkg" ∷ codes "status" ∷ [];
  name = codes "libssl3";
  version = codes "9";
  source = codes "openssl";
  source_version = version;
  arch = codes "amd64";
  ecosystem = codes "Debian:12";
}

abbrev range : RangeKind → List Turn → Range
range kind turns = record { kind = kind; turns = turns }

abbrev entry : List ℕ → List ℕ → List Range → List (List ℕ) → Affected
entry ecosystem name ranges versions =
    record { «package» = Some (record { ecosystem = ecosystem; name = name }); ranges = ranges; versions = versions }

abbrev advisory : List ℕ → Bool → List Affected → Advisory
advisory id withdrawn entries = record { id = id; modified = codes "2024-01-01T00:00:00Z"; withdrawn = withdrawn; affected = entries }

-- a record with one range for a source package of Debian 12
abbrev record_of : List Turn → Advisory
record_of turns = advisory (codes "X-1") false (entry (codes "Debian:12") (codes "openssl") (range Ecosystem turns ∷ []) [] ∷ [])

abbrev twice : Advisory
twice = record_of (Introduced (codes "0") ∷ Fixed (codes "1.5") ∷ Introduced (codes "2.0") ∷ LastAffected (codes "2.3") ∷ [])

-- before the fix, at the fix, at the last affected version, and above it
before_fix : (affects twice (openssl (codes "1.4")) ≡ true) × (fixed twice (openssl (codes "1.4")) ≡ Some (codes "1.5"))
unfolding affects within fixed
before_fix = (refl, refl)

at_fix : affects twice (openssl (codes "1.5")) ≡ false
unfolding affects within
at_fix = refl

at_last : (affects twice (openssl (codes "2.3")) ≡ true) × (fixed twice (openssl (codes "2.3")) ≡ None)
unfolding affects within fixed
at_last = (refl, refl)

above_last : affects twice (openssl (codes "2.3.1")) ≡ false
unfolding affects within
above_last = refl

-- at equal versions an introduction outweighs a fix
fixed_at_once : (affects (record_of (Introduced (codes "3.0") ∷ Fixed (codes "3.0") ∷ [])) (openssl (codes "3.0")) ≡ true)
    × (fixed (record_of (Introduced (codes "3.0") ∷ Fixed (codes "3.0") ∷ [])) (openssl (codes "3.0")) ≡ None)
unfolding affects within fixed
fixed_at_once = (refl, refl)

-- and with a last affected version it affects exactly that one
one_version : (affects (record_of (Introduced (codes "3.0") ∷ LastAffected (codes "3.0") ∷ [])) (openssl (codes "3.0")) ≡ true)
    × (affects (record_of (Introduced (codes "3.0") ∷ LastAffected (codes "3.0") ∷ [])) (openssl (codes "3.1")) ≡ false)
unfolding affects within
one_version = (refl, refl)

-- the order of the events in the record does not count
any_order : affects (record_of (LastAffected (codes "2.3") ∷ Fixed (codes "1.5") ∷ Introduced (codes "2.0") ∷ [])) (openssl (codes "2.3")) ≡ true
unfolding affects within
any_order = refl

-- a version that is listed is affected, also if it is not a valid version, and as a text
listed : (affects (advisory (codes "L-1") false (entry (codes "Debian:12") (codes "openssl") [] (codes "1:" ∷ []) ∷ [])) (openssl (codes "1:")) ≡ true)
    × (affects (advisory (codes "L-1") false (entry (codes "Debian:12") (codes "openssl") [] (codes "1.0-0" ∷ []) ∷ [])) (openssl (codes "1.0")) ≡ false)
unfolding affects within
listed = (refl, refl)

-- a record that is withdrawn affects nothing, nor one without a package
no_effect : (affects (advisory (codes "W-1") true (entry (codes "Debian:12") (codes "openssl") (range Ecosystem (Introduced (codes "0") ∷ []) ∷ []) [] ∷ [])) (openssl (codes "1")) ≡ false)
    × (affects (advisory (codes "W-1") false (record { «package» = None; ranges = range Ecosystem (Introduced (codes "0") ∷ []) ∷ []; versions = [] } ∷ [])) (openssl (codes "1")) ≡ false)
unfolding affects within
no_effect = (refl, refl)

-- the first range that has the version within decides the fix: none, if it has none above, even if a later range has one; and
-- the least one above the version, whatever its place
first_range : (fixed (advisory (codes "F-1") false (entry (codes "Debian:12") (codes "openssl")
    (range Ecosystem (Introduced (codes "5") ∷ Fixed (codes "6") ∷ [])
    ∷ range Ecosystem (Introduced (codes "0") ∷ []) ∷ range Ecosystem (Introduced (codes "0") ∷ Fixed (codes "2") ∷ []) ∷ []) [] ∷ []))
    (openssl (codes "1")) ≡ None)
    × (fixed (record_of (Fixed (codes "4") ∷ Introduced (codes "1.2") ∷ Fixed (codes "2.0") ∷ Fixed (codes "2.00") ∷ Fixed (codes "1") ∷ [])) (openssl (codes "1.5")) ≡ Some (codes "2.0"))
unfolding fixed within
first_range = (refl, refl)

-- the part of an ecosystem before its first colon matches, and no other part
families : (family (codes "Alpine:v3.18:x") ≡ codes "Alpine") × (family (codes "npm") ≡ codes "npm")
families = (refl, refl)

-- `zlib` of `Debian` is the source `zlib` of `Debian:12`, with the source's version; `Debian:11` is another
abbrev zlib1g : Package
zlib1g = record {
  kind = Deb;
  path = codes "var" ∷ codes "lib" ∷ codes "dpkg" ∷ codes "status" ∷ [];
  name = codes "zlib1g";
  version = codes "1:1.2.13.dfsg-1";
  source = codes "zlib";
  source_version = codes "1:1.2.13.dfsg-1";
  arch = codes "amd64";
  ecosystem = codes "Debian:12";
}

abbrev zlib_of : List ℕ → Advisory
zlib_of ecosystem = advisory (codes "Z-1") false
    (entry ecosystem (codes "zlib") (range Ecosystem (Introduced (codes "0") ∷ Fixed (codes "1:1.3") ∷ []) ∷ []) [] ∷ [])

ecosystems : (affects (zlib_of (codes "Debian")) zlib1g ≡ true) × (affects (zlib_of (codes "Debian:12")) zlib1g ≡ true)
    × (affects (zlib_of (codes "Debian:11")) zlib1g ≡ false) × (affects (zlib_of (codes "Debian:")) zlib1g ≡ false)
    × (fixed (zlib_of (codes "Debian")) zlib1g ≡ Some (codes "1:1.3"))
unfolding affects within fixed
ecosystems = (refl, refl, refl, refl, refl)

-- records name a Python package by its normalized name, which is its source, and its version is that of the source
abbrev foo_bar : Package
foo_bar = record {
  kind = Pypi;
  path = codes "opt" ∷ codes "Foo_Bar-1.0.dist-info" ∷ codes "METADATA" ∷ [];
  name = codes "Foo.Bar";
  version = codes "1.0";
  source = codes "foo-bar";
  source_version = codes "1.0";
  arch = [];
  ecosystem = codes "PyPI";
}

abbrev python_record : List ℕ → Advisory
python_record name = advisory (codes "P-1") false
    (entry (codes "PyPI") name (range Ecosystem (Introduced (codes "0") ∷ Fixed (codes "1.0.post1") ∷ []) ∷ []) [] ∷ [])

python : (fixed (python_record (codes "foo-bar")) foo_bar ≡ Some (codes "1.0.post1")) × (affects (python_record (codes "foo-bar")) foo_bar ≡ true)
    × (affects (python_record (codes "Foo.Bar")) foo_bar ≡ false)
unfolding affects within fixed
python = (refl, refl, refl)

-- findings are in order of package, feed and advisory, and each stands once, though the package is listed twice
abbrev finding : List ℕ → List ℕ → List ℕ → Option (List ℕ) → Finding
finding version feed id record_of = record { «package» = openssl version; feed = feed; advisory = id; fixed = record_of }

ordered : findings (openssl (codes "2.1") ∷ openssl (codes "1.4") ∷ openssl (codes "2.1") ∷ openssl (codes "3") ∷ [])
    ((codes "b", zlib_of (codes "Debian") ∷ twice ∷ []) ∷ (codes "a", twice ∷ []) ∷ [])
    ≡ finding (codes "1.4") (codes "a") (codes "X-1") (Some (codes "1.5")) ∷ finding (codes "1.4") (codes "b") (codes "X-1") (Some (codes "1.5"))
    ∷ finding (codes "2.1") (codes "a") (codes "X-1") None ∷ finding (codes "2.1") (codes "b") (codes "X-1") None ∷ []
unfolding findings affects within fixed
ordered = refl
