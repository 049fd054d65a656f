-- The definitions, computed on examples.
use Rattle.std.proofs.Common.{◌≡◌, ℕ, false, List, [], ◌∷◌, Option, Some, None, refl, codes}
use Rattle.cv_base.specs.declared.finding.Finding.{Finding}
use Rattle.cv_base.specs.declared.finding.Reason.TheVariants.{Added, Removed, Changed}
use Rattle.cv_base.specs.declared.«package».Package.{Package}
use Rattle.cv_base.specs.declared.«package».PackageKind.TheVariants.{Deb}
use Rattle.cv_base.specs.declared.«package».PackageName.{PackageName}
use Rattle.cv_findings.specs.Parts.{part_of}
use Rattle.cv_findings.specs.Rematch.{any_touched, rematched, touched_packages}
use Rattle.cv_findings.specs.Rows.{row_about, rows_of}

abbrev deb : List ℕ → Package
deb name = record {
  kind = Deb;
  path = codes "var" ∷ codes "lib" ∷ codes "dpkg" ∷ codes "status" ∷ [];
  name = name;
  version = codes "1";
  source = name;
  source_version = codes "1";
  arch = codes "amd64";
  ecosystem = codes "Debian:12";
}

abbrev finding : List ℕ → List ℕ → Option (List ℕ) → Finding
finding name advisory fixed = record { «package» = deb name; feed = codes "deb"; advisory = advisory; fixed = fixed }

abbrev before : List Finding
before = finding (codes "curl") (codes "X-1") None ∷ finding (codes "curl") (codes "X-2") (Some (codes "2")) ∷ finding (codes "zlib") (codes "X-3") None ∷ []

abbrev after : List Finding
after = finding (codes "curl") (codes "X-2") (Some (codes "3")) ∷ finding (codes "zlib") (codes "X-3") None ∷ finding (codes "zlib") (codes "X-4") None ∷ []

-- a finding is gone, one has another fixed version, one stays as it is, and one is new
each_reason : rows_of (codes "image") before after
    ≡ row_about (codes "image") Removed (finding (codes "curl") (codes "X-1") None)
    ∷ row_about (codes "image") Changed (finding (codes "curl") (codes "X-2") (Some (codes "3")))
    ∷ row_about (codes "image") Added (finding (codes "zlib") (codes "X-4") None) ∷ []
unfolding rows_of
each_reason = refl

-- nothing changes
no_rows : rows_of (codes "image") before before ≡ []
unfolding rows_of
no_rows = refl

-- the findings of one package
one_package : part_of (deb (codes "zlib")) after ≡ finding (codes "zlib") (codes "X-3") None ∷ finding (codes "zlib") (codes "X-4") None ∷ []
one_package = refl

-- a name of a package
abbrev named : List ℕ → PackageName
named name = record { ecosystem = codes "Debian:12"; name = name }

-- of two packages the touched one is matched again
one_touched : touched_packages (named (codes "zlib") ∷ []) (deb (codes "curl") ∷ deb (codes "zlib") ∷ []) ≡ deb (codes "zlib") ∷ []
one_touched = refl

-- its findings go where no feed has records, and those of the other one stay
others_stay : rematched (named (codes "zlib") ∷ []) [] (deb (codes "curl") ∷ deb (codes "zlib") ∷ []) before
    ≡ finding (codes "curl") (codes "X-1") None ∷ finding (codes "curl") (codes "X-2") (Some (codes "2")) ∷ []
unfolding rematched
others_stay = refl

-- all stay where the touched key is of none of the packages
none_touched : any_touched (named (codes "jq") ∷ []) (deb (codes "curl") ∷ deb (codes "zlib") ∷ []) ≡ false
none_touched = refl

all_stay : rematched (named (codes "jq") ∷ []) [] (deb (codes "curl") ∷ deb (codes "zlib") ∷ []) before ≡ before
unfolding rematched
all_stay = refl
