-- The ecosystem of a package: a table defined by this project, in the form of the OSV schema (`Debian:12`, `Alpine:v3.18`, `npm`, `PyPI`).
--
-- `eco os kind` takes the system, or none where the root has no file os-release, and the kind of the package.
use Rattle.std.specs.Prelude.{ℕ, ◌==◌, if◌then◌else◌, List, [], ◌∷◌, ◌++◌, codes, Option, None, Some}
use Rattle.std.specs.Option.{option_map_or}
use Rattle.cv_base.specs.Texts.{same}
use Rattle.cv_base.specs.declared.package.PackageKind.{PackageKind}
use Rattle.cv_base.specs.declared.package.PackageKind.TheVariants.{Deb, Apk, Npm, Pypi}
use Rattle.cv_order.specs.Digits.{after_digits, front_digits}
use Rattle.cv_osrel.specs.declared.name.OsName.{OsName}

-- a branch of two numbers, where neither is empty
abbrev pub branch_by : List ℕ → List ℕ → Option (List ℕ)
branch_by [] minor = None
branch_by (x ∷ xs) [] = None
branch_by (x ∷ xs) (y ∷ ys) = Some ((x ∷ xs) ++ 46 ∷ y ∷ ys)

-- a branch of these digits, where a dot and digits follow
abbrev pub branch_from : List ℕ → List ℕ → Option (List ℕ)
branch_from major [] = None
branch_from major (x ∷ xs) = if x == 46 then branch_by major (front_digits xs) else None

-- the branch of a version of Alpine Linux, where the version begins with digits, a dot and digits: these
abbrev pub branch : List ℕ → Option (List ℕ)
branch version = branch_from (front_digits version) (after_digits version)

-- a system with its version, if it has one
abbrev pub versioned : List ℕ → Option (List ℕ) → List ℕ
versioned name None = name
versioned name (Some version) = name ++ 58 ∷ version

-- Alpine Linux, with its branch if it has one
abbrev pub alpine : Option (List ℕ) → List ℕ
alpine None = codes "Alpine"
alpine (Some version) = option_map_or (λ b. codes "Alpine:v" ++ b) (branch version) (codes "Alpine")

-- the ecosystem of a system's own packages
abbrev pub system : Option OsName → List ℕ
system None = codes "unknown"
system (Some os) =
    if same os.id (codes "debian") then versioned (codes "Debian") os.version
    else (if same os.id (codes "alpine") then alpine os.version else versioned os.id os.version)

-- the ecosystem of a package: packages of npm and of Python have one ecosystem on every system
abbrev pub eco : Option OsName → PackageKind → List ℕ
eco os Deb = system os
eco os Apk = system os
eco os Npm = codes "npm"
eco os Pypi = codes "PyPI"
