-- The definitions, computed on examples.
use Rattle.std.proofs.Common.{◌≡◌, true, false, List, [], ◌∷◌, refl, codes}
use Rattle.std.specs.declared.cmp.Ordering.TheVariants.{Less, Equal}
use Rattle.semver.proofs.OnLiterals.{semver_on_literals}
use Rattle.cv_base.specs.declared.«package».PackageKind.TheVariants.{Deb, Apk, Npm, Pypi}
use Rattle.cv_base.specs.declared.advisory.Range.{Range}
use Rattle.cv_base.specs.declared.advisory.RangeKind.{RangeKind}
use Rattle.cv_base.specs.declared.advisory.RangeKind.TheVariants.{Ecosystem, Semver, Other}
use Rattle.cv_base.specs.declared.advisory.Turn.{Turn}
use Rattle.cv_base.specs.declared.advisory.Turn.TheVariants.{Introduced, Fixed, Limit}
use Rattle.cv_match_range.specs.Order.{version_cmp_of}
use Rattle.cv_match_range.specs.Within.{within}

abbrev range : RangeKind → List Turn → Range
range kind turns = record { kind = kind; turns = turns }

-- introduced `0` is before every version, also before one that is less than `0`; limit `*` is after every one
bounds : (within Deb (range Ecosystem (Introduced (codes "0") ∷ Limit (codes "*") ∷ [])) (codes "0~rc1") ≡ true)
    × (within Deb (range Ecosystem (Introduced (codes "0") ∷ Limit (codes "2") ∷ [])) (codes "2") ≡ false)
    × (within Deb (range Ecosystem (Introduced (codes "0") ∷ Limit (codes "2") ∷ Limit (codes "3") ∷ [])) (codes "2") ≡ true)
unfolding within
bounds = (refl, refl, refl)

-- nothing is within a range of another type, of a type that does not belong to the kind, or with a text that is not a version
excluded : (within Deb (range Other (Introduced (codes "0") ∷ [])) (codes "1") ≡ false)
    × (within Deb (range Semver (Introduced (codes "0") ∷ [])) (codes "1") ≡ false)
    × (within Apk (range Semver (Introduced (codes "0") ∷ [])) (codes "1") ≡ false)
    × (within Deb (range Ecosystem (Introduced (codes "0") ∷ Fixed (codes "*") ∷ [])) (codes "1") ≡ false)
    × (within Deb (range Ecosystem (Introduced (codes "0") ∷ [])) (codes "1:") ≡ false)
unfolding within
excluded = (refl, refl, refl, refl, refl)

-- npm has semantic versions, in ranges of both types
semantic : (within Npm (range Semver (Introduced (codes "0") ∷ Fixed (codes "1.0.0") ∷ [])) (codes "1.0.0-rc.1") ≡ true)
    × (within Npm (range Ecosystem (Introduced (codes "1.0.0") ∷ [])) (codes "1.0.0-rc.1") ≡ false)
    × (within Npm (range Semver (Introduced (codes "0") ∷ [])) (codes "1.0") ≡ false)
unfolding within semver_on_literals
semantic = (refl, refl, refl)

precedence : (version_cmp_of Npm (codes "1.0.0-rc.1") (codes "1.0.0") ≡ Less) × (version_cmp_of Npm (codes "1.0.0+a") (codes "1.0.0+b") ≡ Equal)
unfolding semver_on_literals
precedence = (refl, refl)

-- alpine's order
alpine : (within Apk (range Ecosystem (Introduced (codes "1.2_rc1") ∷ Fixed (codes "1.2_p1") ∷ [])) (codes "1.2") ≡ true)
    × (within Apk (range Ecosystem (Introduced (codes "0") ∷ [])) (codes "1.2~ab") ≡ false)
unfolding within
alpine = (refl, refl)

-- the order of Python packages: a post-release comes after its release, and a local version does so too
python : (within Pypi (range Ecosystem (Introduced (codes "0") ∷ Fixed (codes "1.0.post1") ∷ [])) (codes "1.0") ≡ true)
    × (within Pypi (range Ecosystem (Introduced (codes "0") ∷ Fixed (codes "1.0") ∷ [])) (codes "v1.0.0rc1") ≡ true)
    × (within Pypi (range Ecosystem (Introduced (codes "0") ∷ Fixed (codes "1.0") ∷ [])) (codes "1.0+abc") ≡ false)
    × (within Pypi (range Ecosystem (Introduced (codes "0") ∷ [])) (codes "1.0-x") ≡ false)
    × (within Pypi (range Semver (Introduced (codes "0") ∷ [])) (codes "1.0") ≡ false)
unfolding within
python = (refl, refl, refl, refl, refl)
