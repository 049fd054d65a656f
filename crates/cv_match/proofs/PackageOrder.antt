-- The derived order of packages is that of their definition.
use Rattle.std.proofs.Common.{◌≡◌, refl, ap}
use Rattle.std.specs.Cmp.Lexicographic.{slice_cmp}
use Rattle.std.specs.Ordering.{nat_cmp, on, ordering_then, then_cmp}
use Rattle.std.specs.declared.cmp.Ordering.{Ordering}
use Rattle.cv_base.specs.contracts.package.PackageKindOrd.TheImpl as kinds
use Rattle.cv_base.specs.contracts.package.PackageOrd.TheImpl as packages
use Rattle.cv_base.specs.declared.«package».Package.{Package}
use Rattle.cv_base.specs.declared.«package».PackageKind.{PackageKind}
use Rattle.cv_base.specs.declared.«package».PackageKind.TheVariants.{Deb, Apk, Npm, Pypi}
use Rattle.cv_match.specs.Findings.{kind_rank, package_cmp, text_cmp}

-- by their place in the list of kinds
pub kinds_compare : (k l : PackageKind) → kinds.ghosts.cmp k l ≡ nat_cmp (kind_rank k) (kind_rank l)
kinds_compare Deb Deb = refl
kinds_compare Deb Apk = refl
kinds_compare Deb Npm = refl
kinds_compare Deb Pypi = refl
kinds_compare Apk Deb = refl
kinds_compare Apk Apk = refl
kinds_compare Apk Npm = refl
kinds_compare Apk Pypi = refl
kinds_compare Npm Deb = refl
kinds_compare Npm Apk = refl
kinds_compare Npm Npm = refl
kinds_compare Npm Pypi = refl
kinds_compare Pypi Deb = refl
kinds_compare Pypi Apk = refl
kinds_compare Pypi Npm = refl
kinds_compare Pypi Pypi = refl

-- by kind, and then by the other fields
abbrev by_fields : Ordering → Package → Package → Ordering
by_fields kinds p q = ordering_then kinds
    (then_cmp (on (λ p. p.path) (slice_cmp text_cmp))
    (then_cmp (on (λ p. p.name) text_cmp)
    (then_cmp (on (λ p. p.version) text_cmp)
    (then_cmp (on (λ p. p.source) text_cmp)
    (then_cmp (on (λ p. p.source_version) text_cmp)
    (then_cmp (on (λ p. p.arch) text_cmp) (on (λ p. p.ecosystem) text_cmp)))))) p q)

pub packages_compare : (p q : Package) → packages.ghosts.cmp p q ≡ package_cmp p q
packages_compare p q = ap (λ order. by_fields order p q) (kinds_compare p.kind q.kind)
