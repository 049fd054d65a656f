-- Which texts are versions of a package, and how they compare: for each kind of package the order of its package manager.
-- Semantic versions, which npm has, are those that `semver` reads, with the precedence of SemVer 2.0.0, section 11: build
-- metadata does not count.
use Rattle.std.specs.Prelude.{ℕ, Bool, List, is_ok, Option, Some, None, if◌then◌else◌}
use Rattle.std.specs.Result.{result_ok}
use Rattle.std.specs.declared.cmp.Ordering.{Ordering}
use Rattle.std.specs.Ordering.{nat_cmp, on, then_cmp}
use Rattle.std.specs.Option.{option_cmp}
use Rattle.std.specs.Cmp.{IsTotalOrder, on_total, then_total, nat_cmp_total}
use Rattle.std.specs.Cmp.Lexicographic.{options_total}
use Rattle.semver.specs.Order.{pre_cmp}
use Rattle.semver.specs.OrderLaws.{pre_total}
use Rattle.semver.specs.Parse.{Parts, version_parts}
use Rattle.cv_base.specs.declared.«package».PackageKind.{PackageKind}
use Rattle.cv_base.specs.declared.«package».PackageKind.TheVariants.{Deb, Apk, Npm, Pypi}
use Rattle.cv_debver.specs.Grammar as deb_grammar
use Rattle.cv_debver.specs.Version as deb
use Rattle.cv_apkver.specs.Parts as apk_grammar
use Rattle.cv_apkver.specs.Order as apk
use Rattle.cv_pep440.specs.Parts as pep440_grammar
use Rattle.cv_pep440.specs.Order as pep440

-- precedence: major, minor and patch as numbers, then the pre-releases (SemVer 2.0.0, section 11)
abbrev pub precedence : Parts → Parts → Ordering
precedence = then_cmp (on (λ p. p.0) nat_cmp) (then_cmp (on (λ p. p.1) nat_cmp) (then_cmp (on (λ p. p.2) nat_cmp) (on (λ p. p.3) pre_cmp)))

-- the text is a semantic version
abbrev pub is_semantic : List ℕ → Bool
is_semantic text = is_ok (version_parts text)

-- texts by the precedence of the versions that they spell; what is not a version comes before all that are
abbrev pub semantic_cmp : List ℕ → List ℕ → Ordering
semantic_cmp = on (λ text. result_ok (version_parts text)) (option_cmp precedence)

-- the text is a version of this kind of package
abbrev pub is_version_of : PackageKind → List ℕ → Bool
is_version_of Deb = deb_grammar.is_version
is_version_of Apk = apk_grammar.is_version
is_version_of Npm = is_semantic
is_version_of Pypi = pep440_grammar.is_version

-- how two versions of this kind of package compare
abbrev pub version_cmp_of : PackageKind → List ℕ → List ℕ → Ordering
version_cmp_of Deb = deb.version_cmp
version_cmp_of Apk = apk.version_cmp
version_cmp_of Npm = semantic_cmp
version_cmp_of Pypi = pep440.version_cmp

-- precedence is a total order (SemVer 2.0.0, section 11)
pub precedence_total : IsTotalOrder precedence
precedence_total = then_total (on_total (λ (p : Parts). p.0) nat_cmp_total) (then_total (on_total (λ (p : Parts). p.1) nat_cmp_total)
    (then_total (on_total (λ (p : Parts). p.2) nat_cmp_total) (on_total (λ (p : Parts). p.3) pre_total)))

-- and so is that of texts by it
pub semantic_total : IsTotalOrder semantic_cmp
semantic_total = on_total (λ text. result_ok (version_parts text)) (options_total precedence_total)

-- versions of each kind are in a total order
pub version_total_of : (kind : PackageKind) → IsTotalOrder (version_cmp_of kind)
version_total_of Deb = deb.version_total
version_total_of Apk = apk.version_total
version_total_of Npm = semantic_total
version_total_of Pypi = pep440.version_total

-- the text as a version of this kind, where it is one
abbrev pub version_in : PackageKind → List ℕ → Option (List ℕ)
version_in kind text = if is_version_of kind text then Some text else None
