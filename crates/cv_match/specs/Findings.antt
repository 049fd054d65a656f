-- The findings of an image (defined by this project): all pairs of a package and a record that affects it.
use Rattle.std.specs.Prelude.{ℕ, Bool, List, [], ◌∷◌, if◌then◌else◌}
use Rattle.std.specs.List.{flat_map}
use Rattle.std.specs.declared.cmp.Ordering.{Ordering}
use Rattle.std.specs.Ordering.{is_eq, nat_cmp, on, then_cmp}
use Rattle.std.specs.Cmp.{IsTotalOrder, on_total, then_total, nat_cmp_total}
use Rattle.std.specs.Cmp.Lexicographic.{slice_cmp, lists_total, nat_list_cmp_total}
use Rattle.cv_base.specs.InOrder.{in_order}
use Rattle.cv_base.specs.declared.«package».Package.{Package}
use Rattle.cv_base.specs.declared.«package».PackageKind.{PackageKind}
use Rattle.cv_base.specs.declared.«package».PackageKind.TheVariants.{Deb, Apk, Npm, Pypi}
use Rattle.cv_base.specs.declared.advisory.Advisory.{Advisory}
use Rattle.cv_base.specs.declared.finding.Finding.{Finding}
use Rattle.cv_match.specs.Affects.{affects, fixed}

-- kinds as they are listed
abbrev pub kind_rank : PackageKind → ℕ
kind_rank Deb = 0
kind_rank Apk = 1
kind_rank Npm = 2
kind_rank Pypi = 3

-- texts by bytes
abbrev pub text_cmp : List ℕ → List ℕ → Ordering
text_cmp = slice_cmp nat_cmp

-- packages by their fields, as they stand; paths by components
abbrev pub package_cmp : Package → Package → Ordering
package_cmp = then_cmp (on (λ p. kind_rank p.kind) nat_cmp)
    (then_cmp (on (λ p. p.path) (slice_cmp text_cmp))
    (then_cmp (on (λ p. p.name) text_cmp)
    (then_cmp (on (λ p. p.version) text_cmp)
    (then_cmp (on (λ p. p.source) text_cmp)
    (then_cmp (on (λ p. p.source_version) text_cmp)
    (then_cmp (on (λ p. p.arch) text_cmp) (on (λ p. p.ecosystem) text_cmp)))))))

-- findings by package, feed and id of the advisory
abbrev pub finding_cmp : Finding → Finding → Ordering
finding_cmp = then_cmp (on (λ f. f.«package») package_cmp) (then_cmp (on (λ f. f.feed) text_cmp) (on (λ f. f.advisory) text_cmp))

-- what a record of a feed says of a package: a finding, or nothing
abbrev pub found : Package → List ℕ → Advisory → List Finding
found p feed a =
    if affects a p then record { «package» = p; feed = feed; advisory = a.id; fixed = fixed a p } ∷ [] else []

-- the findings of one package in all feeds
abbrev pub found_in : List (List ℕ × List Advisory) → Package → List Finding
found_in feeds p = flat_map (λ (feed : List ℕ × List Advisory). flat_map (found p feed.0) feed.1) feeds

-- those of all pairs, package by package
abbrev pub pair_findings : List Package → List (List ℕ × List Advisory) → List Finding
pair_findings packages feeds = flat_map (found_in feeds) packages

-- a finding has the package, the feed and the id of the advisory of another one
abbrev pub is_of_pair : Finding → Finding → Bool
is_of_pair one other = is_eq (finding_cmp other one)

-- the findings of an image: takes its packages, and the feeds, each by its name with its records; gives one finding for each
-- pair of a package and a record that affects it, in the order of package, feed and id of the advisory. Packages that are
-- equal in every field are one, and so are records of one feed that have one id: the last one stays
unfoldable pub findings : List Package → List (List ℕ × List Advisory) → List Finding
findings packages feeds = in_order finding_cmp (pair_findings packages feeds)

-- packages are in a total order
pub package_total : IsTotalOrder package_cmp
package_total = then_total (on_total (λ (p : Package). kind_rank p.kind) nat_cmp_total)
    (then_total (on_total (λ (p : Package). p.path) (lists_total nat_list_cmp_total))
    (then_total (on_total (λ (p : Package). p.name) nat_list_cmp_total)
    (then_total (on_total (λ (p : Package). p.version) nat_list_cmp_total)
    (then_total (on_total (λ (p : Package). p.source) nat_list_cmp_total)
    (then_total (on_total (λ (p : Package). p.source_version) nat_list_cmp_total)
    (then_total (on_total (λ (p : Package). p.arch) nat_list_cmp_total) (on_total (λ (p : Package). p.ecosystem) nat_list_cmp_total)))))))

-- findings are in a total order
pub finding_total : IsTotalOrder finding_cmp
finding_total = then_total (on_total (λ (f : Finding). f.«package») package_total)
    (then_total (on_total (λ (f : Finding). f.feed) nat_list_cmp_total) (on_total (λ (f : Finding). f.advisory) nat_list_cmp_total))
