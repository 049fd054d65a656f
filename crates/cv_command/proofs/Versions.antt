-- Two texts that are read as versions compare.
use Rattle.std.proofs.Common.{◌≡◌, ℕ, Bool, true, false, cond, List}
use Rattle.std.specs.Prelude.{Some, None}
use Rattle.cv_base.specs.declared.«package».PackageKind.{PackageKind}
use Rattle.cv_base.specs.declared.«package».PackageKind.TheVariants.{Npm}
use Rattle.cv_match.specs.Order.{is_version_of, version_cmp_of, version_in}
use Rattle.cv_command.specs.Order.{compared_as}
use Rattle.cv_command.specs.declared.order.Compared.TheVariants.{Ordered, NotFirst, NotSecond}

read_by : (kind : PackageKind) (first second one other : List ℕ) (is_first is_second : Bool)
    → Some one ≡ cond is_first (Some first) None → Some other ≡ cond is_second (Some second) None
    → Ordered (version_cmp_of kind one other) ≡ cond is_first (cond is_second (Ordered (version_cmp_of kind first second)) NotSecond) NotFirst
read_by kind first second one other true true h k = cc (h, k)
read_by kind first second one other true false h k = absurd (cc k)
read_by kind first second one other false is_second h k = absurd (cc h)

-- each is read as itself
pub both_read : (first second one other : List ℕ) → Some one ≡ version_in Npm first → Some other ≡ version_in Npm second
    → Ordered (version_cmp_of Npm one other) ≡ compared_as Npm first second
both_read first second one other h k = read_by Npm first second one other (is_version_of Npm first) (is_version_of Npm second) h k
