-- The findings of an image are those of all pairs, in order.
use Rattle.std.proofs.Common.{◌≡◌, ℕ, Bool, true, List, ap}
use Rattle.std.specs.List.{All, list_any}
use Rattle.std.specs.List.Sorted.{IsStrictlySortedBy}
use Rattle.std.specs.Ordering.{is_eq}
use Rattle.cv_base.specs.declared.advisory.Advisory.{Advisory}
use Rattle.cv_base.specs.declared.finding.Finding.{Finding}
use Rattle.cv_base.specs.declared.«package».Package.{Package}
use Rattle.cv_base.proofs.InOrder.{all_order, any_order, in_order_sorted}
use Rattle.cv_match.specs.Findings.{finding_cmp, finding_total, findings, is_of_pair, pair_findings}

abbrev Feeds : Type 0
Feeds = List (List ℕ × List Advisory)

pub sorted : (packages : List Package) (feeds : Feeds) → IsStrictlySortedBy finding_cmp (findings packages feeds)
unfolding findings
sorted packages feeds = in_order_sorted finding_total (pair_findings packages feeds)

pub complete : (packages : List Package) (feeds : Feeds) (f : Finding)
    → list_any (is_of_pair f) (findings packages feeds) ≡ list_any (is_of_pair f) (pair_findings packages feeds)
unfolding findings
complete packages feeds f = any_order (is_of_pair f) (λ p q e. ap is_eq (finding_total.congr p q f e)) (pair_findings packages feeds)

pub sound : (packages : List Package) (feeds : Feeds) (test : Finding → Bool)
    → All (λ f. test f ≡ true) (pair_findings packages feeds) → All (λ f. test f ≡ true) (findings packages feeds)
unfolding findings
sound packages feeds test = all_order finding_cmp (λ f. test f ≡ true) (pair_findings packages feeds)
