-- Packages that are put in order, each once, have the findings that they have as they come.
use Rattle.std.specs.Prelude.{◌≡◌, ℕ, Bool, true, false, cond, List, Option, Some, None, refl}
use Rattle.std.specs.Ordering.{is_eq, ordering_then}
use Rattle.std.specs.declared.cmp.Ordering.TheVariants.{Equal}
use Rattle.std.proofs.Common.{ap, sym, ◌∙◌}
use Rattle.std.proofs.lemmas.Cmp.{alike_right}
use Rattle.cv_base.proofs.InOrder.{any_order}
use Rattle.cv_base.specs.InOrder.{in_order}
use Rattle.cv_base.specs.declared.advisory.Advisory.{Advisory}
use Rattle.cv_base.specs.declared.finding.Finding.{Finding}
use Rattle.cv_base.specs.declared.«package».Package.{Package}
use Rattle.cv_match.proofs.FindingsLaws.{sorted}
use Rattle.cv_match.specs.Findings.{finding_cmp, finding_total, findings, package_cmp, package_total, text_cmp}
use Rattle.cv_findings.proofs.Lookups.{at, at_filter, at_ties, kept, same_lists}
use Rattle.cv_findings.proofs.PartLemmas.{no_part, own_part, then_equal}
use Rattle.cv_findings.specs.Parts.{has_package, is_finding_of, part_of}

abbrev Feeds : Type 0
Feeds = List (List ℕ × List Advisory)

-- the same packages are there
same_packages : (p : Package) (ps : List Package) → has_package p (in_order package_cmp ps) ≡ has_package p ps
same_packages p ps = any_order (λ other. is_eq (package_cmp p other)) (λ x y e. ap is_eq (alike_right package_total x y p e)) ps

-- so the findings of each package are the same
same_part : (p : Package) (ps : List Package) (feeds : Feeds) → part_of p (findings (in_order package_cmp ps) feeds) ≡ part_of p (findings ps feeds)
same_part p ps feeds = by_test (has_package p ps) refl
  where
    by_test : (t : Bool) → has_package p ps ≡ t → part_of p (findings (in_order package_cmp ps) feeds) ≡ part_of p (findings ps feeds)
    by_test true e = own_part p (in_order package_cmp ps) feeds (same_packages p ps ∙ e) ∙ sym (own_part p ps feeds e)
    by_test false e = no_part p (in_order package_cmp ps) feeds (same_packages p ps ∙ e) ∙ sym (no_part p ps feeds e)

-- a finding that ties with another one is of its package
packages_tie : (f g : Finding) → finding_cmp f g ≡ Equal → package_cmp f.«package» g.«package» ≡ Equal
packages_tie f g h = (then_equal (package_cmp f.«package» g.«package») (ordering_then (text_cmp f.feed g.feed) (text_cmp f.advisory g.advisory)) h).0

own_kept : (q : Finding) (o : Option Finding) → ((f : Finding) → o ≡ Some f → finding_cmp q f ≡ Equal) → kept (is_finding_of q.«package») o ≡ o
own_kept q None h = refl
own_kept q (Some f) h = λ i. cond (is_eq (packages_tie q f (h f refl) i)) (Some f) None

-- what findings have at a key is what those of its package have there
own_at : (ps : List Package) (feeds : Feeds) (q : Finding) → at finding_cmp (part_of q.«package» (findings ps feeds)) q ≡ at finding_cmp (findings ps feeds) q
own_at ps feeds q =
    at_filter finding_total (is_finding_of q.«package») (findings ps feeds) q (sorted ps feeds)
    ∙ own_kept q (at finding_cmp (findings ps feeds) q) (at_ties finding_cmp q (findings ps feeds))

-- the findings are the same
pub same_findings : (ps : List Package) (feeds : Feeds) → findings (in_order package_cmp ps) feeds ≡ findings ps feeds
same_findings ps feeds =
    same_lists finding_total (findings (in_order package_cmp ps) feeds) (findings ps feeds) (sorted (in_order package_cmp ps) feeds) (sorted ps feeds)
    (λ q. sym (own_at (in_order package_cmp ps) feeds q) ∙ ap (λ (fs : List Finding). at finding_cmp fs q) (same_part q.«package» ps feeds) ∙ own_at ps feeds q)
