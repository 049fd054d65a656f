-- The findings of packages.
use Rattle.std.proofs.Common.{◌≡◌, ℕ, List, [], ◌∷◌, ◌++◌, refl, sym, ◌∙◌, ap}
use Rattle.std.specs.List.{flat_map}
use Rattle.std.proofs.lemmas.List.{append-nil}
use Rattle.cv_base.specs.declared.advisory.Advisory.{Advisory}
use Rattle.cv_base.specs.declared.finding.Finding.{Finding}
use Rattle.cv_base.specs.declared.package.Package.{Package}
use Rattle.cv_base.specs.InOrder.{in_order}
use Rattle.cv_match.specs.Findings.{finding_cmp, findings, found_in}
use Rattle.cv_match_feed.specs.code.Found.{found_all, found_by}

-- one feed
abbrev feed_of : List ℕ → List Advisory → List (List ℕ × List Advisory)
feed_of feed advisories = (feed, advisories) ∷ []

all_feed : (feed : List ℕ) (advisories : List Advisory) (ps : List Package) → flat_map (found_in (feed_of feed advisories)) ps ≡ found_all feed advisories ps
all_feed feed advisories [] = refl
all_feed feed advisories (p ∷ ps) = ap (λ (front : List Finding). front ++ flat_map (found_in (feed_of feed advisories)) ps) (append-nil (found_by feed advisories p)) ∙ ap (λ (rest : List Finding). found_by feed advisories p ++ rest) (all_feed feed advisories ps)

-- the findings of packages with the records of one feed
pub findings_feed : (feed : List ℕ) (advisories : List Advisory) (ps : List Package) → in_order finding_cmp (found_all feed advisories ps) ≡ findings ps (feed_of feed advisories)
unfolding findings
findings_feed feed advisories ps = ap (in_order finding_cmp) (sym (all_feed feed advisories ps))
