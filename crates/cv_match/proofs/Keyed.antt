-- The set of the program is that of its findings.
use Rattle.std.specs.Prelude.{◌≡◌, List, [], ◌∷◌, map, refl}
use Rattle.std.specs.BTreeSet.{insert_key}
use Rattle.std.specs.Ordering.{match_ordering}
use Rattle.std.specs.declared.cmp.Ordering.{Ordering}
use Rattle.std.specs.declared.cmp.Ordering.TheVariants.{Less, Equal, Greater}
use Rattle.std.proofs.Common.{ap}
use Rattle.cv_base.specs.declared.finding.Finding.{Finding}
use Rattle.cv_match.specs.Findings.{finding_cmp}
use Rattle.cv_match.specs.code.Keyed.{keyed_cmp}
use Rattle.cv_match.specs.declared.order.KeyedFinding.{KeyedFinding}

-- the findings of a type of the program
abbrev pub findings_in : List KeyedFinding → List Finding
findings_in ks = map (λ (k : KeyedFinding). k.finding) ks

-- one more in a set of the program
pub put_seen : (ks : List KeyedFinding) (k : KeyedFinding) → findings_in (insert_key keyed_cmp ks k) ≡ insert_key finding_cmp (findings_in ks) k.finding
put_seen [] k = refl
put_seen (x ∷ xs) k = by_order (keyed_cmp k x) (put_seen xs k) where
  by_order : (r : Ordering) → findings_in (insert_key keyed_cmp xs k) ≡ insert_key finding_cmp (findings_in xs) k.finding
      → findings_in (match_ordering r (k ∷ x ∷ xs) (x ∷ xs) (x ∷ insert_key keyed_cmp xs k))
      ≡ match_ordering r (k.finding ∷ x.finding ∷ findings_in xs) (x.finding ∷ findings_in xs) (x.finding ∷ insert_key finding_cmp (findings_in xs) k.finding)
  by_order Less h = refl
  by_order Equal h = refl
  by_order Greater h = ap (λ ys. x.finding ∷ ys) h
