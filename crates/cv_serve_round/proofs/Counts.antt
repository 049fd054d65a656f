-- What desks counted, over entries one after the other.
use Rattle.std.specs.Prelude.{◌≡◌, ℕ, ◌+◌, List, [], ◌∷◌, ◌++◌}
use Rattle.std.proofs.Common.{ap, arith, subst, sym, ◌∙◌}
use Rattle.cv_transcript.specs.Order.{events_of}
use Rattle.cv_transcript.specs.declared.entry.Entry.{Entry}
use Rattle.cv_serve_legal.specs.Parts.{events_by}
use Rattle.cv_serve_legal.specs.Whole.{WholeRound, entries_in}
use Rattle.cv_serve_legal.proofs.Segments.{by_both, grants_both}
use Rattle.cv_serve_legal.proofs.Whole.{joined_entries}
use Rattle.cv_serve_crew.specs.code.Team.{AreLater}
use Rattle.cv_serve_round.specs.Round.{DesksAtLeast, DesksCounted, RoseBy, failures, fault_count, grant_count}
use Rattle.cv_serve_round.proofs.WorkerLemmas.{faults_both as counted_both, rose_then}

rose_none : (faults : ℕ) → RoseBy 0 faults faults
rose_none faults = omega arith

pub faults_both : (worker : ℕ) (xs ys : List Entry)
    → fault_count (events_by worker (events_of (xs ++ ys))) ≡ fault_count (events_by worker (events_of xs)) + fault_count (events_by worker (events_of ys))
faults_both worker xs ys = ap fault_count (by_both worker xs ys) ∙ counted_both (events_by worker (events_of xs)) (events_by worker (events_of ys))

-- no entries came
pub counts_none : {D : Type 0} (listings faults : D → ℕ) (worker : ℕ) (ds : List D) → DesksCounted listings faults worker ds ds []
counts_none listings faults worker [] = tt
counts_none listings faults worker (d ∷ ds) = (omega arith, rose_none (faults d), counts_none listings faults (worker + 1) ds)

-- entries came, and then more
pub counts_joined : {D : Type 0} (listings faults : D → ℕ) (worker : ℕ) (ds es gs : List D) (xs ys : List Entry)
    → DesksCounted listings faults worker ds es xs → DesksCounted listings faults worker es gs ys → DesksCounted listings faults worker ds gs (xs ++ ys)
counts_joined listings faults worker [] [] [] xs ys h k = tt
counts_joined listings faults worker (d ∷ ds) (e ∷ es) (g ∷ gs) xs ys h k =
    let more : grant_count (events_by worker (events_of (xs ++ ys))) ≡ grant_count (events_by worker (events_of xs)) + grant_count (events_by worker (events_of ys)) = grants_both worker xs ys in (
      omega (arith, h.0, k.0, more),
      subst (λ n. RoseBy n (faults d) (faults g)) (sym (faults_both worker xs ys)) (rose_then _ _ (faults d) (faults e) (faults g) h.1 k.1),
      counts_joined listings faults (worker + 1) ds es gs xs ys h.2 k.2,
    )
counts_joined listings faults worker [] (e ∷ es) gs xs ys h k = absurd h
counts_joined listings faults worker (d ∷ ds) [] gs xs ys h k = absurd h
counts_joined listings faults worker [] [] (g ∷ gs) xs ys h k = absurd k
counts_joined listings faults worker (d ∷ ds) (e ∷ es) [] xs ys h k = absurd k

-- of rounds one after the other
pub counts_both : {D : Type 0} (listings faults : D → ℕ) (worker : ℕ) (ds es gs : List D) (xs ys : List WholeRound)
    → DesksCounted listings faults worker ds es (entries_in xs) → DesksCounted listings faults worker es gs (entries_in ys) → DesksCounted listings faults worker ds gs (entries_in (xs ++ ys))
counts_both listings faults worker ds es gs xs ys h k =
    subst (λ entries. DesksCounted listings faults worker ds gs entries) (sym (joined_entries xs ys)) (counts_joined listings faults worker ds es gs (entries_in xs) (entries_in ys) h k)

-- ---- at least

-- exact counts are at least this number
pub at_least : {D : Type 0} (listings faults : D → ℕ) (worker : ℕ) (ds es : List D) (xs : List Entry) → DesksCounted listings faults worker ds es xs → DesksAtLeast listings faults worker ds es xs
at_least listings faults worker [] [] xs h = tt
at_least listings faults worker (d ∷ ds) (e ∷ es) xs h = (omega (arith, h.0), h.1, at_least listings faults (worker + 1) ds es xs h.2)
at_least listings faults worker [] (e ∷ es) xs h = absurd h
at_least listings faults worker (d ∷ ds) [] xs h = absurd h

-- counts that did not fall
pub at_least_none : {D : Type 0} (listings faults : D → ℕ) (worker : ℕ) (ds es : List D) → AreLater listings ds es → AreLater (failures faults) ds es → DesksAtLeast listings faults worker ds es []
at_least_none listings faults worker [] [] h k = tt
at_least_none listings faults worker (d ∷ ds) (e ∷ es) h k = (omega (arith, h.0), omega (arith, k.0), at_least_none listings faults (worker + 1) ds es h.1 k.1)
at_least_none listings faults worker [] (e ∷ es) h k = absurd h
at_least_none listings faults worker (d ∷ ds) [] h k = absurd h

-- entries came, and then counts rose that no entry tells
pub at_least_joined : {D : Type 0} (listings faults : D → ℕ) (worker : ℕ) (ds es gs : List D) (xs ys : List Entry)
    → DesksCounted listings faults worker ds es xs → DesksAtLeast listings faults worker es gs ys → DesksAtLeast listings faults worker ds gs (xs ++ ys)
at_least_joined listings faults worker [] [] [] xs ys h k = tt
at_least_joined listings faults worker (d ∷ ds) (e ∷ es) (g ∷ gs) xs ys h k =
    let more : grant_count (events_by worker (events_of (xs ++ ys))) ≡ grant_count (events_by worker (events_of xs)) + grant_count (events_by worker (events_of ys)) = grants_both worker xs ys in (
      omega (arith, h.0, k.0, more),
      subst (λ n. RoseBy n (faults d) (faults g)) (sym (faults_both worker xs ys)) (rose_then _ _ (faults d) (faults e) (faults g) h.1 k.1),
      at_least_joined listings faults (worker + 1) ds es gs xs ys h.2 k.2,
    )
at_least_joined listings faults worker [] (e ∷ es) gs xs ys h k = absurd h
at_least_joined listings faults worker (d ∷ ds) [] gs xs ys h k = absurd h
at_least_joined listings faults worker [] [] (g ∷ gs) xs ys h k = absurd k
at_least_joined listings faults worker (d ∷ ds) (e ∷ es) [] xs ys h k = absurd k

pub at_least_both : {D : Type 0} (listings faults : D → ℕ) (worker : ℕ) (ds es gs : List D) (xs ys : List WholeRound)
    → DesksCounted listings faults worker ds es (entries_in xs) → DesksAtLeast listings faults worker es gs (entries_in ys) → DesksAtLeast listings faults worker ds gs (entries_in (xs ++ ys))
at_least_both listings faults worker ds es gs xs ys h k =
    subst (λ entries. DesksAtLeast listings faults worker ds gs entries) (sym (joined_entries xs ys)) (at_least_joined listings faults worker ds es gs (entries_in xs) (entries_in ys) h k)
