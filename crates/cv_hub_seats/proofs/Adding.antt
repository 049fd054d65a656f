-- The step that adds an event keeps the rule of the book.
use Rattle.std.proofs.Common.{◌≡◌, ℕ, ◌+◌, ◌<◌, ◌==◌, Bool, true, false, List, [], ◌∷◌, ◌++◌, length, refl, ap, sym, subst, arith, inl, length-append, None}
use Rattle.std.proofs.lemmas.List.{append-nil}
use Rattle.std.proofs.lemmas.Bool.Decides.{nat_tests}
use mathlib.Core.List.{IsPrefix}
use prog.Atomic.{either}
use Rattle.logbook.specs.Pages.{Cell, Goes, Moves, cell, keeps, no_nib, step}
use Rattle.cv_hub_seats.specs.code.Book.{Adds, IsKept}
use Rattle.cv_hub_seats.specs.declared.submission.Submission.{Submission}
use Rattle.cv_hub_seats.proofs.Prefixes.{prefix_all}

-- callers see nothing of the book
abbrev pub hidden : List Submission → List Submission
hidden log = []

-- and trade nothing
abbrev pub any : List Submission → List Submission → ℕ → Type 0
any before after answer = Unit {0}

-- by whether the word is as long as what was seen
adds_by : (log seen : List Submission) (event : Submission) (number : ℕ) → length seen ≡ number → IsPrefix seen log
    → (found : Bool) → (length log == number) ≡ found
    → Goes IsKept hidden any 0 (seen, (no_nib, None)) (λ word. either (word == number) (number + 1) word) (Adds (step 0 number (number + 1) event) (seen, (no_nib, None))) ((length log, true) ∷ (0, true) ∷ []) log
adds_by log seen event number is begins true found =
    let here : length log ≡ number = grind (arith, nat_tests) in
    let all : seen ≡ log = prefix_all seen log begins (omega arith) in
    let word : either (length log == number) (number + 1) (length log) ≡ length (log ++ event ∷ []) = rw found (omega (arith, length-append log (event ∷ []))) in
    (keeps, event ∷ [], None, tt, ap (λ (k : ℕ). (k, true) ∷ (0, true) ∷ []) word, inl (refl, refl), rw found (ap (λ front. front ++ event ∷ []) (sym all)))
adds_by log seen event number is begins false found =
    let same : log ++ [] ≡ log = append-nil log in
    let word : either (length log == number) (number + 1) (length log) ≡ length (log ++ []) = rw found (ap length (sym same)) in
    (keeps, [], None, tt, ap (λ (k : ℕ). (k, true) ∷ (0, true) ∷ []) word, inl (refl, refl), rw found (ap length same))

-- whatever the book is, the step adds the event to all that was seen, or finds that the list is longer
pub adds_moves : (seen : List Submission) (event : Submission) (number : ℕ) → length seen ≡ number
    → Moves IsKept hidden any 0 (seen, (no_nib, None)) (λ word. either (word == number) (number + 1) word) (Adds (step 0 number (number + 1) event) (seen, (no_nib, None)))
adds_moves seen event number is cells log kept begins away =
    let P : List Cell → Type 0 = λ words. (0 < length words) × ((cell words 0).1 ≡ true) × Goes IsKept hidden any 0 (seen, (no_nib, None)) (λ word. either (word == number) (number + 1) word) (Adds (step 0 number (number + 1) event) (seen, (no_nib, None))) words log in
    subst P (sym kept) (omega arith, refl, adds_by log seen event number is begins (length log == number) refl)
