-- A notification at an index, what its removal leaves, and one more notification.
use Rattle.std.specs.Prelude.{◌≡◌, ℕ, ◌<◌, All, true, List, [], ◌∷◌, ◌++◌, drop, length, take, Some, is_some, slice_index_or, refl}
use Rattle.std.specs.Cmp.{nat_cmp_total, tied_itself}
use Rattle.std.specs.List.{AllByRecursion, remove}
use Rattle.std.specs.List.Sorted.{IsStrictlySortedBy}
use Rattle.std.specs.Map.{keys_of}
use Rattle.std.specs.Ordering.{nat_cmp}
use Rattle.std.specs.declared.cmp.Ordering.TheVariants.{Less, Equal}
use Rattle.std.proofs.Common.{ap, drop-cons, subst, suc, sym, ◌∙◌}
use Rattle.std.proofs.lemmas.List.{take-append-drop}
use Rattle.std.proofs.lemmas.List.Elements.{All-head, All-tail}
use Rattle.cv_base.specs.declared.finding.Row.{Row}
use Rattle.cv_base.proofs.InOrder.{nat_less}
use Rattle.cv_tree.specs.Entries.{IsAscending, at, without_key}
use Rattle.cv_tree.proofs.ChangeLemmas.{without_ascending}
use Rattle.cv_tree.proofs.EntryLemmas.{at_here, without_here}
use Rattle.cv_core_records.specs.Pages.{Notifications}
use Rattle.cv_notice.specs.code.Places.{HasNumber}

split_is : (es : Notifications) (i : ℕ) (e : ℕ × List Row) → i < length es → e ≡ slice_index_or es i e → es ≡ take i es ++ e ∷ drop (suc i) es
split_is es i e l h =
    sym (take-append-drop i es)
    ∙ ap (λ (xs : Notifications). take i es ++ xs) (drop-cons es i e l ∙ ap (λ (x : ℕ × List Row). x ∷ drop (suc i) es) (sym h))

same_number : (n k : ℕ) → n ≡ k → nat_cmp k n ≡ Equal
same_number n k h = rw h (tied_itself nat_cmp_total k)

-- the notification at an index is that of its number
pub found : (es : Notifications) (k i : ℕ) (e : ℕ × List Row) → IsAscending nat_cmp es → HasNumber es k i → e ≡ slice_index_or es i e → Some e.1 ≡ at nat_cmp es k
found es k i e h p r =
    let split = split_is es i e p.in_range r in
    sym (ap (λ (xs : Notifications). at nat_cmp xs k) split ∙ at_here nat_cmp_total k (take i es) e (drop (suc i) es) (subst (IsAscending nat_cmp) split h) (same_number e.0 k (p.has e r)))

pub is_found : (es : Notifications) (k i : ℕ) (e : ℕ × List Row) → IsAscending nat_cmp es → HasNumber es k i → e ≡ slice_index_or es i e → true ≡ is_some (at nat_cmp es k)
is_found es k i e h p r = rw (← found es k i e h p r) refl

-- what remains without it
pub removed : (es : Notifications) (k i : ℕ) (e : ℕ × List Row) → IsAscending nat_cmp es → HasNumber es k i → e ≡ slice_index_or es i e
    → remove es i ≡ without_key nat_cmp es k
removed es k i e h p r =
    let split = split_is es i e p.in_range r in
    sym (ap (λ (xs : Notifications). without_key nat_cmp xs k) split ∙ without_here nat_cmp_total k (take i es) e (drop (suc i) es) (subst (IsAscending nat_cmp) split h) (same_number e.0 k (p.has e r)))

pub removed_ascends : (es : Notifications) (k i : ℕ) (e : ℕ × List Row) → IsAscending nat_cmp es → HasNumber es k i → e ≡ slice_index_or es i e
    → IsAscending nat_cmp (remove es i)
removed_ascends es k i e h p r = rw (removed es k i e h p r) (without_ascending nat_cmp es k h)

-- One more notification.

added_keys : (P : ℕ → Type 0) (es : Notifications) (n : ℕ) (rows : List Row) → AllByRecursion P (keys_of es) → P n → AllByRecursion P (keys_of (es ++ (n, rows) ∷ []))
added_keys P [] n rows h p = (p, tt)
added_keys P (e ∷ es) n rows h p = (h.0, added_keys P es n rows h.1 p)

pub added_ascends : (es : Notifications) (n : ℕ) (rows : List Row) → IsAscending nat_cmp es → All (λ other. other < n) (keys_of es) → IsAscending nat_cmp (es ++ (n, rows) ∷ [])
unfolding IsStrictlySortedBy
added_ascends [] n rows h a = (tt, tt)
added_ascends (e ∷ es) n rows h a = (
  added_keys (λ y. nat_cmp e.0 y ≡ Less) es n rows h.0 (nat_less e.0 n (All-head (λ other. other < n) e.0 (keys_of es) a)),
  added_ascends es n rows h.1 (All-tail (λ other. other < n) e.0 (keys_of es) a),
)
