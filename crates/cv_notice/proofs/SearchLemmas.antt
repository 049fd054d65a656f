-- What a binary search finds among notifications in ascending order of their numbers.
use Rattle.std.specs.Prelude.{◌≡◌, ℕ, ◌<◌, ◌≤◌, List, [], ◌∷◌, length, Some, None, Result, Ok, Err, MatchOption, slice_get}
use Rattle.std.specs.Cmp.{nat_cmp_total}
use Rattle.std.specs.List.{AllByRecursion}
use Rattle.std.specs.List.Sorted.{IsBinarySearchResult, IsNonDecreasingBy, IsPartitionPoint, IsSearchInRange, IsStrictlySortedBy}
use Rattle.std.specs.Map.{keys_of}
use Rattle.std.specs.Ordering.{nat_cmp, ordering_index}
use Rattle.std.specs.Result.{result_ok}
use Rattle.std.specs.declared.cmp.Ordering.TheVariants.{Less, Equal, Greater}
use Rattle.std.proofs.Common.{arith, get_or, subst, suc, sym, zero}
use Rattle.std.proofs.lemmas.Bool.Decides.{nat_tests}
use Rattle.std.proofs.lemmas.Cmp.{ranked}
use Rattle.std.proofs.lemmas.List.Sorted.{IsNonDecreasingBy-from_default}
use Rattle.std.proofs.lemmas.Map.Entries.{lookup_at_gap}
use Rattle.cv_seq.proofs.Orders.{turned}
use Rattle.cv_base.specs.declared.finding.Row.{Row}
use Rattle.cv_tree.specs.Entries.{IsAscending, at}
use Rattle.cv_tree.proofs.EntryLemmas.{returned}
use Rattle.cv_core_records.specs.Pages.{Notifications}
use Rattle.cv_notice.specs.code.Places.{HasNumber}

-- the number at an index
abbrev number_at : Notifications → ℕ → ℕ
number_at es i = (get_or es i (0, [])).0

later_above : (es : Notifications) (k : ℕ) → AllByRecursion (λ y. nat_cmp k y ≡ Less) (keys_of es) → (j : ℕ) → j < length es → k < number_at es j
later_above [] k h j l = absurd (omega arith)
later_above (e ∷ es) k h zero l = ranked k e.0 Less (sym h.0)
later_above (e ∷ es) k h (suc j) l = later_above es k h.1 j (omega arith)

numbers_rise : (es : Notifications) → IsAscending nat_cmp es → (i j : ℕ) → i ≤ j → j < length es → number_at es i ≤ number_at es j
unfolding IsStrictlySortedBy
numbers_rise [] h i j a b = absurd (omega arith)
numbers_rise (e ∷ es) h zero zero a b = omega arith
numbers_rise (e ∷ es) h zero (suc j) a b = let l = later_above es e.0 h.0 j (omega arith) in omega (arith, l)
numbers_rise (e ∷ es) h (suc i) zero a b = absurd (omega arith)
numbers_rise (e ∷ es) h (suc i) (suc j) a b = numbers_rise es h.1 i j (omega arith) (omega arith)

-- what each number compares to another one rises too
compared_rise : (es : Notifications) (k : ℕ) → IsAscending nat_cmp es → IsNonDecreasingBy (λ notice. ordering_index (nat_cmp notice.0 k)) es
compared_rise es k h =
    IsNonDecreasingBy-from_default (λ notice. ordering_index (nat_cmp notice.0 k)) es (0, [])
    (λ i j a b. let l : number_at es i ≤ number_at es j = numbers_rise es h i j a b in grind (arith, nat_tests))

get_is : (es : Notifications) (i : ℕ) (e : ℕ × List Row) → slice_get es i ≡ Some e → (i < length es) × (get_or es i e ≡ e)
get_is [] i e h = cc
get_is (x ∷ xs) zero e h = (omega arith, cc)
get_is (x ∷ xs) (suc i) e h = let rest = get_is xs i e h in (omega (arith, rest.0), rest.1)

none_found : (es : Notifications) (k i : ℕ) → IsAscending nat_cmp es
    → IsPartitionPoint (λ notice. nat_cmp notice.0 k ≡ Less) (λ notice. nat_cmp notice.0 k ≡ Greater) es i → at nat_cmp es k ≡ None
none_found es k i h p =
    lookup_at_gap nat_cmp_total k es i h
    (λ j e l g.
    let found = get_is es j e g in
    returned nat_cmp_total e.0 k (subst (λ (x : ℕ × List Row). nat_cmp x.0 k ≡ Less) found.1 (p.0 j e (omega arith) l)))
    (λ e g.
    let found = get_is es i e g in
    turned nat_cmp_total e.0 k (subst (λ (x : ℕ × List Row). nat_cmp x.0 k ≡ Greater) found.1 (p.1 i e (omega arith) found.0)))

pub searched : (es : Notifications) (k : ℕ) (r : Result ℕ ℕ) → IsAscending nat_cmp es → IsSearchInRange r (length es)
    → IsBinarySearchResult (λ notice. nat_cmp notice.0 k) es r → MatchOption (result_ok r) (at nat_cmp es k ≡ None) (HasNumber es k)
searched es k (Ok i) h b p = record {
  in_range = b;
  has = λ notice e. ranked notice.0 k Equal (sym (subst (λ (x : ℕ × List Row). nat_cmp x.0 k ≡ Equal) (sym e) (p notice)));
}
searched es k (Err i) h b p = none_found es k i h (p (compared_rise es k h))
