-- The index of each id, as records are appended.
use Rattle.std.specs.Prelude.{◌≡◌, ℕ, ◌+◌, Bool, true, false, cond, List, [], ◌∷◌, ◌++◌, length, map, Option, Some, None, refl}
use Rattle.std.specs.BTreeMap.{BTreeMap, get}
use Rattle.std.specs.Cmp.Lexicographic.{bytes_decides, nat_list_eq_equiv, slice_cmp, texts_ties}
use Rattle.std.specs.List.{AllByRecursion, IsDistinct, position_from}
use Rattle.std.specs.Option.{option_or}
use Rattle.std.specs.Ordering.{is_eq, nat_cmp}
use Rattle.std.proofs.Common.{◌∙◌, sym, ap, arith}
use Rattle.std.proofs.lemmas.Option.{none-some}
use Rattle.cv_base.specs.Texts.{same}
use Rattle.cv_base.specs.declared.advisory.Advisory.{Advisory}
use Rattle.cv_osv.specs.Records.{HasDistinctIds}
use Rattle.cv_osv.specs.code.Appended.{index_of, Indexes, IsIndexed}

-- an appended item is found if no earlier one is
position_snoc : {X : Type 0} (p : X → Bool) (i : ℕ) (xs : List X) (x : X) → position_from p i (xs ++ x ∷ []) ≡ option_or (position_from p i xs) (cond (p x) (Some (i + length xs)) None)
position_snoc p i [] x = ap (λ n. cond (p x) (Some n) None) (omega arith)
position_snoc p i (y ∷ ys) x = by_test (p y) (position_snoc p (i + 1) ys x)
  where
    by_test : (found : Bool) → position_from p (i + 1) (ys ++ x ∷ []) ≡ option_or (position_from p (i + 1) ys) (cond (p x) (Some (i + 1 + length ys)) None)
        → cond found (Some i) (position_from p (i + 1) (ys ++ x ∷ [])) ≡ option_or (cond found (Some i) (position_from p (i + 1) ys)) (cond (p x) (Some (i + length (y ∷ ys))) None)
    by_test true more = refl
    by_test false more = more ∙ ap (λ n. option_or (position_from p (i + 1) ys) (cond (p x) (Some n) None)) (omega arith)

-- no records
pub distinct_none : HasDistinctIds []
unfolding IsDistinct
distinct_none = tt

-- what holds of each record's id, and of one more
all_snoc : (P : List ℕ → Type 0) (records : List Advisory) (here : Advisory) → AllByRecursion P (map (λ there. there.id) records) → P here.id → AllByRecursion P (map (λ there. there.id) (records ++ here ∷ []))
all_snoc P [] here held last = (last, tt)
all_snoc P (first ∷ records) here held last = (held.0, all_snoc P records here held.1 last)

-- a record whose id no other record has
pub distinct_more : (i : ℕ) (records : List Advisory) (here : Advisory) → HasDistinctIds records → position_from (λ there. same here.id there.id) i records ≡ None → HasDistinctIds (records ++ here ∷ [])
unfolding IsDistinct
distinct_more i [] here distinct fresh = (tt, tt)
distinct_more i (first ∷ records) here distinct fresh = by_test (same here.id first.id) refl fresh (distinct_more (i + 1) records here distinct.1)
  where
    by_test : (found : Bool) → same here.id first.id ≡ found → cond found (Some i) (position_from (λ there. same here.id there.id) (i + 1) records) ≡ None
        → (position_from (λ there. same here.id there.id) (i + 1) records ≡ None → HasDistinctIds (records ++ here ∷ []))
        → HasDistinctIds (first ∷ records ++ here ∷ [])
    by_test true e fresh_there more = absurd (none-some i (sym fresh_there))
    by_test false e fresh_there more =
        (all_snoc (λ y. same first.id y ≡ false) records here distinct.0 (nat_list_eq_equiv.symm first.id here.id ∙ e), more fresh_there)

-- the same id is one id to the order of the map
found_by_order : (x y : List ℕ) → is_eq (slice_cmp nat_cmp x y) ≡ same y x
found_by_order x y = sym (texts_ties x y) ∙ nat_list_eq_equiv.symm x y

-- if no record had the id of the new one, a map that has it at the new index has all indices
pub indexes_more : (indices more : BTreeMap (List ℕ) ℕ) (records : List Advisory) (here : Advisory)
    → Indexes indices records → get (slice_cmp nat_cmp) indices here.id ≡ None
    → IsIndexed indices more here.id (length records)
    → Indexes more (records ++ here ∷ [])
indexes_more indices more records here indexed fresh updated id =
    updated id ∙ ap (λ found. cond found (Some (length records)) (get (slice_cmp nat_cmp) indices id)) (found_by_order here.id id)
    ∙ by_same (same id here.id) refl ∙ sym (position_snoc (λ there. same id there.id) 0 records here)
  where
    by_same : (found : Bool) → same id here.id ≡ found
        → cond found (Some (length records)) (get (slice_cmp nat_cmp) indices id) ≡ option_or (index_of id records) (cond found (Some (0 + length records)) None)
    by_same true e =
        let none : index_of id records ≡ None = ap (λ t. index_of t records) ((bytes_decides id here.id).0 e) ∙ sym (indexed here.id) ∙ fresh in
        rw none (ap Some (omega arith))
    by_same false e = indexed id ∙ kept (index_of id records)
      where
        kept : (found : Option ℕ) → found ≡ option_or found None
        kept None = refl
        kept (Some n) = refl
