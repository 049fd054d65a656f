-- Two lists in ascending order of their keys that have the same at every key are the same.
use Rattle.std.specs.Prelude.{◌≡◌, Bool, true, false, cond, List, [], ◌∷◌, Option, Some, None, refl}
use Rattle.std.specs.BTreeMap.{is_at}
use Rattle.std.specs.Cmp.{IsTotalOrder, eq_by_cmp_equiv}
use Rattle.std.specs.List.Sorted.{IsStrictlySortedBy}
use Rattle.std.specs.Map.{keys_of, lookup}
use Rattle.std.specs.Option.{is_some}
use Rattle.std.specs.Ordering.{is_eq}
use Rattle.std.specs.declared.cmp.Ordering.{Ordering}
use Rattle.std.specs.declared.cmp.Ordering.TheVariants.{Less, Equal, Greater}
use Rattle.std.proofs.Common.{ap, sym, ◌∙◌}
use Rattle.std.proofs.lemmas.Map.{lookup-none}
use Rattle.std.proofs.lemmas.Map.Entries.{none_below_head, none_past_head}
use Rattle.std.proofs.lemmas.Map.Keys.{IsDistinct-from_sorted}
use Rattle.std.proofs.lemmas.Map.Lookups.{CmpEqualImpliesEq}
use Rattle.std.proofs.lemmas.Option.{same_Some}
use Rattle.cv_base.proofs.Orders.{turned}

-- what stands at the first key
pub at_head : {K V : Type 0} {R : K → K → Ordering} → IsTotalOrder R → (e : K × V) (es : List (K × V)) → lookup (is_at (R e.0)) (e ∷ es) ≡ Some e.1
at_head {K} {V} {R} o e es = ap (λ b. cond b (Some e.1) (lookup (is_at (R e.0)) es)) ((eq_by_cmp_equiv o).refl e.0)

-- a key below the first one does not stand
below_head : {K V : Type 0} {R : K → K → Ordering} → IsTotalOrder R → (q : K) (e : K × V) (es : List (K × V)) → IsStrictlySortedBy R (keys_of (e ∷ es)) → R q e.0 ≡ Less
    → lookup (is_at (R q)) (e ∷ es) ≡ None
below_head {K} {V} {R} o q e es h is = lookup-none (is_at (R q)) (e ∷ es) (none_below_head o q e es h is)

-- the first key stands once
pub past_head : {K V : Type 0} {R : K → K → Ordering} → IsTotalOrder R → (q : K) (e : K × V) (es : List (K × V)) → IsStrictlySortedBy R (keys_of (e ∷ es)) → is_eq (R q e.0) ≡ true
    → lookup (is_at (R q)) es ≡ None
past_head {K} {V} {R} o q e es h is =
    lookup-none (is_at (R q)) es (none_past_head (eq_by_cmp_equiv o) q e es (IsDistinct-from_sorted R (keys_of (e ∷ es)) h) is)

-- what stands is the same after the first keys, if these are equal
tails : {K V W X : Type 0} {R : K → K → Ordering} → IsTotalOrder R → (f : Option V → X) (g : Option W → X) (e : K × V) (es : List (K × V)) (d : K × W) (ds : List (K × W))
    → IsStrictlySortedBy R (keys_of (e ∷ es)) → IsStrictlySortedBy R (keys_of (d ∷ ds)) → R e.0 d.0 ≡ Equal → f None ≡ g None
    → ((q : K) → f (lookup (is_at (R q)) (e ∷ es)) ≡ g (lookup (is_at (R q)) (d ∷ ds))) → (q : K) → f (lookup (is_at (R q)) es) ≡ g (lookup (is_at (R q)) ds)
tails {K} {V} {W} {X} {R} o f g e es d ds h k is none same q = by_test (is_eq (R q e.0)) refl where
  alike : is_eq (R q e.0) ≡ is_eq (R q d.0)
  alike = (eq_by_cmp_equiv o).symm q e.0 ∙ ap is_eq (o.congr e.0 d.0 q is) ∙ (eq_by_cmp_equiv o).symm d.0 q

  by_test : (b : Bool) → is_eq (R q e.0) ≡ b → f (lookup (is_at (R q)) es) ≡ g (lookup (is_at (R q)) ds)
  by_test true t = ap f (past_head o q e es h t) ∙ none ∙ sym (ap g (past_head o q d ds k (sym alike ∙ t)))
  by_test false t =
      sym (ap (λ b. f (cond b (Some e.1) (lookup (is_at (R q)) es))) t) ∙ same q
      ∙ ap (λ b. g (cond b (Some d.1) (lookup (is_at (R q)) ds))) (sym alike ∙ t)

pair : {K V : Type 0} (e d : K × V) → e.0 ≡ d.0 → e.1 ≡ d.1 → e ≡ d
pair {K} {V} e d x y =
    let first : e ≡ record e { 0 = d.0 } = ap (λ (z : K). record e { 0 = z }) x in
    let second : record e { 0 = d.0 } ≡ d = ap (λ (z : V). record d { 1 = z }) y in
    first ∙ second

-- the same values under the same keys
pub same_entries : {K V : Type 0} {R : K → K → Ordering} → IsTotalOrder R → CmpEqualImpliesEq R → (es ds : List (K × V)) → IsStrictlySortedBy R (keys_of es)
    → IsStrictlySortedBy R (keys_of ds) → ((q : K) → lookup (is_at (R q)) es ≡ lookup (is_at (R q)) ds) → es ≡ ds
unfolding IsStrictlySortedBy
same_entries o exact [] [] h k same = refl
same_entries o exact [] (d ∷ ds) h k same = absurd (cc (same d.0, at_head o d ds))
same_entries o exact (e ∷ es) [] h k same = absurd (cc (same e.0, at_head o e es))
same_entries {K} {V} {R} o exact (e ∷ es) (d ∷ ds) h k same =
    by_order (R e.0 d.0) refl (λ (later : (q : K) → lookup (is_at (R q)) es ≡ lookup (is_at (R q)) ds). same_entries o exact es ds h.1 k.1 later) where
      by_order : (r : Ordering) → R e.0 d.0 ≡ r → (((q : K) → lookup (is_at (R q)) es ≡ lookup (is_at (R q)) ds) → es ≡ ds) → e ∷ es ≡ d ∷ ds
      by_order Less is rest = absurd (cc (same e.0, at_head o e es, below_head o e.0 d ds k is))
      by_order Greater is rest = absurd (cc (same d.0, at_head o d ds, below_head o d.0 e es h (turned o e.0 d.0 is)))
      by_order Equal is rest =
          let head : Some e.1 ≡ Some d.1 =
          sym (at_head o e es) ∙ same e.0 ∙ ap (λ b. cond b (Some d.1) (lookup (is_at (R e.0)) ds)) (ap is_eq is) in
          let first : e ≡ d = pair e d (exact e.0 d.0 is) (same_Some e.1 d.1 head) in
          let others : es ≡ ds = rest (tails o (λ (x : Option V). x) (λ (x : Option V). x) e es d ds h k is refl same) in
          cc (first, others)

-- the same keys
pub same_keys : {K V W : Type 0} {R : K → K → Ordering} → IsTotalOrder R → CmpEqualImpliesEq R → (es : List (K × V)) (ds : List (K × W)) → IsStrictlySortedBy R (keys_of es)
    → IsStrictlySortedBy R (keys_of ds) → ((q : K) → is_some (lookup (is_at (R q)) es) ≡ is_some (lookup (is_at (R q)) ds)) → keys_of es ≡ keys_of ds
unfolding IsStrictlySortedBy
same_keys o exact [] [] h k same = refl
same_keys o exact [] (d ∷ ds) h k same = absurd (cc (same d.0, ap is_some (at_head o d ds)))
same_keys o exact (e ∷ es) [] h k same = absurd (cc (same e.0, ap is_some (at_head o e es)))
same_keys {K} {V} {W} {R} o exact (e ∷ es) (d ∷ ds) h k same =
    by_order (R e.0 d.0) refl
    (λ (later : (q : K) → is_some (lookup (is_at (R q)) es) ≡ is_some (lookup (is_at (R q)) ds)). same_keys o exact es ds h.1 k.1 later) where
      by_order : (r : Ordering) → R e.0 d.0 ≡ r → (((q : K) → is_some (lookup (is_at (R q)) es) ≡ is_some (lookup (is_at (R q)) ds)) → keys_of es ≡ keys_of ds)
          → e.0 ∷ keys_of es ≡ d.0 ∷ keys_of ds
      by_order Less is rest = absurd (cc (same e.0, ap is_some (at_head o e es), ap is_some (below_head o e.0 d ds k is)))
      by_order Greater is rest = absurd (cc (same d.0, ap is_some (at_head o d ds), ap is_some (below_head o d.0 e es h (turned o e.0 d.0 is))))
      by_order Equal is rest =
          let first : e.0 ≡ d.0 = exact e.0 d.0 is in
          let others : keys_of es ≡ keys_of ds = rest (tails o is_some is_some e es d ds h k is refl same) in
          cc (first, others)
