-- What is made of a tree is a tree.
use Rattle.std.specs.Prelude.{◌≡◌, ℕ, ◌+◌, ◌-◌, true, cond, List, length, is_some}
use Rattle.std.specs.Cmp.{IsTotalOrder}
use Rattle.std.specs.List.Sorted.{IsStrictlySortedBy}
use Rattle.std.specs.declared.cmp.Ordering.{Ordering}
use Rattle.std.proofs.Common.{ap, arith, subst, sym, ◌∙◌}
use Rattle.cv_tree.specs.Entries.{at, remade_entries, with_entry, without_key}
use Rattle.cv_tree.specs.code.Trees.{IsTree}
use Rattle.cv_tree.proofs.ChangeLemmas.{with_ascending, without_ascending}
use Rattle.cv_tree.proofs.CountLemmas.{length-with_entry, length-without_key}
use Rattle.cv_tree.proofs.RemadeLemmas.{length-remade, remade_keys}

pub tree_set : {K V : Type 0} {cmp : K → K → Ordering} → IsTotalOrder cmp → (es : List (K × V)) (k : K) (v : V) (root : List (K × V)) (n m : ℕ) → IsTree cmp es m
    → root ≡ with_entry cmp es k v → n ≡ cond (is_some (at cmp es k)) (length es) (length es + 1) → IsTree cmp root n
tree_set {K} {V} {cmp} o es k v root n m t e c = record {
  ascends = rw e (with_ascending o es k v t.ascends);
  counted = c ∙ sym (length-with_entry o es k v t.ascends) ∙ ap length (sym e);
}

one_less : {K V : Type 0} (cmp : K → K → Ordering) (es : List (K × V)) (k : K) (n : ℕ) → is_some (at cmp es k) ≡ true → n ≡ length es - 1 → n ≡ length (without_key cmp es k)
one_less cmp es k n h c = let whole = rw h at (length-without_key cmp es k) in omega (arith, whole, c)

pub tree_cut : {K V : Type 0} (cmp : K → K → Ordering) (es : List (K × V)) (k : K) (root : List (K × V)) (n m : ℕ) → IsTree cmp es m
    → is_some (at cmp es k) ≡ true → root ≡ without_key cmp es k → n ≡ length es - 1 → IsTree cmp root n
tree_cut cmp es k root n m t h e c = record {
  ascends = rw e (without_ascending cmp es k t.ascends);
  counted = one_less cmp es k n h c ∙ ap length (sym e);
}

pub tree_remade : {K V : Type 0} (cmp : K → K → Ordering) (es : List (K × V)) (f : K → V → V) (root : List (K × V)) (n : ℕ) → IsTree cmp es n
    → root ≡ remade_entries f es → IsTree cmp root n
tree_remade cmp es f root n t e = record {
  ascends = rw e (subst (IsStrictlySortedBy cmp) (sym (remade_keys f es)) t.ascends);
  counted = t.counted ∙ sym (length-remade f es) ∙ ap length (sym e);
}
