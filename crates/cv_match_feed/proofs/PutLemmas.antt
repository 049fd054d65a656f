-- The indices under each name once an index is put under one.
use Rattle.std.specs.Prelude.{◌≡◌, ℕ, Bool, true, false, cond, List, [], Option, None, Some, vec_len, refl}
use Rattle.std.specs.BTreeMap.{BTreeMap, get, is_at}
use Rattle.std.specs.Map.{lookup}
use Rattle.std.specs.Option.{UnwrapsOrElse}
use Rattle.std.specs.Ordering.{is_eq}
use Rattle.std.specs.declared.vec.Vec.{Vec}
use Rattle.std.proofs.Common.{◌∙◌, ap}
use Rattle.cv_base.specs.declared.«package».PackageName.{PackageName}
use Rattle.cv_match.specs.Keys.{name_cmp}
use Rattle.cv_match.proofs.Keys.{same_names}
use Rattle.cv_match_feed.specs.code.Index.{indices_in, once}

-- other names keep their indices. The new map is given by its entries
pub put_is : {Z : Type 0} (old : BTreeMap PackageName (Vec ℕ Z)) (new : List (PackageName × Vec ℕ Z)) (name : PackageName) (index : ℕ) (w : Vec ℕ Z)
    → ((q : PackageName) → lookup (is_at (name_cmp q)) new ≡ cond (is_eq (name_cmp name q)) (Some w) (get name_cmp old q))
    → w.items ≡ once index (indices_in (get name_cmp old name))
    → (key : PackageName) → indices_in (lookup (is_at (name_cmp key)) new) ≡ cond (is_eq (name_cmp name key)) (once index (indices_in (get name_cmp old key))) (indices_in (get name_cmp old key))
put_is old new name index w updated put key = ap indices_in (updated key) ∙ by_test (is_eq (name_cmp name key)) refl
  where
    by_test : (t : Bool) → is_eq (name_cmp name key) ≡ t → indices_in (cond t (Some w) (get name_cmp old key)) ≡ cond t (once index (indices_in (get name_cmp old key))) (indices_in (get name_cmp old key))
    by_test true e = put ∙ ap (λ k. once index (indices_in (get name_cmp old k))) (same_names name key e)
    by_test false e = refl

-- what an entry of the map lends: its indices, or none
pub lent_is : {Z : Type 0} (found : Option (Vec ℕ Z)) (v : Vec ℕ Z) → UnwrapsOrElse found (λ (x : Vec ℕ Z). (x.items ≡ []) × (vec_len x ≡ 0)) v → v.items ≡ indices_in found
lent_is None v h = h.0
lent_is (Some x) v h = ap (λ y. y.items) h
