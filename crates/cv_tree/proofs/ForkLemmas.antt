-- A branch with a node at its top: what its entries are, and what a change of one side makes of them.
use Rattle.std.specs.Prelude.{◌≡◌, List, ◌∷◌, ◌++◌, Some, Option}
use Rattle.std.specs.Cmp.{IsTotalOrder}
use Rattle.std.specs.declared.cmp.Ordering.{Ordering}
use Rattle.std.specs.declared.cmp.Ordering.TheVariants.{Less, Equal, Greater}
use Rattle.std.proofs.Common.{subst, sym, ◌∙◌}
use Rattle.cv_tree.specs.Entries.{IsAscending, at, with_entry, without_key}
use Rattle.cv_tree.specs.Nodes.{shape_of}
use Rattle.cv_tree.specs.Shapes.{Shape}
use Rattle.cv_tree.specs.declared.branch.Fork.{Fork}
use Rattle.cv_tree.proofs.EntryLemmas.{ascending_back, ascending_front, at_here, at_left, at_right, with_here, with_left, with_right, without_here, without_left, without_right}

pub left_ascends : {K V : Type 0} (cmp : K → K → Ordering) (es : List (K × V)) (f : Fork K V) → es ≡ (shape_of f).entries → IsAscending cmp es → IsAscending cmp f.left.entries
left_ascends cmp es f e h = ascending_front cmp f.left.entries ((f.key, f.value) ∷ f.right.entries) (subst (IsAscending cmp) e h)

pub right_ascends : {K V : Type 0} (cmp : K → K → Ordering) (es : List (K × V)) (f : Fork K V) → es ≡ (shape_of f).entries → IsAscending cmp es → IsAscending cmp f.right.entries
right_ascends cmp es f e h = ascending_back cmp f.left.entries (f.key, f.value) f.right.entries (subst (IsAscending cmp) e h)

-- A look-up.

pub found_left : {K V : Type 0} {cmp : K → K → Ordering} → IsTotalOrder cmp → (k : K) (es : List (K × V)) (f : Fork K V) (found : Option V)
    → es ≡ (shape_of f).entries → IsAscending cmp es → Less ≡ cmp k f.key → found ≡ at cmp f.left.entries k → found ≡ at cmp es k
found_left {K} {V} {cmp} o k es f found e h l r =
    rw e (r ∙ sym (at_left o k f.left.entries (f.key, f.value) f.right.entries (subst (IsAscending cmp) e h) (sym l)))

pub found_here : {K V : Type 0} {cmp : K → K → Ordering} → IsTotalOrder cmp → (k : K) (es : List (K × V)) (f : Fork K V)
    → es ≡ (shape_of f).entries → IsAscending cmp es → Equal ≡ cmp k f.key → Some f.value ≡ at cmp es k
found_here {K} {V} {cmp} o k es f e h l = rw e (sym (at_here o k f.left.entries (f.key, f.value) f.right.entries (subst (IsAscending cmp) e h) (sym l)))

pub found_right : {K V : Type 0} {cmp : K → K → Ordering} → IsTotalOrder cmp → (k : K) (es : List (K × V)) (f : Fork K V) (found : Option V)
    → es ≡ (shape_of f).entries → IsAscending cmp es → Greater ≡ cmp k f.key → found ≡ at cmp f.right.entries k → found ≡ at cmp es k
found_right {K} {V} {cmp} o k es f found e h l r =
    rw e (r ∙ sym (at_right o k f.left.entries (f.key, f.value) f.right.entries (subst (IsAscending cmp) e h) (sym l)))

-- A new entry: `ls`, `w` and `rs` are what now stands left of the key, at it and right of it.

pub set_left : {K V : Type 0} (cmp : K → K → Ordering) (k : K) (v : V) (es : List (K × V)) (f : Fork K V) (ls : List (K × V)) (w : V) (rs : Shape K V)
    → es ≡ (shape_of f).entries → Less ≡ cmp k f.key → ls ≡ with_entry cmp f.left.entries k v → w ≡ f.value → rs ≡ f.right
    → with_entry cmp es k v ≡ ls ++ (f.key, w) ∷ rs.entries
set_left cmp k v es f ls w rs e l a b c = rw (e, a, b, c) (with_left cmp k v f.left.entries (f.key, f.value) f.right.entries (sym l))

pub set_here : {K V : Type 0} {cmp : K → K → Ordering} → IsTotalOrder cmp → (k : K) (v : V) (es : List (K × V)) (f : Fork K V) (ls rs : Shape K V)
    → es ≡ (shape_of f).entries → IsAscending cmp es → Equal ≡ cmp k f.key → ls ≡ f.left → rs ≡ f.right
    → with_entry cmp es k v ≡ ls.entries ++ (f.key, v) ∷ rs.entries
set_here {K} {V} {cmp} o k v es f ls rs e h l a c =
    rw (e, a, c) (with_here o k v f.left.entries (f.key, f.value) f.right.entries (subst (IsAscending cmp) e h) (sym l))

pub set_right : {K V : Type 0} {cmp : K → K → Ordering} → IsTotalOrder cmp → (k : K) (v : V) (es : List (K × V)) (f : Fork K V) (ls : Shape K V) (w : V) (rs : List (K × V))
    → es ≡ (shape_of f).entries → IsAscending cmp es → Greater ≡ cmp k f.key → ls ≡ f.left → w ≡ f.value → rs ≡ with_entry cmp f.right.entries k v
    → with_entry cmp es k v ≡ ls.entries ++ (f.key, w) ∷ rs
set_right {K} {V} {cmp} o k v es f ls w rs e h l a b c =
    rw (e, a, b, c) (with_right o k v f.left.entries (f.key, f.value) f.right.entries (subst (IsAscending cmp) e h) (sym l))

-- A removal.

pub cut_left : {K V : Type 0} {cmp : K → K → Ordering} → IsTotalOrder cmp → (k : K) (es : List (K × V)) (f : Fork K V) (ls : List (K × V)) (w : V) (rs : Shape K V)
    → es ≡ (shape_of f).entries → IsAscending cmp es → Less ≡ cmp k f.key → ls ≡ without_key cmp f.left.entries k → w ≡ f.value → rs ≡ f.right
    → without_key cmp es k ≡ ls ++ (f.key, w) ∷ rs.entries
cut_left {K} {V} {cmp} o k es f ls w rs e h l a b c =
    rw (e, a, b, c) (without_left o k f.left.entries (f.key, f.value) f.right.entries (subst (IsAscending cmp) e h) (sym l))

pub cut_here : {K V : Type 0} {cmp : K → K → Ordering} → IsTotalOrder cmp → (k : K) (es : List (K × V)) (f : Fork K V) (ls : Shape K V)
    → es ≡ (shape_of f).entries → IsAscending cmp es → Equal ≡ cmp k f.key → ls ≡ f.left
    → without_key cmp es k ≡ ls.entries ++ f.right.entries
cut_here {K} {V} {cmp} o k es f ls e h l a =
    rw (e, a) (without_here o k f.left.entries (f.key, f.value) f.right.entries (subst (IsAscending cmp) e h) (sym l))

pub cut_right : {K V : Type 0} {cmp : K → K → Ordering} → IsTotalOrder cmp → (k : K) (es : List (K × V)) (f : Fork K V) (ls : Shape K V) (w : V) (rs : List (K × V))
    → es ≡ (shape_of f).entries → IsAscending cmp es → Greater ≡ cmp k f.key → ls ≡ f.left → w ≡ f.value → rs ≡ without_key cmp f.right.entries k
    → without_key cmp es k ≡ ls.entries ++ (f.key, w) ∷ rs
cut_right {K} {V} {cmp} o k es f ls w rs e h l a b c =
    rw (e, a, b, c) (without_right o k f.left.entries (f.key, f.value) f.right.entries (subst (IsAscending cmp) e h) (sym l))
