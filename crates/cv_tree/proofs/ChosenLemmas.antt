-- Values recomputed at chosen keys alone, with their rows and costs: which of the keys count, and what the other entries are.
use Rattle.std.specs.Prelude.{◌≡◌, ℕ, ◌+◌, ◌≤◌, Bool, true, false, cond, List, [], ◌∷◌, ◌++◌, Result, OnOk, refl}
use Rattle.std.specs.List.{AllByRecursion}
use Rattle.std.specs.declared.cmp.Ordering.{Ordering}
use Rattle.std.proofs.Common.{ap, arith, length, subst, sym, ◌∙◌, ◌==◌}
use Rattle.std.proofs.lemmas.Bool.{eqb-true}
use Rattle.std.proofs.lemmas.List.{append-nil}
use Rattle.cv_tree.specs.Entries.{IsAscending, added_at, cost_at, costs_of, is_among, made_at, remade_entries, rows_of}
use Rattle.cv_tree.specs.Nodes.{shape_of}
use Rattle.cv_tree.specs.code.Keys.{IsAround}
use Rattle.cv_tree.specs.declared.branch.Fork.{Fork}
use Rattle.cv_tree.proofs.EntryLemmas.{all_left, all_right}
use Rattle.cv_tree.proofs.RemadeLemmas.{costs_between, rows_between}

-- Keys that are the same as far as the entries go.

pub made_alike : {K V : Type 0} (cmp : K → K → Ordering) (f : K → V → V) (keys others : List K) (es : List (K × V))
    → AllByRecursion (λ e. is_among cmp keys e.0 ≡ is_among cmp others e.0) es → remade_entries (made_at cmp keys f) es ≡ remade_entries (made_at cmp others f) es
made_alike cmp f keys others [] h = refl
made_alike {K} {V} cmp f keys others (e ∷ es) h =
    ap (λ (b : Bool). (e.0, cond b (f e.0 e.1) e.1) ∷ remade_entries (made_at cmp keys f) es) h.0
    ∙ ap (λ (xs : List (K × V)). (e.0, made_at cmp others f e.0 e.1) ∷ xs) (made_alike cmp f keys others es h.1)

pub added_alike : {K V R : Type 0} (cmp : K → K → Ordering) (f : K → V → List R) (keys others : List K) (es : List (K × V))
    → AllByRecursion (λ e. is_among cmp keys e.0 ≡ is_among cmp others e.0) es → rows_of (added_at cmp keys f) es ≡ rows_of (added_at cmp others f) es
added_alike cmp f keys others [] h = refl
added_alike {K} {V} {R} cmp f keys others (e ∷ es) h =
    ap (λ (b : Bool). cond b (f e.0 e.1) [] ++ rows_of (added_at cmp keys f) es) h.0
    ∙ ap (λ (rows : List R). added_at cmp others f e.0 e.1 ++ rows) (added_alike cmp f keys others es h.1)

pub cost_alike : {K V : Type 0} (cmp : K → K → Ordering) (f : K → V → ℕ) (keys others : List K) (es : List (K × V))
    → AllByRecursion (λ e. is_among cmp keys e.0 ≡ is_among cmp others e.0) es → costs_of (cost_at cmp keys f) es ≡ costs_of (cost_at cmp others f) es
cost_alike cmp f keys others [] h = refl
cost_alike cmp f keys others (e ∷ es) h =
    ap (λ (b : Bool). cond b (f e.0 e.1) 0 + costs_of (cost_at cmp keys f) es) h.0
    ∙ ap (λ (n : ℕ). cost_at cmp others f e.0 e.1 + n) (cost_alike cmp f keys others es h.1)

-- left of a node and right of it
pub left_alike : {K V : Type 0} (cmp : K → K → Ordering) (keys : List K) (es : List (K × V)) (fork : Fork K V) (before : List K) (here : Bool) (after : List K)
    → es ≡ (shape_of fork).entries → IsAscending cmp es → IsAround cmp keys fork.key before here after
    → AllByRecursion (λ e. is_among cmp keys e.0 ≡ is_among cmp before e.0) fork.left.entries
left_alike cmp keys es fork before here after e h around =
    all_left cmp (λ k. is_among cmp keys k ≡ is_among cmp before k) fork.left.entries (fork.key, fork.value) fork.right.entries (subst (IsAscending cmp) e h) around.left

pub right_alike : {K V : Type 0} (cmp : K → K → Ordering) (keys : List K) (es : List (K × V)) (fork : Fork K V) (before : List K) (here : Bool) (after : List K)
    → es ≡ (shape_of fork).entries → IsAscending cmp es → IsAround cmp keys fork.key before here after
    → AllByRecursion (λ e. is_among cmp keys e.0 ≡ is_among cmp after e.0) fork.right.entries
right_alike cmp keys es fork before here after e h around =
    all_right cmp (λ k. is_among cmp keys k ≡ is_among cmp after k) fork.left.entries (fork.key, fork.value) fork.right.entries (subst (IsAscending cmp) e h) around.right

-- Keys that no entry has.

pub made_at_none : {K V : Type 0} (cmp : K → K → Ordering) (f : K → V → V) (keys : List K) (es : List (K × V)) → AllByRecursion (λ e. is_among cmp keys e.0 ≡ false) es
    → remade_entries (made_at cmp keys f) es ≡ es
made_at_none cmp f keys [] h = refl
made_at_none {K} {V} cmp f keys (e ∷ es) h = rw h.0 (ap (λ (xs : List (K × V)). e ∷ xs) (made_at_none cmp f keys es h.1))

pub added_at_none : {K V R : Type 0} (cmp : K → K → Ordering) (f : K → V → List R) (keys : List K) (es : List (K × V)) → AllByRecursion (λ e. is_among cmp keys e.0 ≡ false) es
    → rows_of (added_at cmp keys f) es ≡ []
added_at_none cmp f keys [] h = refl
added_at_none cmp f keys (e ∷ es) h = rw h.0 (added_at_none cmp f keys es h.1)

pub cost_at_none : {K V : Type 0} (cmp : K → K → Ordering) (f : K → V → ℕ) (keys : List K) (es : List (K × V)) → AllByRecursion (λ e. is_among cmp keys e.0 ≡ false) es
    → costs_of (cost_at cmp keys f) es ≡ 0
cost_at_none cmp f keys [] h = refl
cost_at_none cmp f keys (e ∷ es) h = let rest = cost_at_none cmp f keys es h.1 in rw h.0 (omega (arith, rest))

none_among : {K V : Type 0} (cmp : K → K → Ordering) (es : List (K × V)) → AllByRecursion (λ e. is_among cmp [] e.0 ≡ false) es
none_among cmp [] = tt
none_among cmp (e ∷ es) = (refl, none_among cmp es)

-- without keys
pub made_at_no_keys : {K V : Type 0} (cmp : K → K → Ordering) (f : K → V → V) (es : List (K × V)) → remade_entries (made_at cmp [] f) es ≡ es
made_at_no_keys cmp f es = made_at_none cmp f [] es (none_among cmp es)

pub added_at_no_keys : {K V R : Type 0} (cmp : K → K → Ordering) (f : K → V → List R) (es : List (K × V)) → rows_of (added_at cmp [] f) es ≡ []
added_at_no_keys cmp f es = added_at_none cmp f [] es (none_among cmp es)

-- Entries outside of the keys that would stay as they are anyway: all may be recomputed as well.

by_choice : {V : Type 0} (b : Bool) (new old : V) → (b ≡ false → new ≡ old) → cond b new old ≡ new
by_choice true new old h = refl
by_choice false new old h = sym (h refl)

pub made_at_all : {K V : Type 0} (cmp : K → K → Ordering) (f : K → V → V) (keys : List K) (es : List (K × V))
    → AllByRecursion (λ e. is_among cmp keys e.0 ≡ false → f e.0 e.1 ≡ e.1) es → remade_entries (made_at cmp keys f) es ≡ remade_entries f es
made_at_all cmp f keys [] h = refl
made_at_all {K} {V} cmp f keys (e ∷ es) h =
    ap (λ (v : V). (e.0, v) ∷ remade_entries (made_at cmp keys f) es) (by_choice (is_among cmp keys e.0) (f e.0 e.1) e.1 h.0)
    ∙ ap (λ (xs : List (K × V)). (e.0, f e.0 e.1) ∷ xs) (made_at_all cmp f keys es h.1)

pub added_at_all : {K V R : Type 0} (cmp : K → K → Ordering) (f : K → V → List R) (keys : List K) (es : List (K × V))
    → AllByRecursion (λ e. is_among cmp keys e.0 ≡ false → f e.0 e.1 ≡ []) es → rows_of (added_at cmp keys f) es ≡ rows_of f es
added_at_all cmp f keys [] h = refl
added_at_all {K} {V} {R} cmp f keys (e ∷ es) h =
    ap (λ (rows : List R). rows ++ rows_of (added_at cmp keys f) es) (by_choice (is_among cmp keys e.0) (f e.0 e.1) [] h.0)
    ∙ ap (λ (rows : List R). f e.0 e.1 ++ rows) (added_at_all cmp f keys es h.1)

at_most : (b : Bool) (n : ℕ) → cond b n 0 ≤ n
at_most true n = omega arith
at_most false n = omega arith

pub cost_at_most : {K V : Type 0} (cmp : K → K → Ordering) (f : K → V → ℕ) (keys : List K) (es : List (K × V)) → costs_of (cost_at cmp keys f) es ≤ costs_of f es
cost_at_most cmp f keys [] = omega arith
cost_at_most cmp f keys (e ∷ es) =
    let one = at_most (is_among cmp keys e.0) (f e.0 e.1) in
    let rest = cost_at_most cmp f keys es in
    omega (arith, one, rest)

-- A branch whose values are recomputed at chosen keys.

no_keys : {K : Type 0} (keys : List K) → (length keys == 0) ≡ true → keys ≡ []
no_keys [] h = refl
no_keys (k ∷ keys) h =
    let none : length (k ∷ keys) ≡ 0 = eqb-true (length (k ∷ keys)) 0 h in
    absurd (omega (arith, none))

pub none_chosen : {K V : Type 0} (cmp : K → K → Ordering) (f : K → V → V) (keys : List K) (es : List (K × V)) → (length keys == 0) ≡ true → es ≡ remade_entries (made_at cmp keys f) es
none_chosen cmp f keys es h = rw (no_keys keys h) (sym (made_at_no_keys cmp f es))

pub no_rows_chosen : {K V R : Type 0} (cmp : K → K → Ordering) (f : K → V → List R) (keys : List K) (es : List (K × V)) (old : List R) → (length keys == 0) ≡ true
    → old ≡ old ++ rows_of (added_at cmp keys f) es
no_rows_chosen cmp f keys es old h = rw (no_keys keys h, added_at_no_keys cmp f es) (sym (append-nil old))

pub made_left : {K V : Type 0} (cmp : K → K → Ordering) (f : K → V → V) (keys : List K) (es : List (K × V)) (fork : Fork K V) (before : List K) (here : Bool) (after : List K)
    (ls : List (K × V)) → es ≡ (shape_of fork).entries → IsAscending cmp es → IsAround cmp keys fork.key before here after
    → ls ≡ remade_entries (made_at cmp before f) fork.left.entries → ls ≡ remade_entries (made_at cmp keys f) fork.left.entries
made_left cmp f keys es fork before here after ls e h around new = new ∙ sym (made_alike cmp f keys before fork.left.entries (left_alike cmp keys es fork before here after e h around))

pub made_right : {K V : Type 0} (cmp : K → K → Ordering) (f : K → V → V) (keys : List K) (es : List (K × V)) (fork : Fork K V) (before : List K) (here : Bool) (after : List K)
    (rs : List (K × V)) → es ≡ (shape_of fork).entries → IsAscending cmp es → IsAround cmp keys fork.key before here after
    → rs ≡ remade_entries (made_at cmp after f) fork.right.entries → rs ≡ remade_entries (made_at cmp keys f) fork.right.entries
made_right cmp f keys es fork before here after rs e h around new = new ∙ sym (made_alike cmp f keys after fork.right.entries (right_alike cmp keys es fork before here after e h around))

pub made_here : {K V : Type 0} (cmp : K → K → Ordering) (f : K → V → V) (keys : List K) (fork : Fork K V) (before : List K) (here : Bool) (after : List K) (w : V)
    → IsAround cmp keys fork.key before here after → w ≡ cond here (f fork.key fork.value) fork.value → w ≡ made_at cmp keys f fork.key fork.value
made_here {K} {V} cmp f keys fork before here after w around new = new ∙ ap (λ (b : Bool). cond b (f fork.key fork.value) fork.value) around.middle

-- the rows of the three parts of a node
pub rows_chosen : {K V R X E : Type 0} (cmp : K → K → Ordering) (f : K → V → List R) (keys : List K) (es : List (K × V)) (fork : Fork K V) (before : List K) (here : Bool) (after : List K)
    (r : Result X E) (old one two all : List R) → es ≡ (shape_of fork).entries → IsAscending cmp es → IsAround cmp keys fork.key before here after
    → one ≡ old ++ rows_of (added_at cmp before f) fork.left.entries → two ≡ one ++ cond here (f fork.key fork.value) [] → all ≡ two ++ rows_of (added_at cmp after f) fork.right.entries
    → OnOk r (all ≡ old ++ rows_of (added_at cmp keys f) es)
rows_chosen {K} {V} {R} cmp f keys es fork before here after r old one two all e h around a b c =
    rows_between (added_at cmp keys f) es fork r old one two all e
    (a ∙ ap (λ (rows : List R). old ++ rows) (sym (added_alike cmp f keys before fork.left.entries (left_alike cmp keys es fork before here after e h around))))
    (b ∙ ap (λ (x : Bool). one ++ cond x (f fork.key fork.value) []) around.middle)
    (c ∙ ap (λ (rows : List R). two ++ rows) (sym (added_alike cmp f keys after fork.right.entries (right_alike cmp keys es fork before here after e h around))))

-- what the three parts of a node cost
pub costs_chosen : {K V : Type 0} (cmp : K → K → Ordering) (f : K → V → ℕ) (keys : List K) (es : List (K × V)) (fork : Fork K V) (before : List K) (here : Bool) (after : List K)
    → es ≡ (shape_of fork).entries → IsAscending cmp es → IsAround cmp keys fork.key before here after
    → costs_of (cost_at cmp keys f) es ≡ costs_of (cost_at cmp before f) fork.left.entries + (cond here (f fork.key fork.value) 0 + costs_of (cost_at cmp after f) fork.right.entries)
costs_chosen cmp f keys es fork before here after e h around =
    let whole = costs_between (cost_at cmp keys f) es fork e in
    let ls = cost_alike cmp f keys before fork.left.entries (left_alike cmp keys es fork before here after e h around) in
    let middle = ap (λ (b : Bool). cond b (f fork.key fork.value) 0) around.middle in
    let rs = cost_alike cmp f keys after fork.right.entries (right_alike cmp keys es fork before here after e h around) in
    omega (arith, whole, ls, middle, rs)
