-- Values recomputed, with their rows and costs, of entries in a row: those in front, the one between, those after it.
use Rattle.std.specs.Prelude.{◌≡◌, ℕ, ◌+◌, List, [], ◌∷◌, ◌++◌, length, max, Option, Some, None, unwrap_or, Result, Ok, Err, IfOk, OnOk, refl}
use Rattle.std.specs.Map.{keys_of}
use Rattle.std.proofs.Common.{ap, arith, append_assoc, sym, ◌∙◌}
use Rattle.cv_tree.specs.Entries.{costs_of, remade_entries, rows_of}
use Rattle.cv_tree.specs.Nodes.{shape_of}
use Rattle.cv_tree.specs.Shapes.{Shape}
use Rattle.cv_tree.specs.declared.branch.Fork.{Fork}

pub remade_append : {K V : Type 0} (f : K → V → V) (xs ys : List (K × V)) → remade_entries f (xs ++ ys) ≡ remade_entries f xs ++ remade_entries f ys
remade_append f [] ys = refl
remade_append {K} {V} f (x ∷ xs) ys = ap (λ (es : List (K × V)). (x.0, f x.0 x.1) ∷ es) (remade_append f xs ys)

pub rows_append : {K V R : Type 0} (f : K → V → List R) (xs ys : List (K × V)) → rows_of f (xs ++ ys) ≡ rows_of f xs ++ rows_of f ys
rows_append f [] ys = refl
rows_append {K} {V} {R} f (x ∷ xs) ys = ap (λ (rows : List R). f x.0 x.1 ++ rows) (rows_append f xs ys) ∙ sym (append_assoc (f x.0 x.1) (rows_of f xs) (rows_of f ys))

pub costs_append : {K V : Type 0} (f : K → V → ℕ) (xs ys : List (K × V)) → costs_of f (xs ++ ys) ≡ costs_of f xs + costs_of f ys
costs_append f [] ys = omega arith
costs_append f (x ∷ xs) ys = let rest = costs_append f xs ys in omega (arith, rest)

pub remade_keys : {K V : Type 0} (f : K → V → V) (es : List (K × V)) → keys_of (remade_entries f es) ≡ keys_of es
remade_keys f [] = refl
remade_keys {K} f (e ∷ es) = ap (λ (ks : List K). e.0 ∷ ks) (remade_keys f es)

pub length-remade : {K V : Type 0} (f : K → V → V) (es : List (K × V)) → length (remade_entries f es) ≡ length es
length-remade f [] = refl
length-remade f (e ∷ es) = let rest = length-remade f es in omega (arith, rest)

-- A node, whose parts are recomputed one after the other.

pub costs_between : {K V : Type 0} (f : K → V → ℕ) (es : List (K × V)) (fork : Fork K V) → es ≡ (shape_of fork).entries
    → costs_of f es ≡ costs_of f fork.left.entries + (f fork.key fork.value + costs_of f fork.right.entries)
costs_between f es fork e = rw e (costs_append f fork.left.entries ((fork.key, fork.value) ∷ fork.right.entries))

remade_parts : {K V : Type 0} (f : K → V → V) (fork : Fork K V) (ls rs xs : List (K × V)) (w : V)
    → ls ≡ remade_entries f fork.left.entries → w ≡ f fork.key fork.value → rs ≡ remade_entries f fork.right.entries
    → xs ≡ ls ++ (fork.key, w) ∷ rs → xs ≡ remade_entries f (shape_of fork).entries
remade_parts {K} {V} f fork ls rs xs w a b c h =
    h
    ∙ ap (λ (ys : List (K × V)). ys ++ (fork.key, w) ∷ rs) a
    ∙ ap (λ (v : V). remade_entries f fork.left.entries ++ (fork.key, v) ∷ rs) b
    ∙ ap (λ (ys : List (K × V)). remade_entries f fork.left.entries ++ (fork.key, f fork.key fork.value) ∷ ys) c
    ∙ sym (remade_append f fork.left.entries ((fork.key, fork.value) ∷ fork.right.entries))

pub remade_between : {K V E : Type 0} (f : K → V → V) (whole : Shape K V) (fork : Fork K V) (ls : Option (Shape K V)) (w : Option V) (rs : Option (Shape K V))
    (r : Result (Option (Shape K V)) E) → whole.entries ≡ (shape_of fork).entries
    → (unwrap_or ls fork.left).entries ≡ remade_entries f fork.left.entries → unwrap_or w fork.value ≡ f fork.key fork.value
    → (unwrap_or rs fork.right).entries ≡ remade_entries f fork.right.entries
    → IfOk r (λ new. (unwrap_or new (shape_of fork)).entries ≡ (unwrap_or ls fork.left).entries ++ (fork.key, unwrap_or w fork.value) ∷ (unwrap_or rs fork.right).entries)
    → IfOk r (λ new. (unwrap_or new whole).entries ≡ remade_entries f whole.entries)
remade_between f whole fork ls w rs (Err _) e a b c h = tt
remade_between f whole fork ls w rs (Ok None) e a b c h =
    rw e (remade_parts f fork (unwrap_or ls fork.left).entries (unwrap_or rs fork.right).entries _ (unwrap_or w fork.value) a b c h)
remade_between f whole fork ls w rs (Ok (Some new)) e a b c h =
    rw e (remade_parts f fork (unwrap_or ls fork.left).entries (unwrap_or rs fork.right).entries new.entries (unwrap_or w fork.value) a b c h)

pub height_kept : {K V E : Type 0} (whole : Shape K V) (fork : Fork K V) (ls rs : Option (Shape K V)) (r : Result (Option (Shape K V)) E)
    → whole.height ≡ (shape_of fork).height → (unwrap_or ls fork.left).height ≡ fork.left.height → (unwrap_or rs fork.right).height ≡ fork.right.height
    → IfOk r (λ new. (unwrap_or new (shape_of fork)).height ≡ max (unwrap_or ls fork.left).height (unwrap_or rs fork.right).height + 1)
    → IfOk r (λ new. (unwrap_or new whole).height ≡ whole.height)
height_kept whole fork ls rs (Err _) e a b h = tt
height_kept whole fork ls rs (Ok None) e a b h = refl
height_kept whole fork ls rs (Ok (Some new)) e a b h = omega (arith, e, a, b, h)

pub rows_between : {K V R X E : Type 0} (f : K → V → List R) (es : List (K × V)) (fork : Fork K V) (r : Result X E) (old one two all : List R) → es ≡ (shape_of fork).entries
    → one ≡ old ++ rows_of f fork.left.entries → two ≡ one ++ f fork.key fork.value → all ≡ two ++ rows_of f fork.right.entries
    → OnOk r (all ≡ old ++ rows_of f es)
rows_between f es fork (Err _) old one two all e a b c = tt
rows_between {K} {V} {R} f es fork (Ok _) old one two all e a b c =
    let ls = rows_of f fork.left.entries in
    let ms = f fork.key fork.value in
    let rs = rows_of f fork.right.entries in
    c
    ∙ ap (λ (xs : List R). xs ++ rs) (b ∙ ap (λ (xs : List R). xs ++ ms) a)
    ∙ append_assoc (old ++ ls) ms rs
    ∙ append_assoc old ls (ms ++ rs)
    ∙ ap (λ (xs : List R). old ++ xs) (sym (ap (rows_of f) e ∙ rows_append f fork.left.entries ((fork.key, fork.value) ∷ fork.right.entries)))
