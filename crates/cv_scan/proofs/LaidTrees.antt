-- Trees that are laid one after the other make the root of the image.
use Rattle.std.specs.Prelude.{◌≡◌, ℕ, ◌+◌, ◌<◌, ◌≤◌, List, [], ◌∷◌, ◌++◌, drop, get_or, length, map, Option, None, Result, Ok, Err, if◌then◌else◌, refl}
use Rattle.std.proofs.Common.{ap, sym, ◌∙◌, append_assoc}
use Rattle.std.proofs.lemmas.List.{drop_all, drop_more}
use Rattle.std.specs.Option.{option_or}
use Rattle.cv_base.specs.Path.{Path}
use Rattle.cv_base.specs.declared.tree.Node.{Node}
use Rattle.cv_base.specs.declared.tree.TreeEntry.{TreeEntry}
use Rattle.cv_overlay.specs.Lay.{hides, lay, node_at, plain_at, root_from, root_of}
use Rattle.cv_overlay.specs.Fault.{tree_fault}
use Rattle.cv_overlay.specs.declared.fault.ImageFault.{ImageFault}
use Rattle.cv_scan.specs.Image.{bad_tree_from, or_bad, with_tree}

-- two roots have the same at each path
abbrev pub AreSame : (Path → Option Node) → (Path → Option Node) → Type 0
AreSame one two = (p : Path) → one p ≡ two p

lay_same : (one two : Path → Option Node) (tree : List TreeEntry) → AreSame one two → AreSame (lay one tree) (lay two tree)
lay_same one two tree h p = ap (λ found. option_or (plain_at tree p) (if hides tree p then None else found)) (h p)

pub from_same : (one two : Path → Option Node) (trees : List (List TreeEntry)) → AreSame one two → AreSame (root_from one trees) (root_from two trees)
from_same one two [] h = h
from_same one two (tree ∷ trees) h = from_same (lay one tree) (lay two tree) trees (lay_same one two tree h)

-- one more tree was laid
pub from_more : (old new whole : Path → Option Node) (tree : List TreeEntry) (trees : List (List TreeEntry)) → AreSame new (lay old tree)
    → AreSame (root_from old (tree ∷ trees)) whole → AreSame (root_from new trees) whole
from_more old new whole tree trees h k p = from_same new (lay old tree) trees h p ∙ k p

-- Trees after others.

abbrev pub trees_onto : List (List TreeEntry) → Result (List (List TreeEntry)) ImageFault → Result (List (List TreeEntry)) ImageFault
trees_onto front (Ok trees) = Ok (front ++ trees)
trees_onto front (Err bad) = Err bad

pub onto_more : (front : List (List TreeEntry)) (tree : List TreeEntry) (others : Result (List (List TreeEntry)) ImageFault)
    → trees_onto front (with_tree tree others) ≡ trees_onto (front ++ tree ∷ []) others
onto_more front tree (Ok trees) = ap Ok (sym (append_assoc front (tree ∷ []) trees))
onto_more front tree (Err bad) = refl

pub onto_none : (others : Result (List (List TreeEntry)) ImageFault) → trees_onto [] others ≡ others
onto_none (Ok trees) = refl
onto_none (Err bad) = refl

-- The steps of the loops.

places : {A : Type 0} (f : A → List TreeEntry) (xs : List A) (i : ℕ) (x : A) → i < length xs → x ≡ get_or xs i x → map f (drop i xs) ≡ f x ∷ map f (drop (i + 1) xs)
places f xs i x lt at = ap (map f) (drop_more xs i x lt) ∙ ap (λ y. f y ∷ map f (drop (i + 1) xs)) (sym at)

pub step_laid : {A : Type 0} (f : A → List TreeEntry) (xs : List A) (i : ℕ) (x : A) (old new whole : Path → Option Node) → i < length xs → x ≡ get_or xs i x
    → AreSame new (lay old (f x)) → AreSame (root_from old (map f (drop i xs))) whole → AreSame (root_from new (map f (drop (i + 1) xs))) whole
step_laid f xs i x old new whole lt at h k =
    from_more old new whole (f x) (map f (drop (i + 1) xs)) h (λ p. ap (λ ts. root_from old ts p) (sym (places f xs i x lt at)) ∙ k p)

pub step_good : {A : Type 0} (f : A → List TreeEntry) (xs : List A) (i : ℕ) (x : A) (whole : Option ImageFault) → i < length xs → x ≡ get_or xs i x
    → tree_fault (f x) ≡ None → bad_tree_from i (map f (drop i xs)) ≡ whole → bad_tree_from (i + 1) (map f (drop (i + 1) xs)) ≡ whole
step_good f xs i x whole lt at h k =
    ap (λ bad. or_bad i bad (bad_tree_from (i + 1) (map f (drop (i + 1) xs)))) (sym h) ∙ ap (bad_tree_from i) (sym (places f xs i x lt at)) ∙ k

-- all were laid
pub all_laid : {A : Type 0} (f : A → List TreeEntry) (xs : List A) (i : ℕ) (root : List TreeEntry) → length xs ≤ i
    → AreSame (root_from (node_at root) (map f (drop i xs))) (root_of (map f xs)) → AreSame (node_at root) (root_of (map f xs))
all_laid f xs i root le h p = ap (λ ts. root_from (node_at root) (map f ts) p) (sym (drop_all i xs le)) ∙ h p
