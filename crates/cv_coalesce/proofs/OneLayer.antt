-- What a layer makes of the package file at a place: its own file there, or nothing where it hides the place, or else what
-- stood there before.
use Rattle.std.specs.Prelude.{◌≡◌, Bool, true, false, ◌&&◌, ◌||◌, not, if◌then◌else◌, filter, List, [], ◌∷◌, ◌++◌, map, Option, Some, None, refl}
use Rattle.std.specs.List.{AllByRecursion, cons_option, list_any}
use Rattle.std.specs.Option.{is_some, option_or}
use Rattle.std.specs.declared.cmp.Ordering.TheVariants.{Less, Equal}
use Rattle.std.proofs.Common.{ap, sym, ◌∙◌, subst}
use Rattle.std.proofs.lemmas.Cmp.{tied_itself}
use Rattle.std.proofs.lemmas.List.Folds.{list_any-append}
use Rattle.std.proofs.Math.Bool.{or-false}
use Rattle.cv_base.specs.Path.{Path, is_above, parent_of, path_cmp, same_path}
use Rattle.cv_base.specs.declared.tree.Node.{Node}
use Rattle.cv_base.specs.declared.tree.Node.TheVariants as node
use Rattle.cv_base.specs.declared.tree.TreeEntry.{TreeEntry}
use Rattle.cv_base.proofs.Same.{path_is, path_total}
use Rattle.cv_facts.specs.Cover.{cover_by, covers, is_opaque, is_place, is_whiteout, mark_in, opaque_dirs, place_dir_by, place_dirs, targets}
use Rattle.cv_overlay.specs.Ascending.{AreAscending}
use Rattle.cv_overlay.specs.Lay.{hides, hides_by, is_plain, lay, node_at, plain_at}
use Rattle.cv_overlay.specs.Mark.{Outline, at_or_above, is_dir_node, mark, mark_of, outline, target_of}
use Rattle.cv_overlay.specs.declared.mark.Mark.{Mark}
use Rattle.cv_overlay.specs.declared.mark.Mark.TheVariants.{Reserved, Opaque, Whiteout, Bad, Plain}
use Rattle.cv_overlay.proofs.MergeLemmas.{ComesAfter}
use Rattle.cv_facts.proofs.HidesLemmas.{found_cons, kept_cons}
use Rattle.cv_coalesce.specs.Hides.{hides_at}
use Rattle.cv_coalesce.specs.code.Trees.{is_file, layer_files, tree_hides}

-- the node, if it is a file
abbrev pub file_node : Option Node → Option Node
file_node None = None
file_node (Some node.Dir) = None
file_node (Some (node.File content)) = Some (node.File content)
file_node (Some node.Other) = None

-- Some path of a list passes a test.

-- one of the first paths, or of those after them
any_split : (test : Path → Bool) (whole first rest : List Path) → whole ≡ first ++ rest → list_any test whole ≡ (list_any test first || list_any test rest)
any_split test whole first rest h = ap (list_any test) h ∙ list_any-append test first rest

-- what one entry hides, list by list
abbrev one_hides : TreeEntry → Path → Bool
one_hides e p = tree_hides (e ∷ []) p

shuffled : (a b c d a2 b2 c2 d2 : Bool) → ((a || a2) || ((b || b2) || ((c || c2) || (d || d2)))) ≡ ((a || (b || (c || d))) || (a2 || (b2 || (c2 || d2))))
shuffled true b c d a2 b2 c2 d2 = refl
shuffled false b c d true b2 c2 d2 = by_rest (b || (c || d)) where
  by_rest : (x : Bool) → true ≡ (x || true)
  by_rest true = refl
  by_rest false = refl
shuffled false true c d false b2 c2 d2 = refl
shuffled false false c d false true c2 d2 = by_rest (c || d) where
  by_rest : (x : Bool) → true ≡ (x || true)
  by_rest true = refl
  by_rest false = refl
shuffled false false true d false false c2 d2 = refl
shuffled false false false d false false true d2 = by_rest d where
  by_rest : (x : Bool) → true ≡ (x || true)
  by_rest true = refl
  by_rest false = refl
shuffled false false false d false false false d2 = refl

hides_more : (e : TreeEntry) (es : List TreeEntry) (p : Path) → tree_hides (e ∷ es) p ≡ (one_hides e p || tree_hides es p)
hides_more e es p =
    let one = outline e in
    let rest = map outline es in
    let t = any_split (λ q. at_or_above q p) (targets (one ∷ rest)) (targets (one ∷ [])) (targets rest)
    (kept_cons (λ (o : Outline). target_of o.path) (λ (o : Outline). is_whiteout (mark_in o)) one rest) in
    let o = any_split (λ q. is_above q p) (opaque_dirs (one ∷ rest)) (opaque_dirs (one ∷ [])) (opaque_dirs rest)
    (kept_cons (λ (o : Outline). parent_of o.path) (λ (o : Outline). is_opaque (mark_in o)) one rest) in
    let c = any_split (λ q. at_or_above q p) (covers (one ∷ rest)) (covers (one ∷ [])) (covers rest)
    (found_cons (λ (o : Outline). cover_by (mark_of o.path o.is_dir) o.is_dir o.path) one rest) in
    let d = any_split (λ q. same_path q p) (place_dirs (one ∷ rest)) (place_dirs (one ∷ [])) (place_dirs rest)
    (found_cons (λ (o : Outline). place_dir_by (mark_of o.path o.is_dir) o.is_dir o.path) one rest) in
    (λ i. t i || (o i || (c i || d i)))
    ∙ shuffled (list_any (λ q. at_or_above q p) (targets (one ∷ []))) (list_any (λ q. is_above q p) (opaque_dirs (one ∷ [])))
    (list_any (λ q. at_or_above q p) (covers (one ∷ []))) (list_any (λ q. same_path q p) (place_dirs (one ∷ [])))
    (list_any (λ q. at_or_above q p) (targets rest)) (list_any (λ q. is_above q p) (opaque_dirs rest))
    (list_any (λ q. at_or_above q p) (covers rest)) (list_any (λ q. same_path q p) (place_dirs rest))

-- What one entry hides at a place: what its layer hides by it, and its own path if it is plain.

away : (s : Bool) → (s ≡ true → false ≡ true) → false ≡ s
away true h = h refl
away false h = refl

file_there : (s a : Bool) → (((s || a) || false) || false) ≡ (a || s)
file_there true true = refl
file_there true false = refl
file_there false true = refl
file_there false false = refl

less_equal : Less ≡ Equal → ⊥
less_equal e = cc

-- no entry comes after its own path
after_itself : (p : Path) (e : TreeEntry) → ComesAfter p e → same_path e.path p ≡ true → ⊥
after_itself p e h s = less_equal (sym h ∙ ap (path_cmp p) (path_is e.path p s) ∙ tied_itself path_total p)

abbrev outline_at : Path → Node → Outline
outline_at q n = record { path = q; is_dir = is_dir_node n }

one_is : (m : Mark) (n : Node) (q p : Path) (g : Bool) → (same_path q p ≡ true → g ≡ true)
    → hides_at (map (λ (o : Outline). target_of o.path) (if is_whiteout m then outline_at q n ∷ [] else []))
    (map (λ (o : Outline). parent_of o.path) (if is_opaque m then outline_at q n ∷ [] else []))
    (cons_option (if is_plain m && not (is_dir_node n) then Some q else None) [])
    (cons_option (if is_plain m && (is_dir_node n && g) then Some q else None) []) p
    ≡ (hides_by m (record { path = q; node = n }) p || (is_plain m && same_path q p))
one_is Reserved n q p g h = refl
one_is Opaque n q p g h = by_test (is_above (parent_of q) p) where
  by_test : (b : Bool) → ((b || false) || false) ≡ (b || false)
  by_test true = refl
  by_test false = refl
one_is Whiteout n q p g h = by_test (at_or_above (target_of q) p) where
  by_test : (b : Bool) → ((b || false) || false) ≡ (b || false)
  by_test true = refl
  by_test false = refl
one_is Bad n q p g h = refl
one_is Plain n q p g h = by_dir (is_dir_node n) g h where
  by_dir : (dir g : Bool) → (same_path q p ≡ true → g ≡ true)
      → (list_any (λ c. at_or_above c p) (cons_option (if not dir then Some q else None) [])
      || list_any (λ d. same_path d p) (cons_option (if dir && g then Some q else None) []))
      ≡ ((not dir && is_above q p) || same_path q p)
  by_dir true true h = or-false (same_path q p)
  by_dir true false h = away (same_path q p) h
  by_dir false g h = file_there (same_path q p) (is_above q p)

-- a tree hides a place by its reduction exactly where one of its entries hides it, or is plain and stands there
pub hides_is : (tree : List TreeEntry) (p : Path) → is_place p ≡ true → tree_hides tree p ≡ (hides tree p || is_some (plain_at tree p))
hides_is [] p h = refl
hides_is (e ∷ es) p h =
    hides_more e es p
    ∙ ap (λ (b : Bool). b || tree_hides es p) (one_is (mark e) e.node e.path p (is_place e.path) (λ s. ap is_place (path_is e.path p s) ∙ h))
    ∙ ap (λ (b : Bool). (hides_by (mark e) e p || (is_plain (mark e) && same_path e.path p)) || b) (hides_is es p h)
    ∙ by_tests (hides_by (mark e) e p) (is_plain (mark e) && same_path e.path p) (hides es p) (plain_at es p) where
      by_tests : (one here rest : Bool) (found : Option Node)
          → ((one || here) || (rest || is_some found)) ≡ ((one || rest) || is_some (if here then Some e.node else found))
      by_tests true here rest found = refl
      by_tests false true true found = refl
      by_tests false true false found = refl
      by_tests false false rest found = refl

-- The files of a layer.

-- no plain entry stands at a path among entries that come after it
plain_nothing : (p : Path) (es : List TreeEntry) → AllByRecursion (ComesAfter p) es → plain_at es p ≡ None
plain_nothing p [] h = refl
plain_nothing p (e ∷ es) h = by_tests (is_plain (mark e)) (same_path e.path p) refl (plain_nothing p es h.1) where
  by_tests : (m s : Bool) → same_path e.path p ≡ s → plain_at es p ≡ None → (if m && s then Some e.node else plain_at es p) ≡ None
  by_tests true true f rest = absurd (after_itself p e h.0 f)
  by_tests true false f rest = rest
  by_tests false s f rest = rest

-- the file of a layer at a place is its plain entry there, if that is a file
pub layer_file : (tree : List TreeEntry) (p : Path) → AreAscending tree → is_place p ≡ true → node_at (layer_files tree) p ≡ file_node (plain_at tree p)
layer_file [] p k h = refl
layer_file (e ∷ es) p k h =
    by_tests (is_plain (mark e)) (is_place e.path) (same_path e.path p) e.node refl
    (λ s. ap is_place (path_is e.path p s) ∙ h)
    (λ s. plain_nothing p es (subst (λ q. AllByRecursion (ComesAfter q) es) (path_is e.path p s) k.0))
    (layer_file es p k.1 h) where
      by_tests : (m g s : Bool) (n : Node) → same_path e.path p ≡ s → (s ≡ true → g ≡ true) → (s ≡ true → plain_at es p ≡ None)
          → node_at (layer_files es) p ≡ file_node (plain_at es p)
          → node_at (if m && (g && is_file n) then record { path = e.path; node = n } ∷ layer_files es else layer_files es) p
          ≡ file_node (if m && s then Some n else plain_at es p)
      by_tests false g s n f place none rest = rest
      by_tests true true true (node.File content) f place none rest =
          ap (λ (b : Bool). if b then Some (node.File content) else node_at (layer_files es) p) f
      by_tests true true true node.Dir f place none rest = rest ∙ ap file_node (none refl)
      by_tests true true true node.Other f place none rest = rest ∙ ap file_node (none refl)
      by_tests true false true n f place none rest = cc (place refl)
      by_tests true true false (node.File content) f place none rest =
          ap (λ (b : Bool). if b then Some (node.File content) else node_at (layer_files es) p) f ∙ rest
      by_tests true true false node.Dir f place none rest = rest
      by_tests true true false node.Other f place none rest = rest
      by_tests true false false n f place none rest = rest

-- and there is none away from the places
pub layer_away : (tree : List TreeEntry) (p : Path) → is_place p ≡ false → node_at (layer_files tree) p ≡ None
layer_away [] p h = refl
layer_away (e ∷ es) p h = by_tests (is_plain (mark e)) (is_place e.path) (is_file e.node) (same_path e.path p) refl refl (layer_away es p h) where
  by_tests : (m g d s : Bool) → is_place e.path ≡ g → same_path e.path p ≡ s → node_at (layer_files es) p ≡ None
      → node_at (if m && (g && d) then e ∷ layer_files es else layer_files es) p ≡ None
  by_tests false g d s f k rest = rest
  by_tests true false d s f k rest = rest
  by_tests true true false s f k rest = rest
  by_tests true true true true f k rest = cc (sym f ∙ ap is_place (path_is e.path p k) ∙ h)
  by_tests true true true false f k rest = ap (λ (b : Bool). if b then Some e.node else node_at (layer_files es) p) k ∙ rest

-- One layer on a root.

laid_by : (found : Option Node) (hidden : Bool) (below : Option Node)
    → file_node (option_or found (if hidden then None else below)) ≡ option_or (file_node found) (if hidden || is_some found then None else file_node below)
laid_by None true below = refl
laid_by None false below = refl
laid_by (Some node.Dir) true below = refl
laid_by (Some node.Dir) false below = refl
laid_by (Some (node.File content)) hidden below = refl
laid_by (Some node.Other) true below = refl
laid_by (Some node.Other) false below = refl

pub one_layer : (root : Path → Option Node) (tree : List TreeEntry) (p : Path) → AreAscending tree → is_place p ≡ true
    → file_node (lay root tree p) ≡ option_or (node_at (layer_files tree) p) (if tree_hides tree p then None else file_node (root p))
one_layer root tree p k h =
    laid_by (plain_at tree p) (hides tree p) (root p)
    ∙ ap (λ (b : Bool). option_or (file_node (plain_at tree p)) (if b then None else file_node (root p))) (sym (hides_is tree p h))
    ∙ ap (λ (found : Option Node). option_or found (if tree_hides tree p then None else file_node (root p))) (sym (layer_file tree p k h))
