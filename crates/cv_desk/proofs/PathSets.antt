-- A set of the paths of entries, as entries are added.
use Rattle.std.proofs.Common.{◌≡◌, Bool, true, false, ◌||◌, cond, List, [], ◌∷◌, ◌++◌, refl, ◌∙◌, ap, sym}
use Rattle.std.specs.BTreeSet.{BTreeSet, contains}
use Rattle.std.specs.Cmp.Lexicographic.{lists_ties, slice_cmp, texts_ties}
use Rattle.std.specs.Ordering.{is_eq, nat_cmp}
use Rattle.cv_base.specs.Path.{Path, path_cmp, same_path}
use Rattle.cv_base.proofs.Lists.{any_last}
use Rattle.cv_desk.specs.Stored.{Stored}
use Rattle.cv_desk.specs.code.TableSteps.{HasPaths, stands}

-- the second set has the paths of the first, and this one
abbrev pub HasOneMore : BTreeSet Path → BTreeSet Path → Path → Type 0
HasOneMore old new path = (q : Path) → contains path_cmp new q ≡ cond (is_eq (path_cmp path q)) true (contains path_cmp old q)

or_by : (a b : Bool) → cond a true b ≡ b || a
or_by true true = refl
or_by true false = refl
or_by false true = refl
or_by false false = refl

one_more : (old new : BTreeSet Path) (entries : List Stored) (path : Path) → HasPaths old entries → HasOneMore old new path → (q : Path)
    → contains path_cmp new q ≡ cond (same_path path q) true (stands entries q)
one_more old new entries path has more q =
    more q ∙ ap (λ b. cond b true (contains path_cmp old q)) (sym (lists_ties (slice_cmp nat_cmp) texts_ties path q)) ∙ ap (cond (same_path path q) true) (has q)

pub paths_more : (old new : BTreeSet Path) (entries : List Stored) (entry : Stored) → HasPaths old entries → HasOneMore old new entry.path → HasPaths new (entries ++ entry ∷ [])
paths_more old new entries entry has more = λ q.
    one_more old new entries entry.path has more q ∙ or_by (same_path entry.path q) (stands entries q) ∙ sym (any_last (λ e. same_path e.path q) entries entry)
