-- Paths by their texts: the last component, and what lies within a directory.
use Rattle.std.specs.Prelude.{◌≡◌, ℕ, Bool, true, false, ◌&&◌, ◌||◌, cond, List, [], ◌∷◌, ◌++◌, refl}
use Rattle.std.specs.List.{list_any, onto_first, slice_split, join_with_byte}
use Rattle.std.proofs.Common.{ap, sym, ◌∙◌}
use Rattle.std.proofs.lemmas.List.Splits.{join_with_byte-slice_split}
use Rattle.cv_base.specs.Path.{Path, components, is_above, is_slash, same_path, parent_of}
use Rattle.cv_base.specs.code.PathText.{goes_on}
use Rattle.cv_base.specs.Texts.{same, is_cons}
use Rattle.cv_base.proofs.PathLemmas.{above_components, none_above, split_cons}
use Rattle.cv_overlay.specs.Fault.{needs_parent}
use Rattle.cv_overlay.specs.Mark.{name_of, is_reserved_name, mark_of}
use Rattle.cv_overlay.specs.code.Text.{is_within, mark_by}
use Rattle.cv_base.proofs.Bools.{both_ways}
use Rattle.cv_base.proofs.Same.{same_is, same_self, path_is, path_self}
use Rattle.cv_base.proofs.PathReads.{split_none}
use Rattle.cv_base.proofs.PathEnds.{split_last, parent_last}
use Rattle.cv_overlay.proofs.PathLemmas.{needs_parent_last, name_of_last, mark_by_name}

-- Cuts.

-- the components of a text that is cut at its last slash
pub components_last : (a b : List ℕ) → list_any is_slash b ≡ false → components (a ++ 47 ∷ b) ≡ slice_split is_slash a ++ b ∷ []
components_last [] b h = split_last [] b h
components_last (x ∷ xs) b h = split_last (x ∷ xs) b h

pub parent_needed : (a b : List ℕ) → list_any is_slash b ≡ false → needs_parent (components (a ++ 47 ∷ b)) ≡ true
parent_needed a b h = rw (components_last a b h) (needs_parent_last (slice_split is_slash a) b ∙ split_cons a)

-- Being within a directory.

-- two texts are one where their parts are
same_split : (a b : List ℕ) → same_path (slice_split is_slash b) (slice_split is_slash a) ≡ same b a
same_split a b = both_ways (same_path (slice_split is_slash b) (slice_split is_slash a)) (same b a) forth back where
  forth : same_path (slice_split is_slash b) (slice_split is_slash a) ≡ true → same b a ≡ true
  forth h =
      let parts = path_is (slice_split is_slash b) (slice_split is_slash a) h in
      let joined : b ≡ a = sym (join_with_byte-slice_split 47 b) ∙ ap (join_with_byte 47) parts ∙ join_with_byte-slice_split 47 a in
      rw joined (same_self a)

  back : same b a ≡ true → same_path (slice_split is_slash b) (slice_split is_slash a) ≡ true
  back h = rw (same_is b a h) (path_self (slice_split is_slash a))

above_at_end : (y : ℕ) (s : Path) (c : Bool) → is_cons s ≡ true → is_above ([] ∷ []) (cond c ([] ∷ s) (onto_first y s)) ≡ c
above_at_end y [] true h = cc
above_at_end y (d ∷ ds) true h = refl
above_at_end y [] false h = refl
above_at_end y (d ∷ ds) false h = refl

pub above_split : (a b : List ℕ) → is_cons b ≡ true → is_above (slice_split is_slash a) (components b) ≡ goes_on a b
above_split a [] h = cc
above_split [] (y ∷ ys) h = above_at_end y (slice_split is_slash ys) (is_slash y) (split_cons ys)
above_split (x ∷ xs) (y ∷ ys) h = sym (above_components (x ∷ xs) (y ∷ ys))

-- a path of some text is a directory's own, or lies within it
pub within_is : (a b : List ℕ) (dir : Bool) → is_cons b ≡ true
    → is_within a b dir ≡ (is_above (slice_split is_slash a) (components b) || (dir && same_path (components b) (slice_split is_slash a)))
within_is a [] dir h = cc
within_is a (y ∷ ys) dir h =
    ap (λ b. b || (dir && same (y ∷ ys) a)) (sym (above_split a (y ∷ ys) h))
    ∙ ap (λ b. is_above (slice_split is_slash a) (components (y ∷ ys)) || (dir && b)) (sym (same_split a (y ∷ ys)))

-- what the code finds: a path of no text lies within no directory, and is none
pub stands_in : (a n b : List ℕ) (dir : Bool) → list_any is_slash n ≡ false → is_cons b ≡ true
    → is_within a b dir ≡ (is_above (parent_of (components (a ++ 47 ∷ n))) (components b) || (dir && same_path (components b) (parent_of (components (a ++ 47 ∷ n)))))
stands_in a n b dir h k = rw (components_last a n h, parent_last (slice_split is_slash a) n) (within_is a b dir k)

none_same : (p : Path) → is_cons p ≡ true → same_path [] p ≡ false
none_same [] h = cc
none_same (x ∷ xs) h = refl

none_by : (dir : Bool) → false ≡ (false || (dir && false))
none_by true = refl
none_by false = refl

pub stands_in_none : (a n b : List ℕ) (dir : Bool) → list_any is_slash n ≡ false → is_cons b ≡ false
    → false ≡ (is_above (parent_of (components (a ++ 47 ∷ n))) (components b) || (dir && same_path (components b) (parent_of (components (a ++ 47 ∷ n)))))
stands_in_none a n [] dir h k = rw (components_last a n h, parent_last (slice_split is_slash a) n, none_above (slice_split is_slash a), none_same (slice_split is_slash a) (split_cons a)) (none_by dir)
stands_in_none a n (y ∷ ys) dir h k = cc

-- Marks.

-- the mark of a path of one component, by its text
pub mark_of_name : (t : List ℕ) (dir : Bool) → list_any is_slash t ≡ false → mark_of (components t) dir ≡ mark_by false t dir
mark_of_name [] dir h = mark_by_name [] dir
mark_of_name (x ∷ xs) dir h = rw (split_none (x ∷ xs) h) (mark_by_name ((x ∷ xs) ∷ []) dir)

-- the mark of a path of more components, by the last one and what stands before it
pub mark_of_last : (a n : List ℕ) (dir : Bool) → list_any is_slash n ≡ false
    → mark_of (components (a ++ 47 ∷ n)) dir ≡ mark_by (list_any is_reserved_name (slice_split is_slash a)) n dir
mark_of_last a n dir h =
    let p = slice_split is_slash a ++ n ∷ [] in
    ap (λ q. mark_of q dir) (components_last a n h)
    ∙ mark_by_name p dir
    ∙ ap (λ q. mark_by (list_any is_reserved_name q) (name_of p) dir) (parent_last (slice_split is_slash a) n)
    ∙ ap (λ c. mark_by (list_any is_reserved_name (slice_split is_slash a)) c dir) (name_of_last (slice_split is_slash a) n)
