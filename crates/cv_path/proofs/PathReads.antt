-- Reading paths: what is known of a text that reads as a path, and of a path.
use Rattle.std.proofs.Common.{◌≡◌, ℕ, ◌≤◌, ◌+◌, Bool, true, false, ◌||◌, not, cond, ◌==◌, nat_lt, List, [], ◌∷◌, ◌++◌, length, Ok, Err, refl, sym, ◌∙◌, ap, subst, arith}
use Rattle.std.specs.List.{count_by, list_all, list_any, slice_split, onto_first}
use Rattle.std.proofs.lemmas.List.Splits.{length-slice_split}
use Rattle.std.proofs.lemmas.Bool.Decides.{nat_tests}
use Rattle.std.proofs.lemmas.Bool.{not-true}
use Rattle.cv_path.specs.declared.limits.TheConstants.{MAX_PATH_LEN}
use Rattle.cv_path.specs.declared.path.PathError.TheVariants.{TooLong, BadComponent}
use Rattle.cv_path.specs.Path.{Path, IsPath, components, is_component, is_name, is_slash, path_of, path_text}
use Rattle.cv_path.specs.Texts.{is_cons}
use Rattle.cv_path.specs.code.PathText.{HasNoNul}
use Rattle.cv_path.proofs.Bools.{and_left, and_right}
use Rattle.cv_path.proofs.PathLemmas.{components_no_nul, join_components}

-- A text that reads as a path.

at_most_from : (n : ℕ) → nat_lt MAX_PATH_LEN n ≡ false → n ≤ MAX_PATH_LEN
at_most_from n h = grind (arith, nat_tests)

pub not_long : (n : ℕ) → n ≤ MAX_PATH_LEN → nat_lt MAX_PATH_LEN n ≡ false
not_long n h = grind (arith, nat_tests)

-- what is known of a text t that reads as the path s
pub record Reads (t : List ℕ) (s : Path) : Type 0 where
  pub parts : components t ≡ s
  pub all : list_all is_component (components t) ≡ true
  pub short : length t ≤ MAX_PATH_LEN
  pub some : is_cons t ≡ true

by_tests : (b : ℕ) (bs : List ℕ) (s : Path) (long all : Bool) → nat_lt MAX_PATH_LEN (length (b ∷ bs)) ≡ long
    → list_all is_component (components (b ∷ bs)) ≡ all
    → cond long (Err TooLong) (cond all (Ok (components (b ∷ bs))) (Err BadComponent)) ≡ Ok s → Reads (b ∷ bs) s
by_tests b bs s true all e f h = cc
by_tests b bs s false false e f h = cc
by_tests b bs s false true e f h = record { parts = cc; all = f; short = at_most_from (length (b ∷ bs)) e; some = refl }

pub reads : (t : List ℕ) (s : Path) → path_of t ≡ Ok s → Reads t s
reads [] s h = cc
reads (b ∷ bs) s h = by_tests b bs s (nat_lt MAX_PATH_LEN (length (b ∷ bs))) (list_all is_component (components (b ∷ bs))) refl refl h

-- and the other way round
pub read_from : (t : List ℕ) → is_cons t ≡ true → list_all is_component (components t) ≡ true → length t ≤ MAX_PATH_LEN
    → path_of t ≡ Ok (components t)
read_from [] e f h = cc
read_from (b ∷ bs) e f h = rw (not_long (length (b ∷ bs)) h, f) refl

-- A path.

path_from : (p : Path) → path_of (path_text p) ≡ Ok p → IsPath p
path_from [] h = tt
path_from (c ∷ cs) h = h

pub reads_back : (p : Path) → IsPath p → is_cons p ≡ true → path_of (path_text p) ≡ Ok p
reads_back [] h e = cc
reads_back (c ∷ cs) h e = h

pub spelled : (t : List ℕ) (p : Path) → path_of t ≡ Ok p → path_text p ≡ t
spelled t p h = ap path_text (sym (reads t p h).parts) ∙ join_components t

pub read : (t : List ℕ) (p : Path) → path_of t ≡ Ok p → IsPath p
read t p h = path_from p (ap path_of (spelled t p h) ∙ h)

pub at_most : (p : Path) → IsPath p → length (path_text p) ≤ MAX_PATH_LEN
at_most [] h = omega arith
at_most (c ∷ cs) h = (reads (path_text (c ∷ cs)) (c ∷ cs) h).short

-- Components.

abbrev pub no_slash : List ℕ → Bool
no_slash t = not (list_any is_slash t)

none_more : (a b : Bool) → a ≡ false → not b ≡ true → not (a || b) ≡ true
none_more a b e h = rw e h

onto_no_slash : (x : ℕ) (s : Path) → is_slash x ≡ false → list_all no_slash s ≡ true → list_all no_slash (onto_first x s) ≡ true
onto_no_slash x [] e h = rw e refl
onto_no_slash x (c ∷ cs) e h =
    let first = none_more (is_slash x) (list_any is_slash c) e (and_left (no_slash c) (list_all no_slash cs) h) in
    let others = and_right (no_slash c) (list_all no_slash cs) h in
    simp (first, others)

-- the parts between slashes have none
pub split_no_slash : (t : List ℕ) → list_all no_slash (slice_split is_slash t) ≡ true
split_no_slash [] = refl
split_no_slash (x ∷ xs) = by (is_slash x) refl (split_no_slash xs) where
  by : (b : Bool) → is_slash x ≡ b → list_all no_slash (slice_split is_slash xs) ≡ true → list_all no_slash (cond b ([] ∷ slice_split is_slash xs) (onto_first x (slice_split is_slash xs))) ≡ true
  by true e h = h
  by false e h = onto_no_slash x (slice_split is_slash xs) e h

components_no_slash : (t : List ℕ) → list_all no_slash (components t) ≡ true
components_no_slash [] = refl
components_no_slash (x ∷ xs) = split_no_slash (x ∷ xs)

all_names : (p : Path) → list_all is_component p ≡ true → list_all no_slash p ≡ true → list_all is_name p ≡ true
all_names [] h k = refl
all_names (c ∷ cs) h k =
    let one = and_left (is_component c) (list_all is_component cs) h in
    let two = and_left (no_slash c) (list_all no_slash cs) k in
    let others = all_names cs (and_right (is_component c) (list_all is_component cs) h) (and_right (no_slash c) (list_all no_slash cs) k) in
    simp (one, two, others)

pub names : (p : Path) → IsPath p → list_all is_name p ≡ true
names [] h = refl
names (c ∷ cs) h =
    let known = reads (path_text (c ∷ cs)) (c ∷ cs) h in
    all_names (c ∷ cs) (ap (list_all is_component) (sym known.parts) ∙ known.all) (ap (list_all no_slash) (sym known.parts) ∙ components_no_slash (path_text (c ∷ cs)))

-- the two tests of a name
pub name_component : (c : List ℕ) → is_name c ≡ true → is_component c ≡ true
name_component c h = and_left (is_component c) (no_slash c) h

pub name_no_slash : (c : List ℕ) → is_name c ≡ true → list_any is_slash c ≡ false
name_no_slash c h = not-true (list_any is_slash c) (and_right (is_component c) (no_slash c) h)

pub name_some : (c : List ℕ) → is_name c ≡ true → is_cons c ≡ true
name_some [] h = cc
name_some (x ∷ xs) h = refl

-- A list of names is a path if its text is short.

-- the parts of a text without a slash, and of one that has a slash after such a part
pub split_none : (c : List ℕ) → list_any is_slash c ≡ false → slice_split is_slash c ≡ c ∷ []
split_none [] h = refl
split_none (x ∷ xs) h = by (is_slash x) refl h (λ k. split_none xs k) where
  by : (b : Bool) → is_slash x ≡ b → (b || list_any is_slash xs) ≡ false → (list_any is_slash xs ≡ false → slice_split is_slash xs ≡ xs ∷ []) → slice_split is_slash (x ∷ xs) ≡ (x ∷ xs) ∷ []
  by true e k rest = cc
  by false e k rest = rw (e, rest k) refl

split_at : (c t : List ℕ) → list_any is_slash c ≡ false → slice_split is_slash (c ++ 47 ∷ t) ≡ c ∷ slice_split is_slash t
split_at [] t h = refl
split_at (x ∷ xs) t h = by (is_slash x) refl h (λ k. split_at xs t k) where
  by : (b : Bool) → is_slash x ≡ b → (b || list_any is_slash xs) ≡ false
      → (list_any is_slash xs ≡ false → slice_split is_slash (xs ++ 47 ∷ t) ≡ xs ∷ slice_split is_slash t) → slice_split is_slash (x ∷ (xs ++ 47 ∷ t)) ≡ (x ∷ xs) ∷ slice_split is_slash t
  by true e k rest = cc
  by false e k rest = rw (e, rest k) refl

split_text : (c : List ℕ) (cs : Path) → list_all is_name (c ∷ cs) ≡ true → slice_split is_slash (path_text (c ∷ cs)) ≡ c ∷ cs
split_text c [] h = split_none c (name_no_slash c (and_left (is_name c) true h))
split_text c (d ∷ ds) h =
    split_at c (path_text (d ∷ ds)) (name_no_slash c (and_left (is_name c) (list_all is_name (d ∷ ds)) h))
    ∙ ap (λ s. c ∷ s) (split_text d ds (and_right (is_name c) (list_all is_name (d ∷ ds)) h))

text_cons : (c : List ℕ) (cs : Path) → is_cons c ≡ true → is_cons (path_text (c ∷ cs)) ≡ true
text_cons [] cs h = cc
text_cons (x ∷ xs) [] h = refl
text_cons (x ∷ xs) (d ∷ ds) h = refl

pub components_split : (t : List ℕ) → is_cons t ≡ true → components t ≡ slice_split is_slash t
components_split [] h = cc
components_split (x ∷ xs) h = refl

all_components : (p : Path) → list_all is_name p ≡ true → list_all is_component p ≡ true
all_components [] h = refl
all_components (c ∷ cs) h =
    let one = name_component c (and_left (is_name c) (list_all is_name cs) h) in
    let others = all_components cs (and_right (is_name c) (list_all is_name cs) h) in
    simp (one, others)

pub enough : (p : Path) → list_all is_name p ≡ true → length (path_text p) ≤ MAX_PATH_LEN → IsPath p
enough [] h k = tt
enough (c ∷ cs) h k =
    let some = text_cons c cs (name_some c (and_left (is_name c) (list_all is_name cs) h)) in
    let parts = components_split (path_text (c ∷ cs)) some ∙ split_text c cs h in
    read_from (path_text (c ∷ cs)) some (ap (list_all is_component) parts ∙ all_components (c ∷ cs) h) k ∙ ap Ok parts

-- Texts of paths.

-- the text of a path has no NUL
pub path_no_nul : (t : List ℕ) → IsPath (components t) → HasNoNul t
path_no_nul [] h = tt
path_no_nul (x ∷ xs) h = components_no_nul (x ∷ xs) (all_components (components (x ∷ xs)) (names (components (x ∷ xs)) h))

-- and few bytes
pub path_short : (t : List ℕ) → IsPath (components t) → length t ≤ MAX_PATH_LEN
path_short t h = subst (λ u. length u ≤ MAX_PATH_LEN) (join_components t) (at_most (components t) h)

-- a text with the components of a path reads as it
pub path_read : (t : List ℕ) → path_of t ≡ Ok (components t) → IsPath (components t)
path_read t h = read t (components t) h

-- the number of components is one more than that of the slashes
pub count_parts : (t : List ℕ) → (length t == 0) ≡ false → count_by is_slash t + 1 ≡ length (components t)
count_parts [] h = cc
count_parts (x ∷ xs) h = sym (length-slice_split is_slash (x ∷ xs))
