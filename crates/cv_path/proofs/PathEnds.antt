-- The last component of a path, and what stands before it.
use Rattle.std.proofs.Common.{◌≡◌, ℕ, ◌≤◌, ◌<◌, nat_lt, Ok, Err, Bool, true, false, cond, List, [], ◌∷◌, ◌++◌, length, Some, refl, sym, ◌∙◌, ap, subst, arith}
use Rattle.std.specs.List.{list_all, list_any, slice_split, onto_first}
use Rattle.std.proofs.lemmas.Bool.Decides.{nat_tests}
use Rattle.cv_path.specs.declared.limits.TheConstants.{MAX_PATH_LEN}
use Rattle.cv_path.specs.declared.path.PathError.TheVariants.{TooLong}
use Rattle.cv_path.specs.Path.{Path, IsPath, beside, components, file_name_of, is_name, is_slash, parent_of, path_text}
use Rattle.cv_path.specs.Texts.{filled, is_cons}
use Rattle.cv_path.specs.code.PathText.{joined}
use Rattle.cv_path.proofs.Bools.{and_left, and_right}
use Rattle.cv_path.proofs.PathLemmas.{join_components, split_cons}
use Rattle.cv_path.proofs.PathReads.{at_most, components_split, enough, name_no_slash, name_some, names, not_long, split_none}

-- Lists of components.

pub parent_last : (p : Path) (c : List ℕ) → parent_of (p ++ c ∷ []) ≡ p
parent_last [] c = refl
parent_last (x ∷ []) c = refl
parent_last (x ∷ y ∷ ys) c = ap (λ q. x ∷ q) (parent_last (y ∷ ys) c)

pub name_last : (p : Path) (c : List ℕ) → file_name_of (p ++ c ∷ []) ≡ Some c
name_last [] c = refl
name_last (x ∷ []) c = refl
name_last (x ∷ y ∷ ys) c = name_last (y ∷ ys) c

parent_names : (p : Path) → list_all is_name p ≡ true → list_all is_name (parent_of p) ≡ true
parent_names [] h = refl
parent_names (c ∷ []) h = refl
parent_names (c ∷ d ∷ ds) h =
    let one = and_left (is_name c) (list_all is_name (d ∷ ds)) h in
    let others = parent_names (d ∷ ds) (and_right (is_name c) (list_all is_name (d ∷ ds)) h) in
    simp (one, others)

-- The text of the directory.

-- a part more
onto_more : (x : ℕ) (s : Path) (n : List ℕ) → is_cons s ≡ true → onto_first x (s ++ n ∷ []) ≡ onto_first x s ++ n ∷ []
onto_more x [] n h = cc
onto_more x (c ∷ cs) n h = refl

-- a text that is cut at its last slash
pub split_last : (d n : List ℕ) → list_any is_slash n ≡ false → slice_split is_slash (d ++ 47 ∷ n) ≡ slice_split is_slash d ++ n ∷ []
split_last [] n h = ap (λ s. [] ∷ s) (split_none n h)
split_last (x ∷ xs) n h = by (is_slash x) (split_last xs n h) where
  by : (b : Bool) → slice_split is_slash (xs ++ 47 ∷ n) ≡ slice_split is_slash xs ++ n ∷ []
      → cond b ([] ∷ slice_split is_slash (xs ++ 47 ∷ n)) (onto_first x (slice_split is_slash (xs ++ 47 ∷ n))) ≡ cond b ([] ∷ slice_split is_slash xs) (onto_first x (slice_split is_slash xs)) ++ n ∷ []
  by true e = ap (λ s. [] ∷ s) e
  by false e = ap (onto_first x) e ∙ onto_more x (slice_split is_slash xs) n (split_cons xs)

-- a path does not begin with a slash
slash_first : (n : List ℕ) → IsPath ([] ∷ n ∷ []) → ⊥
slash_first n h = no (names ([] ∷ n ∷ []) h) where
  no : (list_all is_name ([] ∷ n ∷ []) ≡ true) → ⊥
  no e = cc

pub cut_path : (t d n : List ℕ) → IsPath (components t) → t ≡ d ++ 47 ∷ n → list_any is_slash n ≡ false → components t ≡ components d ++ n ∷ []
cut_path t [] n h e none =
    let parts : components t ≡ [] ∷ n ∷ [] = ap components e ∙ ap (λ s. [] ∷ s) (split_none n none) in
    absurd (slash_first n (subst IsPath parts h))
cut_path t (x ∷ xs) n h e none = ap components e ∙ split_last (x ∷ xs) n none

-- what the text of a path is before its last slash, and after it
pub parent_cut : (t d n : List ℕ) (p : Path) → components t ≡ p → IsPath p → t ≡ d ++ 47 ∷ n → list_any is_slash n ≡ false → components d ≡ parent_of p
parent_cut t d n p parts h e none = sym (ap parent_of (sym parts ∙ cut_path t d n (subst IsPath (sym parts) h) e none) ∙ parent_last (components d) n)

pub name_cut : (t d n : List ℕ) (p : Path) → components t ≡ p → IsPath p → t ≡ d ++ 47 ∷ n → list_any is_slash n ≡ false → Some n ≡ file_name_of p
name_cut t d n p parts h e none = sym (ap file_name_of (sym parts ∙ cut_path t d n (subst IsPath (sym parts) h) e none) ∙ name_last (components d) n)

-- the text of the directory
pub parent_text : (d : List ℕ) (p : Path) → components d ≡ parent_of p → d ≡ path_text (parent_of p)
parent_text d p e = sym (join_components d) ∙ ap path_text e

-- a text without a slash is of one component at most
pub parent_whole : (t : List ℕ) → list_any is_slash t ≡ false → [] ≡ parent_of (components t)
parent_whole [] h = refl
parent_whole (x ∷ xs) h = sym (ap parent_of (split_none (x ∷ xs) h))

pub name_whole : (t : List ℕ) → list_any is_slash t ≡ false → filled t ≡ file_name_of (components t)
name_whole [] h = refl
name_whole (x ∷ xs) h = sym (ap file_name_of (split_none (x ∷ xs) h))

-- The directory is a path.

longer : (c : List ℕ) (d : List ℕ) → length c ≤ length (c ++ 47 ∷ d)
longer [] d = omega arith
longer (x ∷ xs) d = let h = longer xs d in omega (arith, h)

more_after : (c a b : List ℕ) → length a ≤ length b → length (c ++ 47 ∷ a) ≤ length (c ++ 47 ∷ b)
more_after [] a b h = omega (arith, h)
more_after (x ∷ xs) a b h = let k = more_after xs a b h in omega (arith, k)

parent_short : (p : Path) → length (path_text (parent_of p)) ≤ length (path_text p)
parent_short [] = omega arith
parent_short (c ∷ []) = omega arith
parent_short (c ∷ d ∷ []) = longer c d
parent_short (c ∷ d ∷ e ∷ es) = more_after c (path_text (parent_of (d ∷ e ∷ es))) (path_text (d ∷ e ∷ es)) (parent_short (d ∷ e ∷ es))

pub parent_path : (p : Path) → IsPath p → IsPath (parent_of p)
parent_path p h =
    let short = at_most p h in
    let less = parent_short p in
    enough (parent_of p) (parent_names p (names p h)) (omega (arith, short, less))

-- A name in a directory.

pub joined_parts : (d n : List ℕ) → is_name n ≡ true → components (joined d n) ≡ components d ++ n ∷ []
joined_parts [] n h = components_split n (name_some n h) ∙ split_none n (name_no_slash n h)
joined_parts (b ∷ bs) n h = split_last (b ∷ bs) n (name_no_slash n h)

-- the text of a path with one name more
pub joined_text : (d n : List ℕ) → is_name n ≡ true → path_text (components d ++ n ∷ []) ≡ joined d n
joined_text d n h = ap path_text (sym (joined_parts d n h)) ∙ join_components (joined d n)

all_last : (p : Path) (n : List ℕ) → list_all is_name p ≡ true → is_name n ≡ true → list_all is_name (p ++ n ∷ []) ≡ true
all_last [] n h k = rw k refl
all_last (c ∷ cs) n h k =
    let one = and_left (is_name c) (list_all is_name cs) h in
    let others = all_last cs n (and_right (is_name c) (list_all is_name cs) h) k in
    simp (one, others)

pub joined_path : (d n : List ℕ) → IsPath (components d) → is_name n ≡ true → length (joined d n) ≤ MAX_PATH_LEN → IsPath (components (joined d n))
joined_path d n h k short =
    subst IsPath (sym (joined_parts d n k))
    (enough (components d ++ n ∷ []) (all_last (components d) n (names (components d) h) k) (subst (λ t. length t ≤ MAX_PATH_LEN) (sym (joined_text d n k)) short))

-- the path with another name in the same directory, by the text of that directory
beside_by : (d n : List ℕ) (p : Path) (t : List ℕ) → components d ≡ parent_of p → is_name n ≡ true → t ≡ joined d n
    → beside p n ≡ cond (nat_lt MAX_PATH_LEN (length t)) (Err TooLong) (Ok (components t))
beside_by d n p t parts h e =
    let text : path_text (parent_of p ++ n ∷ []) ≡ t = ap (λ q. path_text (q ++ n ∷ [])) (sym parts) ∙ joined_text d n h ∙ sym e in
    let path : parent_of p ++ n ∷ [] ≡ components t = ap (λ q. q ++ n ∷ []) (sym parts) ∙ sym (joined_parts d n h) ∙ ap components (sym e) in
    rw h (ap (λ u. cond (nat_lt MAX_PATH_LEN (length u)) (Err TooLong) (Ok (parent_of p ++ n ∷ []))) text ∙ ap (λ q. cond (nat_lt MAX_PATH_LEN (length t)) (Err TooLong) (Ok q)) path)

pub beside_long : (d n : List ℕ) (p : Path) (t : List ℕ) → components d ≡ parent_of p → is_name n ≡ true → t ≡ joined d n → MAX_PATH_LEN < length t
    → beside p n ≡ Err TooLong
beside_long d n p t parts h e long =
    let test : nat_lt MAX_PATH_LEN (length t) ≡ true = grind (arith, nat_tests, long) in
    beside_by d n p t parts h e ∙ rw test refl

pub beside_ok : (d n : List ℕ) (p : Path) (t : List ℕ) → components d ≡ parent_of p → is_name n ≡ true → t ≡ joined d n → length t ≤ MAX_PATH_LEN
    → beside p n ≡ Ok (components t)
beside_ok d n p t parts h e short = beside_by d n p t parts h e ∙ rw (not_long (length t) short) refl

pub beside_path : (d n : List ℕ) (p : Path) (t : List ℕ) → components d ≡ parent_of p → IsPath (parent_of p) → is_name n ≡ true → t ≡ joined d n → length t ≤ MAX_PATH_LEN
    → IsPath (components t)
beside_path d n p t parts k h e short =
    subst (λ u. IsPath (components u)) (sym e)
    (joined_path d n (subst IsPath (sym parts) k) h (subst (λ u. length u ≤ MAX_PATH_LEN) e short))
