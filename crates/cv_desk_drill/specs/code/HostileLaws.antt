-- Laws of layers of hostile sizes: the texts of their paths are paths, and no path stands twice.
use Rattle.std.specs.Prelude.{◌≡◌, ℕ, zero, suc, ◌+◌, ◌/◌, ◌%◌, ◌*◌, ◌<◌, ◌≤◌, ◌==◌, ◌≢◌, Bool, true, false, ◌&&◌, ◌||◌, not, nat_le, cond, List, [], ◌∷◌, ◌++◌, length, drop, map, codes, slice_index, Option, Some, None, Ok, refl}
use Rattle.std.specs.List.{AllByRecursion, list_all, list_any, range_with_len, repeat}
use Rattle.std.proofs.Common.{ap, arith, sym, subst, ◌∙◌}
use Rattle.std.proofs.lemmas.Bool.Decides.{nat_tests}
use Rattle.std.proofs.lemmas.List.FromFn.{map-range_with_len_more}
use Rattle.std.proofs.lemmas.Map.Views.{exact_unsigned_eq}
use Rattle.cv_base.specs.Path.{Path, components, is_component, is_slash, path_of, path_text, same_path}
use Rattle.cv_path.specs.declared.limits.TheConstants.{MAX_PATH_LEN}
use Rattle.cv_path.proofs.PathLemmas.{join_components}
use Rattle.cv_path.proofs.PathReads.{enough, reads, reads_back, split_none}
use Rattle.cv_path.proofs.Same.{path_is}
use Rattle.cv_path.specs.Path.{IsPath, is_name}
use Rattle.cv_path.specs.Texts.{is_cons}
use Rattle.cv_desk.specs.Stored.{ArePathsIn, IsDistinctIn, IsRead, Stored, is_distinct}
use Rattle.cv_desk_drill.specs.Generated.{directory, file, number_of, status_file}
use Rattle.cv_desk_drill.specs.Hostile.{empty_file, empty_files, eight_digits, file_name, hostile, hostile_tree, line_feeds, nested_directories, nested_directory, nested_text}

-- Entries that a number gives, where other numbers give other texts of paths.

module _ (entry : ℕ → Stored) (text : ℕ → List ℕ) (bound : ℕ) (at : (n : ℕ) → (entry n).path ≡ components (text n))
    (apart : (j k : ℕ) → j < k → k < bound → text j ≡ text k → ⊥) (reads : (n : ℕ) → n < bound → path_of (text n) ≡ Ok (components (text n))) where
  other_path : (j k : ℕ) → j < k → k < bound → same_path (entry j).path (entry k).path ≡ false
  other_path j k l m = by (same_path (entry j).path (entry k).path) refl where
    by : (b : Bool) → same_path (entry j).path (entry k).path ≡ b → b ≡ false
    by true e =
        absurd (apart j k l m (sym (join_components (text j))
        ∙ ap path_text (sym (at j) ∙ path_is (entry j).path (entry k).path e ∙ at k) ∙ join_components (text k)))
    by false e = refl

  none_again : (j k count : ℕ) → j < k → k + count ≤ bound
      → list_any (λ (f : Stored). same_path (entry j).path f.path) (map entry (range_with_len k count)) ≡ false
  none_again j k zero l m = refl
  none_again j k (suc count) l m =
      let first = other_path j k l (omega (arith, m)) in
      let others = none_again j (k + 1) count (omega (arith, l)) (omega (arith, m)) in
      rw (first, others) refl

  distinct_from : (k count : ℕ) → k + count ≤ bound → is_distinct (map entry (range_with_len k count)) ≡ true
  distinct_from k zero m = refl
  distinct_from k (suc count) m =
      let first = none_again k (k + 1) count (omega arith) (omega (arith, m)) in
      let others = distinct_from (k + 1) count (omega (arith, m)) in
      rw (first, others) refl

  read_from : (k count : ℕ) → k + count ≤ bound → AllByRecursion (λ (e : Stored). IsRead e.path) (map entry (range_with_len k count))
  read_from k zero m = tt
  read_from k (suc count) m =
      ((text k, subst (λ p. path_of (text k) ≡ Ok p) (sym (at k)) (reads k (omega (arith, m)))), read_from (k + 1) count (omega (arith, m)))

-- The names of files.

digit_apart : (n b : ℕ) → b < 48 → (48 + n % 10 == b) ≡ false
digit_apart n b l = by (48 + n % 10 == b) refl where
  by : (t : Bool) → (48 + n % 10 == b) ≡ t → t ≡ false
  by true e = let same : 48 + n % 10 ≡ b = exact_unsigned_eq (48 + n % 10) b e in absurd (omega (arith, same, l))
  by false e = refl

-- no digit of a name is this byte below 48
name_without : (n b : ℕ) → b < 48 → (102 == b) ≡ false → list_any (λ x. x == b) (file_name n) ≡ false
name_without n b l f =
    simp (
      f,
      digit_apart (n / 10000000) b l,
      digit_apart (n / 1000000) b l,
      digit_apart (n / 100000) b l,
      digit_apart (n / 10000) b l,
      digit_apart (n / 1000) b l,
      digit_apart (n / 100) b l,
      digit_apart (n / 10) b l,
      digit_apart n b l,
    )

file_is_name : (n : ℕ) → is_name (file_name n) ≡ true
file_is_name n =
    let slash = name_without n 47 (omega arith) refl in
    let nul = name_without n 0 (omega arith) refl in
    simp (slash, nul)

file_parts : (n : ℕ) → components (file_name n) ≡ file_name n ∷ []
file_parts n = split_none (file_name n) (name_without n 47 (omega arith) refl)

file_path : (n : ℕ) → IsPath (file_name n ∷ [])
file_path n = enough (file_name n ∷ []) (let named = file_is_name n in simp named) (omega arith)

pub file_reads : (n : ℕ) → path_of (file_name n) ≡ Ok (components (file_name n))
file_reads n = reads_back (file_name n ∷ []) (file_path n) refl ∙ ap Ok (sym (file_parts n))

-- the digits of a name at a place
same_digit : (j k place : ℕ) → file_name j ≡ file_name k → slice_index (file_name j) place ≡ slice_index (file_name k) place
same_digit j k place h = ap (λ t. slice_index t place) h

files_apart : (j k : ℕ) → j < k → k < 100000000 → file_name j ≡ file_name k → ⊥
files_apart j k l m h =
    let one : 48 + j / 10000000 % 10 ≡ 48 + k / 10000000 % 10 = same_digit j k 1 h in
    let two : 48 + j / 1000000 % 10 ≡ 48 + k / 1000000 % 10 = same_digit j k 2 h in
    let three : 48 + j / 100000 % 10 ≡ 48 + k / 100000 % 10 = same_digit j k 3 h in
    let four : 48 + j / 10000 % 10 ≡ 48 + k / 10000 % 10 = same_digit j k 4 h in
    let five : 48 + j / 1000 % 10 ≡ 48 + k / 1000 % 10 = same_digit j k 5 h in
    let six : 48 + j / 100 % 10 ≡ 48 + k / 100 % 10 = same_digit j k 6 h in
    let seven : 48 + j / 10 % 10 ≡ 48 + k / 10 % 10 = same_digit j k 7 h in
    let eight : 48 + j % 10 ≡ 48 + k % 10 = same_digit j k 8 h in
    let a : j / 10000000 ≡ k / 10000000 = omega (arith, one, l, m) in
    let b : j / 1000000 ≡ k / 1000000 = omega (arith, two, a) in
    let c : j / 100000 ≡ k / 100000 = omega (arith, three, b) in
    let d : j / 10000 ≡ k / 10000 = omega (arith, four, c) in
    let e : j / 1000 ≡ k / 1000 = omega (arith, five, d) in
    let f : j / 100 ≡ k / 100 = omega (arith, six, e) in
    let g : j / 10 ≡ k / 10 = omega (arith, seven, f) in
    omega (arith, eight, g, l)

-- Directories in one another.

abbrev nested_path : ℕ → Path
nested_path zero = codes "d" ∷ []
nested_path (suc depth) = codes "d" ∷ nested_path depth

nested_some : (depth : ℕ) → path_text (codes "d" ∷ nested_path depth) ≡ codes "d/" ++ path_text (nested_path depth)
nested_some zero = refl
nested_some (suc depth) = refl

nested_spelled : (depth : ℕ) → path_text (nested_path depth) ≡ nested_text depth
nested_spelled zero = refl
nested_spelled (suc depth) = nested_some depth ∙ ap (λ t. codes "d/" ++ t) (nested_spelled depth)

nested_length : (depth : ℕ) → length (nested_text depth) ≡ 2 * depth + 1
nested_length zero = refl
nested_length (suc depth) = let rest = nested_length depth in omega (arith, rest)

nested_names : (depth : ℕ) → list_all is_name (nested_path depth) ≡ true
nested_names zero = refl
nested_names (suc depth) = nested_names depth

nested_filled : (depth : ℕ) → is_cons (nested_path depth) ≡ true
nested_filled zero = refl
nested_filled (suc depth) = refl

nested_short : (depth : ℕ) → depth < 2048 → length (path_text (nested_path depth)) ≤ MAX_PATH_LEN
nested_short depth l = let is = ap length (nested_spelled depth) in let long = nested_length depth in omega (arith, is, long, l)

-- a path is read from its text
text_reads : (p : Path) → IsPath p → is_cons p ≡ true → path_of (path_text p) ≡ Ok (components (path_text p))
text_reads p h e = let read = reads_back p h e in read ∙ ap Ok (sym (reads (path_text p) p read).parts)

pub nested_reads : (depth : ℕ) → depth < 2048 → path_of (nested_text depth) ≡ Ok (components (nested_text depth))
nested_reads depth l =
    subst (λ t. path_of t ≡ Ok (components t)) (nested_spelled depth)
    (text_reads (nested_path depth) (enough (nested_path depth) (nested_names depth) (nested_short depth l)) (nested_filled depth))

nested_apart : (j k : ℕ) → j < k → k < 2048 → nested_text j ≡ nested_text k → ⊥
nested_apart j k l m h = let same = ap length h in let a = nested_length j in let b = nested_length k in omega (arith, same, a, b, l)

-- The trees.

most_of : (n bound : ℕ) → nat_le n bound ≡ true → n ≤ bound
most_of n bound h = grind (arith, nat_tests, h)

files_distinct : (s : ℕ) → s ≤ 1000001 → is_distinct (empty_files s) ≡ true
files_distinct s l = distinct_from empty_file file_name 100000000 (λ n. refl) files_apart (λ n m. file_reads n) 0 s (omega (arith, l))

files_paths : (s : ℕ) → s ≤ 1000001 → AllByRecursion (λ (e : Stored). IsRead e.path) (empty_files s)
files_paths s l = read_from empty_file file_name 100000000 (λ n. refl) files_apart (λ n m. file_reads n) 0 s (omega (arith, l))

nested_distinct : (s : ℕ) → s ≤ 2048 → is_distinct (nested_directories s) ≡ true
nested_distinct s l = distinct_from nested_directory nested_text 2048 (λ n. refl) nested_apart nested_reads 0 s (omega (arith, l))

nested_paths : (s : ℕ) → s ≤ 2048 → AllByRecursion (λ (e : Stored). IsRead e.path) (nested_directories s)
nested_paths s l = read_from nested_directory nested_text 2048 (λ n. refl) nested_apart nested_reads 0 s (omega (arith, l))

status_paths : (bytes : List ℕ) → AllByRecursion (λ (e : Stored). IsRead e.path) (status_file bytes)
status_paths bytes = ((codes "var", refl), ((codes "var/lib", refl), ((codes "var/lib/dpkg", refl), ((codes "var/lib/dpkg/status", refl), tt))))

-- Lists that are made piece by piece.

pub more_files : (s : ℕ) → empty_files s ++ empty_file s ∷ [] ≡ empty_files (s + 1)
more_files s = sym (map-range_with_len_more empty_file 0 s s (omega arith))

pub more_directories : (s : ℕ) → nested_directories s ++ nested_directory s ∷ [] ≡ nested_directories (s + 1)
more_directories s = sym (map-range_with_len_more nested_directory 0 s s (omega arith))

-- A property of the tree of each role, and of no tree, is one of what is spelled.

module _ (P : Option (List Stored) → Type 0) (files : (s : ℕ) → s ≤ 1000001 → P (Some (empty_files s))) (nested : (s : ℕ) → s ≤ 2048 → P (Some (nested_directories s)))
    (feeds : (s : ℕ) → P (Some (line_feeds s))) (none : P None) where
  by_feeds : (b : Bool) (s : ℕ) → P (cond b (Some (line_feeds s)) None)
  by_feeds true s = feeds s
  by_feeds false s = none

  by_nested : (role : Bool) (small : Bool) (s : ℕ) (rest : Option (List Stored)) → nat_le s 2048 ≡ small → P rest → P (cond (role && small) (Some (nested_directories s)) rest)
  by_nested true true s rest h k = nested s (most_of s 2048 h)
  by_nested true false s rest h k = k
  by_nested false small s rest h k = k

  by_files : (role : Bool) (small : Bool) (s : ℕ) (rest : Option (List Stored)) → nat_le s 1000001 ≡ small → P rest → P (cond (role && small) (Some (empty_files s)) rest)
  by_files true true s rest h k = files s (most_of s 1000001 h)
  by_files true false s rest h k = k
  by_files false small s rest h k = k

  by_zeros : (zeros : Bool) (found : Option (List Stored)) → P found → P (cond zeros found None)
  by_zeros true found h = h
  by_zeros false found h = none

  of_hostile : (digest : List ℕ) → P (hostile digest)
  of_hostile digest =
      let role : ℕ = slice_index digest 0 in
      let s : ℕ = number_of (slice_index digest 1) (slice_index digest 2) (slice_index digest 3) (slice_index digest 4) in
      by_zeros (list_all (λ byte. byte == 0) (drop 5 digest)) (hostile_tree role s)
      (by_files (role == 4) (nat_le s 1000001) s _ refl
      (by_nested (role == 5) (nat_le s 2048) s _ refl (by_feeds (role == 6 && nat_le s 33554433) s)))

pub hostile_distinct : (digest : List ℕ) → IsDistinctIn (Some (hostile digest))
hostile_distinct = of_hostile (λ found. IsDistinctIn (Some found)) files_distinct nested_distinct (λ s. refl) tt

pub hostile_paths : (digest : List ℕ) → ArePathsIn (Some (hostile digest))
hostile_paths = of_hostile (λ found. ArePathsIn (Some found)) files_paths nested_paths (λ s. status_paths (repeat s (10 ∷ []))) tt
