-- The target of a whiteout is a path: its name is one, and no longer than that of the whiteout.
use Rattle.std.specs.Prelude.{◌≡◌, ℕ, ◌≤◌, ◌==◌, Bool, true, false, ◌&&◌, not, List, [], ◌∷◌, ◌++◌, drop, length, Option, Some, None, unwrap_or, MatchBool, ⊤, Result, Ok, Err, refl}
use Rattle.std.specs.List.{list_all, list_any}
use Rattle.std.proofs.Common.{ap, arith, suc, zero, ◌∙◌, length-append}
use Rattle.std.proofs.lemmas.Bool.{not-true, le-ltb, or_parts}
use Rattle.cv_base.specs.Path.{IsPath, Path, beside, file_name_of, is_component, is_name, is_slash, is_special, parent_of, path_text}
use Rattle.cv_path.specs.Reading.{is_path_memory}
use Rattle.cv_path.specs.declared.limits.TheConstants.{MAX_PATH_LEN}
use Rattle.cv_path.specs.declared.path.PathError.{PathError}
use Rattle.cv_path.specs.declared.path.PathError.TheVariants as error
use Rattle.cv_base.proofs.Bools.{and_left, and_right}
use Rattle.cv_base.proofs.PathReads.{at_most, names}
use Rattle.cv_overlay.specs.Mark.{has_mark, is_whiteout_name, mark_of, name_of, target_of}
use Rattle.cv_overlay.specs.declared.mark.Mark.TheVariants.{Whiteout}
use Rattle.cv_overlay.proofs.CoverLemmas.{named_whiteout}

-- the name of a path, with its text in the place of that of the top
pub name_is : (p : Path) → unwrap_or (file_name_of p) (path_text p) ≡ name_of p
name_is [] = refl
name_is (c ∷ cs) = some_name c cs (path_text (c ∷ cs)) where
  some_name : (x : List ℕ) (xs : Path) (t : List ℕ) → unwrap_or (file_name_of (x ∷ xs)) t ≡ name_of (x ∷ xs)
  some_name x [] t = refl
  some_name x (y ∷ ys) t = some_name y ys t

-- The name.

none_dropped : (test : ℕ → Bool) (n : ℕ) (t : List ℕ) → list_any test t ≡ false → list_any test (drop n t) ≡ false
none_dropped test zero t h = h
none_dropped test (suc n) [] h = refl
none_dropped test (suc n) (x ∷ xs) h = none_dropped test n xs (or_parts (test x) (list_any test xs) h).1

name_by : (special nul slash : Bool) → special ≡ false → nul ≡ false → slash ≡ false → (not special && not nul && not slash) ≡ true
name_by special nul slash a b c = rw (a, b, c) refl

pub target_name : (n : List ℕ) → is_name n ≡ true → is_whiteout_name n ≡ true → is_name (drop 4 n) ≡ true
target_name n h w =
    let component = and_left (is_component n) (not (list_any is_slash n)) h in
    name_by (is_special (drop 4 n)) (list_any (λ b. b == 0) (drop 4 n)) (list_any is_slash (drop 4 n))
    (not-true (is_special (drop 4 n)) (and_right (has_mark n) (not (is_special (drop 4 n))) w))
    (none_dropped (λ b. b == 0) 4 n (not-true (list_any (λ b. b == 0) n) (and_right (not (is_special n)) (not (list_any (λ b. b == 0) n)) component)))
    (none_dropped is_slash 4 n (not-true (list_any is_slash n) (and_right (is_component n) (not (list_any is_slash n)) h)))

last_name : (p : Path) → list_all is_name p ≡ true → is_whiteout_name (name_of p) ≡ true → is_name (name_of p) ≡ true
last_name [] h w = cc
last_name (c ∷ []) h w = and_left (is_name c) true h
last_name (c ∷ d ∷ ds) h w = last_name (d ∷ ds) (and_right (is_name c) (list_all is_name (d ∷ ds)) h) w

-- The length.

shorter : (q : Path) (m n : List ℕ) → length m ≤ length n → length (path_text (q ++ m ∷ [])) ≤ length (path_text (q ++ n ∷ []))
shorter [] m n h = h
shorter (c ∷ []) m n h = omega (arith, length-append c (47 ∷ m), length-append c (47 ∷ n))
shorter (c ∷ d ∷ ds) m n h =
    let rest = shorter (d ∷ ds) m n h in
    omega (arith, rest, length-append c (47 ∷ path_text (d ∷ (ds ++ m ∷ []))), length-append c (47 ∷ path_text (d ∷ (ds ++ n ∷ []))))

parts_of : (p : Path) → is_whiteout_name (name_of p) ≡ true → parent_of p ++ name_of p ∷ [] ≡ p
parts_of [] w = cc
parts_of (c ∷ []) w = refl
parts_of (c ∷ d ∷ ds) w = ap (λ (q : Path). c ∷ q) (parts_of (d ∷ ds) w)

dropped_length : (n : ℕ) (t : List ℕ) → length (drop n t) ≤ length t
dropped_length zero t = omega arith
dropped_length (suc n) [] = omega arith
dropped_length (suc n) (x ∷ xs) = let rest = dropped_length n xs in omega (arith, rest)

pub target_is : (p : Path) (name : List ℕ) → IsPath p → is_whiteout_name (name_of p) ≡ true → name ≡ drop 4 (name_of p) → beside p name ≡ Ok (target_of p)
target_is p name h w e =
    let named : is_name (drop 4 (name_of p)) ≡ true = target_name (name_of p) (last_name p (names p h) w) w in
    let short : length (path_text (parent_of p ++ drop 4 (name_of p) ∷ [])) ≤ length (path_text (parent_of p ++ name_of p ∷ [])) =
    shorter (parent_of p) (drop 4 (name_of p)) (name_of p) (dropped_length 4 (name_of p)) in
    let whole : length (path_text (parent_of p ++ name_of p ∷ [])) ≡ length (path_text p) = ap (λ (q : Path). length (path_text q)) (parts_of p w) in
    let most : length (path_text p) ≤ MAX_PATH_LEN = at_most p h in
    let fits : length (path_text (parent_of p ++ drop 4 (name_of p) ∷ [])) ≤ MAX_PATH_LEN = omega (arith, short, whole, most) in
    rw (e, named, le-ltb MAX_PATH_LEN (length (path_text (parent_of p ++ drop 4 (name_of p) ∷ []))) fits) refl

-- As the code finds it.

pub named : (p : Path) (n : List ℕ) → Some n ≡ file_name_of p → n ≡ name_of p
named p n h = ap (λ (found : Option (List ℕ)). unwrap_or found (path_text p)) h ∙ name_is p

pub unnamed : (p : Path) (t : List ℕ) → None ≡ file_name_of p → t ≡ path_text p → t ≡ name_of p
unnamed p t h e = e ∙ ap (λ (found : Option (List ℕ)). unwrap_or found (path_text p)) h ∙ name_is p

beside_is : (p : Path) (name : List ℕ) → mark_of p false ≡ Whiteout → IsPath p → (has_mark (name_of p) ≡ true → name ≡ drop 4 (name_of p)) → beside p name ≡ Ok (target_of p)
beside_is p name m h e =
    let w : is_whiteout_name (name_of p) ≡ true = named_whiteout p false m in
    target_is p name h w (e (and_left (has_mark (name_of p)) (not (is_special (drop 4 (name_of p)))) w))

same_ok : (x y : Path) (r : Result Path PathError) → r ≡ Ok x → r ≡ Ok y → x ≡ y
same_ok x y r h k = cc

pub target_same : (p : Path) (name : List ℕ) (t : Path) → mark_of p false ≡ Whiteout → IsPath p → (has_mark (name_of p) ≡ true → name ≡ drop 4 (name_of p))
    → beside p name ≡ Ok t → t ≡ target_of p
target_same p name t m h e k = same_ok t (target_of p) (beside p name) k (beside_is p name m h e)

pub memory_alone : (p : Path) (name : List ℕ) (x : PathError) → mark_of p false ≡ Whiteout → IsPath p → (has_mark (name_of p) ≡ true → name ≡ drop 4 (name_of p))
    → MatchBool (is_path_memory x) ⊤ (beside p name ≡ Err x) → is_path_memory x ≡ true
memory_alone p name x m h e k = by_error x (beside_is p name m h e) k where
  by_error : (y : PathError) → beside p name ≡ Ok (target_of p) → MatchBool (is_path_memory y) ⊤ (beside p name ≡ Err y) → is_path_memory y ≡ true
  by_error error.NoMemory b f = refl
  by_error error.Empty b f = cc
  by_error error.TooLong b f = cc
  by_error error.BadComponent b f = cc
