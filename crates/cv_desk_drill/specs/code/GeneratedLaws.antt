-- Laws of generated layers: the texts of their paths are paths, and what is shown for the tree of each role holds of each layer.
use Rattle.std.specs.Prelude.{◌≡◌, ℕ, zero, suc, ◌+◌, ◌<◌, ◌==◌, ◌≢◌, Bool, true, false, ◌&&◌, nat_lt, cond, is_ok, List, [], ◌∷◌, ◌++◌, length, drop, slice_index, Option, Some, None, Ok, Err, refl}
use Rattle.std.specs.List.{list_all}
use Rattle.std.proofs.lemmas.Bool.{eqb-false}
use Rattle.std.proofs.lemmas.Map.Views.{exact_unsigned_eq}
use Rattle.std.proofs.lemmas.Str.{encode_ascii}
use Rattle.std.specs.Char.{encode_utf8}
use Rattle.std.proofs.Common.{ap, append_assoc, arith, ◌∙◌}
use Rattle.cv_base.specs.Path.{Path, components, is_component, path_of}
use Rattle.cv_path.specs.declared.path.PathError.TheVariants.{BadComponent, TooLong}
use Rattle.cv_path.specs.declared.limits.TheConstants.{MAX_PATH_LEN}
use Rattle.cv_desk.specs.Stored.{Stored}
use Rattle.cv_desk_drill.specs.Generated.{directory, file, generated, manifest, manifest_text, npm_package, number_of, opaque_tree, package_text, package_tree, paragraphs, role_tree, status_file, system_tree, thirty}

-- Tests of all numbers below a bound.

abbrev pub holds_below : ℕ → (ℕ → Bool) → Bool
holds_below zero test = true
holds_below (suc n) test = test n && holds_below n test

and_left : (a b : Bool) → a && b ≡ true → a ≡ true
and_left true b h = refl
and_left false b h = h

and_right : (a b : Bool) → a && b ≡ true → b ≡ true
and_right true b h = h
and_right false b h = cc

below_case : (n : ℕ) (test : ℕ → Bool) (x : ℕ) (b : Bool) → (x == n) ≡ b → test n && holds_below n test ≡ true → x < suc n
    → (x < n → test x ≡ true) → test x ≡ true
below_case n test x true e h l others = let same : x ≡ n = exact_unsigned_eq x n e in rw same (and_left (test n) (holds_below n test) h)
below_case n test x false e h l others = let apart : x ≢ n = eqb-false x n e in others (omega (arith, apart, l))

pub below_at : (n : ℕ) (test : ℕ → Bool) → holds_below n test ≡ true → (x : ℕ) → x < n → test x ≡ true
below_at zero test h x l = absurd (omega (arith, l))
below_at (suc n) test h x l =
    below_case n test x (x == n) refl h l (λ m. below_at n test (and_right (test n) (holds_below n test) h) x m)

-- The texts of paths.

reads_by : (long good : Bool) (parts : Path) → is_ok (cond long (Err TooLong) (cond good (Ok parts) (Err BadComponent))) ≡ true
    → cond long (Err TooLong) (cond good (Ok parts) (Err BadComponent)) ≡ Ok parts
reads_by true good parts h = cc
reads_by false true parts h = refl
reads_by false false parts h = cc

-- a text that is a path is read as its components
read_as : (text : List ℕ) → is_ok (path_of text) ≡ true → path_of text ≡ Ok (components text)
read_as [] h = cc
read_as (b ∷ bs) h = reads_by (nat_lt MAX_PATH_LEN (length (b ∷ bs))) (list_all is_component (components (b ∷ bs))) (components (b ∷ bs)) h

pub package_reads : (n : ℕ) → n < 100 → path_of (package_text n) ≡ Ok (components (package_text n))
package_reads n l = read_as (package_text n) (below_at 100 (λ m. is_ok (path_of (package_text m))) refl n l)

pub manifest_reads : (n : ℕ) → n < 100 → path_of (manifest_text n) ≡ Ok (components (manifest_text n))
manifest_reads n l = read_as (manifest_text n) (below_at 100 (λ m. is_ok (path_of (manifest_text m))) refl n l)

-- Lists that are made piece by piece.

pub entries_more : (before piece after : List Stored) → (before ++ piece) ++ after ≡ before ++ (piece ++ after)
entries_more = append_assoc

-- four entries one by one
pub four_more : (before : List Stored) (a b c d : Stored) → (((before ++ a ∷ []) ++ b ∷ []) ++ c ∷ []) ++ d ∷ [] ≡ before ++ a ∷ b ∷ c ∷ d ∷ []
four_more before a b c d =
    ap (λ entries. (entries ++ c ∷ []) ++ d ∷ []) (append_assoc before (a ∷ []) (b ∷ []))
    ∙ ap (λ entries. entries ++ d ∷ []) (append_assoc before (a ∷ b ∷ []) (c ∷ [])) ∙ append_assoc before (a ∷ b ∷ c ∷ []) (d ∷ [])

-- the two entries of an npm package
pub package_more : (before : List Stored) (name version : ℕ)
    → (before ++ directory (package_text name) ∷ []) ++ file (manifest_text name) (manifest name version) ∷ [] ≡ before ++ npm_package name version
unfolding npm_package
package_more before name version = append_assoc before (directory (package_text name) ∷ []) (file (manifest_text name) (manifest name version) ∷ [])

pub digit_text : (n : ℕ) → n < 10 → encode_utf8 (48 + n) ≡ (48 + n) ∷ []
digit_text n l = encode_ascii (48 + n) (omega (arith, l))

-- A property of the tree of each role, and of no tree, is one of what is generated.

module _ (P : Option (List Stored) → Type 0) (system : (s : ℕ) → P (Some (system_tree s))) (status : (s : ℕ) → P (Some (status_file (paragraphs s thirty))))
    (npm : (s : ℕ) → P (Some (package_tree s))) (opaque : P (Some opaque_tree)) (none : P None) where
  by_role : (is_system is_status is_npm is_opaque : Bool) (s : ℕ)
      → P (cond is_system (Some (system_tree s)) (cond is_status (Some (status_file (paragraphs s thirty))) (cond is_npm (Some (package_tree s)) (cond is_opaque (Some opaque_tree) None))))
  by_role true is_status is_npm is_opaque s = system s
  by_role false true is_npm is_opaque s = status s
  by_role false false true is_opaque s = npm s
  by_role false false false true s = opaque
  by_role false false false false s = none

  by_zeros : (zeros : Bool) (found : Option (List Stored)) → P found → P (cond zeros found None)
  by_zeros true found h = h
  by_zeros false found h = none

  pub of_roles : (digest : List ℕ) → P (generated digest)
  of_roles digest =
      let role : ℕ = slice_index digest 0 in
      let s : ℕ = number_of (slice_index digest 1) (slice_index digest 2) (slice_index digest 3) (slice_index digest 4) in
      by_zeros (list_all (λ byte. byte == 0) (drop 5 digest)) (role_tree role s) (by_role (role == 0) (role == 1) (role == 2) (role == 3) s)
