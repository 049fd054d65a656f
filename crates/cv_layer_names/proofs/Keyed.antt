-- The keys of a package have its name. So an image whose layers do not have the names of keys has no package of these keys.
use Rattle.std.specs.Prelude.{◌≡◌, ℕ, Bool, true, false, cond, ◌||◌, List, [], ◌∷◌, Option, Some}
use Rattle.std.specs.List.{AllByRecursion, list_any}
use Rattle.std.proofs.Common.{ap, refl, sym, ◌∙◌}
use Rattle.cv_base.specs.Texts.{has_text, same}
use Rattle.cv_base.specs.declared.«package».Package.{Package}
use Rattle.cv_base.specs.declared.«package».PackageName.{PackageName}
use Rattle.cv_base.proofs.Same.{same_is, same_self}
use Rattle.cv_coalesce.specs.Coalesced.{coalesced}
use Rattle.cv_coalesce.specs.declared.image.ImagePackages.TheVariants.{Good}
use Rattle.cv_facts.specs.declared.reduction.Shape.{Shape}
use Rattle.cv_match.specs.Affects.{family, key_name}
use Rattle.cv_match.specs.Keys.{family_key, is_key, keys_of, whole_key}
use Rattle.cv_match.proofs.Keys.{same_names}
use Rattle.cv_layer_names.specs.Names.{has_key_of, has_name_of, layer_names, some_layer_has}
use Rattle.cv_layer_names.proofs.Listed.{listed, or_left, or_right}

-- each key of a package has the package's name
pub keys_named : (p : Package) → AllByRecursion (λ (key : PackageName). key.name ≡ key_name p) (keys_of p)
keys_named p = by_test (same (family p.ecosystem) p.ecosystem) where
  by_test : (t : Bool) → AllByRecursion (λ (key : PackageName). key.name ≡ key_name p) (cond t (whole_key p ∷ []) (whole_key p ∷ family_key p ∷ []))
  by_test true = (refl, tt)
  by_test false = (refl, (refl, tt))

-- Keys of a name.

-- one of these keys has the name
abbrev names_key : List PackageName → List ℕ → Bool
names_key keys n = list_any (λ (key : PackageName). same key.name n) keys

-- a layer that has the name of a key has the name of one of the keys
layer_named : (keys : List PackageName) (names : List (List ℕ)) (n : List ℕ) → names_key keys n ≡ true → has_text names n ≡ true
    → list_any (λ (key : PackageName). has_text names key.name) keys ≡ true
layer_named [] names n h k = h
layer_named (key ∷ keys) names n h k = by_test (same key.name n) refl h (λ g. layer_named keys names n g k) where
  by_test : (t : Bool) → same key.name n ≡ t → (t || names_key keys n) ≡ true → (names_key keys n ≡ true → list_any (λ (q : PackageName). has_text names q.name) keys ≡ true)
      → list_any (λ (q : PackageName). has_text names q.name) (key ∷ keys) ≡ true
  by_test true e g more = or_left (has_text names key.name) (list_any (λ (q : PackageName). has_text names q.name) keys) (ap (has_text names) (same_is key.name n e) ∙ k)
  by_test false e g more = or_right (has_text names key.name) (list_any (λ (q : PackageName). has_text names q.name) keys) (more g)

some_named : (keys : List PackageName) (shapes : List Shape) (n : List ℕ) → names_key keys n ≡ true → some_layer_has shapes n ≡ true
    → list_any (has_name_of keys) shapes ≡ true
some_named keys [] n h k = k
some_named keys (shape ∷ shapes) n h k = by_test (has_text (layer_names shape) n) refl k (some_named keys shapes n h) where
  by_test : (t : Bool) → has_text (layer_names shape) n ≡ t → (t || some_layer_has shapes n) ≡ true → (some_layer_has shapes n ≡ true → list_any (has_name_of keys) shapes ≡ true)
      → (has_name_of keys shape || list_any (has_name_of keys) shapes) ≡ true
  by_test true e g more = or_left (has_name_of keys shape) (list_any (has_name_of keys) shapes) (layer_named keys (layer_names shape) n h e)
  by_test false e g more = or_right (has_name_of keys shape) (list_any (has_name_of keys) shapes) (more g)

-- no key has a name that a layer has, if no layer has the name of a key
no_key : (keys : List PackageName) (shapes : List Shape) (n : List ℕ) → list_any (has_name_of keys) shapes ≡ false → some_layer_has shapes n ≡ true → names_key keys n ≡ false
no_key keys shapes n h k = by_test (names_key keys n) refl where
  by_test : (t : Bool) → names_key keys n ≡ t → t ≡ false
  by_test false e = refl
  by_test true e = sym (some_named keys shapes n e k) ∙ h

-- Keys of a package.

-- equal keys have one name
key_names : (n : List ℕ) (key other : PackageName) → key.name ≡ n → is_key key (Some other) ≡ true → same other.name n ≡ true
key_names n key other e h = ap (λ (m : List ℕ). same m n) (ap (λ (q : PackageName). q.name) (same_names other key h) ∙ e) ∙ same_self n

not_among : (n : List ℕ) (key : PackageName) → key.name ≡ n → (keys : List PackageName) → names_key keys n ≡ false
    → list_any (λ (other : PackageName). is_key key (Some other)) keys ≡ false
not_among n key e [] h = refl
not_among n key e (other ∷ keys) h = by_tests (is_key key (Some other)) refl (same other.name n) refl h (not_among n key e keys) where
  by_tests : (t : Bool) → is_key key (Some other) ≡ t → (u : Bool) → same other.name n ≡ u → (u || names_key keys n) ≡ false
      → (names_key keys n ≡ false → list_any (λ (q : PackageName). is_key key (Some q)) keys ≡ false)
      → (t || list_any (λ (q : PackageName). is_key key (Some q)) keys) ≡ false
  by_tests t f true g h more = cc
  by_tests true f false g h more = sym (key_names n key other e f) ∙ g
  by_tests false f false g h more = more h

none_of : (keys : List PackageName) (n : List ℕ) → names_key keys n ≡ false → (own : List PackageName) → AllByRecursion (λ (key : PackageName). key.name ≡ n) own
    → list_any (λ (key : PackageName). list_any (λ (other : PackageName). is_key key (Some other)) keys) own ≡ false
none_of keys n h [] e = refl
none_of keys n h (key ∷ own) e = rw (not_among n key e.0 keys h) (none_of keys n h own e.1)

-- a package whose name some layer has is without the keys, if no layer has the name of a key
pub unlisted_each : (keys : List PackageName) (shapes : List Shape) → list_any (has_name_of keys) shapes ≡ false → (found : List Package)
    → AllByRecursion (λ p. some_layer_has shapes (key_name p) ≡ true) found → AllByRecursion (λ p. has_key_of keys p ≡ false) found
unlisted_each keys shapes h [] k = tt
unlisted_each keys shapes h (p ∷ ps) k =
    (none_of keys (key_name p) (no_key keys shapes (key_name p) h k.0) (keys_of p) (keys_named p), unlisted_each keys shapes h ps k.1)

-- if no layer of an image has the name of a key, no package of the image has one of the keys
pub unlisted : (shapes : List Shape) (seals : List (Option (List ℕ))) (found : List Package) (keys : List PackageName) → coalesced shapes seals ≡ Good found
    → list_any (has_name_of keys) shapes ≡ false → AllByRecursion (λ p. has_key_of keys p ≡ false) found
unlisted shapes seals found keys h k = unlisted_each keys shapes k found (listed shapes seals found h)
