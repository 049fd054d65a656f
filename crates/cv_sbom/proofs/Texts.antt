-- The text of a JSON value whose own texts are UTF-8 is UTF-8.
use Rattle.std.proofs.Common.{◌≡◌, ℕ, Bool, true, false, nat_lt, List, [], ◌∷◌, ◌++◌, map, refl, arith, ltb-true}
use Rattle.std.specs.Prelude.{⊤, codes}
use Rattle.std.specs.Str.{IsAscii, IsUtf8}
use Rattle.std.proofs.lemmas.Bool.{and_parts}
use Rattle.std.proofs.lemmas.Fmt.{IsAscii-decimal}
use Rattle.std.proofs.lemmas.Str.{IsUtf8-append, IsUtf8-from_ascii}
use Rattle.std.proofs.lemmas.Str.Ascii.{IsAscii-nil, IsAscii-cons}
use Rattle.hex.specs.Hex.{encode_lower, lower_digits}
use Rattle.hex.proofs.HexLemmas.{IsAscii-encode_with}
use Rattle.json.specs.Print.{quoted}
use Rattle.json.proofs.Printed.Utf8.{IsUtf8-are_ascii, IsUtf8-boolean, IsUtf8-quoted, are_ascii}
use Rattle.serde_json.specs.Data.{Data, null, boolean, number, string, array, object, Items, no_items, item, Members, no_members, member}
use Rattle.serde_json.specs.View.{items_of}
use Rattle.serde_json.specs.Written.{comma_if, compact_text, items_text, members_text, number_text}
use Rattle.cv_base.specs.Digest.{digest_text}
use Rattle.cv_base.specs.declared.package.Package.{Package}
use Rattle.cv_base.specs.declared.package.PackageKind.{PackageKind}
use Rattle.cv_base.specs.declared.package.PackageKind.TheVariants.{Deb, Apk, Npm, Pypi}
use Rattle.cv_scan_output.specs.Finding.{kind_text}
use Rattle.cv_sbom.specs.ListText.{component_data, list_data, list_text, metadata_data, properties_data, property_data}
use Rattle.cv_sbom.specs.Listable.{AreListable, IsSpelled}

-- the texts of a value are UTF-8, those of its numbers too
abbrev mutual
  HasTexts : Data → Type 0
  HasTexts null = ⊤
  HasTexts (boolean b) = ⊤
  HasTexts (number n) = IsUtf8 (number_text n)
  HasTexts (string s) = IsUtf8 s
  HasTexts (array ds) = ItemsHaveTexts ds
  HasTexts (object ms) = MembersHaveTexts ms

  ItemsHaveTexts : Items → Type 0
  ItemsHaveTexts no_items = ⊤
  ItemsHaveTexts (item d ds) = HasTexts d × ItemsHaveTexts ds

  MembersHaveTexts : Members → Type 0
  MembersHaveTexts no_members = ⊤
  MembersHaveTexts (member k d ms) = IsUtf8 k × HasTexts d × MembersHaveTexts ms

after_byte : (b : ℕ) (s : List ℕ) → are_ascii (b ∷ []) ≡ true → IsUtf8 s → IsUtf8 (b ∷ s)
after_byte b s e h = IsUtf8-append (b ∷ []) s (IsUtf8-are_ascii (b ∷ []) e) h

after_comma : (later : Bool) (s : List ℕ) → IsUtf8 s → IsUtf8 (comma_if later ++ s)
after_comma true s h = after_byte 44 s refl h
after_comma false s h = h

mutual
  value_utf8 : (d : Data) → HasTexts d → IsUtf8 (compact_text d)
  value_utf8 null h = IsUtf8-are_ascii _ refl
  value_utf8 (boolean b) h = IsUtf8-boolean b
  value_utf8 (number n) h = h
  value_utf8 (string s) h = IsUtf8-quoted s h
  value_utf8 (array ds) h = after_byte 91 (items_text false ds) refl (items_utf8 false ds h)
  value_utf8 (object ms) h = after_byte 123 (members_text false ms) refl (members_utf8 false ms h)

  items_utf8 : (later : Bool) (ds : Items) → ItemsHaveTexts ds → IsUtf8 (items_text later ds)
  items_utf8 later no_items h = IsUtf8-are_ascii _ refl
  items_utf8 later (item d ds) h = after_comma later _ (IsUtf8-append (compact_text d) (items_text true ds) (value_utf8 d h.0) (items_utf8 true ds h.1))

  members_utf8 : (later : Bool) (ms : Members) → MembersHaveTexts ms → IsUtf8 (members_text later ms)
  members_utf8 later no_members h = IsUtf8-are_ascii _ refl
  members_utf8 later (member k d ms) h =
      let value = IsUtf8-append (compact_text d) (members_text true ms) (value_utf8 d h.1) (members_utf8 true ms h.2) in
      after_comma later _ (IsUtf8-append (quoted k) (58 ∷ (compact_text d ++ members_text true ms)) (IsUtf8-quoted k h.0) (after_byte 58 _ refl value))

-- ---- the texts of a component list

ascii : (xs : List ℕ) → are_ascii xs ≡ true → IsAscii xs
ascii [] e = IsAscii-nil
ascii (x ∷ xs) e = let p = and_parts (nat_lt x 128) (are_ascii xs) e in IsAscii-cons x xs (ltb-true x 128 p.0) (ascii xs p.1)

digest_utf8 : (image : List ℕ) → IsUtf8 (digest_text image)
digest_utf8 image =
    IsUtf8-append (codes "sha256:") (encode_lower image) (IsUtf8-are_ascii _ refl)
    (IsUtf8-from_ascii (encode_lower image) (IsAscii-encode_with lower_digits image (ascii lower_digits refl)))

kind_utf8 : (kind : PackageKind) → IsUtf8 (kind_text kind)
kind_utf8 Deb = IsUtf8-are_ascii _ refl
kind_utf8 Apk = IsUtf8-are_ascii _ refl
kind_utf8 Npm = IsUtf8-are_ascii _ refl
kind_utf8 Pypi = IsUtf8-are_ascii _ refl

-- a literal text
literal : (s : List ℕ) → are_ascii s ≡ true → IsUtf8 s
literal s e = IsUtf8-are_ascii s e

property_texts : (name value : List ℕ) → IsUtf8 name → IsUtf8 value → HasTexts (property_data name value)
property_texts name value h k = (literal _ refl, h, (literal _ refl, k, tt))

component_texts : (p : Package) → IsSpelled p → HasTexts (component_data p)
component_texts p h =
    let properties : HasTexts (properties_data p) = (
      property_texts _ _ (literal _ refl) h.arch,
      (
        property_texts _ _ (literal _ refl) h.ecosystem,
        (
          property_texts _ _ (literal _ refl) (kind_utf8 p.kind),
          (
            property_texts _ _ (literal _ refl) h.path,
            (property_texts _ _ (literal _ refl) h.source, (property_texts _ _ (literal _ refl) h.source_version, tt)),
          ),
        ),
      ),
    ) in
    (literal _ refl, h.name, (literal _ refl, properties, (literal _ refl, literal _ refl, (literal _ refl, h.version, tt))))

components_texts : (packages : List Package) → AreListable packages → ItemsHaveTexts (items_of (map component_data packages))
components_texts [] h = tt
components_texts (p ∷ ps) h = (component_texts p h.0.0, components_texts ps h.1)

-- the image of a list
metadata_texts : (image : List ℕ) → HasTexts (metadata_data image)
metadata_texts image = (literal _ refl, (literal _ refl, digest_utf8 image, (literal _ refl, literal _ refl, tt)), tt)

-- a component list is UTF-8
pub list_utf8 : (image : List ℕ) (packages : List Package) → AreListable packages → IsUtf8 (list_text image packages)
unfolding list_text
list_utf8 image packages h =
    let version = IsUtf8-from_ascii _ (IsAscii-decimal 1 (omega arith)) in
    value_utf8 (list_data image packages)
    (literal _ refl, literal _ refl, (literal _ refl, components_texts packages h, (literal _ refl, metadata_texts image, (literal _ refl, literal _ refl, (literal _ refl, version, tt)))))
