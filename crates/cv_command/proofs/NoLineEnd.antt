-- The text of a list of components has no line end, and no CR.
use Rattle.std.specs.Prelude.{◌≡◌, ℕ, ◌+◌, ◌/◌, ◌%◌, ◌-◌, ◌==◌, ◌||◌, ◌&&◌, nat_lt, length, map, slice_index, Bool, true, false, cond, List, [], ◌∷◌, ◌++◌, ⊤, refl}
use Rattle.std.specs.Char.{digit_char}
use Rattle.std.specs.List.{AllByRecursion}
use Rattle.std.proofs.Common.{arith, subst, sym}
use Rattle.std.proofs.lemmas.Bool.Decides.{nat_tests}
use Rattle.std.proofs.lemmas.List.Elements.{All-from_recursion}
use Rattle.std.proofs.lemmas.Fmt.{decimal_digit}
use Rattle.cv_base.specs.declared.package.Package.{Package}
use Rattle.cv_io.specs.Lines.{HasNoLineEnd, is_line_end, text_of}
use Rattle.cv_sbom.specs.ListText.{component_data, list_data, list_text}
use Rattle.json.specs.Print.{escape, escape_byte, escape_letter, quoted}
use Rattle.serde_json.specs.Data.{unsigned, Data, null, boolean, number, string, array, object, Items, no_items, item, Members, no_members, member}
use Rattle.serde_json.specs.View.{items_of}
use Rattle.serde_json.specs.Written.{comma_if, compact_text, items_text, members_text}

-- the byte is LF or CR
abbrev is_end : ℕ → Bool
is_end byte = (byte == 10) || (byte == 13)

-- no byte is LF or CR
abbrev pub IsPlain : List ℕ → Type 0
IsPlain bytes = AllByRecursion (λ byte. is_end byte ≡ false) bytes

neither : (x : ℕ) → (x == 10) ≡ false → (x == 13) ≡ false → is_end x ≡ false
neither x h k = rw (h, k) refl

plain_append : (xs ys : List ℕ) → IsPlain xs → IsPlain ys → IsPlain (xs ++ ys)
plain_append [] ys h k = k
plain_append (x ∷ xs) ys h k = (h.0, plain_append xs ys h.1 k)

-- ---- a text in quotes

digit_plain : (d : ℕ) → is_end (digit_char d) ≡ false
digit_plain d = by_test (nat_lt d 10)
  where
    by_test : (t : Bool) → is_end (cond t (48 + d) (87 + d)) ≡ false
    by_test true = neither (48 + d) (grind (arith, nat_tests)) (grind (arith, nat_tests))
    by_test false = neither (87 + d) (grind (arith, nat_tests)) (grind (arith, nat_tests))

high_plain : (x : ℕ) → nat_lt x 32 ≡ false → is_end x ≡ false
high_plain x h = neither x (grind (arith, nat_tests)) (grind (arith, nat_tests))

by_quote : (x : ℕ) (t : Bool) → ((x == 34) || (x == 92)) ≡ t → (letter : ℕ) → is_end letter ≡ false → is_end (cond t x letter) ≡ false
by_quote x false e letter h = h
by_quote x true e letter h = by_first (x == 34) refl e
  where
    by_first : (a : Bool) → (x == 34) ≡ a → (a || (x == 92)) ≡ true → is_end x ≡ false
    by_first true f e = neither x (grind (arith, nat_tests)) (grind (arith, nat_tests))
    by_first false f e = neither x (grind (arith, nat_tests)) (grind (arith, nat_tests))

cond_plain : (t : Bool) (a b : ℕ) → is_end a ≡ false → is_end b ≡ false → is_end (cond t a b) ≡ false
cond_plain true a b h k = h
cond_plain false a b h k = k

letter_plain : (x : ℕ) → is_end (escape_letter x) ≡ false
letter_plain x =
    by_quote x ((x == 34) || (x == 92)) refl _
    (cond_plain (x == 8) 98 _ refl (cond_plain (x == 12) 102 _ refl (cond_plain (x == 10) 110 _ refl (cond_plain (x == 13) 114 _ refl (cond_plain (x == 9) 116 0 refl refl)))))

byte_plain : (x : ℕ) → IsPlain (escape_byte x)
unfolding escape_byte
byte_plain x = by_letter (nat_lt 0 (escape_letter x)) (nat_lt x 32) refl
  where
    by_letter : (a b : Bool) → nat_lt x 32 ≡ b
        → IsPlain (cond a (92 ∷ escape_letter x ∷ []) (cond b (92 ∷ 117 ∷ 48 ∷ 48 ∷ digit_char (x / 16) ∷ digit_char (x % 16) ∷ []) (x ∷ [])))
    by_letter true b e = (refl, (letter_plain x, tt))
    by_letter false true e = (refl, (refl, (refl, (refl, (digit_plain (x / 16), (digit_plain (x % 16), tt))))))
    by_letter false false e = (high_plain x e, tt)

escape_plain : (text : List ℕ) → IsPlain (escape text)
escape_plain [] = tt
escape_plain (x ∷ xs) = plain_append (escape_byte x) (escape xs) (byte_plain x) (escape_plain xs)

quoted_plain : (text : List ℕ) → IsPlain (quoted text)
quoted_plain text = (refl, plain_append (escape text) (34 ∷ []) (escape_plain text) (refl, tt))

comma_plain : (later : Bool) → IsPlain (comma_if later)
comma_plain true = (refl, tt)
comma_plain false = tt

-- ---- values whose numbers have plain texts

abbrev mutual
  pub HasPlainNumbers : Data → Type 0
  HasPlainNumbers null = ⊤
  HasPlainNumbers (boolean b) = ⊤
  HasPlainNumbers (number n) = IsPlain (compact_text (number n))
  HasPlainNumbers (string s) = ⊤
  HasPlainNumbers (array ds) = HavePlainItems ds
  HasPlainNumbers (object ms) = HavePlainMembers ms

  pub HavePlainItems : Items → Type 0
  HavePlainItems no_items = ⊤
  HavePlainItems (item d ds) = HasPlainNumbers d × HavePlainItems ds

  pub HavePlainMembers : Members → Type 0
  HavePlainMembers no_members = ⊤
  HavePlainMembers (member k d ms) = HasPlainNumbers d × HavePlainMembers ms

mutual
  pub text_plain : (d : Data) → HasPlainNumbers d → IsPlain (compact_text d)
  text_plain null h = (refl, (refl, (refl, (refl, tt))))
  text_plain (boolean true) h = (refl, (refl, (refl, (refl, tt))))
  text_plain (boolean false) h = (refl, (refl, (refl, (refl, (refl, tt)))))
  text_plain (number n) h = h
  text_plain (string s) h = quoted_plain s
  text_plain (array ds) h = (refl, items_plain false ds h)
  text_plain (object ms) h = (refl, members_plain false ms h)

  items_plain : (later : Bool) (ds : Items) → HavePlainItems ds → IsPlain (items_text later ds)
  items_plain later no_items h = (refl, tt)
  items_plain later (item d ds) h =
      plain_append (comma_if later) _ (comma_plain later) (plain_append (compact_text d) _ (text_plain d h.0) (items_plain true ds h.1))

  members_plain : (later : Bool) (ms : Members) → HavePlainMembers ms → IsPlain (members_text later ms)
  members_plain later no_members h = (refl, tt)
  members_plain later (member k d ms) h =
      plain_append (comma_if later) _ (comma_plain later)
      (plain_append (quoted k) _ (quoted_plain k) (refl, plain_append (compact_text d) _ (text_plain d h.0) (members_plain true ms h.1)))

-- ---- the list of an image

components_plain : (packages : List Package) → HavePlainItems (items_of (map component_data packages))
components_plain [] = tt
components_plain (p ∷ ps) = (
  (tt, ((((tt, (tt, tt)), ((tt, (tt, tt)), ((tt, (tt, tt)), ((tt, (tt, tt)), ((tt, (tt, tt)), ((tt, (tt, tt)), tt))))))), (tt, (tt, tt)))),
  components_plain ps,
)

one_plain : IsPlain (compact_text (number (unsigned 1)))
one_plain = subst IsPlain (sym (decimal_digit 1 (omega arith))) (refl, tt)

pub list_plain : (image : List ℕ) (packages : List Package) → IsPlain (list_text image packages)
unfolding list_text
list_plain image packages = text_plain (list_data image packages) (tt, (components_plain packages, (((tt, (tt, tt)), tt), (tt, (one_plain, tt)))))

-- ---- a line of such bytes

or_left : (a b : Bool) → (a || b) ≡ false → a ≡ false
or_left true b h = h
or_left false b h = refl

or_right : (a b : Bool) → (a || b) ≡ false → b ≡ false
or_right true b h = absurd (cc)
or_right false b h = h

no_ends : (bytes : List ℕ) → IsPlain bytes → AllByRecursion (λ byte. is_line_end byte ≡ false) bytes
no_ends [] h = tt
no_ends (x ∷ xs) h = (or_left (x == 10) (x == 13) h.0, no_ends xs h.1)

no_returns : (bytes : List ℕ) → IsPlain bytes → AllByRecursion (λ byte. (byte == 13) ≡ false) bytes
no_returns [] h = tt
no_returns (x ∷ xs) h = (or_right (x == 10) (x == 13) h.0, no_returns xs h.1)

pub plain_line : (bytes : List ℕ) → IsPlain bytes → HasNoLineEnd bytes
plain_line bytes h = All-from_recursion (λ byte. is_line_end byte ≡ false) bytes (no_ends bytes h)

and_false : (a b : Bool) → b ≡ false → (a && b) ≡ false
and_false true b h = h
and_false false b h = refl

-- it loses no byte as a line
pub plain_text : (bytes : List ℕ) → IsPlain bytes → text_of bytes ≡ bytes
plain_text [] h = refl
plain_text (x ∷ xs) h =
    let last : (slice_index (x ∷ xs) (length (x ∷ xs) - 1) == 13) ≡ false =
    All-from_recursion (λ byte. (byte == 13) ≡ false) (x ∷ xs) (no_returns (x ∷ xs) h) (length (x ∷ xs) - 1) 0 (omega arith) in
    rw (and_false (nat_lt 0 (length (x ∷ xs))) (slice_index (x ∷ xs) (length (x ∷ xs) - 1) == 13) last) refl
