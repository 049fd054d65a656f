-- The text of a digest and the reading of texts: each gives the other back.
use Rattle.std.proofs.Common.{◌≡◌, ℕ, zero, suc, ◌+◌, ◌*◌, ◌/◌, ◌%◌, ◌<◌, Bool, true, false, ◌&&◌, cond, List, [], ◌∷◌, ◌++◌, length, take, drop, slice_index, codes, Option, Some, None, unwrap_or, Result, Ok, Err, refl, sym, ap, ◌∙◌, arith, inl, inr}
use Rattle.std.specs.Prelude.{option_and_then}
use Rattle.std.specs.List.{list_all}
use Rattle.std.specs.Result.{result_ok, result_unwrap_or}
use Rattle.std.proofs.lemmas.Bool.{and_parts, cases_lt}
use Rattle.std.proofs.lemmas.Bool.Decides.{nat_tests}
use Rattle.std.proofs.lemmas.List.{take-append-drop}
use Rattle.hex.specs.Hex.{IsBytes, decode_pairs, decode_sized, digit_or_error, encode_lower, encode_with, hex_digit_value, lower_digits, pair_value, value_at, ◌>>=◌}
use Rattle.hex.specs.declared.error.FromHexError.{FromHexError}
use Rattle.hex.proofs.HexLemmas.{IsDigits-lower_digits, decode_sized-encode_lower, decode_sized-ok, decode_sized-twice, decode_of-even}
use Rattle.cv_base.specs.Digest.{digest_of, digest_text, is_lower_digit}
use Rattle.cv_path.specs.Texts.{same}
use Rattle.cv_path.proofs.Same.{same_is}

-- The digits.

-- the first places of the table have digits in lower case
abbrev are_lower : ℕ → Bool
are_lower zero = true
are_lower (suc n) = is_lower_digit (slice_index lower_digits n) && are_lower n

lower_by : (n d : ℕ) → are_lower n ≡ true → d < n → is_lower_digit (slice_index lower_digits d) ≡ true
lower_by zero d h lt = absurd (omega arith)
lower_by (suc n) d h lt =
    let parts = and_parts (is_lower_digit (slice_index lower_digits n)) (are_lower n) h in
    elim (cases_lt d n) [
      | inl below ↦ lower_by n d parts.1 below
      | inr top ↦
          let e : d ≡ n = omega arith in
          rw e parts.0
    ]

lower_at : (d : ℕ) → d < 16 → is_lower_digit (slice_index lower_digits d) ≡ true
lower_at d lt = lower_by 16 d refl lt

value_small : (c v : ℕ) → hex_digit_value c ≡ Some v → v < 16
value_small c v h = grind (arith)

-- two digits in lower case that have one value are the same
one_digit : (c d v : ℕ) → is_lower_digit c ≡ true → is_lower_digit d ≡ true → hex_digit_value c ≡ Some v → hex_digit_value d ≡ Some v → c ≡ d
one_digit c d v lc ld hc hd = grind (arith, nat_tests)

digit_back : (c v : ℕ) → is_lower_digit c ≡ true → hex_digit_value c ≡ Some v → slice_index lower_digits v ≡ c
digit_back c v lower h =
    let lt = value_small c v h in
    one_digit (slice_index lower_digits v) c v (lower_at v lt) lower (IsDigits-lower_digits v lt) h

-- What is written is digits in lower case.

all_lower : (bytes : List ℕ) → IsBytes bytes → list_all is_lower_digit (encode_with lower_digits bytes) ≡ true
unfolding encode_with
all_lower [] h = refl
all_lower (b ∷ bytes) h =
    let fits : b < 256 = h 0 in
    let high : b / 16 < 16 = omega arith in
    let low : b % 16 < 16 = omega arith in
    rw (lower_at (b / 16) high, lower_at (b % 16) low, all_lower bytes (λ i. h (suc i))) refl

-- What was read is written as it was.

-- what an `Ok` after `>>=` shows
bind_ok : {A B : Type 0} (r : Result A FromHexError) (f : A → Result B FromHexError) (y : B) → (r >>= f) ≡ Ok y → (x : A) × (r ≡ Ok x) × (f x ≡ Ok y)
bind_ok (Ok x) f y h = (x, refl, h)
bind_ok (Err e) f y h = cc h

digit_read : (c i : ℕ) (o : Option ℕ) (v : ℕ) → digit_or_error c i o ≡ Ok v → o ≡ Some v
digit_read c i (Some w) v h = ap Some (ap (λ (r : Result ℕ FromHexError). result_unwrap_or r 0) h)
digit_read c i None v h = cc h

pairs_back : (i : ℕ) (s bytes : List ℕ) → decode_pairs i s ≡ Ok bytes → list_all is_lower_digit s ≡ true → encode_with lower_digits bytes ≡ s
unfolding decode_pairs encode_with
pairs_back i [] bytes h lower =
    let e : [] ≡ bytes = ap (λ (r : Result (List ℕ) FromHexError). result_unwrap_or r []) h in
    rw (← e) refl
pairs_back i (a ∷ []) bytes h lower = cc h
pairs_back i (a ∷ b ∷ rest) bytes h lower =
    let p0 = bind_ok (pair_value a b i) _ bytes h in
    let p1 = bind_ok (value_at a i) _ p0.0 p0.1 in
    let p2 = bind_ok (value_at b (i + 1)) _ p0.0 p1.2 in
    let p3 = bind_ok (decode_pairs (i + 2) rest) _ bytes p0.2 in
    let e : p0.0 ∷ p3.0 ≡ bytes = ap (λ (r : Result (List ℕ) FromHexError). result_unwrap_or r []) p3.2 in
    let byte : p1.0 * 16 + p2.0 ≡ p0.0 = ap (λ (r : Result ℕ FromHexError). result_unwrap_or r 0) p2.2 in
    let va = digit_read a i (hex_digit_value a) p1.0 p1.1 in
    let vb = digit_read b (i + 1) (hex_digit_value b) p2.0 p2.1 in
    let sa = value_small a p1.0 va in
    let sb = value_small b p2.0 vb in
    let high : p0.0 / 16 ≡ p1.0 = omega arith in
    let low : p0.0 % 16 ≡ p2.0 = omega arith in
    let la = and_parts (is_lower_digit a) (is_lower_digit b && list_all is_lower_digit rest) lower in
    let lb = and_parts (is_lower_digit b) (list_all is_lower_digit rest) la.1 in
    rw (← e, high, low, digit_back a p1.0 la.0 va, digit_back b p2.0 lb.0 vb, pairs_back (i + 2) rest p3.0 p3.1 lb.1) refl

-- The texts of digests.

-- the text of 32 bytes reads as them
pub read_back : (bytes : List ℕ) → length bytes ≡ 32 → IsBytes bytes → digest_of (digest_text bytes) ≡ Some bytes
read_back bytes len h = rw (all_lower bytes h, decode_sized-encode_lower bytes 32 len h) refl

ok_of : {A E : Type 0} (r : Result A E) (x : A) → result_ok r ≡ Some x → r ≡ Ok x
ok_of (Ok y) x h = ap (λ o. Ok (unwrap_or o y)) h
ok_of (Err e) x h = cc h

sized_back : (digits bytes : List ℕ) → decode_sized digits 32 ≡ Ok bytes → list_all is_lower_digit digits ≡ true → encode_lower bytes ≡ digits
sized_back digits bytes h lower =
    let len = decode_sized-ok digits 32 bytes h in
    let even : length digits % 2 ≡ 0 = omega (arith, len) in
    pairs_back 0 digits bytes (sym (decode_of-even digits even) ∙ sym (decode_sized-twice digits 32 len) ∙ h) lower

text_by : (text bytes : List ℕ) (front lower : Bool) → same (take 7 text) (codes "sha256:") ≡ front → list_all is_lower_digit (drop 7 text) ≡ lower
    → option_and_then (λ digits. result_ok (decode_sized digits 32)) (cond (front && lower) (Some (drop 7 text)) None) ≡ Some bytes → digest_text bytes ≡ text
text_by text bytes false lower f l h = cc h
text_by text bytes true false f l h = cc h
text_by text bytes true true f l h =
    let digits = sized_back (drop 7 text) bytes (ok_of (decode_sized (drop 7 text) 32) bytes h) l in
    ap (λ d. codes "sha256:" ++ d) digits ∙ ap (λ p. p ++ drop 7 text) (sym (same_is (take 7 text) (codes "sha256:") f)) ∙ take-append-drop 7 text

-- a text that reads as bytes is the text of them
pub written_back : (text bytes : List ℕ) → digest_of text ≡ Some bytes → digest_text bytes ≡ text
written_back text bytes h = text_by text bytes (same (take 7 text) (codes "sha256:")) (list_all is_lower_digit (drop 7 text)) refl refl h
