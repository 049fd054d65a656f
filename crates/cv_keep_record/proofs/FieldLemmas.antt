-- A field that is read is the field that was written, and what was written is read again.
use Rattle.std.proofs.Common.{◌≡◌, ℕ, zero, suc, ◌+◌, ◌^◌, ◌<◌, ◌≤◌, Bool, true, false, cond, ltb, List, [], ◌∷◌, ◌++◌, length, get_or, take, drop, Option, Some, None, refl, sym, ap, subst, ◌∙◌, append_assoc, arith, inl, inr}
use Rattle.std.specs.Int.{Width, w32, w64, byte_len, from_be_bytes, to_be_bytes}
use Rattle.std.proofs.lemmas.Bool.{cases_lt, ltb-false, le-ltb}
use Rattle.std.proofs.lemmas.List.{take_at, drop_at, take-append-drop, length-append, length-take, get_or-drop, get_or-take, get_or_past}
use Rattle.std.proofs.lemmas.Nat.{be_bytes_4, be_bytes_8, from_be_bytes-to_be_bytes_4, from_be_bytes-to_be_bytes_8}
use Rattle.cv_keep_record.specs.declared.event.WorkKind.{WorkKind}
use Rattle.cv_keep_record.specs.declared.event.WorkKind.TheVariants.{Claim, Indexed, Fault, Memory}
use Rattle.cv_keep_record.specs.Record.{kind_byte}
use Rattle.cv_keep_record.specs.code.Reading.{◌>>=◌, byte_at, front_at, number_at, kind_of, text_at}

abbrev pub IsBytes : List ℕ → Type 0
IsBytes bytes = (i : ℕ) → get_or bytes i 0 < 256

pub IsBytes-drop : (n : ℕ) (bytes : List ℕ) → IsBytes bytes → IsBytes (drop n bytes)
IsBytes-drop n bytes h i = rw get_or-drop (h (n + i))

IsBytes-take : (n : ℕ) (bytes : List ℕ) → IsBytes bytes → IsBytes (take n bytes)
IsBytes-take n bytes h i =
    elim (cases_lt i n) [
      | inl lt ↦ rw (get_or-take n bytes i 0 lt) (h i)
      | inr le ↦ rw (get_or_past (take n bytes) i 0 (omega (arith, length-take n bytes))) (omega arith)
    ]

pub IsBytes-rest : (b : ℕ) (bytes : List ℕ) → IsBytes (b ∷ bytes) → IsBytes bytes
IsBytes-rest b bytes h i = h (suc i)

-- the value of a step that found one
pub bind_some : {A B : Type 0} (o : Option A) (f : A → Option B) (y : B) → (o >>= f) ≡ Some y → (x : A) × (o ≡ Some x) × (f x ≡ Some y)
bind_some (Some x) f y e = (x, refl, e)
bind_some None f y e = absurd cc

-- a test that was passed
guard_some : {A : Type 0} (b : Bool) (x y : A) → cond b None (Some x) ≡ Some y → (b ≡ false) × (x ≡ y)
guard_some true x y e = absurd cc
guard_some false x y e = (refl, cc)

abbrev some : {A : Type 0} → A → Option A
some x = Some x

pub some_is : {A : Type 0} (x y : A) → some x ≡ some y → x ≡ y
some_is x y e = cc

-- what a reader took from the front
pub record Takes (bytes text rest : List ℕ) : Type 0 where
  pub parts : bytes ≡ text ++ rest
  pub rest_fits : IsBytes rest

pub Takes-then : (a x b y c : List ℕ) → Takes a x b → Takes b y c → Takes a (x ++ y) c
Takes-then a x b y c p q = record { parts = p.parts ∙ ap (λ (t : List ℕ). x ++ t) q.parts ∙ sym (append_assoc x y c); rest_fits = q.rest_fits }

-- ---- one byte

pub byte_takes : (bytes : List ℕ) (b : ℕ) (rest : List ℕ) → IsBytes bytes → byte_at bytes ≡ Some (b, rest) → Takes bytes (b ∷ []) rest × (b < 2 ^ 8)
byte_takes [] b rest fits e = absurd cc
byte_takes (x ∷ xs) b rest fits e =
    let is = some_is (x, xs) (b, rest) e in
    subst (λ (p : ℕ × List ℕ). Takes (x ∷ xs) (p.0 ∷ []) p.1 × (p.0 < 2 ^ 8)) is (record { parts = refl; rest_fits = IsBytes-rest x xs fits }, omega (arith, fits 0))

-- ---- bytes of a given number

pub front_takes : (n : ℕ) (bytes front rest : List ℕ) → IsBytes bytes → front_at n bytes ≡ Some (front, rest) → Takes bytes front rest × (length front ≡ n)
front_takes n bytes front rest fits e =
    let g = guard_some (ltb (length bytes) n) (take n bytes, drop n bytes) (front, rest) e in
    let long : n ≤ length bytes = ltb-false _ _ g.0 in
    subst (λ (p : List ℕ × List ℕ). Takes bytes p.0 p.1 × (length p.0 ≡ n)) g.1 (record { parts = sym (take-append-drop n bytes); rest_fits = IsBytes-drop n bytes fits }, omega (arith, length-take n bytes))

pub front_again : (n : ℕ) (front rest : List ℕ) → length front ≡ n → front_at n (front ++ rest) ≡ Some (front, rest)
front_again n front rest len =
    let long : ltb (length (front ++ rest)) n ≡ false = le-ltb _ _ (omega (arith, len, length-append front rest)) in
    rw (long, take_at front rest n len, drop_at front rest n len) refl

-- ---- numbers

pub record IsWide (w : Width) (limit : ℕ) : Type 0 where
  pub len : (n : ℕ) → length (to_be_bytes w n) ≡ byte_len w
  pub back : (bytes : List ℕ) → length bytes ≡ byte_len w → IsBytes bytes → to_be_bytes w (from_be_bytes w bytes) ≡ bytes
  pub again : (n : ℕ) → n < limit → from_be_bytes w (to_be_bytes w n) ≡ n
  pub below : (bytes : List ℕ) → IsBytes bytes → from_be_bytes w bytes < limit

pub wide32 : IsWide w32 (2 ^ 32)
wide32 = record {
  len = λ n. refl;
  back = λ bytes len fits. be_bytes_4 bytes _ len fits refl;
  again = λ n lt. from_be_bytes-to_be_bytes_4 n lt;
  below = λ bytes fits. omega (arith, fits 0, fits 1, fits 2, fits 3);
}

pub wide64 : IsWide w64 (2 ^ 64)
wide64 = record {
  len = λ n. refl;
  back = λ bytes len fits. be_bytes_8 bytes _ len fits refl;
  again = λ n lt. from_be_bytes-to_be_bytes_8 n lt;
  below = λ bytes fits. omega (arith, fits 0, fits 1, fits 2, fits 3, fits 4, fits 5, fits 6, fits 7);
}

pub number_takes : (w : Width) (limit : ℕ) (wide : IsWide w limit) (bytes : List ℕ) (n : ℕ) (rest : List ℕ) → IsBytes bytes → number_at w bytes ≡ Some (n, rest) → Takes bytes (to_be_bytes w n) rest × (n < limit)
number_takes w limit wide bytes n rest fits e =
    let g = guard_some (ltb (length bytes) (byte_len w)) (from_be_bytes w (take (byte_len w) bytes), drop (byte_len w) bytes) (n, rest) e in
    let long : byte_len w ≤ length bytes = ltb-false _ _ g.0 in
    let n-is : from_be_bytes w (take (byte_len w) bytes) ≡ n = ap (λ (p : ℕ × List ℕ). p.0) g.1 in
    let rest-is : drop (byte_len w) bytes ≡ rest = ap (λ (p : ℕ × List ℕ). p.1) g.1 in
    let front : to_be_bytes w n ≡ take (byte_len w) bytes = rw (← n-is) (wide.back (take (byte_len w) bytes) (omega (arith, length-take (byte_len w) bytes)) (IsBytes-take (byte_len w) bytes fits)) in
    (record { parts = rw (front, ← rest-is) (sym (take-append-drop (byte_len w) bytes)); rest_fits = rw (← rest-is) (IsBytes-drop (byte_len w) bytes fits) }, rw (← n-is) (wide.below (take (byte_len w) bytes) (IsBytes-take (byte_len w) bytes fits)))

pub number_again : (w : Width) (limit : ℕ) (wide : IsWide w limit) (n : ℕ) (rest : List ℕ) → n < limit → number_at w (to_be_bytes w n ++ rest) ≡ Some (n, rest)
number_again w limit wide n rest lt =
    let len = wide.len n in
    let long : ltb (length (to_be_bytes w n ++ rest)) (byte_len w) ≡ false = le-ltb _ _ (omega (arith, length-append (to_be_bytes w n) rest)) in
    rw (long, take_at (to_be_bytes w n) rest (byte_len w) len, drop_at (to_be_bytes w n) rest (byte_len w) len, wide.again n lt) refl

-- ---- a length, and that many bytes

abbrev pub text_bytes : List ℕ → List ℕ
text_bytes text = to_be_bytes w32 (length text) ++ text

pub text_takes : (bytes text rest : List ℕ) → IsBytes bytes → text_at bytes ≡ Some (text, rest) → Takes bytes (text_bytes text) rest × (length text < 2 ^ 32)
unfolding text_at
text_takes bytes text rest fits e =
    let b = bind_some (number_at w32 bytes) (λ n. front_at n.0 n.1) (text, rest) e in
    let n = b.0 in
    let t = number_takes w32 (2 ^ 32) wide32 bytes n.0 n.1 fits b.1 in
    let f = front_takes n.0 n.1 text rest t.0.rest_fits b.2 in
    let both = Takes-then bytes (to_be_bytes w32 n.0) n.1 text rest t.0 f.0 in
    (subst (λ (k : ℕ). Takes bytes (to_be_bytes w32 k ++ text) rest) (sym f.1) both, omega (arith, t.1, f.1))

pub text_again : (text rest : List ℕ) → length text < 2 ^ 32 → text_at (text_bytes text ++ rest) ≡ Some (text, rest)
unfolding text_at
text_again text rest lt = rw (number_again w32 (2 ^ 32) wide32 (length text) (text ++ rest) lt) (front_again (length text) text rest refl)

-- ---- what a worker did

pub kind_takes : (b : ℕ) (kind : WorkKind) → kind_of b ≡ Some kind → b ≡ kind_byte kind
kind_takes zero kind e = ap kind_byte (some_is Claim kind e)
kind_takes (suc zero) kind e = ap kind_byte (some_is Indexed kind e)
kind_takes (suc (suc zero)) kind e = ap kind_byte (some_is Fault kind e)
kind_takes (suc (suc (suc zero))) kind e = ap kind_byte (some_is Memory kind e)
kind_takes (suc (suc (suc (suc n)))) kind e = absurd cc

pub kind_again : (kind : WorkKind) → kind_of (kind_byte kind) ≡ Some kind
kind_again Claim = refl
kind_again Indexed = refl
kind_again Fault = refl
kind_again Memory = refl
