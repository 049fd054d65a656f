-- The records of a file that is put together from parts.
use Rattle.std.proofs.Common.{◌≡◌, ◌⊎◌, inl, inr, ℕ, zero, suc, ◌+◌, ◌-◌, ◌≤◌, ◌<◌, Bool, true, false, cond, ◌==◌, nat_lt, List, [], ◌∷◌, ◌++◌, length, take, drop, refl, sym, ◌∙◌, ap, arith, Some, None, append_assoc, length-append, length-drop, take-append-drop}
use Rattle.std.proofs.lemmas.Bool.{cases_Bool, and_parts, eqb-true, ltb-true, lt-ltb, and_from, eq-eqb, false_from_ne_true}
use Rattle.std.proofs.lemmas.List.{take_at, drop_at, drop-drop, length-take-le}
use Rattle.std.specs.Int.{w64, from_be_bytes}
use Rattle.cv_keep.specs.Records.{records, first_records, counts, size, gate_after}
use Rattle.cv_keep.specs.code.Walk.{IsHead, IsNextGate, IsWalked}

take_past : (xs ys : List ℕ) (m n : ℕ) → m ≡ length xs + n → take m (xs ++ ys) ≡ xs ++ take n ys
take_past [] ys m n is = let same : m ≡ n = omega (arith, is) in ap (λ (k : ℕ). take k ys) same
take_past (x ∷ xs) ys zero n is = absurd (omega (arith, is))
take_past (x ∷ xs) ys (suc m) n is = ap (λ (l : List ℕ). x ∷ l) (take_past xs ys m n (omega (arith, is)))

pub drop_past : (xs ys : List ℕ) (m n : ℕ) → m ≡ length xs + n → drop m (xs ++ ys) ≡ drop n ys
drop_past [] ys m n is = let same : m ≡ n = omega (arith, is) in ap (λ (k : ℕ). drop k ys) same
drop_past (x ∷ xs) ys zero n is = absurd (omega (arith, is))
drop_past (x ∷ xs) ys (suc m) n is = drop_past xs ys m n (omega (arith, is))

-- what a file's list is, given its first gate, the bytes after it and the list of the rest
abbrev list_of : ℕ → List ℕ → List (List ℕ) → List (List ℕ)
list_of gate rest later = cond (counts gate rest) (take (size rest) (drop 8 rest) ∷ later) []

-- any two bounds that are long enough give the same records
bound : (m n : ℕ) (file : List ℕ) → length file ≤ m → length file ≤ n → first_records m file ≡ first_records n file
bound zero zero file a b = refl
bound zero (suc n) [] a b = refl
bound zero (suc n) (gate ∷ rest) a b = absurd (omega (arith, a))
bound (suc m) zero [] a b = refl
bound (suc m) zero (gate ∷ rest) a b = absurd (omega (arith, b))
bound (suc m) (suc n) [] a b = refl
bound (suc m) (suc n) (gate ∷ rest) a b =
    let left : length (drop (8 + size rest) rest) ≤ m = omega (arith, a, length-drop (8 + size rest) rest) in
    let right : length (drop (8 + size rest) rest) ≤ n = omega (arith, b, length-drop (8 + size rest) rest) in
    let later = bound m n (drop (8 + size rest) rest) left right in
    ap (λ (l : List (List ℕ)). list_of gate rest l) later

pub records_none : records [] ≡ []
unfolding records
records_none = refl

one_more : (gate : ℕ) (rest : List ℕ) → records (gate ∷ rest) ≡ list_of gate rest (records (drop (8 + size rest) rest))
unfolding records
one_more gate rest =
    let inside : length (drop (8 + size rest) rest) ≤ length rest = omega (arith, length-drop (8 + size rest) rest) in
    let same : length (drop (8 + size rest) rest) ≤ length (drop (8 + size rest) rest) = omega arith in
    ap (λ (l : List (List ℕ)). list_of gate rest l) (bound (length rest) (length (drop (8 + size rest) rest)) (drop (8 + size rest) rest) inside same)

-- a gate that counts
records_open : (gate : ℕ) (rest : List ℕ) → counts gate rest ≡ true → records (gate ∷ rest) ≡ take (size rest) (drop 8 rest) ∷ records (drop (8 + size rest) rest)
records_open gate rest is = one_more gate rest ∙ ap (λ (b : Bool). cond b (take (size rest) (drop 8 rest) ∷ records (drop (8 + size rest) rest)) []) is

-- one that does not
records_shut : (gate : ℕ) (rest : List ℕ) → counts gate rest ≡ false → records (gate ∷ rest) ≡ []
records_shut gate rest is = one_more gate rest ∙ ap (λ (b : Bool). cond b (take (size rest) (drop 8 rest) ∷ records (drop (8 + size rest) rest)) []) is

-- a byte at the end is no record
pub records_end : (gate : ℕ) → records (gate ∷ []) ≡ []
records_end gate = records_shut gate [] (false_from_ne_true (counts gate []) (λ good. let long = ltb-true (8 + size []) 0 (and_parts (gate == 1) (nat_lt (8 + size []) 0) good).1 in omega (arith, long)))

-- a closed gate ends the list
pub records_closed : (rest : List ℕ) → records (0 ∷ rest) ≡ []
records_closed rest = records_shut 0 rest (false_from_ne_true (counts 0 rest) (λ good. let one = eqb-true 0 1 (and_parts (0 == 1) (nat_lt (8 + size rest) (length rest)) good).0 in omega (arith, one)))

-- any byte but an open gate ends the list
records_other : (gate : ℕ) (rest : List ℕ) → (gate ≡ 1 → ⊥) → records (gate ∷ rest) ≡ []
records_other gate rest other = records_shut gate rest (false_from_ne_true (counts gate rest) (λ good. other (eqb-true gate 1 (and_parts (gate == 1) (nat_lt (8 + size rest) (length rest)) good).0)))

-- the file is an open gate, a length, a record of that length, and at least one byte more
pub record Opens (file bytes later : List ℕ) : Type 0 where
  pub head : List ℕ
  pub head_length : length head ≡ 8
  pub head_is : from_be_bytes w64 head ≡ length bytes
  pub split : file ≡ (1 ∷ head ++ bytes) ++ later
  pub more : 0 < length later

module _ (head bytes later : List ℕ) (eight : length head ≡ 8) (is : from_be_bytes w64 head ≡ length bytes) (more : 0 < length later) where
  abbrev body : List ℕ
  body = (head ++ bytes) ++ later

  front : take 8 body ≡ head
  front = ap (λ (l : List ℕ). take 8 l) (append_assoc head bytes later) ∙ take_at head (bytes ++ later) 8 eight

  size_is : size body ≡ length bytes
  unfolding size
  size_is = ap (λ (l : List ℕ). from_be_bytes w64 l) front ∙ is

  back : drop 8 body ≡ bytes ++ later
  back = ap (λ (l : List ℕ). drop 8 l) (append_assoc head bytes later) ∙ drop_at head (bytes ++ later) 8 eight

  counted : counts 1 body ≡ true
  counted = let long : 8 + size body < length body = omega (arith, size_is, eight, more, length-append (head ++ bytes) later, length-append head bytes) in lt-ltb (8 + size body) (length body) long

  bytes_are : take (size body) (drop 8 body) ≡ bytes
  bytes_are = ap (λ (n : ℕ). take n (drop 8 body)) size_is ∙ ap (λ (l : List ℕ). take (length bytes) l) back ∙ take_at bytes later (length bytes) refl

  later_is : drop (8 + size body) body ≡ later
  later_is = drop_at (head ++ bytes) later (8 + size body) (omega (arith, size_is, eight, length-append head bytes))

  one_opened : records (1 ∷ body) ≡ bytes ∷ records later
  one_opened = records_open 1 body counted ∙ ap (λ (b : List ℕ). b ∷ records (drop (8 + size body) body)) bytes_are ∙ ap (λ (l : List ℕ). bytes ∷ records l) later_is

-- the first record of such a file, and the others
pub opened : (file bytes later : List ℕ) → Opens file bytes later → records file ≡ bytes ∷ records later
opened file bytes later o = ap records o.split ∙ one_opened o.head bytes later o.head_length o.head_is o.more

longer : (file bytes later : List ℕ) → Opens file bytes later → length file ≡ 9 + length bytes + length later
longer file bytes later o = omega (arith, ap length o.split, o.head_length, length-append (1 ∷ o.head ++ bytes) later, length-append (1 ∷ o.head) bytes)

-- a file has no record, or it is such a file
shape : (file : List ℕ) → (records file ≡ []) ⊎ ((bytes later : List ℕ) × Opens file bytes later)
unfolding size
shape [] = inl records_none
shape (gate ∷ rest) = elim (cases_Bool (counts gate rest)) [
  | inl good ↦
      let both = and_parts (gate == 1) (nat_lt (8 + size rest) (length rest)) good in
      let one : gate ≡ 1 = eqb-true gate 1 both.0 in
      let long : 8 + size rest < length rest = ltb-true (8 + size rest) (length rest) both.1 in
      let bytes = take (size rest) (drop 8 rest) in
      let later = drop (8 + size rest) rest in
      let parts : rest ≡ (take 8 rest ++ bytes) ++ later =
      sym (take-append-drop 8 rest)
      ∙ ap (λ (l : List ℕ). take 8 rest ++ l) (sym (take-append-drop (size rest) (drop 8 rest)))
      ∙ ap (λ (l : List ℕ). take 8 rest ++ (bytes ++ l)) (drop-drop (size rest) 8 rest)
      ∙ sym (append_assoc (take 8 rest) bytes later) in
      inr (
        bytes,
        later,
        record {
          head = take 8 rest;
          head_length = length-take-le 8 rest (omega (arith, long));
          head_is = sym (length-take-le (size rest) (drop 8 rest) (omega (arith, long, length-drop 8 rest)));
          split = ap (λ (g : ℕ). g ∷ rest) one ∙ ap (λ (l : List ℕ). 1 ∷ l) parts;
          more = omega (arith, long, length-drop (8 + size rest) rest);
        },
      )
  | inr bad ↦ inl (records_shut gate rest bad)
]

begins_none : (file x : List ℕ) → records file ≡ [] → records (take (gate_after (records file)) file ++ x) ≡ records file ++ records x
begins_none file x none = ap (λ (rs : List (List ℕ)). records (take (gate_after rs) file ++ x)) none ∙ ap (λ (rs : List (List ℕ)). rs ++ records x) (sym none)

begins_open : (file x bytes later : List ℕ) → Opens file bytes later → 0 < length x → records (take (gate_after (records later)) later ++ x) ≡ records later ++ records x → records (take (gate_after (records file)) file ++ x) ≡ records file ++ records x
begins_open file x bytes later o some others =
    let rs = opened file bytes later o in
    let k = gate_after (records later) in
    let front = 1 ∷ o.head ++ bytes in
    let place : 9 + length bytes + k ≡ length front + k = omega (arith, o.head_length, length-append (1 ∷ o.head) bytes) in
    let taken : take (gate_after (records file)) file ≡ front ++ take k later =
    ap (λ (l : List (List ℕ)). take (gate_after l) file) rs ∙ ap (λ (l : List ℕ). take (9 + length bytes + k) l) o.split ∙ take_past front later (9 + length bytes + k) k place in
    let whole : take (gate_after (records file)) file ++ x ≡ front ++ (take k later ++ x) =
    ap (λ (l : List ℕ). l ++ x) taken ∙ append_assoc front (take k later) x in
    let still : Opens (front ++ (take k later ++ x)) bytes (take k later ++ x) = record {
      head = o.head;
      head_length = o.head_length;
      head_is = o.head_is;
      split = refl;
      more = omega (arith, some, length-append (take k later) x);
    } in
    ap records whole
    ∙ opened (front ++ (take k later ++ x)) bytes (take k later ++ x) still
    ∙ ap (λ (l : List (List ℕ)). bytes ∷ l) others
    ∙ ap (λ (l : List (List ℕ)). l ++ records x) (sym rs)

begins_below : (n : ℕ) (file x : List ℕ) → length file ≤ n → 0 < length x → records (take (gate_after (records file)) file ++ x) ≡ records file ++ records x
begins_below zero file x le some = elim (shape file) [
  | inl none ↦ begins_none file x none
  | inr found ↦ absurd (omega (arith, le, longer file found.0 found.1 found.2))
]
begins_below (suc n) file x le some = elim (shape file) [
  | inl none ↦ begins_none file x none
  | inr found ↦ begins_open file x found.0 found.1 found.2 some (begins_below n found.1 x (omega (arith, le, longer file found.0 found.1 found.2)) some)
]

-- other bytes in the place of the closed gate and of what stands after it
pub begins : (file x : List ℕ) → 0 < length x → records (take (gate_after (records file)) file ++ x) ≡ records file ++ records x
begins file x some = begins_below (length file) file x (omega arith) some

inside_none : (file : List ℕ) → records file ≡ [] → 0 < length file → gate_after (records file) < length file
inside_none file none some = let zero_is : gate_after (records file) ≡ 0 = ap gate_after none in omega (arith, zero_is, some)

inside_below : (n : ℕ) (file : List ℕ) → length file ≤ n → 0 < length file → gate_after (records file) < length file
inside_below zero file le some = absurd (omega (arith, le, some))
inside_below (suc n) file le some = elim (shape file) [
  | inl none ↦ inside_none file none some
  | inr found ↦
      let long = longer file found.0 found.1 found.2 in
      let others = inside_below n found.1 (omega (arith, le, long)) found.2.more in
      let is : gate_after (records file) ≡ 9 + length found.0 + gate_after (records found.1) = ap gate_after (opened file found.0 found.1 found.2) in
      omega (arith, others, is, long)
]

-- the closed gate lies inside the file, unless that is empty
pub gate_inside : (file : List ℕ) → 0 < length file → gate_after (records file) < length file
gate_inside file some = inside_below (length file) file (omega arith) some

pub gate_within : (file : List ℕ) → gate_after (records file) ≤ length file
gate_within [] = let zero_is : gate_after (records []) ≡ 0 = ap gate_after records_none in omega (arith, zero_is)
gate_within (x ∷ file) = let inside : gate_after (records (x ∷ file)) < length (x ∷ file) = gate_inside (x ∷ file) (omega arith) in omega (arith, inside)

pub gate_after_append : (before from : List (List ℕ)) → gate_after (before ++ from) ≡ gate_after before + gate_after from
gate_after_append [] from = omega arith
gate_after_append (bytes ∷ before) from = let rest = gate_after_append before from in omega (arith, rest)

-- the list of the rest of a file, from one of its gates on
pub from_gate : (before from : List (List ℕ)) (file : List ℕ) → records file ≡ before ++ from → records (drop (gate_after before) file) ≡ from
from_gate [] from file is = is
from_gate (bytes ∷ before) from file is = elim (shape file) [
  | inl none ↦ absurd (cc (none, is))
  | inr found ↦
      let o = found.2 in
      let both : found.0 ∷ records found.1 ≡ bytes ∷ (before ++ from) = sym (opened file found.0 found.1 o) ∙ is in
      let same : found.0 ≡ bytes = cc both in
      let later : records found.1 ≡ before ++ from = cc both in
      let place : 9 + length bytes + gate_after before ≡ length (1 ∷ o.head ++ found.0) + gate_after before =
      omega (arith, ap length same, o.head_length, length-append (1 ∷ o.head) found.0) in
      ap (λ (l : List ℕ). records (drop (9 + length bytes + gate_after before) l)) o.split
      ∙ ap records (drop_past (1 ∷ o.head ++ found.0) found.1 (9 + length bytes + gate_after before) (gate_after before) place)
      ∙ from_gate before from found.1 later
]

-- fewer bytes than the shortest record takes
short_none : (file : List ℕ) → length file ≤ 9 → records file ≡ []
short_none file short = elim (shape file) [
  | inl none ↦ none
  | inr found ↦ absurd (omega (arith, short, longer file found.0 found.1 found.2, found.2.more))
]

-- a whole record after an open gate, at the end of the file
pub records_block : (head bytes : List ℕ) → length head ≡ 8 → from_be_bytes w64 head ≡ length bytes → records (1 ∷ (head ++ bytes ++ 0 ∷ [])) ≡ bytes ∷ []
records_block head bytes eight is = one_opened head bytes (0 ∷ []) eight is (omega arith) ∙ ap (λ (l : List (List ℕ)). bytes ∷ l) (records_end 0)

-- any gate byte before a whole record
pub records_gate : (gate : ℕ) (head bytes : List ℕ) → length head ≡ 8 → from_be_bytes w64 head ≡ length bytes → (records (gate ∷ (head ++ bytes ++ 0 ∷ [])) ≡ []) ⊎ (records (gate ∷ (head ++ bytes ++ 0 ∷ [])) ≡ bytes ∷ [])
records_gate gate head bytes eight is = elim (cases_Bool (gate == 1)) [
  | inl good ↦ inr (ap (λ (g : ℕ). records (g ∷ (head ++ bytes ++ 0 ∷ []))) (eqb-true gate 1 good) ∙ records_block head bytes eight is)
  | inr bad ↦ inl (records_other gate (head ++ bytes ++ 0 ∷ []) (λ (one : gate ≡ 1). absurd (cc (eq-eqb gate 1 one, bad))))
]

-- what a head of the file says
head_open : (file : List ℕ) (mark len : ℕ) → IsHead file mark len → mark ≡ 1 → 9 + len < length file → records file ≡ take len (drop 9 file) ∷ records (drop len (drop 9 file))
head_open [] mark len head one long = absurd (omega (arith, long))
head_open (gate ∷ rest) mark len head one long =
    let same : size rest ≡ len = sym head.len_is in
    let is_one : gate ≡ 1 = sym head.mark_is ∙ one in
    let inside : 8 + size rest < length rest = omega (arith, long, same) in
    let good : counts gate rest ≡ true = and_from (gate == 1) (nat_lt (8 + size rest) (length rest)) (eq-eqb gate 1 is_one) (lt-ltb (8 + size rest) (length rest) inside) in
    records_open gate rest good
    ∙ ap (λ (n : ℕ). take n (drop 8 rest) ∷ records (drop (8 + n) rest)) same
    ∙ ap (λ (l : List ℕ). take len (drop 8 rest) ∷ records l) (sym (drop-drop len 8 rest))

head_shut : (file : List ℕ) (mark len : ℕ) → IsHead file mark len → (mark ≡ 1 → length file ≤ 9 + len) → records file ≡ []
head_shut [] mark len head short = records_none
head_shut (gate ∷ rest) mark len head short = records_shut gate rest (false_from_ne_true (counts gate rest) (λ good.
    let both = and_parts (gate == 1) (nat_lt (8 + size rest) (length rest)) good in
    let one : mark ≡ 1 = head.mark_is ∙ eqb-true gate 1 both.0 in
    let long : 8 + size rest < length rest = ltb-true (8 + size rest) (length rest) both.1 in
    let same : len ≡ size rest = head.len_is in
    omega (arith, long, same, short one)))

-- the same of the rest of a file from a gate on
pub next_open : (file : List ℕ) (gate mark len : ℕ) → IsHead (drop gate file) mark len → mark ≡ 1 → gate + 9 + len < length file → IsNextGate file gate (Some (gate + 9 + len))
next_open file gate mark len head one long =
    let inside : 9 + len < length (drop gate file) = omega (arith, long, length-drop gate file) in
    let found = head_open (drop gate file) mark len head one inside in
    let same : len ≡ gate + 9 + len - (gate + 9) = omega arith in (
      omega arith,
      long,
      found
          ∙ ap (λ (l : List ℕ). take len l ∷ records (drop len l)) (drop-drop 9 gate file)
          ∙ ap (λ (l : List ℕ). take len (drop (gate + 9) file) ∷ records l) (drop-drop len (gate + 9) file)
          ∙ ap (λ (n : ℕ). take n (drop (gate + 9) file) ∷ records (drop (gate + 9 + len) file)) same,
    )

pub next_shut : (file : List ℕ) (gate mark len : ℕ) → IsHead (drop gate file) mark len → (mark ≡ 1 → length file ≤ gate + 9 + len) → IsNextGate file gate None
next_shut file gate mark len head short = head_shut (drop gate file) mark len head (λ one. omega (arith, short one, length-drop gate file))

pub next_short : (file : List ℕ) (gate : ℕ) → length file ≤ gate + 9 → IsNextGate file gate None
next_short file gate short = short_none (drop gate file) (omega (arith, short, length-drop gate file))

-- the steps of the walk
pub walked_on : (file : List ℕ) (gate next : ℕ) → IsWalked file gate → IsNextGate file gate (Some next) → IsWalked file next
walked_on file gate next walked found =
    let bytes = take (next - (gate + 9)) (drop (gate + 9) file) in
    let fits : length bytes ≡ next - (gate + 9) = length-take-le (next - (gate + 9)) (drop (gate + 9) file) (omega (arith, found.1, length-drop (gate + 9) file)) in
    let is : gate_after (records (drop gate file)) ≡ 9 + length bytes + gate_after (records (drop next file)) = ap gate_after found.2 in
    omega (arith, walked, is, fits, found.0)

pub walked_all : (file : List ℕ) (gate : ℕ) → IsWalked file gate → records (drop gate file) ≡ [] → gate ≡ gate_after (records file)
walked_all file gate walked none = let is : gate_after (records (drop gate file)) ≡ 0 = ap gate_after none in omega (arith, walked, is)
