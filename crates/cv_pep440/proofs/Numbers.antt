-- The numbers of a release, one after the other, and releases compared without the zeros at their ends.
use Rattle.std.proofs.Common.{◌≡◌, ℕ, suc, Bool, true, false, ◌&&◌, ◌==◌, ◌<◌, ◌≤◌, List, [], ◌∷◌, length, refl, ap, sym, ◌∙◌, arith}
use Rattle.std.specs.declared.cmp.Ordering.{Ordering}
use Rattle.std.specs.declared.cmp.Ordering.TheVariants.{Less, Equal, Greater}
use Rattle.std.specs.Ordering.{nat_cmp, ordering_then}
use Rattle.std.specs.Cmp.{nat_cmp_is}
use Rattle.std.specs.Cmp.Lexicographic.{slice_cmp}
use Rattle.std.specs.List.{onto_first}
use Rattle.cv_order.specs.Digits.{is_digit, front_digits, after_digits, without_zeros, run_cmp, number_cmp}
use Rattle.cv_order.specs.Filled.{filled_cmp}
use Rattle.cv_order.proofs.Places.{length-after_while}
use Rattle.cv_pep440.specs.Bytes.{DOT}
use Rattle.cv_pep440.specs.Parts.{begins_with_digit, release_of}
use Rattle.cv_pep440.specs.Order.{is_zero, release_cmp, unless_last_zero, without_last_zeros}
use Rattle.cv_pep440.specs.code.Walk.{next_number, places_cmp}

-- the numbers after the first one
abbrev more_by : Bool → List ℕ → List (List ℕ)
more_by true cs = release_of cs
more_by false cs = []

abbrev more_of : List ℕ → List (List ℕ)
more_of [] = []
more_of (c ∷ cs) = more_by (c == DOT && begins_with_digit cs) cs

number_step : (c : ℕ) (cs : List ℕ) (digit dot : Bool) → is_digit c ≡ digit → (c == DOT && begins_with_digit cs) ≡ dot → release_of cs ≡ front_digits cs ∷ more_of (after_digits cs)
    → release_of (c ∷ cs) ≡ front_digits (c ∷ cs) ∷ more_of (after_digits (c ∷ cs))
number_step c cs true dot e d ih = simp e (ap (onto_first c) ih)
number_step c cs false true e d ih = simp (e, d)
number_step c cs false false e d ih = simp (e, d)

-- the first number, and the numbers after it
numbers_cut : (text : List ℕ) → release_of text ≡ front_digits text ∷ more_of (after_digits text)
numbers_cut [] = refl
numbers_cut (c ∷ cs) = number_step c cs (is_digit c) (c == DOT && begins_with_digit cs) refl refl (numbers_cut cs)

-- the empty number is the filler
filler_left : (ys : List (List ℕ)) → filled_cmp number_cmp [] ([] ∷ []) ys ≡ filled_cmp number_cmp [] [] ys
filler_left [] = refl
filler_left (y ∷ ys) = refl

filler_right : (xs : List (List ℕ)) → filled_cmp number_cmp [] xs ([] ∷ []) ≡ filled_cmp number_cmp [] xs []
filler_right [] = refl
filler_right (x ∷ xs) = refl

next_by : (c : ℕ) (cs : List ℕ) (dot : Bool) → (c == DOT && begins_with_digit cs) ≡ dot → (ys : List (List ℕ)) → filled_cmp number_cmp [] (release_of (next_number (c ∷ cs))) ys ≡ filled_cmp number_cmp [] (more_of (c ∷ cs)) ys
next_by c cs true d ys = simp d
next_by c cs false d ys = simp d (filler_left ys)

next_left : (rest : List ℕ) (ys : List (List ℕ)) → filled_cmp number_cmp [] (release_of (next_number rest)) ys ≡ filled_cmp number_cmp [] (more_of rest) ys
next_left [] ys = filler_left ys
next_left (c ∷ cs) ys = next_by c cs (c == DOT && begins_with_digit cs) refl ys

next_at : (c : ℕ) (cs : List ℕ) (dot : Bool) → (c == DOT && begins_with_digit cs) ≡ dot → (xs : List (List ℕ)) → filled_cmp number_cmp [] xs (release_of (next_number (c ∷ cs))) ≡ filled_cmp number_cmp [] xs (more_of (c ∷ cs))
next_at c cs true d xs = simp d
next_at c cs false d xs = simp d (filler_right xs)

next_right : (rest : List ℕ) (xs : List (List ℕ)) → filled_cmp number_cmp [] xs (release_of (next_number rest)) ≡ filled_cmp number_cmp [] xs (more_of rest)
next_right [] xs = filler_right xs
next_right (c ∷ cs) xs = next_at c cs (c == DOT && begins_with_digit cs) refl xs

-- the first numbers decide, and then those after them
pub places_cmp_number : (a b : List ℕ) → places_cmp a b
    ≡ ordering_then (number_cmp (front_digits a) (front_digits b)) (places_cmp (next_number (after_digits a)) (next_number (after_digits b)))
places_cmp_number a b =
    rw (numbers_cut a, numbers_cut b)
    (ap (λ more. ordering_then (number_cmp (front_digits a) (front_digits b)) more)
    (sym (next_left (after_digits a) (release_of (next_number (after_digits b))) ∙ next_right (after_digits b) (more_of (after_digits a)))))

-- what remains to read
next_len : (c : ℕ) (cs : List ℕ) (dot : Bool) → (c == DOT && begins_with_digit cs) ≡ dot → length (next_number (c ∷ cs)) < length (c ∷ cs)
next_len c cs true d = simp d (omega arith)
next_len c cs false d = simp d (omega arith)

next_shorter : (rest : List ℕ) (n : ℕ) → length rest ≤ n → 0 < n → length (next_number rest) < n
next_shorter [] n h k = k
next_shorter (c ∷ cs) n h k = let less = next_len c cs (c == DOT && begins_with_digit cs) refl in omega (arith, h, less)

next_no_longer : (rest : List ℕ) → length (next_number rest) ≤ length rest
next_no_longer [] = omega arith
next_no_longer (c ∷ cs) = let less = next_len c cs (c == DOT && begins_with_digit cs) refl in omega (arith, less)

-- the next number leaves less to read
pub next_number_shorter : (text : List ℕ) → 0 < length text → length (next_number (after_digits text)) < length text
next_number_shorter text some = next_shorter (after_digits text) (length text) (length-after_while is_digit text) some

pub next_number_no_longer : (text : List ℕ) → length (next_number (after_digits text)) ≤ length text
next_number_no_longer text = omega (arith, next_no_longer (after_digits text), length-after_while is_digit text)

pub ruleset places = (places_cmp_number, next_number_shorter, next_number_no_longer)

abbrev is_nil : List ℕ → Bool
is_nil [] = true
is_nil (c ∷ cs) = false

-- the digits are zeros where none is left without those that lead
nil_step : (c : ℕ) (cs : List ℕ) (zero : Bool) → (c == 48) ≡ zero → is_zero cs ≡ is_nil (without_zeros cs) → is_zero (c ∷ cs) ≡ is_nil (without_zeros (c ∷ cs))
nil_step c cs true e ih = simp e ih
nil_step c cs false e ih = simp e

zero_nil : (digits : List ℕ) → is_zero digits ≡ is_nil (without_zeros digits)
zero_nil [] = refl
zero_nil (c ∷ cs) = nil_step c cs (c == 48) refl (zero_nil cs)

zero_by : (x z : List ℕ) → without_zeros x ≡ z → is_zero x ≡ true → without_zeros x ≡ []
zero_by x [] e h = e
zero_by x (d ∷ ds) e h = let no : is_zero x ≡ false = zero_nil x ∙ ap is_nil e in absurd (cc (no, h))

zero_is : (x : List ℕ) → is_zero x ≡ true → without_zeros x ≡ []
zero_is x h = zero_by x (without_zeros x) refl h

-- a zero compares as the empty number
zero_left : (x y : List ℕ) → is_zero x ≡ true → number_cmp x y ≡ number_cmp [] y
zero_left x y h = ap (λ r. run_cmp r (without_zeros y)) (zero_is x h)

zero_right : (x y : List ℕ) → is_zero y ≡ true → number_cmp x y ≡ number_cmp x []
zero_right x y h = ap (λ r. run_cmp (without_zeros x) r) (zero_is y h)

-- the empty number is at most any other, and less than one that is no zero
less_length : (n : ℕ) → nat_cmp 0 (suc n) ≡ Less
less_length n = sym (nat_cmp_is 0 (suc n) Less (omega arith))

greater_length : (n : ℕ) → nat_cmp (suc n) 0 ≡ Greater
greater_length n = sym (nat_cmp_is (suc n) 0 Greater (omega arith))

less_run : (d : ℕ) (ds : List ℕ) → run_cmp [] (d ∷ ds) ≡ Less
less_run d ds = ap (λ o. ordering_then o Less) (less_length (length ds))

greater_run : (d : ℕ) (ds : List ℕ) → run_cmp (d ∷ ds) [] ≡ Greater
greater_run d ds = ap (λ o. ordering_then o Greater) (greater_length (length ds))

below_run : (z : List ℕ) → ordering_then (run_cmp [] z) Less ≡ Less
below_run [] = refl
below_run (d ∷ ds) = ap (λ o. ordering_then o Less) (less_run d ds)

above_run : (z : List ℕ) → ordering_then (run_cmp z []) Greater ≡ Greater
above_run [] = refl
above_run (d ∷ ds) = ap (λ o. ordering_then o Greater) (greater_run d ds)

less_by : (y z : List ℕ) → without_zeros y ≡ z → is_zero y ≡ false → number_cmp [] y ≡ Less
less_by y [] e h = let no : is_zero y ≡ true = zero_nil y ∙ ap is_nil e in absurd (cc (no, h))
less_by y (d ∷ ds) e h = ap (run_cmp []) e ∙ less_run d ds

greater_by : (x z : List ℕ) → without_zeros x ≡ z → is_zero x ≡ false → number_cmp x [] ≡ Greater
greater_by x [] e h = let no : is_zero x ≡ true = zero_nil x ∙ ap is_nil e in absurd (cc (no, h))
greater_by x (d ∷ ds) e h = ap (λ r. run_cmp r []) e ∙ greater_run d ds

then_is : (r s t : Ordering) → r ≡ s → ordering_then r t ≡ ordering_then s t
then_is r s t e = ap (λ o. ordering_then o t) e

-- one more number at the front of each
both_ended : (x y : List ℕ) (zero_x zero_y : Bool) → is_zero x ≡ zero_x → is_zero y ≡ zero_y
    → slice_cmp number_cmp (unless_last_zero x []) (unless_last_zero y []) ≡ ordering_then (number_cmp x y) Equal
both_ended x y true true e f = simp (e, f) (sym (then_is (number_cmp x y) Equal Equal (zero_left x y e ∙ zero_right [] y f)))
both_ended x y true false e f = simp (e, f) (sym (then_is (number_cmp x y) Less Equal (zero_left x y e ∙ less_by y (without_zeros y) refl f)))
both_ended x y false true e f = simp (e, f) (sym (then_is (number_cmp x y) Greater Equal (zero_right x y f ∙ greater_by x (without_zeros x) refl e)))
both_ended x y false false e f = simp (e, f)

left_ended : (x y q : List ℕ) (qs : List (List ℕ)) (zero : Bool) → is_zero x ≡ zero → slice_cmp number_cmp (unless_last_zero x []) (y ∷ q ∷ qs) ≡ ordering_then (number_cmp x y) Less
left_ended x y q qs true e = simp e (sym (then_is (number_cmp x y) (number_cmp [] y) Less (zero_left x y e) ∙ below_run (without_zeros y)))
left_ended x y q qs false e = simp e

right_ended : (x y p : List ℕ) (ps : List (List ℕ)) (zero : Bool) → is_zero y ≡ zero → slice_cmp number_cmp (x ∷ p ∷ ps) (unless_last_zero y []) ≡ ordering_then (number_cmp x y) Greater
right_ended x y p ps true e = simp e (sym (then_is (number_cmp x y) (number_cmp x []) Greater (zero_right x y e) ∙ above_run (without_zeros x)))
right_ended x y p ps false e = simp e

front_number : (x y : List ℕ) (ps qs : List (List ℕ)) → slice_cmp number_cmp (unless_last_zero x ps) (unless_last_zero y qs) ≡ ordering_then (number_cmp x y) (slice_cmp number_cmp ps qs)
front_number x y [] [] = both_ended x y (is_zero x) (is_zero y) refl refl
front_number x y [] (q ∷ qs) = left_ended x y q qs (is_zero x) refl
front_number x y (p ∷ ps) [] = right_ended x y p ps (is_zero y) refl
front_number x y (p ∷ ps) (q ∷ qs) = refl

-- without the zeros at the ends, or with zeros for ever, it is the same
filled_is : (xs ys : List (List ℕ)) → release_cmp xs ys ≡ filled_cmp number_cmp [] xs ys
filled_is [] [] = refl
filled_is [] (y ∷ ys) = front_number [] y [] (without_last_zeros ys) ∙ ap (ordering_then (number_cmp [] y)) (filled_is [] ys)
filled_is (x ∷ xs) [] = front_number x [] (without_last_zeros xs) [] ∙ ap (ordering_then (number_cmp x [])) (filled_is xs [])
filled_is (x ∷ xs) (y ∷ ys) = front_number x y (without_last_zeros xs) (without_last_zeros ys) ∙ ap (ordering_then (number_cmp x y)) (filled_is xs ys)

pub release_cmp_places : (a b : List ℕ) → release_cmp (release_of a) (release_of b) ≡ places_cmp a b
release_cmp_places a b = filled_is (release_of a) (release_of b)
