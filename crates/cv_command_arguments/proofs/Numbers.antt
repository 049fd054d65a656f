-- A text is read as a number if clap accepts it as one.
use Rattle.std.proofs.Common.{◌≡◌, ℕ, ◌<◌, ◌≤◌, Bool, true, false, refl, ◌∙◌, ap, arith, subst, cond}
use Rattle.std.specs.Prelude.{◌&&◌, Option, Some, None, is_some, nat_le, nat_lt, option_and_then}
use Rattle.std.specs.Str.Parse.{digits_value, without_leading_plus}
use Rattle.std.proofs.lemmas.Bool.{leb-true, lt-ltb}
use Rattle.clap.specs.ValueTests.{is_numeral, is_unsigned_in}
use Rattle.clap.specs.Walk.{Text}
use Rattle.cv_command_arguments.specs.Simple.{number, number_in, within}
use Rattle.cv_command_arguments.proofs.Options.{and_then_cond}

tests : (n : ℕ) (a b c d e : Bool) → (e ≡ true → b ≡ true) → (e ≡ true → c ≡ true) → is_some (cond (a && b) (cond (d && e) (Some n) None) None) ≡ (a && (c && (d && e)))
tests n false b c d e h k = refl
tests n true true true d e h k = go (d && e)
  where
    go : (x : Bool) → is_some (cond x (Some n) None) ≡ x
    go true = refl
    go false = refl
tests n true true false true false h k = refl
tests n true true false false e h k = refl
tests n true true false true true h k = absurd (cc (k refl))
tests n true false c d true h k = absurd (cc (h refl))
tests n true false true true false h k = refl
tests n true false true false false h k = refl
tests n true false false d false h k = refl

pub number_accepted : (least most : ℕ) (text : Text) → most < 4294967296 → is_some (number_in least most (Some text)) ≡ is_unsigned_in least most text
number_accepted least most text small =
    let digits = without_leading_plus text in
    let n = digits_value 10 digits in
    ap is_some (and_then_cond (within least most) (is_numeral digits && nat_lt n 4294967296) n)
    ∙ tests n (is_numeral digits) (nat_lt n 4294967296) (nat_lt n 18446744073709551616) (nat_le least n) (nat_le n most)
    (λ e. let below : n ≤ most = leb-true _ _ e in lt-ltb n 4294967296 (omega arith))
    (λ e. let below : n ≤ most = leb-true _ _ e in lt-ltb n 18446744073709551616 (omega arith))

-- a number that is read stands between its bounds
pub number_within : (least most : ℕ) (text : Option Text) (n : ℕ) → number_in least most text ≡ Some n → (least ≤ n) × (n ≤ most)
number_within least most text n h = by_number (option_and_then number text) h
  where
    by_bounds : (m : ℕ) (low high : Bool) → nat_le least m ≡ low → nat_le m most ≡ high → cond (low && high) (Some m) None ≡ Some n → (least ≤ n) × (n ≤ most)
    by_bounds m true true l e h =
        let same : m ≡ n = cc h in
        (subst (λ x. least ≤ x) same (leb-true _ _ l), subst (λ x. x ≤ most) same (leb-true _ _ e))
    by_bounds m true false l e h = absurd (cc h)
    by_bounds m false high l e h = absurd (cc h)

    by_number : (found : Option ℕ) → option_and_then (within least most) found ≡ Some n → (least ≤ n) × (n ≤ most)
    by_number None h = absurd (cc h)
    by_number (Some m) h = by_bounds m (nat_le least m) (nat_le m most) refl refl h
