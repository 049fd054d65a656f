-- What clap's calls answer is what its meaning of a simple command says.
use Rattle.std.proofs.Common.{◌≡◌, ℕ, Bool, true, false, List, [], ◌∷◌, length, refl, sym, ◌∙◌, ap, inl, inr, cond}
use Rattle.std.specs.Prelude.{◌≢◌, ◌&&◌, Option, Some, None, Result, Ok, Err, nat_lt, option_and_then}
use Rattle.std.specs.Char.{digit_value}
use Rattle.std.specs.List.{list_all}
use Rattle.std.specs.Str.Parse.{AllDigits, ParsesUnsigned, digits_value, without_leading_plus}
use Rattle.std.proofs.lemmas.Bool.{ltb-true, lt-ltb}
use Rattle.clap.specs.Faults.{fault_of, is_simple_and_free}
use Rattle.clap.specs.Kinds.{HasKind, Kinds}
use Rattle.clap.specs.Matches.{ReadsOne}
use Rattle.clap.specs.Simple.{App, is_simple, matches_of}
use Rattle.clap.specs.ValueTests.{is_numeral}
use Rattle.clap.specs.Values.{kind_of}
use Rattle.clap.specs.Walk.{Row, Text}
use Rattle.clap.specs.declared.error.Error.{Error}
use Rattle.clap.specs.declared.error.kind.ErrorKind.TheVariants as kind
use Rattle.clap.proofs.WalkLemmas.{both}
use Rattle.cv_command_arguments.specs.Simple.{is_quiet, is_taken, number, rows_by}

not_quiet : (kinds : Kinds) (e : Error) → HasKind kinds e → kind_of e ≢ kind.OutOfMemory → is_quiet kinds ≡ false
not_quiet [] e (inl h) other = absurd (other h)
not_quiet [] e (inr h) other = absurd h
not_quiet (k ∷ ks) e h other = refl

quiet : (kinds : Kinds) → kinds ≡ [] → is_quiet kinds ≡ true
quiet [] e = refl
quiet (k ∷ ks) e = cc

by_fault : (app : App) (arguments : List Text) (b : Bool) → is_taken app arguments ≡ b → rows_by app arguments ≡ cond b (Some (matches_of app arguments)) None
unfolding rows_by
by_fault app arguments b e = rw e refl

-- an error other than out of memory says that the arguments are not taken
pub not_taken : (app : App) (arguments : List Text) (e : Error) → is_simple_and_free app ≡ true → (is_simple_and_free app ≡ true → HasKind (fault_of app arguments) e)
    → kind_of e ≢ kind.OutOfMemory → None ≡ rows_by app arguments
not_taken app arguments e simple h other = sym (by_fault app arguments false (not_quiet (fault_of app arguments) e (h simple) other))

-- without an error they are taken, and the matches are those of the meaning
pub taken : {X : Type 0} (app : App) (arguments : List Text) (rows : List Row) → is_simple_and_free app ≡ true → (is_simple_and_free app ≡ true → fault_of app arguments ≡ [])
    → (is_simple app ≡ true → (rows ≡ matches_of app arguments) × X) → Some rows ≡ rows_by app arguments
taken app arguments rows simple none same =
    ap Some (same (both _ _ simple).0).0 ∙ sym (by_fault app arguments true (quiet (fault_of app arguments) (none simple)))

digits_pass : (ds : List ℕ) → AllDigits 10 ds → list_all (λ d. nat_lt (digit_value d) 10) ds ≡ true
digits_pass [] h = refl
digits_pass (d ∷ ds) h = rw (lt-ltb (digit_value d) 10 h.0) (digits_pass ds h.1)

digits_from : (ds : List ℕ) → list_all (λ d. nat_lt (digit_value d) 10) ds ≡ true → AllDigits 10 ds
digits_from [] e = tt
digits_from (d ∷ ds) e =
    let parts = both _ _ e in
    (ltb-true _ _ parts.0, digits_from ds parts.1)

abbrev is_number : List ℕ → Bool
is_number ds = is_numeral ds && nat_lt (digits_value 10 ds) 4294967296

abbrev option_of : {E : Type 0} → Result ℕ E → Option ℕ
option_of (Ok n) = Some n
option_of (Err e) = None

-- a text that was read as a number is that number, and one that was not is none
number_read : {E : Type 0} (text : Text) (r : Result ℕ E) → ParsesUnsigned 32 10 text r → number text ≡ option_of r
number_read text (Ok n) h =
    let ds = without_leading_plus text in
    rw (lt-ltb 0 (length ds) h.0.0.0, digits_pass ds h.0.0.1, lt-ltb (digits_value 10 ds) 4294967296 h.0.1) (ap Some (sym h.1))
number_read text (Err e) h = go (is_number (without_leading_plus text)) refl
  where
    go : (b : Bool) → is_number (without_leading_plus text) ≡ b → number text ≡ None
    go false t = rw t refl
    go true t =
        let outer = both _ _ t in
        let inner = both _ _ outer.0 in
        absurd (h ((ltb-true _ _ inner.0, digits_from (without_leading_plus text) inner.1), ltb-true _ _ outer.1))

-- what a getter reads of a text as a number
pub got_number : {E : Type 0} (G : List ℕ → Result ℕ E → Type 0) (found : Option Text) (r : Option ℕ)
    → ((t : List ℕ) (x : Result ℕ E) → G t x → ParsesUnsigned 32 10 t x) → (found ≡ None → r ≡ None) → ((t : List ℕ) → found ≡ Some t → ReadsOne G t r)
    → r ≡ option_and_then number found
got_number {E} G None r only none some = none refl
got_number {E} G (Some t) (Some n) only none some = sym (number_read {E = E} t (Ok n) (only t (Ok n) (some t refl)))
got_number {E} G (Some t) None only none some =
    let read = some t refl in
    sym (number_read {E = E} t (Err read.0) (only t (Err read.0) read.1))
