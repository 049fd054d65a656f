-- Reading the lines of a package one after the other follows the rules.
use Rattle.std.proofs.Common.{◌≡◌, ℕ, Bool, true, false, if◌then◌else◌, List, [], ◌∷◌, ◌++◌, Option, None, Some, Err, refl, sym, ap, ◌∙◌}
use Rattle.std.specs.Option.{is_some, option_or}
use Rattle.cv_base.specs.declared.fault.What.{What}
use Rattle.cv_base.specs.declared.fault.What.TheVariants.{Repeated}
use Rattle.cv_stanza.specs.code.Steps.{Agrees, or_fault}
use Rattle.cv_stanza.proofs.Values.{last_value_snoc}
use Rattle.cv_apkdb.specs.Installed.{entry_fault, rules, value_fault}
use Rattle.cv_apkdb.specs.Package.{Entry, Facts, entry_of, facts, value_by}
use Rattle.cv_apkdb.specs.code.Steps.{entry_step, line_step, steps, with_value}
use Rattle.cv_apkdb.specs.declared.letter.Letter.{Letter}
use Rattle.cv_apkdb.specs.declared.letter.Letter.TheVariants.{Name, Version, Arch, Origin, Unused}

-- the values after an entry
abbrev with_entry : Option Entry → Facts → Facts
with_entry None f = f
with_entry (Some e) f = with_value e.letter e.value f

-- the values after an entry, letter by letter
abbrev joined : Option Entry → Facts → Facts
joined e f = record {
  name = option_or (value_by Name e) f.name;
  version = option_or (value_by Version e) f.version;
  arch = option_or (value_by Arch e) f.arch;
  origin = option_or (value_by Origin e) f.origin;
}

joined_by : (letter : Letter) (v : List ℕ) (f : Facts) → joined (Some (record { letter = letter; value = v })) f ≡ with_value letter v f
joined_by Name v f = refl
joined_by Version v f = refl
joined_by Arch v f = refl
joined_by Origin v f = refl
joined_by Unused v f = refl

joined_is : (e : Option Entry) (f : Facts) → joined e f ≡ with_entry e f
joined_is None f = refl
joined_is (Some e) f = joined_by e.letter e.value f

facts_snoc : (p : List (List ℕ)) (t : List ℕ) → facts (p ++ t ∷ []) ≡ with_entry (entry_of t) (facts p)
facts_snoc p t = (λ i. record {
  name = last_value_snoc (λ t. value_by Name (entry_of t)) p t i;
  version = last_value_snoc (λ t. value_by Version (entry_of t)) p t i;
  arch = last_value_snoc (λ t. value_by Arch (entry_of t)) p t i;
  origin = last_value_snoc (λ t. value_by Origin (entry_of t)) p t i;
}) ∙ joined_is (entry_of t) (facts p)

-- a fault that is found first
either : {A : Type 0} (b : Bool) (w : Option What) (x : A) → (if b then Err Repeated else or_fault w x) ≡ or_fault (if b then Some Repeated else w) x
either true w x = refl
either false w x = refl

entry_is : (p : List (List ℕ)) (letter : Letter) (v : List ℕ) → entry_step letter v (facts p) ≡ or_fault (entry_fault p (Some (record { letter = letter; value = v }))) (with_value letter v (facts p))
entry_is p Name v = either (is_some (facts p).name) (value_fault Name v) (with_value Name v (facts p))
entry_is p Version v = either (is_some (facts p).version) (value_fault Version v) (with_value Version v (facts p))
entry_is p Arch v = either (is_some (facts p).arch) (value_fault Arch v) (with_value Arch v (facts p))
entry_is p Origin v = either (is_some (facts p).origin) (value_fault Origin v) (with_value Origin v (facts p))
entry_is p Unused v = refl

line_is : (p : List (List ℕ)) (e : Option Entry) → line_step (facts p) e ≡ or_fault (entry_fault p e) (with_entry e (facts p))
line_is p None = refl
line_is p (Some e) = entry_is p e.letter e.value

-- the steps follow the rules
pub follows : Agrees rules steps facts
follows = record {
  opening = refl;
  step = λ p t. line_is p (entry_of t) ∙ ap (or_fault (entry_fault p (entry_of t))) (sym (facts_snoc p t));
  fault = λ p. refl;
  items = λ p. refl;
  none = refl;
}
