-- Reading the lines of a paragraph one after the other follows the rules.
use Rattle.std.proofs.Common.{◌≡◌, ℕ, Bool, true, false, ◌||◌, if◌then◌else◌, not, List, [], ◌∷◌, ◌++◌, Option, None, Some, Ok, Err, refl, sym, ap, ◌∙◌}
use Rattle.std.specs.Prelude.{option_and_then}
use Rattle.std.specs.Option.{option_map_or, option_or}
use Rattle.cv_base.specs.Texts.{is_cons, is_nil, same_name}
use Rattle.cv_base.specs.declared.fault.What.TheVariants.{BadField, LooseContinuation, RepeatedField}
use Rattle.cv_stanza.specs.code.Steps.{Agrees, or_fault}
use Rattle.cv_stanza.proofs.Values.{last_value_snoc}
use Rattle.cv_dpkg.specs.Fields.{Facts, Pair, facts, field_of, is_continuation, is_name, named, origin_of, pair_in, source_name, source_version, state_of, value, value_by}
use Rattle.cv_dpkg.specs.Status.{field_fault, line_fault, rules, stands, value_fault}
use Rattle.cv_dpkg.specs.code.Steps.{State, field_after, field_step, line_step, steps, with_value}
use Rattle.cv_dpkg.specs.declared.field.Field.{Field}
use Rattle.cv_dpkg.specs.declared.field.Field.TheVariants.{Package, Status, Version, Source, Architecture, Unused}
use Rattle.cv_dpkg.specs.declared.rule.StatusRule.{StatusRule}

-- what is kept of the lines of a paragraph
abbrev pub kept : List (List ℕ) → State
kept p = record { stood = λ q. stands q p; facts = facts p; begun = is_cons p }

-- One more line.

-- what is known after a field
abbrev with_field : Option Pair → Facts → Facts
with_field None f = f
with_field (Some e) f = with_value (named e.name) e.value f

-- what is known after a field, value by value
abbrev joined : Option Pair → List (List ℕ) → Facts
joined e p = record {
  name = option_or (value_by Package e) (value Package p);
  state = option_and_then state_of (option_or (value_by Status e) (value Status p));
  version = option_or (value_by Version e) (value Version p);
  source = source_name (option_and_then origin_of (option_or (value_by Source e) (value Source p)));
  source_version = source_version (option_and_then origin_of (option_or (value_by Source e) (value Source p)));
  arch = option_or (value_by Architecture e) (value Architecture p);
}

joined_is : (e : Option Pair) (p : List (List ℕ)) → joined e p ≡ with_field e (facts p)
joined_is None p = refl
joined_is (Some e) p = by (named e.name) refl where
  by : (k : Field) → named e.name ≡ k → joined (Some e) p ≡ with_value (named e.name) e.value (facts p)
  by Package h = simp h
  by Status h = simp h
  by Version h = simp h
  by Source h = simp h
  by Architecture h = simp h
  by Unused h = simp h

facts_snoc : (p : List (List ℕ)) (t : List ℕ) → facts (p ++ t ∷ []) ≡ with_field (field_of t) (facts p)
facts_snoc p t = (λ i. record {
  name = last_value_snoc (λ t. value_by Package (field_of t)) p t i;
  state = option_and_then state_of (last_value_snoc (λ t. value_by Status (field_of t)) p t i);
  version = last_value_snoc (λ t. value_by Version (field_of t)) p t i;
  source = source_name (option_and_then origin_of (last_value_snoc (λ t. value_by Source (field_of t)) p t i));
  source_version = source_version (option_and_then origin_of (last_value_snoc (λ t. value_by Source (field_of t)) p t i));
  arch = last_value_snoc (λ t. value_by Architecture (field_of t)) p t i;
}) ∙ joined_is (field_of t) p

-- whether the name of a line is the same as this one
abbrev names : List ℕ → Option Pair → Bool
names q f = option_map_or (λ e. same_name e.name q) f false

either_by : (a b c : Bool) → (a || (if c then true else b)) ≡ (if c then true else (a || b))
either_by true b true = refl
either_by true b false = refl
either_by false b true = refl
either_by false b false = refl

alone : (b : Bool) → (b || false) ≡ (if b then true else false)
alone true = refl
alone false = refl

stands_snoc : (q : List ℕ) (p : List (List ℕ)) (t : List ℕ) → stands q (p ++ t ∷ []) ≡ (if names q (field_of t) then true else stands q p)
stands_snoc q [] t = alone (names q (field_of t))
stands_snoc q (x ∷ p) t = ap (λ b. names q (field_of x) || b) (stands_snoc q p t) ∙ either_by (names q (field_of x)) (stands q p) (names q (field_of t))

begun_snoc : (p : List (List ℕ)) (t : List ℕ) → is_cons (p ++ t ∷ []) ≡ true
begun_snoc [] t = refl
begun_snoc (x ∷ p) t = refl

-- the state after a line that is no field, and after one that is
abbrev after : State → Option Pair → State
after s None = record { stood = s.stood; facts = s.facts; begun = true }
after s (Some f) = field_after s f

after_is : (s : State) (f : Option Pair) → record { stood = λ q. if names q f then true else s.stood q; facts = with_field f s.facts; begun = true } ≡ after s f
after_is s None = refl
after_is s (Some f) = refl

kept_snoc : (p : List (List ℕ)) (t : List ℕ) → kept (p ++ t ∷ []) ≡ after (kept p) (field_of t)
kept_snoc p t = (λ i. record { stood = λ q. stands_snoc q p t i; facts = facts_snoc p t i; begun = begun_snoc p t i }) ∙ after_is (kept p) (field_of t)

-- The fault of a line.

field_is : (p : List (List ℕ)) (f : Option Pair) → field_step (kept p) f ≡ or_fault (field_fault p f) (after (kept p) f)
field_is p None = refl
field_is p (Some f) = by (is_name f.name) (stands f.name p) where
  by : (a b : Bool) → (if not a then Err BadField else (if b then Err RepeatedField else or_fault (value_fault (named f.name) f.value) (field_after (kept p) f)))
      ≡ or_fault (if not a then Some BadField else (if b then Some RepeatedField else value_fault (named f.name) f.value)) (field_after (kept p) f)
  by false b = refl
  by true true = refl
  by true false = refl

continuation_is : (p : List (List ℕ)) → (if is_cons p then Ok (kept p) else Err LooseContinuation) ≡ or_fault (if is_nil p then Some LooseContinuation else None) (after (kept p) None)
continuation_is [] = refl
continuation_is (x ∷ p) = refl

line_is : (p : List (List ℕ)) (t : List ℕ) → line_step (kept p) t ≡ or_fault (line_fault p t) (kept (p ++ t ∷ []))
line_is p t = by (is_continuation t) ∙ ap (or_fault (line_fault p t)) (sym (kept_snoc p t)) where
  by : (b : Bool) → (if b then (if is_cons p then Ok (kept p) else Err LooseContinuation) else field_step (kept p) (pair_in t))
      ≡ or_fault (if b then (if is_nil p then Some LooseContinuation else None) else field_fault p (if b then None else pair_in t)) (after (kept p) (if b then None else pair_in t))
  by true = continuation_is p
  by false = field_is p (pair_in t)

-- the steps follow the rules
pub follows : (rule : StatusRule) → Agrees (rules rule) (steps rule) kept
follows rule = record { opening = refl; step = line_is; fault = λ p. refl; items = λ p. refl; none = refl }
