-- How the lines of a paragraph are read one after the other, and what the code holds meanwhile.
use Rattle.std.specs.Prelude.{ℕ, Bool, true, false, if◌then◌else◌, not, List, Option, None, Some, Result, Ok, Err}
use Rattle.std.specs.BTreeSet.{BTreeSet}
use Rattle.std.specs.List.{list_any}
use Rattle.std.specs.Option.{option_map}
use Rattle.std.specs.Ordering.{is_eq}
use Rattle.cv_base.specs.declared.fault.What.{What}
use Rattle.cv_base.specs.declared.fault.What.TheVariants.{BadField, LooseContinuation, NoColon, RepeatedField}
use Rattle.cv_stanza.specs.code.Steps.{BlockSteps, or_fault}
use Rattle.cv_base.specs.Texts.{same_name}
use Rattle.cv_dpkg.specs.Fields.{Facts, Origin, Pair, is_continuation, is_name, named, origin_of, pair_in, source_name, source_version, state_of}
use Rattle.cv_dpkg.specs.Status.{package_in, value_fault, whole_fault}
use Rattle.cv_dpkg.specs.code.Names.{name_cmp}
use Rattle.cv_dpkg.specs.declared.facts.Facts as declared
use Rattle.cv_dpkg.specs.declared.field.Field.{Field}
use Rattle.cv_dpkg.specs.declared.field.Field.TheVariants.{Architecture, Package, Source, Status, Unused, Version}
use Rattle.cv_dpkg.specs.declared.names.FieldName.{FieldName}
use Rattle.cv_dpkg.specs.declared.package.DebPackage.{DebPackage}
use Rattle.cv_dpkg.specs.declared.paragraph.Paragraph.{Paragraph}
use Rattle.cv_dpkg.specs.declared.rule.StatusRule.{StatusRule}
use Rattle.cv_dpkg.specs.declared.value.Source as parts

-- a value of Source as the code holds it
abbrev pub source_view : parts.Source → Origin
source_view s = record { name = option_map (λ t. t.now) s.name; version = option_map (λ t. t.now) s.version }

-- what the lines say, as the code holds it
abbrev pub facts_view : declared.Facts → Facts
facts_view f = record {
  name = option_map (λ x. x.now) f.name;
  state = option_map (λ x. x.now) f.state;
  version = option_map (λ x. x.now) f.version;
  source = option_map (λ x. x.now) f.source;
  source_version = option_map (λ x. x.now) f.source_version;
  arch = option_map (λ x. x.now) f.arch;
}

-- whether a name is among those that stood
abbrev pub stood_in : BTreeSet FieldName → List ℕ → Bool
stood_in names q = list_any (λ x. is_eq (name_cmp q x.text.now)) names.keys

-- a paragraph so far: whether a name stood in it, what its lines say, and whether it has a line
pub record State : Type 0 where
  pub stood : List ℕ → Bool
  pub facts : Facts
  pub begun : Bool

-- a paragraph as the code holds it
abbrev pub state_view : Paragraph → State
state_view p = record { stood = stood_in p.names; facts = facts_view p.facts; begun = p.begun }

-- no values
abbrev pub nothing : Facts
nothing = record { name = None; state = None; version = None; source = None; source_version = None; arch = None }

-- before the first line of a paragraph
abbrev pub opening : State
opening = record { stood = λ q. false; facts = nothing; begun = false }

-- one more name
abbrev pub with_name : List ℕ → (List ℕ → Bool) → List ℕ → Bool
with_name name stood q = if same_name name q then true else stood q

-- what is known with the value of one more field
abbrev pub with_value : Field → List ℕ → Facts → Facts
with_value Package v f = record { name = Some v; state = f.state; version = f.version; source = f.source; source_version = f.source_version; arch = f.arch }
with_value Status v f = record { name = f.name; state = state_of v; version = f.version; source = f.source; source_version = f.source_version; arch = f.arch }
with_value Version v f = record { name = f.name; state = f.state; version = Some v; source = f.source; source_version = f.source_version; arch = f.arch }
with_value Source v f = record { name = f.name; state = f.state; version = f.version; source = source_name (origin_of v); source_version = source_version (origin_of v); arch = f.arch }
with_value Architecture v f = record { name = f.name; state = f.state; version = f.version; source = f.source; source_version = f.source_version; arch = Some v }
with_value Unused v f = f

-- one more value, or its fault
abbrev pub value_step : Field → List ℕ → Facts → Result Facts What
value_step field v f = or_fault (value_fault field v) (with_value field v f)

-- the state after a field
abbrev pub field_after : State → Pair → State
field_after s f = record { stood = with_name f.name s.stood; facts = with_value (named f.name) f.value s.facts; begun = true }

-- a field, or a line without a colon
abbrev pub field_step : State → Option Pair → Result State What
field_step s None = Err NoColon
field_step s (Some f) =
    if not (is_name f.name) then Err BadField
    else (if s.stood f.name then Err RepeatedField
    else or_fault (value_fault (named f.name) f.value) (field_after s f))

-- one more line
abbrev pub line_step : State → List ℕ → Result State What
line_step s line = if is_continuation line then (if s.begun then Ok s else Err LooseContinuation) else field_step s (pair_in line)

-- a paragraph line by line
abbrev pub steps : StatusRule → BlockSteps State DebPackage
steps rule = record { opening = opening; step = line_step; fault = λ s. whole_fault rule s.facts; items = λ s. package_in s.facts }
