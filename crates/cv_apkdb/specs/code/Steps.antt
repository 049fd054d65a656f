-- How the lines of a package are read one after the other, and what the code holds meanwhile.
use Rattle.std.specs.Prelude.{ℕ, if◌then◌else◌, List, Option, None, Some, Result, Err}
use Rattle.std.specs.Option.{is_some, option_map}
use Rattle.cv_base.specs.declared.fault.What.{What}
use Rattle.cv_base.specs.declared.fault.What.TheVariants.{NoColon, Repeated}
use Rattle.cv_stanza.specs.code.Steps.{BlockSteps, or_fault}
use Rattle.cv_apkdb.specs.Installed.{value_fault, whole_fault}
use Rattle.cv_apkdb.specs.Package.{Entry, Facts, entry_of, package_in}
use Rattle.cv_apkdb.specs.declared.facts.Facts as declared
use Rattle.cv_apkdb.specs.declared.letter.Entry as line
use Rattle.cv_apkdb.specs.declared.letter.Letter.{Letter}
use Rattle.cv_apkdb.specs.declared.letter.Letter.TheVariants.{Arch, Name, Origin, Unused, Version}
use Rattle.cv_apkdb.specs.declared.package.ApkPackage.{ApkPackage}

-- an entry as the code holds it
abbrev pub entry_view : line.Entry → Entry
entry_view e = record { letter = e.letter; value = e.value.now }

-- the values of the used letters, as the code holds them
abbrev pub facts_view : declared.Facts → Facts
facts_view f = record {
  name = option_map (λ x. x.now) f.name;
  version = option_map (λ x. x.now) f.version;
  arch = option_map (λ x. x.now) f.arch;
  origin = option_map (λ x. x.now) f.origin;
}

-- no values
abbrev pub nothing : Facts
nothing = record { name = None; version = None; arch = None; origin = None }

-- the value of a used letter so far
abbrev pub value_in : Letter → Facts → Option (List ℕ)
value_in Name f = f.name
value_in Version f = f.version
value_in Arch f = f.arch
value_in Origin f = f.origin
value_in Unused f = None

-- the values with one more
abbrev pub with_value : Letter → List ℕ → Facts → Facts
with_value Name v f = record { name = Some v; version = f.version; arch = f.arch; origin = f.origin }
with_value Version v f = record { name = f.name; version = Some v; arch = f.arch; origin = f.origin }
with_value Arch v f = record { name = f.name; version = f.version; arch = Some v; origin = f.origin }
with_value Origin v f = record { name = f.name; version = f.version; arch = f.arch; origin = Some v }
with_value Unused v f = f

-- a value of a letter that may have one already
abbrev pub new_value : Letter → Option (List ℕ) → List ℕ → Result (List ℕ) What
new_value letter before v = if is_some before then Err Repeated else or_fault (value_fault letter v) v

-- one more entry
abbrev pub entry_step : Letter → List ℕ → Facts → Result Facts What
entry_step letter v f = if is_some (value_in letter f) then Err Repeated else or_fault (value_fault letter v) (with_value letter v f)

-- one more line
abbrev pub line_step : Facts → Option Entry → Result Facts What
line_step f None = Err NoColon
line_step f (Some e) = entry_step e.letter e.value f

-- a package line by line
abbrev pub steps : BlockSteps Facts ApkPackage
steps = record { opening = nothing; step = λ f line. line_step f (entry_of line); fault = whole_fault; items = package_in }
