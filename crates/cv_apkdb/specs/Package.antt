-- The lines of a package in apk's installed database (Alpine wiki, "Apk spec", installed database v2), as this project reads
-- them. The letters P (name), V (version), A (architecture) and o (origin) are used, all others ignored.
use Rattle.std.specs.Prelude.{ℕ, Bool, true, false, ◌==◌, if◌then◌else◌, List, [], ◌∷◌, Option, None, Some, option_and_then, unwrap_or}
use Rattle.cv_base.specs.Texts.{filled}
use Rattle.cv_stanza.specs.Values.{last_value}
use Rattle.cv_apkdb.specs.declared.letter.Letter.{Letter}
use Rattle.cv_apkdb.specs.declared.letter.Letter.TheVariants.{Name, Version, Arch, Origin, Unused}
use Rattle.cv_apkdb.specs.declared.package.ApkPackage.{ApkPackage}

-- what a letter stands for: P, V, A and o
abbrev pub letter_of : ℕ → Letter
letter_of byte =
    if byte == 80 then Name
    else (if byte == 86 then Version
    else (if byte == 65 then Arch
    else (if byte == 111 then Origin else Unused)))

-- a letter with its value
pub record Entry : Type 0 where
  pub letter : Letter
  pub value : List ℕ

-- the entry that a line is: one byte, a colon and the value
abbrev pub entry_of : List ℕ → Option Entry
entry_of [] = None
entry_of (x ∷ []) = None
entry_of (x ∷ y ∷ value) = if y == 58 then Some (record { letter = letter_of x; value = value }) else None

-- whether a letter is used
abbrev pub is_used : Letter → Bool
is_used Name = true
is_used Version = true
is_used Arch = true
is_used Origin = true
is_used Unused = false

-- the index of a letter
abbrev pub index : Letter → ℕ
index Name = 0
index Version = 1
index Arch = 2
index Origin = 3
index Unused = 4

-- the value that an entry gives to a letter
abbrev pub value_by : Letter → Option Entry → Option (List ℕ)
value_by letter None = None
value_by letter (Some e) = if index e.letter == index letter then Some e.value else None

-- the value of a letter among lines. (No used letter stands twice where there is no fault.)
abbrev pub value : Letter → List (List ℕ) → Option (List ℕ)
value letter lines = last_value (λ t. value_by letter (entry_of t)) lines

-- the values of the used letters
pub record Facts : Type 0 where
  pub name : Option (List ℕ)
  pub version : Option (List ℕ)
  pub arch : Option (List ℕ)
  pub origin : Option (List ℕ)

-- the values of the used letters among lines
abbrev pub facts : List (List ℕ) → Facts
facts lines = record { name = value Name lines; version = value Version lines; arch = value Arch lines; origin = value Origin lines }

-- a package with its name and version. An absent architecture is the empty text. An absent or empty origin is the name.
abbrev pub package_of : List ℕ → List ℕ → Facts → ApkPackage
package_of n v f = record { name = n; version = v; arch = unwrap_or f.arch []; origin = unwrap_or (option_and_then filled f.origin) n }

-- a package that has a name and a version, which each one has where there is no fault
abbrev pub package_by : Option (List ℕ) → Option (List ℕ) → Facts → List ApkPackage
package_by None version f = []
package_by (Some n) None f = []
package_by (Some n) (Some v) f = package_of n v f ∷ []

-- the package of these values
abbrev pub package_in : Facts → List ApkPackage
package_in f = package_by f.name f.version f
