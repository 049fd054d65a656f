-- Records that are prepared at their first use: a slot for each record of a feed, which is empty until then.
use Rattle.std.specs.Prelude.{◌≡◌, List, Option, None, IfSome}
use Rattle.std.specs.List.{AllZip}
use Rattle.cv_base.specs.declared.advisory.Advisory.{Advisory}
use Rattle.cv_base.specs.declared.«package».PackageKind.{PackageKind}
use Rattle.cv_base.specs.declared.«package».PackageKind.TheVariants.{Deb, Apk, Npm, Pypi}
use Rattle.cv_match.specs.Prepared.{Prepared, prepared_for}
use Rattle.cv_match_feed.specs.declared.slots.SlotsByKind.{SlotsByKind}

-- an empty slot for a record
abbrev pub no_slot : Advisory → Option Prepared
no_slot a = None

-- a slot is empty, or holds this record
abbrev pub IsSlot : PackageKind → Option Prepared → Advisory → Type 0
IsSlot kind slot a = IfSome slot (λ prepared. prepared ≡ prepared_for kind a)

-- each slot is that of the record of its index
abbrev pub AreSlots : PackageKind → List (Option Prepared) → List Advisory → Type 0
AreSlots kind slots records = AllZip (IsSlot kind) slots records

-- the slots for each kind of package
pub record AreSlotsByKind (slots : SlotsByKind) (records : List Advisory) : Type 0 where
  pub deb : AreSlots Deb slots.deb.items records
  pub apk : AreSlots Apk slots.apk.items records
  pub npm : AreSlots Npm slots.npm.items records
  pub pypi : AreSlots Pypi slots.pypi.items records
