-- Why a tree is not laid: its first fault, or out of memory (defined by this project).
use Rattle.std.specs.Prelude.{◌≡◌, Option, Some}
use Rattle.cv_overlay.specs.declared.fault.OverlayError.{OverlayError}
use Rattle.cv_overlay.specs.declared.fault.OverlayError.TheVariants.{BadTree, NoMemory}
use Rattle.cv_overlay.specs.declared.fault.TreeFault.{TreeFault}

-- an error names the fault, or says that memory ran out
abbrev pub IsRefusal : Option TreeFault → OverlayError → Type 0
IsRefusal fault (BadTree bad) = fault ≡ Some bad
IsRefusal fault NoMemory = Unit {0}
