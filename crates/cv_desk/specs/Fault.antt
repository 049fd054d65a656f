-- Which answers of a desk blame it.
use Rattle.std.specs.Prelude.{Bool, true, false, Result, Ok, Err}
use Rattle.cv_desk.specs.declared.desk.DeskFault.{DeskFault}
use Rattle.cv_desk.specs.declared.desk.DeskFault.TheVariants as desk

-- the answer is that the desk failed
abbrev pub is_failed : {X : Type 0} → Result X DeskFault → Bool
is_failed (Ok x) = false
is_failed (Err desk.Failed) = true
is_failed (Err desk.NoMemory) = false
