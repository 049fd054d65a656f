-- A desk is blamed for a layer that was not indexed exactly if it failed.
use Rattle.std.specs.Prelude.{◌≡◌, Result, Err, refl}
use Rattle.cv_desk.specs.Fault.{is_failed}
use Rattle.cv_facts.specs.Cause.{is_desk_fault}
use Rattle.cv_facts.specs.declared.error.IndexError.{IndexError}
use Rattle.cv_facts.specs.declared.error.IndexError.TheVariants as error
use Rattle.cv_scan_image.specs.code.Faults.{desk_fault}

pub blamed : (A B : Type 0) (e : IndexError) → is_failed {X = A} (Err (desk_fault e)) ≡ is_desk_fault {A = B} (Err e)
blamed A B error.DeskFault = refl
blamed A B error.NoMemory = refl
