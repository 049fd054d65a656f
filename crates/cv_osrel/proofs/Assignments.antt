-- What stands before the `=` of a line, and the name that is asked for.
use Rattle.std.proofs.Common.{◌≡◌, ℕ, Bool, true, false, if◌then◌else◌, List, Option, None, Some, refl, ap, ◌∙◌}
use Rattle.std.specs.Prelude.{option_and_then}
use Rattle.std.specs.Option.{option_map}
use Rattle.cv_base.specs.Cuts.{cut}
use Rattle.cv_base.specs.Texts.{same}
use Rattle.cv_osrel.specs.System.{Assignment, assignment_by, is_equals, is_name, text_of, value_by, value_for}
use Rattle.cv_osrel.specs.Value.{value_of}

abbrev assigned : List ℕ → Option (List ℕ) → Option Assignment
assigned front v = option_map (λ v. record { name = front; value = v }) v

other_by : (name front : List ℕ) (b : Bool) (v : Option (List ℕ)) → same front name ≡ false → option_and_then (value_for name) (if b then assigned front v else None) ≡ None
other_by name front false v h = refl
other_by name front true None h = refl
other_by name front true (Some v) h = simp h

-- another name
pub other_name : (name line front rest : List ℕ) → cut is_equals line ≡ Some (front, rest) → same front name ≡ false → value_by name line ≡ None
other_name name line front rest e h = ap (λ c. option_and_then (value_for name) (option_and_then assignment_by c)) e ∙ other_by name front (is_name front) (option_and_then text_of (value_of rest)) h

own_by : (name front : List ℕ) (v : Option (List ℕ)) → same front name ≡ true → option_and_then (value_for name) (assigned front v) ≡ v
own_by name front None h = refl
own_by name front (Some v) h = simp h

name_by : (name front : List ℕ) (v : Option (List ℕ)) → is_name front ≡ true → same front name ≡ true → option_and_then (value_for name) (if is_name front then assigned front v else None) ≡ v
name_by name front v n h = simp n (own_by name front v h)

-- this name
pub own_name : (name line front rest : List ℕ) → cut is_equals line ≡ Some (front, rest) → same front name ≡ true → is_name front ≡ true → value_by name line ≡ option_and_then text_of (value_of rest)
own_name name line front rest e h n = ap (λ c. option_and_then (value_for name) (option_and_then assignment_by c)) e ∙ name_by name front (option_and_then text_of (value_of rest)) n h
