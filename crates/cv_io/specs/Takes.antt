-- What was taken from a source over several reads (defined by this project).
use Rattle.std.specs.Prelude.{◌≡◌, ℕ, ◌+◌, Bool, true, List, [], ◌++◌, Option, length}
use Rattle.std.specs.Io.KnownBytes.{Consumes, IsAtEnd}

-- how much was taken, and whether the end was seen
pub record Progress : Type 0 where
  pub taken : ℕ
  pub ended : Bool

-- bytes were taken from the front of those that remained in the source, and follow those held before. Nothing is taken
-- once the end was seen
pub record Takes (held held_now : List ℕ) (before now : Progress) (remaining remaining_now : Option (List ℕ)) : Type 0 where
  pub more : List ℕ
  pub joined : held_now ≡ held ++ more
  pub consumed : Consumes remaining remaining_now more
  pub counted : now.taken ≡ before.taken + length more
  pub over : before.ended ≡ true → (more ≡ []) × (now.ended ≡ true)
  pub seen : (before.ended ≡ true → IsAtEnd remaining) → now.ended ≡ true → IsAtEnd remaining_now
