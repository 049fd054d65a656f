-- The records on worked examples.
use Rattle.std.proofs.Common.{◌≡◌, true, false, [], ◌∷◌, map, refl}
use Rattle.cv_drill.specs.Records.{is_kept, minor}
use Rattle.cv_drill.specs.declared.record.Update.TheVariants.{Second}

-- the second update leaves out every third record, and changes the one after it
kept : map (is_kept Second) (0 ∷ 1 ∷ 2 ∷ 3 ∷ []) ≡ false ∷ true ∷ true ∷ false ∷ []
kept = refl

changed : map (minor Second) (79 ∷ 80 ∷ 82 ∷ []) ≡ 2 ∷ 2 ∷ 3 ∷ []
changed = refl
