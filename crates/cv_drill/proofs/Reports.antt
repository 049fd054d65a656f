-- The table of the last report on each image.
use Rattle.std.proofs.Common.{◌≡◌, ◌∙◌, ℕ, Bool, true, false, cond, List, Option, Some, None, refl, ap}
use Rattle.std.specs.Cmp.Lexicographic.{slice_cmp}
use Rattle.std.specs.List.{cons_option, last_or}
use Rattle.std.specs.Option.{option_or}
use Rattle.std.specs.Ordering.{is_eq, nat_cmp}
use Rattle.std.proofs.lemmas.Map.Text.{is_eq-slice_cmp}
use Rattle.cv_base.specs.Texts.{same}
use Rattle.cv_drill.specs.Summary.{under}

-- what the table has of an image after a report
pub inserted : (image findings hash : List ℕ) (old new : Option (List ℕ)) → new ≡ cond (is_eq (slice_cmp nat_cmp image hash)) (Some findings) old
    → new ≡ option_or (under hash (Some (image, findings))) old
inserted image findings hash old new h = h ∙ ap (λ b. cond b (Some findings) old) (is_eq-slice_cmp image hash) ∙ by (same image hash) where
  by : (b : Bool) → cond b (Some findings) old ≡ option_or (cond b (Some findings) None) old
  by true = refl
  by false = refl

-- the last of some, of which the first may be absent
pub last_step : (found old : Option (List ℕ)) (rest : List (List ℕ)) → last_or (option_or found old) rest ≡ last_or old (cons_option found rest)
last_step None old rest = refl
last_step (Some x) old rest = refl
