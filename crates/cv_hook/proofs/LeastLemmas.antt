-- The least number that stands above the last one taken.
use Rattle.std.specs.Prelude.{◌≡◌, ℕ, ◌+◌, ◌<◌, List, [], ◌∷◌, ◌++◌, length, take, Option, Some, None, IfSome}
use Rattle.std.specs.List.{Contains}
use Rattle.std.proofs.Common.{ap, get_or, ◌∙◌}
use Rattle.std.proofs.lemmas.List.{map-append, take_more}
use Rattle.cv_core_records.specs.declared.read.NoticeHead.{NoticeHead}
use Rattle.cv_hook.specs.Attempts.{IsLeast, numbers}

-- the numbers of one notification more
pub numbers_more : (heads : List NoticeHead) (i : ℕ) (d : NoticeHead) → i < length heads → numbers (take (i + 1) heads) ≡ numbers (take i heads) ++ (get_or heads i d).number ∷ []
numbers_more heads i d l = ap numbers (take_more heads i d l) ∙ map-append (λ (head : NoticeHead). head.number) (take i heads) (get_or heads i d ∷ [])

pub least_stands : (last : ℕ) (standing : List ℕ) (due : Option ℕ) → IsLeast last standing due → IfSome due (Contains standing)
least_stands last standing None so = tt
least_stands last standing (Some number) so = so.stands

pub least_is_above : (last : ℕ) (standing : List ℕ) (due : Option ℕ) → IsLeast last standing due → IfSome due (λ number. last < number)
least_is_above last standing None so = tt
least_is_above last standing (Some number) so = so.above
