-- Records, computed.
use Rattle.std.proofs.Common.{◌≡◌, [], ◌∷◌, refl}
use Rattle.std.specs.List.{flat_map}
use Rattle.cv_keep_record.specs.declared.event.WorkKind.TheVariants.{Claim, Fault}
use Rattle.cv_keep_record.specs.Record.{AreNumberedFrom, kept_bytes, line_event, work_event}

-- event 258: line 3 of lane 1, which is `hi`
line : kept_bytes (line_event 258 1 3 (104 ∷ 105 ∷ []))
    ≡ 0 ∷ 0 ∷ 0 ∷ 0 ∷ 0 ∷ 0 ∷ 1 ∷ 2 ∷ 0 ∷ 1 ∷ 0 ∷ 0 ∷ 0 ∷ 0 ∷ 0 ∷ 0 ∷ 0 ∷ 3 ∷ 0 ∷ 0 ∷ 0 ∷ 2 ∷ 104 ∷ 105 ∷ []
line = refl

-- event 259: worker 2 and a layer, whose digest is shown by its first two bytes
work : kept_bytes (work_event 259 2 Fault (7 ∷ 8 ∷ [])) ≡ 0 ∷ 0 ∷ 0 ∷ 0 ∷ 0 ∷ 0 ∷ 1 ∷ 3 ∷ 1 ∷ 0 ∷ 0 ∷ 0 ∷ 2 ∷ 2 ∷ 7 ∷ 8 ∷ []
work = refl

-- two events follow each other
both : flat_map kept_bytes (work_event 1 0 Claim [] ∷ work_event 2 0 Fault [] ∷ [])
    ≡ 0 ∷ 0 ∷ 0 ∷ 0 ∷ 0 ∷ 0 ∷ 0 ∷ 1 ∷ 1 ∷ 0 ∷ 0 ∷ 0 ∷ 0 ∷ 0 ∷ 0 ∷ 0 ∷ 0 ∷ 0 ∷ 0 ∷ 0 ∷ 0 ∷ 2 ∷ 1 ∷ 0 ∷ 0 ∷ 0 ∷ 0 ∷ 2 ∷ []
both = refl

-- after 257 events the numbers 258 and 259 go on
numbers : AreNumberedFrom 257 (line_event 258 1 3 [] ∷ work_event 259 2 Fault [] ∷ [])
numbers = (refl, (refl, tt))
