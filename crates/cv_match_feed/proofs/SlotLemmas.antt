-- Slots of prepared records: empty ones, what one holds, and one that is filled.
use Rattle.std.specs.Prelude.{◌≡◌, ℕ, List, [], ◌∷◌, map, Option, Some, None, slice_get, option_and_then}
use Rattle.std.proofs.Common.{zero, suc, subst, sym, ap, ◌∙◌}
use Rattle.std.proofs.Math.ListN.{set}
use Rattle.std.proofs.lemmas.Option.{same_Some}
use Rattle.cv_base.specs.declared.advisory.Advisory.{Advisory}
use Rattle.cv_base.specs.declared.«package».PackageKind.{PackageKind}
use Rattle.cv_match.specs.Prepared.{Prepared, prepared_for}
use Rattle.cv_match_feed.specs.code.Slots.{AreSlots, IsSlot, no_slot}

-- empty slots
none_held : (kind : PackageKind) (records : List Advisory) → AreSlots kind (map no_slot records) records
none_held kind [] = tt
none_held kind (a ∷ rest) = (tt, none_held kind rest)

pub empty_held : (kind : PackageKind) (slots : List (Option Prepared)) (records : List Advisory) → slots ≡ map no_slot records → AreSlots kind slots records
empty_held kind slots records h = subst (λ (ss : List (Option Prepared)). AreSlots kind ss records) (sym h) (none_held kind records)

in_slot : (kind : PackageKind) (slot : Option Prepared) (b a : Advisory) (r : Prepared) → IsSlot kind slot b → slot ≡ Some r → Some b ≡ Some a → r ≡ prepared_for kind a
in_slot kind None b a r h e f = cc
in_slot kind (Some q) b a r h e f = sym (same_Some q r e) ∙ h ∙ ap (prepared_for kind) (same_Some b a f)

-- a slot holds the record of its index
pub slot_holds : (kind : PackageKind) (slots : List (Option Prepared)) (records : List Advisory) (k : ℕ) (a : Advisory) (r : Prepared) → AreSlots kind slots records
    → slice_get records k ≡ Some a → option_and_then (λ (slot : Option Prepared). slot) (slice_get slots k) ≡ Some r → r ≡ prepared_for kind a
slot_holds kind [] [] k a r h f e = cc
slot_holds kind [] (b ∷ bs) k a r h f e = absurd h
slot_holds kind (s ∷ ss) [] k a r h f e = absurd h
slot_holds kind (s ∷ ss) (b ∷ bs) zero a r h f e = in_slot kind s b a r h.0 e f
slot_holds kind (s ∷ ss) (b ∷ bs) (suc k) a r h f e = slot_holds kind ss bs k a r h.1 f e

-- a slot that is filled with the record of its index
pub filled : (kind : PackageKind) (slots : List (Option Prepared)) (records : List Advisory) (k : ℕ) (a : Advisory) (r : Prepared) → AreSlots kind slots records
    → slice_get records k ≡ Some a → r ≡ prepared_for kind a → AreSlots kind (set slots k (Some r)) records
filled kind [] [] k a r h f e = h
filled kind [] (b ∷ bs) k a r h f e = absurd h
filled kind (s ∷ ss) [] k a r h f e = absurd h
filled kind (s ∷ ss) (b ∷ bs) zero a r h f e = (e ∙ ap (prepared_for kind) (same_Some a b (sym f)), h.1)
filled kind (s ∷ ss) (b ∷ bs) (suc k) a r h f e = (h.0, filled kind ss bs k a r h.1 f e)
