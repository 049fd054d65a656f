-- Concurrent work at the places of two slices.
use Rattle.std.specs.Prelude.{⊤, ℕ, ◌+◌, ◌≤◌, List, [], ◌∷◌}

-- each place can be worked at
abbrev pub ArePrepared : {S P : Type 0} → (S → P → Type 0) → List S → List P → Type 0
ArePrepared prepared (seat ∷ seats) (part ∷ parts) = prepared seat part × ArePrepared prepared seats parts
ArePrepared prepared _ _ = ⊤

-- each place was worked at, as far as both slices go
abbrev pub EachDid : {S P : Type 0} → (S → S → P → P → Type 0) → List S → List S → List P → List P → Type 0
EachDid did (seat ∷ seats) (seat_after ∷ seats_after) (part ∷ parts) (part_after ∷ parts_after) =
    did seat seat_after part part_after × EachDid did seats seats_after parts parts_after
EachDid did _ _ _ _ = ⊤

-- the same for three slices, whose places have numbers from one on
abbrev pub ArePreparedFrom : {H S K : Type 0} → (ℕ → H → S → K → Type 0) → ℕ → List H → List S → List K → Type 0
ArePreparedFrom prepared number (hand ∷ hands) (seat ∷ seats) (desk ∷ desks) = prepared number hand seat desk × ArePreparedFrom prepared (number + 1) hands seats desks
ArePreparedFrom prepared number _ _ _ = ⊤

abbrev pub EachDidFrom : {H S K : Type 0} → (ℕ → H → H → S → S → K → K → Type 0) → ℕ → List H → List H → List S → List S → List K → List K → Type 0
EachDidFrom did number (hand ∷ hands) (hand_after ∷ hands_after) (seat ∷ seats) (seat_after ∷ seats_after) (desk ∷ desks) (desk_after ∷ desks_after) =
    did number hand hand_after seat seat_after desk desk_after × EachDidFrom did (number + 1) hands hands_after seats seats_after desks desks_after
EachDidFrom did number _ _ _ _ _ _ = ⊤

-- a count of no desk fell
abbrev pub AreLater : {K : Type 0} → (K → ℕ) → List K → List K → Type 0
AreLater count [] [] = ⊤
AreLater count (desk ∷ desks) (desk_after ∷ desks_after) = (count desk ≤ count desk_after) × AreLater count desks desks_after
AreLater count _ _ = ⊥
