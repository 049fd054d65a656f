-- The file of a disk, and what a crash may leave of it (defined by this project). A write reaches the disk at the latest in the
-- next sync that succeeds; a crash before that may keep it, lose it or leave other bytes in its place. An image is what the file
-- holds after a crash. `may_leave moment image` says that a crash at this moment, or at a later one up to now, may leave this image.
use Rattle.std.specs.Prelude.{◌≡◌, ◌⊎◌, ℕ, ◌+◌, ◌≤◌, min, max, List, ◌∷◌, ◌++◌, length, take, drop}

-- the file after these bytes were written at a place
abbrev pub written : ℕ → List ℕ → List ℕ → List ℕ
written at bytes old = take at old ++ bytes ++ drop (at + length bytes) old

-- n bytes were written at a place, or the write was refused: the range may hold any bytes, the file ends anywhere from its old end
-- to the end of the range, and the bytes outside are as before
pub record IsTorn (at n : ℕ) (old new : List ℕ) : Type 0 where
  pub before : take (min at (length old)) new ≡ take at old
  pub after : drop (at + n) new ≡ drop (at + n) old
  pub no_shorter : length old ≤ length new
  pub no_longer : length new ≤ max (length old) (at + n)

-- the file was cut to a length, or it was not
abbrev pub IsCut : ℕ → List ℕ → List ℕ → Type 0
IsCut len old new = (new ≡ old) ⊎ (new ≡ take len old)

-- nothing changed
abbrev pub IsSame : List ℕ → List ℕ → Type 0
IsSame old new = new ≡ old

-- a crash leaves these bytes and no others
abbrev pub IsDurable : List ℕ → (List ℕ → Type 0) → Type 0
IsDurable bytes images = (image : List ℕ) → images image → image ≡ bytes

-- One call, from a moment to a later one: each image that a crash now may leave is one of before after this step, and of the
-- images that a crash may have left in the meantime there are those of before and those of now.
pub record Advances (step : List ℕ → List ℕ → Type 0) (before now : ℕ) (past since : ℕ → List ℕ → Type 0) : Type 0 where
  pub later : before ≤ now
  pub follows : (image : List ℕ) → since now image → (old : List ℕ) × past before old × step old image
  pub nothing_else : (t : ℕ) (image : List ℕ) → t ≤ before → since t image → past t image ⊎ since now image
  pub keeps : (t : ℕ) (image : List ℕ) → t ≤ before → past t image → since t image

-- a crash at any moment from one to a later one leaves an image that has P
pub record LeavesOnly (before now : ℕ) (past since : ℕ → List ℕ → Type 0) (P : List ℕ → Type 0) : Type 0 where
  pub later : before ≤ now
  pub each : (image : List ℕ) → since before image → P image
  -- for a time that began earlier
  pub earlier : (t : ℕ) (image : List ℕ) → t ≤ before → since t image → past t image ⊎ P image

-- given the moments of the syncs before and now, a crash at any moment after the first new sync leaves an image that has P
abbrev pub LeavesAfterSync : List ℕ → List ℕ → (ℕ → List ℕ → Type 0) → (List ℕ → Type 0) → Type 0
LeavesAfterSync before now since P =
    (first : ℕ) (more : List ℕ) → now ≡ before ++ first ∷ more → (image : List ℕ) → since first image → P image

-- one call of a disk, with its moments and what a crash may leave
abbrev pub Steps : {D : Type 0} → (List ℕ → List ℕ → Type 0) → (D → ℕ) → (D → ℕ → List ℕ → Type 0) → D → D → Type 0
Steps step moment may_leave old new = Advances step (moment old) (moment new) (may_leave old) (may_leave new)

-- some calls of a disk, during which a crash leaves what has P
abbrev pub Leaves : {D : Type 0} → (D → ℕ) → (D → ℕ → List ℕ → Type 0) → D → D → (List ℕ → Type 0) → Type 0
Leaves moment may_leave old new P = LeavesOnly (moment old) (moment new) (may_leave old) (may_leave new) P

-- what a crash now may leave
abbrev pub images_now : {D : Type 0} → (D → ℕ) → (D → ℕ → List ℕ → Type 0) → D → List ℕ → Type 0
images_now moment may_leave disk = may_leave disk (moment disk)

-- a crash from an earlier moment on leaves what it might have left before these calls, or what has P
abbrev pub LeavesAsBeforeOr : {D : Type 0} → (D → ℕ) → (D → ℕ → List ℕ → Type 0) → D → D → (List ℕ → Type 0) → Type 0
LeavesAsBeforeOr moment may_leave old new P =
    (t : ℕ) (image : List ℕ) → t ≤ moment old → may_leave new t image → may_leave old t image ⊎ P image
