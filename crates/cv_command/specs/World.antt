-- What a command works on (defined by this project), as it is before the command and after it.
use Rattle.std.specs.Prelude.{ℕ, List, Option}
use Rattle.cv_desk.specs.Stored.{Stored}

-- the tree that a desk's type has for each digest, or that there is no layer, if the type says it
abbrev pub Trees : Type 0
Trees = List ℕ → Option (Option (List Stored))

-- the counts of a desk: how often a layer was listed, and how often the desk failed
pub record Counts : Type 0 where
  pub listings : ℕ
  pub faults : ℕ

-- the counts of a desk, by the functions that give them
abbrev pub counts_of : {D : Type 0} → (D → ℕ) → (D → ℕ) → D → Counts
counts_of listings faults desk = record { listings = listings desk; faults = faults desk }

-- the remaining bytes of the input and those that the output holds, if they are known, and the counts of the desk
pub record World : Type 0 where
  pub remaining : Option (List ℕ)
  pub written : Option (List ℕ)
  pub counts : Counts

-- a world without a desk: no counts
abbrev pub streams : Option (List ℕ) → Option (List ℕ) → World
streams remaining written = record { remaining = remaining; written = written; counts = record { listings = 0; faults = 0 } }

-- what a run works on: its input, the bytes that its output holds, if they are known, and its desks
pub record RunWorld (S D : Type 0) : Type 0 where
  pub input : S
  pub written : Option (List ℕ)
  pub desks : List D

-- what a command over one of the desks works on, by the remaining bytes of the input and the desk's counts
abbrev pub world_of : {S D : Type 0} → (S → Option (List ℕ)) → (D → Counts) → RunWorld S D → D → World
world_of remaining counts world desk = record { remaining = remaining world.input; written = world.written; counts = counts desk }
