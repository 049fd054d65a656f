-- Rounds that were carried out, each with its lines and with the entries that answer them (defined by this project). A legal transcript
-- consists of such rounds, one after the other.
use Rattle.std.specs.Prelude.{◌≡◌, ℕ, List, [], ◌∷◌, ◌++◌, map}
use Rattle.std.specs.List.{flat_map}
use Rattle.cv_transcript.specs.declared.entry.Entry.{Entry}
use Rattle.cv_core_machine.specs.Layers.{queued}
use Rattle.cv_core_machine.specs.Scans.{Trees}
use Rattle.cv_serve_legal.specs.Replay.{Moment}
use Rattle.cv_serve_legal.specs.Round.{IsLegalRound}
use Rattle.cv_serve_legal.specs.Rounds.{Round}

-- the lines of a round, and the entries that answer them
pub record WholeRound : Type 0 where
  pub lines : Round
  pub entries : List Entry

-- a round of these lines and entries
abbrev pub whole_round : Round → List Entry → WholeRound
whole_round lines entries = record { lines = lines; entries = entries }

-- the lines of each of these rounds
abbrev pub lines_in : List WholeRound → List Round
lines_in rounds = map (λ (round : WholeRound). round.lines) rounds

-- the entries of these rounds, one round after the other
abbrev pub entries_in : List WholeRound → List Entry
entries_in rounds = flat_map (λ (round : WholeRound). round.entries) rounds

-- each round is legal, and goes on from the moment after the one before it
abbrev pub AreWholeRounds : Trees → ℕ → Moment → List WholeRound → Moment → Type 0
AreWholeRounds trees workers before [] after = after ≡ before
AreWholeRounds trees workers before (round ∷ rounds) after =
    (between : Moment) × IsLegalRound trees workers before round.lines round.entries between × AreWholeRounds trees workers between rounds after

-- the rounds after the last one of the input: one more without lines, exactly if a layer is Queued
abbrev pub AreLastRounds : List (List ℕ) → Trees → ℕ → Moment → List WholeRound → Moment → Type 0
AreLastRounds [] trees workers before rounds after = (rounds ≡ []) × (after ≡ before)
AreLastRounds (layer ∷ layers) trees workers before rounds after =
    (entries : List Entry) × (rounds ≡ whole_round [] entries ∷ []) × IsLegalRound trees workers before [] entries after

-- the rounds of an input that ended, from one moment to another
pub record AreAllRounds (trees : Trees) (workers : ℕ) (before : Moment) (rounds : List Round) (whole : List WholeRound) (after : Moment) : Type 0 where
  pub between : Moment
  pub first : List WholeRound
  pub last : List WholeRound
  pub parts : whole ≡ first ++ last
  pub lines : lines_in first ≡ rounds
  pub input : AreWholeRounds trees workers before first between
  pub further : AreLastRounds (queued between.state.layers) trees workers between last after
