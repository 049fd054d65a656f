-- What a service did from some moment on, after some lines of its input: the rounds that ended were carried out, and the lines of the
-- round that has begun are read. That the rounds are legal is known where the layers of the desks' type are known.
use Rattle.std.specs.Prelude.{◌≡◌, ⊤, ℕ, ◌≤◌, ◌<◌, List, [], ◌∷◌}
use Rattle.std.specs.List.{AllByRecursion, AllZip}
use Rattle.cv_base.specs.Lines.{Line}
use Rattle.cv_core_machine.specs.Scans.{Trees}
use Rattle.cv_serve_legal.specs.Replay.{Moment}
use Rattle.cv_serve_legal.specs.Rounds.{Cut, size_of}
use Rattle.cv_serve_legal.specs.ParsedLine.{IsTaken}
use Rattle.cv_serve_legal.specs.Whole.{AreWholeRounds, WholeRound, lines_in}
use Rattle.cv_serve_legal.specs.declared.parsed_line.ParsedLine.{ParsedLine}

-- the numbers of lines ascend, and the last one is at most this
abbrev pub LinesAscend : List Line → ℕ → Type 0
LinesAscend [] last = ⊤
LinesAscend (line ∷ lines) last = (line.number ≤ last) × (AllByRecursion (λ later. line.number < later.number) lines × LinesAscend lines last)

-- the lines up to this number are cut so, and the rounds that ended were carried out; what became of the lines of the round that has
-- begun, and how many bytes they have
pub record Served (known : Type 0) (trees : Trees) (workers : ℕ) (start : Moment) (cut : Cut) (last : ℕ) (taken : List ParsedLine) (bytes : ℕ) (whole : List WholeRound) (now : Moment) : Type 0 where
  pub rounds : known → AreWholeRounds trees workers start whole now
  pub lines : lines_in whole ≡ cut.rounds
  pub begun : AllZip IsTaken cut.begun taken
  pub ascend : LinesAscend cut.begun last
  pub size : size_of cut.begun ≡ bytes
