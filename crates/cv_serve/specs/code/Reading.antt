-- What was read of an input, and what was done with it.
use Rattle.std.specs.Prelude.{◌≡◌, ◌⊎◌, ⊤, ℕ, true, List, [], ◌++◌, length, map, Option, IfSome, IsSomeAnd, Result, Ok, Err}
use Rattle.std.specs.Io.KnownBytes.{Consumes}
use Rattle.std.specs.List.{AllByRecursion}
use Rattle.cv_base.specs.Lines.{numbered}
use Rattle.cv_io.specs.Lines.{Reading, Stop, Finished, LongLine, LongInput, lines_of, text_of}
use Rattle.cv_io.specs.code.Lines.{lines_then}
use Rattle.cv_io.specs.Reader.{Reader}
use Rattle.cv_io.specs.declared.line.LineError.TheVariants as line
use Rattle.cv_scan_input.specs.Unrefused.{IsPiece, ended_lines}
use Rattle.cv_core_machine.specs.Scans.{Trees}
use Rattle.cv_serve_legal.specs.Replay.{Moment}
use Rattle.cv_serve_legal.specs.Rounds.{Round, cut_lines, round_limits}
use Rattle.cv_serve_legal.specs.Whole.{WholeRound}
use Rattle.cv_serve_legal.specs.declared.parsed_line.ParsedLine.{ParsedLine}
use Rattle.cv_serve_round.specs.Done.{FurtherDone}
use Rattle.cv_serve.specs.declared.end.Stop.{Stop as Stopped}
use Rattle.cv_serve.specs.declared.end.Stop.TheVariants as stop

-- these lines were read, and then the rest is to be read
abbrev pub HasRead : Option Reading → Option Reading → List (List ℕ) → Type 0
HasRead before now texts = IfSome before (λ whole. IsSomeAnd now (λ rest. whole ≡ lines_then texts rest))

-- these lines are all
abbrev pub HasReadAll : Option Reading → List (List ℕ) → Type 0
HasReadAll before texts = IfSome before (λ whole. whole ≡ record { lines = texts; stop = Finished })

-- what a stop says of how the lines stop
abbrev pub StopsLines : Stop → Result Unit Stopped → Type 0
StopsLines how (Ok _) = how ≡ Finished
StopsLines how (Err (stop.Input line.LineTooLong)) = how ≡ LongLine
StopsLines how (Err (stop.Input line.InputTooLong)) = how ≡ LongInput
StopsLines how (Err _) = ⊤

-- the bytes that were taken are whole lines, which these texts are, and what the reader holds
pub record IsTakenLines (now : Reader) (before rest : Option (List ℕ)) (texts : List (List ℕ)) : Type 0 where
  pub pieces : List (List ℕ)
  pub lines : AllByRecursion IsPiece pieces
  pub front : Consumes before rest (ended_lines pieces ++ now.held)
  pub counted : now.taken ≡ length (ended_lines pieces ++ now.held)
  pub texts_are : map text_of pieces ≡ texts

-- the bytes that were taken are these lines, of which the last one ended with the input
pub record IsTakenWhole (now : Reader) (before rest : Option (List ℕ)) (texts : List (List ℕ)) : Type 0 where
  pub bytes : List ℕ
  pub front : Consumes before rest bytes
  pub lines : lines_of bytes ≡ texts
  pub held : now.held ≡ []
  pub ended : now.ended ≡ true

-- one of the two
abbrev pub AreTaken : Reader → Option (List ℕ) → Option (List ℕ) → List (List ℕ) → Type 0
AreTaken now before rest texts = IsTakenLines now before rest texts ⊎ IsTakenWhole now before rest texts

-- what was done with these lines, of a service that began at the moment `start`, and what followed each round
abbrev pub Done : {D S : Type 0} → Type 0 → Trees → ℕ → Moment → (D → ℕ) → (D → ℕ) → (S → WholeRound → Moment → S → Type 0) → List (List ℕ) → List ParsedLine → ℕ → (Round → Type 0) → Moment → List D → List D → S → S → Type 0
Done known trees workers start listings faults ends texts taken bytes noted now desks desks_now held held_now =
    FurtherDone known trees workers start listings faults ends (cut_lines round_limits (numbered 1 texts)) (length texts) taken bytes noted [] start now desks desks_now held held_now
