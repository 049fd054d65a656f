-- What rounds are, apart from how they are found (defined by this project): each ends for one of three reasons, and what
-- follows it is cut likewise. Lines are divided so in one way only, which `Rounds` computes.
use Rattle.std.specs.Prelude.{◌≡◌, ◌+◌, ◌<◌, ◌≤◌, ◌⊎◌, List, [], ◌∷◌, ◌++◌, length}
use Rattle.std.specs.List.{AllByRecursion}
use Rattle.cv_base.specs.Lines.{Line}
use Rattle.cv_serve_legal.specs.Rounds.{Round, RoundLimits, size_of}

-- a line that is not empty
abbrev pub HasText : Line → Type 0
HasText line = 0 < length line.text

-- an empty line follows the round, and then the rest
pub record EndsAtEmpty (limits : RoundLimits) (round : Round) (rest lines : List Line) : Type 0 where
  pub empty : Line
  pub none : empty.text ≡ []
  pub short : length round < limits.lines
  pub joined : lines ≡ round ++ empty ∷ rest

-- the round has as many lines as it may have, and the rest follows
pub record EndsFull (limits : RoundLimits) (round : Round) (rest lines : List Line) : Type 0 where
  pub full : length round ≡ limits.lines
  pub joined : lines ≡ round ++ rest

-- the round has a line, and the rest begins with one that would bring it past its bytes
pub record EndsBefore (limits : RoundLimits) (round : Round) (rest lines : List Line) : Type 0 where
  pub has_lines : 0 < length round
  pub next : Line
  pub later : List Line
  pub begins : rest ≡ next ∷ later
  pub text : HasText next
  pub past : limits.bytes < size_of round + length next.text
  pub short : length round < limits.lines
  pub joined : lines ≡ round ++ rest

-- how a round ends
abbrev pub Ends : RoundLimits → Round → List Line → List Line → Type 0
Ends limits round rest lines = EndsAtEmpty limits round rest lines ⊎ EndsFull limits round rest lines ⊎ EndsBefore limits round rest lines

-- a round is within the bytes it may have, or is of one line
abbrev pub IsWithin : RoundLimits → Round → Type 0
IsWithin limits round = (size_of round ≤ limits.bytes) ⊎ (length round ≡ 1)

-- a round is as long as it may be at most
abbrev pub IsShort : RoundLimits → Round → Type 0
IsShort limits round = (length round ≤ limits.lines) × IsWithin limits round

-- lines are rounds, each with its end, and then these further lines
abbrev pub AreEnded : RoundLimits → List Round → List Line → List Line → Type 0
AreEnded limits [] further lines = lines ≡ further
AreEnded limits (round ∷ rounds) further lines =
    AllByRecursion HasText round × IsWithin limits round × ((rest : List Line) × Ends limits round rest lines × AreEnded limits rounds further rest)

-- lines are rounds that ended, and then those of a round that has begun: none of these is empty, they are within its bytes, and
-- it may have one more
pub record AreRounds (limits : RoundLimits) (rounds : List Round) (begun : Round) (lines : List Line) : Type 0 where
  pub ended : AreEnded limits rounds begun lines
  pub text : AllByRecursion HasText begun
  pub within : IsWithin limits begun
  pub short : length begun < limits.lines
