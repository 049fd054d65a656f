-- How a file of blocks is read in one pass over its lines. It is shown in `proofs/` that this reads what `Blocks.antt` says.
use Rattle.std.specs.Prelude.{◌≡◌, ℕ, ◌+◌, Bool, true, false, if◌then◌else◌, List, [], ◌∷◌, ◌++◌, map, Option, None, Some, Result, Ok, Err}
use Rattle.cv_base.specs.code.Cuts.{remaining_lines}
use Rattle.cv_base.specs.Results.{◌>>=◌}
use Rattle.cv_base.specs.Texts.{is_nil}
use Rattle.cv_base.specs.declared.fault.FileBad.{FileBad}
use Rattle.cv_base.specs.declared.fault.What.{What}
use Rattle.cv_stanza.specs.Blocks.{BlockRules}
use Rattle.cv_stanza.specs.declared.line_error.LineError.{LineError}
use Rattle.cv_stanza.specs.declared.line_error.LineError.TheVariants as error

-- the fault of a line, and none where memory ran out
abbrev pub line_fault : LineError → Option What
line_fault (error.Bad what) = Some what
line_fault error.NoMemory = None

-- a value, or else a fault
abbrev pub or_fault : {A : Type 0} → Option What → A → Result A What
or_fault None x = Ok x
or_fault (Some w) x = Err w

-- a fault gets the number of its line
abbrev pub at_line : {A : Type 0} → ℕ → Result A What → Result A FileBad
at_line n (Ok x) = Ok x
at_line n (Err w) = Err (record { line = n; what = w })

-- a block line by line: what is kept before its first line and after one more, its fault at its end, and what it is read into
pub record BlockSteps (S A : Type 0) : Type 0 where
  pub opening : S
  pub step : S → List ℕ → Result S What
  pub fault : S → Option What
  pub items : S → List A

-- the end of a block of one line or more
abbrev pub closed : {S A : Type 0} → BlockSteps S A → S → List A → Result (List A) What
closed steps s found = or_fault (steps.fault s) (found ++ steps.items s)

-- the steps read what the rules say, where this is kept of lines
pub record Agrees {S A : Type 0} (rules : BlockRules A) (steps : BlockSteps S A) (kept : List (List ℕ) → S) : Type 0 where
  pub opening : steps.opening ≡ kept []
  pub step : (block : List (List ℕ)) (line : List ℕ) → steps.step (kept block) line ≡ or_fault (rules.line_fault block line) (kept (block ++ line ∷ []))
  pub fault : (block : List (List ℕ)) → steps.fault (kept block) ≡ rules.whole_fault block
  pub items : (block : List (List ℕ)) → steps.items (kept block) ≡ rules.items block
  pub none : rules.items [] ≡ []

-- a block ends after line n, if it has begun
abbrev pub ended : {S A : Type 0} → BlockSteps S A → ℕ → Bool → S → List A → Result (List A) FileBad
ended steps n begun s found = if begun then at_line n (closed steps s found) else Ok found

-- the remaining lines are read, after n lines
abbrev pub read_on : {S A : Type 0} → BlockSteps S A → ℕ → Bool → S → List A → List (List ℕ) → Result (List A) FileBad
read_on steps n begun s found [] = ended steps n begun s found
read_on steps n begun s found (t ∷ ts) =
    if is_nil t then (ended steps n begun s found >>= λ o. read_on steps (n + 1) false steps.opening o ts)
    else (at_line (n + 1) (steps.step s t) >>= λ k. read_on steps (n + 1) true k found ts)

-- the lines of the remaining bytes, as they count
abbrev pub trimmed_lines : (List ℕ → List ℕ) → Option (List ℕ) → List (List ℕ)
trimmed_lines trimmed remaining = map trimmed (remaining_lines remaining)
