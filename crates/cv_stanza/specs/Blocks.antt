-- Files of blocks between empty lines, as dpkg's control files (Debian Policy 5.1) and apk's installed database are. What a
-- file is read into, and which of its faults is answered, is defined by this project.
--
-- `read_blocks rules lines` takes the rules of a format and the lines of a file. It gives what the blocks are read into, in
-- order, or the first fault of the file. It lists all faults of all blocks, by line, and stops at none.
use Rattle.std.specs.Prelude.{ℕ, ◌≤◌, Bool, true, false, List, [], ◌∷◌, ◌++◌, map, Option, None, Some, Result}
use Rattle.std.specs.List.{AllByRecursion, flat_map, slice_split}
use Rattle.std.specs.Option.{option_map_or, option_or}
use Rattle.cv_base.specs.Lines.{Line, numbered}
use Rattle.cv_base.specs.Results.{or_first_fault}
use Rattle.cv_base.specs.Texts.{is_nil}
use Rattle.cv_base.specs.declared.fault.FileBad.{FileBad}
use Rattle.cv_base.specs.declared.fault.What.{What}

-- the rules of a format: the fault of a line, where these lines stand before it in its block; the fault of a whole block,
-- which stands at its last line; and what a block is read into
pub record BlockRules (A : Type 0) : Type 0 where
  pub line_fault : List (List ℕ) → List ℕ → Option What
  pub whole_fault : List (List ℕ) → Option What
  pub items : List (List ℕ) → List A

-- an empty line
abbrev pub is_gap : Line → Bool
is_gap l = is_nil l.text

-- the blocks lie between empty lines, and lines are numbered from 1. Where two empty lines meet, the block between them has no lines.
abbrev pub blocks : List (List ℕ) → List (List Line)
blocks lines = slice_split is_gap (numbered 1 lines)

-- the texts of lines
abbrev pub texts : List Line → List (List ℕ)
texts = map (λ l. l.text)

-- a fault unless the test holds
abbrev pub unless : Bool → What → Option What
unless true w = None
unless false w = Some w

-- a fault with its line, if there is one
abbrev pub at : ℕ → Option What → List FileBad
at n None = []
at n (Some w) = record { line = n; what = w } ∷ []

-- the faults of lines in order, where these lines stand before them in their block
abbrev pub line_faults : (List (List ℕ) → List ℕ → Option What) → List (List ℕ) → List Line → List FileBad
line_faults fault before [] = []
line_faults fault before (l ∷ ls) = at l.number (fault before l.text) ++ line_faults fault (before ++ l.text ∷ []) ls

-- the number of the last line
abbrev pub last_number : List Line → Option ℕ
last_number [] = None
last_number (l ∷ ls) = option_or (last_number ls) (Some l.number)

-- the fault of a whole block, at its last line
abbrev pub end_faults : {A : Type 0} → BlockRules A → List Line → List FileBad
end_faults rules block = option_map_or (λ n. at n (rules.whole_fault (texts block))) (last_number block) []

-- the faults of a block: those of its lines, and then its own
abbrev pub faults : {A : Type 0} → BlockRules A → List Line → List FileBad
faults rules block = line_faults rules.line_fault [] block ++ end_faults rules block

-- what a block is read into
abbrev pub items : {A : Type 0} → BlockRules A → List Line → List A
items rules block = rules.items (texts block)

-- the faults of a file
abbrev pub all_faults : {A : Type 0} → BlockRules A → List (List ℕ) → List FileBad
all_faults rules lines = flat_map (faults rules) (blocks lines)

-- what the blocks of a file are read into, or its first fault
abbrev pub read_blocks : {A : Type 0} → BlockRules A → List (List ℕ) → Result (List A) FileBad
read_blocks rules lines = or_first_fault (all_faults rules lines) (flat_map (items rules) (blocks lines))

-- no fault of the file stands on an earlier line: the first bad line alone decides
abbrev pub IsFirstBad : {A : Type 0} → BlockRules A → List (List ℕ) → FileBad → Type 0
IsFirstBad rules lines fault = AllByRecursion (λ other. fault.line ≤ other.line) (all_faults rules lines)
