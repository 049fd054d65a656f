-- Parts of a walk through real folders, and what the desk answers, counts and keeps after it.
use Rattle.std.specs.Prelude.{◌≡◌, ◌≢◌, ℕ, ◌+◌, ◌≤◌, Bool, true, false, List, [], ◌∷◌, ◌++◌, length, Option, Some, Result, Ok, Err, IsOk}
use Rattle.std.specs.Iterator.{Drains}
use Rattle.std.specs.IoError.{error_kind}
use Rattle.std.specs.declared.io.Error.{Error}
use Rattle.std.specs.declared.io.ErrorKind.TheVariants.{Interrupted, OutOfMemory}
use Rattle.std.specs.List.{AllByRecursion}
use Rattle.cv_seq.specs.Cause.{next_count}
use Rattle.cv_desk.specs.declared.desk.DeskFault.{DeskFault}
use Rattle.cv_desk.specs.declared.desk.DeskFault.TheVariants as desk
use Rattle.cv_desk.specs.declared.desk.FileRead.{FileRead}
use Rattle.cv_desk.specs.declared.desk.FileRead.TheVariants.{Bytes, TooLarge, NotFile}
use Rattle.cv_desk_folder.specs.declared.failure.FolderError.{FolderError}
use Rattle.cv_desk_folder.specs.declared.failure.FolderError.TheVariants as error
use Rattle.cv_desk_folder.specs.declared.failure.FolderFailure.{FolderFailure}

-- two parts of a path with a slash between them; an empty part adds nothing
abbrev pub joined : List ℕ → List ℕ → List ℕ
joined [] back = back
joined (f ∷ front) [] = f ∷ front
joined (f ∷ front) (b ∷ back) = (f ∷ front) ++ 47 ∷ b ∷ back

-- the folders failed, and not only memory
abbrev pub is_failure : FolderError → Bool
is_failure (error.Failed failure) = true
is_failure error.NoMemory = false

-- the desk's answer to what its folders gave
abbrev pub desk_answer : {X : Type 0} → Result X FolderError → Result X DeskFault
desk_answer (Ok found) = Ok found
desk_answer (Err (error.Failed failure)) = Err desk.Failed
desk_answer (Err error.NoMemory) = Err desk.NoMemory

-- how often the folders failed, after an answer
abbrev pub faults_after : {X : Type 0} → ℕ → Result X FolderError → ℕ
faults_after faults (Ok found) = faults
faults_after faults (Err (error.Failed failure)) = next_count faults
faults_after faults (Err error.NoMemory) = faults

-- the last failure, after an answer
abbrev pub failure_after : {X : Type 0} → Option FolderFailure → Result X FolderError → Option FolderFailure
failure_after last (Ok found) = last
failure_after last (Err (error.Failed failure)) = Some failure
failure_after last (Err error.NoMemory) = last

-- at most this number of bytes was read
abbrev pub IsWithin : ℕ → FileRead → Type 0
IsWithin limit (Bytes bytes) = length bytes ≤ limit
IsWithin limit TooLarge = Unit {0}
IsWithin limit NotFile = Unit {0}

-- items came and then no more, each of them was an answer of the system and no error of it, and each of them was added
pub record AreAllAdded {S X E : Type 0} (gives : S → Option (Result X E) → S → Type 0) (found : S) (count count_now : ℕ) : Type 0 where
  pub items : List (Result X E)
  pub drained : Drains gives found items
  pub answers : AllByRecursion IsOk items
  pub counted : count_now ≡ count + length items

-- what an error of the system makes: want of memory where the system says so, and else a failure with this reason
abbrev pub IsErrorOf : Error → FolderError → Type 0
IsErrorOf reason (error.Failed failure) = (failure.reason ≡ reason) × (error_kind reason ≢ OutOfMemory)
IsErrorOf reason error.NoMemory = error_kind reason ≡ OutOfMemory

-- a signal interrupted the listing
abbrev pub IsInterrupted : FolderError → Type 0
IsInterrupted (error.Failed failure) = error_kind failure.reason ≡ Interrupted
IsInterrupted error.NoMemory = ⊥

-- a list that had more added at its end, or nothing
abbrev pub Grows : {X : Type 0} → List X → List X → Type 0
Grows {X} before now = (more : List X) × (now ≡ before ++ more)
