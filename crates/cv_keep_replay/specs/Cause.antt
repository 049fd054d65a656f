-- Which answers blame the desk or the disk (defined by this project). When such an answer may come is `CausedBy` of cv_seq.
use Rattle.std.specs.Prelude.{Bool, true, false, Result, Ok, Err}
use Rattle.cv_facts.specs.declared.error.IndexError.{IndexError}
use Rattle.cv_facts.specs.declared.error.IndexError.TheVariants as index
use Rattle.cv_keep_replay.specs.declared.error.ReplayError.{ReplayError}
use Rattle.cv_keep_replay.specs.declared.error.ReplayError.TheVariants as error

-- the desk failed
abbrev pub is_desk_fault : {X : Type 0} → Result X ReplayError → Bool
is_desk_fault (Ok x) = false
is_desk_fault (Err (error.BadKeep record_number)) = false
is_desk_fault (Err error.DeskFault) = true
is_desk_fault (Err error.KeepFault) = false
is_desk_fault (Err error.NoMemory) = false

-- the disk failed
abbrev pub is_keep_fault : {X : Type 0} → Result X ReplayError → Bool
is_keep_fault (Ok x) = false
is_keep_fault (Err (error.BadKeep record_number)) = false
is_keep_fault (Err error.DeskFault) = false
is_keep_fault (Err error.KeepFault) = true
is_keep_fault (Err error.NoMemory) = false

-- why a layer was not indexed, as why a replay ends
abbrev pub replay_error : IndexError → ReplayError
replay_error index.DeskFault = error.DeskFault
replay_error index.NoMemory = error.NoMemory
