-- What a call of this crate answers if a definition says what is read (defined by this project).
use Rattle.std.specs.Prelude.{Option, Some, None, Result}
use Rattle.cv_base.specs.Answer.{MatchesUnlessOutOfMemory}
use Rattle.cv_osv.specs.declared.record_error.AdvisoryError.{AdvisoryError}
use Rattle.cv_osv.specs.declared.record_error.AdvisoryError.TheVariants as advisory
use Rattle.cv_osv.specs.declared.record_error.RecordWhat.{RecordWhat}

-- what is wrong with a record by its error: nothing if the call ran out of memory
abbrev pub what_in : AdvisoryError → Option RecordWhat
what_in (advisory.Bad what) = Some what
what_in advisory.NoMemory = None

-- a call answers what a definition reads, or its fault, unless it ran out of memory
abbrev pub Reads : {X Y : Type 0} → (X → Y) → Result X AdvisoryError → Result Y RecordWhat → Type 0
Reads view result wanted = MatchesUnlessOutOfMemory what_in view result wanted

-- the same of a call that takes no memory
abbrev pub Answers : {X Y : Type 0} → (X → Y) → Result X RecordWhat → Result Y RecordWhat → Type 0
Answers view result wanted = MatchesUnlessOutOfMemory (λ what. Some what) view result wanted
