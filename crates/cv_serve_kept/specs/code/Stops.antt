-- How a kept service stops, and what ends it.
use Rattle.std.specs.Prelude.{Bool, true, false, Result, Ok, Err}
use Rattle.cv_io.specs.Fault.{is_write_fault}
use Rattle.cv_io.specs.declared.write.WriteError.TheVariants as write
use Rattle.cv_keep.specs.declared.error.KeepError.TheVariants as keep
use Rattle.cv_serve.specs.declared.end.ServeEnd.{ServeEnd}
use Rattle.cv_serve.specs.declared.end.ServeEnd.TheVariants as end
use Rattle.cv_serve_kept.specs.declared.end.KeptEnd.{KeptEnd}
use Rattle.cv_serve_kept.specs.declared.end.KeptEnd.TheVariants as kept
use Rattle.cv_serve_kept.specs.declared.stop.Stop.{Stop}
use Rattle.cv_serve_kept.specs.declared.stop.Stop.TheVariants as stop

-- the end of a service that a stop ended
abbrev pub stop_end : Stop → KeptEnd
stop_end (stop.Keep keep.DiskFault) = kept.KeepFault
stop_end (stop.Keep keep.Full) = kept.KeepFull
stop_end (stop.Keep keep.NoMemory) = kept.Served end.NoMemory
stop_end stop.Desk = kept.DeskFault
stop_end stop.BadKeep = kept.BadKeep
stop_end (stop.Output write.WriteFault) = kept.Served end.WriteFault
stop_end (stop.Output write.NoMemory) = kept.Served end.NoMemory
stop_end stop.NoMemory = kept.Served end.NoMemory

-- the end of a service that came to its end, or was stopped
abbrev pub end_of : Result ServeEnd Stop → KeptEnd
end_of (Ok ended) = kept.Served ended
end_of (Err stopped) = stop_end stopped

-- the stop is a failure of the output
abbrev pub is_write_stop : {X : Type 0} → Result X Stop → Bool
is_write_stop (Ok x) = false
is_write_stop (Err (stop.Output error)) = is_write_fault {X = Unit} (Err error)
is_write_stop (Err _) = false

-- the stop is a failure of the file
abbrev pub is_keep_stop : {X : Type 0} → Result X Stop → Bool
is_keep_stop (Ok x) = false
is_keep_stop (Err (stop.Keep keep.DiskFault)) = true
is_keep_stop (Err _) = false

-- the stop is a failure of the first desk
abbrev pub is_desk_stop : {X : Type 0} → Result X Stop → Bool
is_desk_stop (Ok x) = false
is_desk_stop (Err stop.Desk) = true
is_desk_stop (Err _) = false
