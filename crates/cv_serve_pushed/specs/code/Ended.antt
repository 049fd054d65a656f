-- The end of a service that began, or ran out of memory before it did.
use Rattle.std.specs.Prelude.{Result, Ok, Err}
use Rattle.cv_serve.specs.declared.end.ServeEnd.{ServeEnd}
use Rattle.cv_serve.specs.declared.end.ServeEnd.TheVariants as end

abbrev pub ended_by : {E : Type 0} → Result ServeEnd E → ServeEnd
ended_by (Ok ended) = ended
ended_by (Err error) = end.NoMemory
