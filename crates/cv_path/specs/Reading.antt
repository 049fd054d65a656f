-- What an error of a path says besides being out of memory.
use Rattle.std.specs.Prelude.{Bool, true, false}
use Rattle.cv_path.specs.declared.path.PathError.{PathError}
use Rattle.cv_path.specs.declared.path.PathError.TheVariants as error

-- a path was not read because of memory
abbrev pub is_path_memory : PathError → Bool
is_path_memory error.NoMemory = true
is_path_memory error.Empty = false
is_path_memory error.TooLong = false
is_path_memory error.BadComponent = false
