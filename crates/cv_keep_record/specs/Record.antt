-- A record of the kept file (defined by this project): the events of one round, in order, at least one. Each is a number in eight
-- bytes; then 00, the lane in one, the line in eight, a length in four and that many bytes of the request line; or 01, the worker
-- in four, one byte for what it did, and the 32 bytes of the layer's digest. Numbers have the most significant byte first.
use Rattle.std.specs.Prelude.{◌≡◌, ℕ, ◌+◌, ◌<◌, ◌^◌, List, [], ◌∷◌, ◌++◌, length, ⊤}
use Rattle.std.specs.Int.{w32, w64, to_be_bytes}
use Rattle.std.specs.List.{flat_map, AllByRecursion}
use Rattle.cv_keep_record.specs.declared.event.WorkKind.{WorkKind}
use Rattle.cv_keep_record.specs.declared.event.WorkKind.TheVariants.{Claim, Indexed, Fault, Memory}
use Rattle.cv_keep_record.specs.declared.event.KeptBy.{KeptBy}
use Rattle.cv_keep_record.specs.declared.event.KeptBy.TheVariants.{Line, Work}
use Rattle.cv_keep_record.specs.declared.event.KeptEvent.{KeptEvent}

-- the byte for what a worker did
abbrev pub kind_byte : WorkKind → ℕ
kind_byte Claim = 0
kind_byte Indexed = 1
kind_byte Fault = 2
kind_byte Memory = 3

-- the bytes after the number
abbrev pub by_bytes : KeptBy → List ℕ
by_bytes (Line lane line text) = 0 ∷ lane ∷ to_be_bytes w64 line ++ to_be_bytes w32 (length text) ++ text
by_bytes (Work worker kind layer) = 1 ∷ to_be_bytes w32 worker ++ kind_byte kind ∷ layer

-- the bytes of an event
abbrev pub kept_bytes : KeptEvent → List ℕ
kept_bytes event = to_be_bytes w64 event.number ++ by_bytes event.by

-- each field after the number fits its bytes
abbrev pub FitsBy : KeptBy → Type 0
FitsBy (Line lane line text) = (lane < 2 ^ 8) × (line < 2 ^ 64) × (length text < 2 ^ 32)
FitsBy (Work worker kind layer) = (worker < 2 ^ 32) × (length layer ≡ 32)

-- each field of an event fits its bytes
pub record Fits (event : KeptEvent) : Type 0 where
  pub number : event.number < 2 ^ 64
  pub by : FitsBy event.by

-- the bytes are a record of these events
pub record IsRecord (bytes : List ℕ) (events : List KeptEvent) : Type 0 where
  pub some : 0 < length events
  pub fit : AllByRecursion Fits events
  pub spelled : bytes ≡ flat_map kept_bytes events

-- an event of a request line, and one of a worker
abbrev pub line_event : ℕ → ℕ → ℕ → List ℕ → KeptEvent
line_event number lane line text = record { number = number; by = Line lane line text }

abbrev pub work_event : ℕ → ℕ → WorkKind → List ℕ → KeptEvent
work_event number worker kind layer = record { number = number; by = Work worker kind layer }

-- after this many events, the numbers go on
abbrev pub AreNumberedFrom : ℕ → List KeptEvent → Type 0
AreNumberedFrom count [] = ⊤
AreNumberedFrom count (event ∷ events) = (event.number ≡ count + 1) × AreNumberedFrom (count + 1) events
