-- Private facts of reading from left to right: a field is a value and the bytes after it.
use Rattle.std.specs.Prelude.{ℕ, zero, suc, nat_lt, if◌then◌else◌, List, [], ◌∷◌, length, take, drop, Option, Some, None}
use Rattle.std.specs.Int.{Width, w32, w64, byte_len, from_be_bytes}
use Rattle.cv_keep_record.specs.declared.event.WorkKind.{WorkKind}
use Rattle.cv_keep_record.specs.declared.event.WorkKind.TheVariants.{Claim, Indexed, Fault, Memory}
use Rattle.cv_keep_record.specs.declared.event.KeptBy.{KeptBy}
use Rattle.cv_keep_record.specs.declared.event.KeptBy.TheVariants.{Line, Work}
use Rattle.cv_keep_record.specs.declared.event.KeptEvent.{KeptEvent}

infixl 10 ◌>>=◌
abbrev pub ◌>>=◌ : {A B : Type 0} → Option A → (A → Option B) → Option B
(Some x) >>= f = f x
None >>= f = None

-- these bytes at the front
abbrev pub front_at : ℕ → List ℕ → Option (List ℕ × List ℕ)
front_at len bytes = if nat_lt (length bytes) len then None else Some (take len bytes, drop len bytes)

abbrev pub number_at : Width → List ℕ → Option (ℕ × List ℕ)
number_at w bytes =
    if nat_lt (length bytes) (byte_len w) then None else Some (from_be_bytes w (take (byte_len w) bytes), drop (byte_len w) bytes)

-- one byte
abbrev pub byte_at : List ℕ → Option (ℕ × List ℕ)
byte_at [] = None
byte_at (byte ∷ rest) = Some (byte, rest)

abbrev pub kind_of : ℕ → Option WorkKind
kind_of zero = Some Claim
kind_of (suc zero) = Some Indexed
kind_of (suc (suc zero)) = Some Fault
kind_of (suc (suc (suc zero))) = Some Memory
kind_of (suc (suc (suc (suc n)))) = None

-- a length, and that many bytes
unfoldable pub text_at : List ℕ → Option (List ℕ × List ℕ)
text_at bytes = do
  len ← number_at w32 bytes
  front_at len.0 len.1

unfoldable pub line_at : List ℕ → Option (KeptBy × List ℕ)
line_at bytes = do
  lane ← byte_at bytes
  line ← number_at w64 lane.1
  text ← text_at line.1
  Some (Line lane.0 line.0 text.0, text.1)

unfoldable pub work_at : List ℕ → Option (KeptBy × List ℕ)
work_at bytes = do
  worker ← number_at w32 bytes
  byte ← byte_at worker.1
  kind ← kind_of byte.0
  layer ← front_at 32 byte.1
  Some (Work worker.0 kind layer.0, layer.1)

unfoldable pub by_at : List ℕ → Option (KeptBy × List ℕ)
by_at [] = None
by_at (zero ∷ rest) = line_at rest
by_at (suc zero ∷ rest) = work_at rest
by_at (suc (suc n) ∷ rest) = None

unfoldable pub event_at : List ℕ → Option (KeptEvent × List ℕ)
event_at bytes = do
  number ← number_at w64 bytes
  by ← by_at number.1
  Some (record { number = number.0; by = by.0 }, by.1)
