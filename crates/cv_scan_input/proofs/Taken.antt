-- How many bytes were taken of an input, call by call.
use Rattle.std.specs.Prelude.{◌≡◌, ℕ, ◌≤◌, ◌^◌, List, [], ◌++◌, Option, None, Some, Result, Err, refl}
use Rattle.std.specs.Io.KnownBytes.{Consumes}
use Rattle.std.proofs.Common.{◌∙◌, arith, length-append}
use Rattle.cv_io.proofs.Takes.{Consumes-more}
use Rattle.cv_io.specs.declared.line.Line.{Line}
use Rattle.cv_io.specs.declared.line.LineError.{LineError}
use Rattle.cv_io.specs.declared.line.LineError.TheVariants as line
use Rattle.cv_io.specs.Reader.{Reader, Step}
use Rattle.cv_scan_input.specs.Taken.{IsTaken, IsTakenWithin}
use Rattle.cv_scan_input.specs.code.TakenParts.{IsTakenFrom, IsTakenTo}

consumes_none : (l : Option (List ℕ)) → Consumes l l []
consumes_none None = tt
consumes_none (Some bytes) = refl

-- ---- by the bytes that a reader took

-- nothing was taken
pub taken_first : (was : ℕ) (l : Option (List ℕ)) → IsTakenTo was was l l
taken_first was l = record { bytes = []; front = consumes_none l; counted = omega arith }

-- by one call
pub taken_next : (before now : Reader) (l m : Option (List ℕ)) (answer : Result Line LineError) → Step before now l m answer → IsTakenTo before.taken now.taken l m
taken_next before now l m answer s = record { bytes = s.takes.more; front = s.takes.consumed; counted = s.takes.counted }

-- by one more call
pub taken_more : (was : ℕ) (before now : Reader) (l m k : Option (List ℕ)) (answer : Result Line LineError) → IsTakenTo was before.taken l m → Step before now m k answer → IsTakenTo was now.taken l k
taken_more was before now l m k answer h s = record {
  bytes = h.bytes ++ s.takes.more;
  front = Consumes-more l m k h.bytes s.takes.more h.front s.takes.consumed;
  counted = omega (arith, h.counted, s.takes.counted, length-append h.bytes s.takes.more);
}

-- the count of a reader stays within its limit
pub taken_within : (before now : Reader) (l m : Option (List ℕ)) (answer : Result Line LineError) → Step before now l m answer → now.max_input ≡ 2 ^ 36 → now.taken ≤ 2 ^ 36
taken_within before now l m answer s inputs = omega (arith, s.within, inputs)

-- and is at its limit if the input is too long
pub taken_up : (before now : Reader) (l m : Option (List ℕ)) → Step before now l m (Err line.InputTooLong) → now.max_input ≡ 2 ^ 36 → now.taken ≡ 2 ^ 36
taken_up before now l m s inputs = s.answers.1 ∙ inputs

-- so what was taken stays within it
pub taken_from : (was : ℕ) (before now : Reader) (l m k : Option (List ℕ)) (answer : Result Line LineError) → IsTakenTo was before.taken l m → Step before now m k answer → now.max_input ≡ 2 ^ 36
    → IsTakenFrom was l k
taken_from was before now l m k answer h s inputs =
    let t = taken_more was before now l m k answer h s in
    record { bytes = t.bytes; front = t.front; within = omega (arith, t.counted, s.within, inputs) }

-- ---- by the bytes that remain

pub none_taken : (limit : ℕ) (l : Option (List ℕ)) → IsTakenWithin limit l l
none_taken limit l = record { bytes = []; front = consumes_none l; within = omega arith }

-- in line 1
pub first_taken : (was is : ℕ) (l m : Option (List ℕ)) → IsTakenTo was is l m → was ≡ 0 → is ≤ 2 ^ 36 → IsTakenWithin (2 ^ 36) l m
first_taken was is l m h none limit = record { bytes = h.bytes; front = h.front; within = omega (arith, h.counted, none, limit) }

pub first_taken_up : (was is : ℕ) (l m : Option (List ℕ)) → IsTakenTo was is l m → was ≡ 0 → is ≡ 2 ^ 36 → IsTaken (2 ^ 36) l m
first_taken_up was is l m h none up = record { bytes = h.bytes; front = h.front; counted = omega (arith, h.counted, none, up) }

-- after it
pub rest_taken : (was is : ℕ) (l m k : Option (List ℕ)) → IsTakenTo was is l m → IsTakenFrom is m k → was ≡ 0 → IsTakenWithin (2 ^ 36) l k
rest_taken was is l m k h r none = record {
  bytes = h.bytes ++ r.bytes;
  front = Consumes-more l m k h.bytes r.bytes h.front r.front;
  within = omega (arith, h.counted, r.within, none, length-append h.bytes r.bytes);
}

pub rest_taken_up : (was is : ℕ) (l m k : Option (List ℕ)) → IsTakenTo was is l m → IsTakenTo is (2 ^ 36) m k → was ≡ 0 → IsTaken (2 ^ 36) l k
rest_taken_up was is l m k h r none = record {
  bytes = h.bytes ++ r.bytes;
  front = Consumes-more l m k h.bytes r.bytes h.front r.front;
  counted = omega (arith, h.counted, r.counted, none, length-append h.bytes r.bytes);
}
