-- The count so far, and what remains to be read.
use Rattle.std.proofs.Common.{◌≡◌, ℕ, ◌+◌, List, length, refl, ◌∙◌, ap, arith}
use Rattle.std.specs.Prelude.{Option, None, Some, Ok, Err, IfSome, IsSomeAnd}
use Rattle.cv_io.specs.declared.line.Line.TheVariants.{Text, End}
use Rattle.cv_io.specs.declared.line.LineError.{LineError}
use Rattle.cv_io.specs.declared.line.LineError.TheVariants.{ReadFault, LineTooLong, InputTooLong, NoMemory}
use Rattle.cv_io.specs.Lines.{Reading}
use Rattle.cv_io.specs.Reader.{Reads}
use Rattle.bench_work.specs.Lines.{IsCountOf}

-- the lines counted, with those that remain, are the whole
pub record IsRest (whole rest : Reading) (count : ℕ) : Type 0 where
  pub stop : whole.stop ≡ rest.stop
  pub lines : length whole.lines ≡ count + length rest.lines

abbrev pub Remaining : Option Reading → Option Reading → ℕ → Type 0
Remaining before now count = IfSome before (λ whole. IsSomeAnd now (λ rest. IsRest whole rest count))

pub remaining_first : (r : Option Reading) → Remaining r r 0
remaining_first None = tt
remaining_first (Some r) = record { stop = refl; lines = omega arith }

pub remaining_more : (before now next : Option Reading) (count : ℕ) (line : List ℕ) → Remaining before now count → Reads now next (Ok (Text line))
    → Remaining before next (count + 1)
remaining_more None now next count line h k = tt
remaining_more (Some whole) None next count line h k = absurd h
remaining_more (Some whole) (Some rest) None count line h k = absurd k
remaining_more (Some whole) (Some rest) (Some later) count line h k =
    let lines : length rest.lines ≡ length later.lines + 1 = ap (λ (r : Reading). length r.lines) k ∙ omega arith in
    record { stop = h.stop ∙ ap (λ (r : Reading). r.stop) k; lines = omega (arith, h.lines) }

pub remaining_end : (before now next : Option Reading) (count : ℕ) → Remaining before now count → Reads now next (Ok End) → IfSome before (λ whole. IsCountOf whole (Ok count))
remaining_end None now next count h k = tt
remaining_end (Some whole) None next count h k = absurd h
remaining_end (Some whole) (Some rest) next count h k = record {
  finished = h.stop ∙ ap (λ (r : Reading). r.stop) k;
  lines = omega (arith, h.lines, ap (λ (r : Reading). length r.lines) k);
}

pub remaining_refused : (before now next : Option Reading) (count : ℕ) (e : LineError) → Remaining before now count → Reads now next (Err e) → IfSome before (λ whole. IsCountOf whole (Err e))
remaining_refused None now next count e h k = tt
remaining_refused (Some whole) None next count e h k = absurd h
remaining_refused (Some whole) (Some rest) next count ReadFault h k = tt
remaining_refused (Some whole) (Some rest) next count LineTooLong h k = h.stop ∙ ap (λ (r : Reading). r.stop) k
remaining_refused (Some whole) (Some rest) next count InputTooLong h k = h.stop ∙ ap (λ (r : Reading). r.stop) k
remaining_refused (Some whole) (Some rest) next count NoMemory h k = tt
