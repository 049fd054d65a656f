-- Entries in ascending order have their reads in order.
use Rattle.std.specs.Prelude.{◌≡◌, List, [], ◌∷◌}
use Rattle.std.proofs.Common.{arith, inl, inr}
use Rattle.cv_core_records.specs.declared.read.ReadEntry.{ReadEntry}
use Rattle.cv_transcript.specs.Order.{AreAscending, Precedes, PrecedesByLane}
use Rattle.cv_transcript.specs.declared.entry.Entry.{Entry}
use Rattle.cv_transcript.specs.declared.entry.Entry.TheVariants as entry
use Rattle.cv_base.proofs.AllItems.{all_weaker}
use Rattle.cv_serve_legal.specs.Round.{AreReadsOrdered, StandsBefore}

-- of two reads with one front, the one that precedes is that of the lower lane, or of the lower line
read_stands : (first second : ReadEntry) → Precedes (entry.Read first) (entry.Read second) → first.front ≡ second.front → PrecedesByLane first second
read_stands first second (inl less) same = absurd (omega (arith, less, same))
read_stands first second (inr h) same = h.1

stands : (first second : Entry) → Precedes first second → StandsBefore first second
stands (entry.Read first) (entry.Read second) h = read_stands first second h
stands (entry.Read first) (entry.Event second) h = tt
stands (entry.Read first) (entry.Refused line error) h = tt
stands (entry.Event first) second h = tt
stands (entry.Refused line error) second h = tt

pub reads_in_order : (es : List Entry) → AreAscending es → AreReadsOrdered es
reads_in_order [] h = tt
reads_in_order (e ∷ es) h = (all_weaker (Precedes e) (StandsBefore e) es (stands e) h.1, reads_in_order es h.2)
