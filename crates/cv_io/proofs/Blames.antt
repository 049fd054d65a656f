-- What follows from a count that rose.
use Rattle.std.proofs.Common.{ℕ, Bool, true, false}
use Rattle.cv_seq.specs.Cause.{CausedBy}

-- where the count rose, an answer may blame the object or not
pub blames_or_not : (before now : ℕ) (blamed : Bool) → CausedBy before now true → CausedBy before now blamed
blames_or_not before now true h = h
blames_or_not before now false h = record { later = h.later; rose = tt }
