use Rattle.std.proofs.Common.{◌≡◌, length}
use Rattle.cv_pep440.specs.Parts.{after_word}
use Rattle.cv_pep440.proofs.parts.strip_word.Given as goal

abbrev pub invariant-loop-letters : goal.invariant-loop-letters
invariant-loop-letters l = after_word l.letters l.remaining ≡ after_word l.fn.word l.fn.text

abbrev pub decreases-loop-letters : goal.decreases-loop-letters
decreases-loop-letters l = length l.letters
