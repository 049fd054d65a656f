use Rattle.std.proofs.Common.{◌≡◌, drop, map}
use Rattle.cv_pep440.specs.Parts.{after_any}
use Rattle.cv_pep440.proofs.parts.strip_any.Given as goal

-- the words that remain are those that count
abbrev pub invariant-loop-word : goal.invariant-loop-word
invariant-loop-word l = after_any (map (λ word. word.now) (drop l.word-index l.words)) l.fn.text ≡ after_any (map (λ word. word.now) l.fn.words) l.fn.text
