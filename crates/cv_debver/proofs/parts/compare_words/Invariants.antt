use Rattle.std.proofs.Common.{◌≡◌, length}
use Rattle.cv_debver.specs.Parts.{after_word, front_word, word_cmp}
use Rattle.cv_debver.proofs.parts.compare_words.Given as goal

-- what remains of both words decides, and ends where they end
abbrev pub invariant-loop-x : goal.invariant-loop-x
invariant-loop-x l = record {
  ordering : word_cmp (front_word l.left) (front_word l.right) ≡ word_cmp (front_word l.fn.a) (front_word l.fn.b);
  left : after_word l.left ≡ after_word l.fn.a;
  right : after_word l.right ≡ after_word l.fn.b;
}

abbrev pub decreases-loop-x : goal.decreases-loop-x
decreases-loop-x l = length l.left
