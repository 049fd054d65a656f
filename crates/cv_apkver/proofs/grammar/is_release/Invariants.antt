use Rattle.std.proofs.Common.{◌≡◌, length}
use Rattle.cv_apkver.specs.Grammar.{DOT}
use Rattle.cv_apkver.specs.Parts.{is_release, pieces}
use Rattle.cv_apkver.proofs.grammar.is_release.Given as goal

abbrev pub invariant-loop-last : goal.invariant-loop-last
invariant-loop-last l = is_release (pieces DOT l.remaining) ≡ is_release (pieces DOT l.fn.text)

abbrev pub decreases-loop-last : goal.decreases-loop-last
decreases-loop-last l = length l.remaining
