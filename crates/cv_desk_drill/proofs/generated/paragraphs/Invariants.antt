use Rattle.std.proofs.Common.{◌≡◌, ◌++◌, drop}
use Rattle.std.specs.Prelude.{string_bytes}
use Rattle.cv_desk_drill.specs.Generated.{paragraphs}
use Rattle.cv_desk_drill.proofs.generated.paragraphs.Given as goal

-- the paragraphs so far, with the remaining ones, are all
abbrev pub invariant-loop-k : goal.invariant-loop-k
invariant-loop-k l = string_bytes l.out ++ paragraphs l.s (drop l.k-index l.ks) ≡ paragraphs l.s l.ks
