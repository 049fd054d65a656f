use Rattle.std.proofs.Common.{◌≡◌, ◌++◌, length, string_bytes, true}
use Rattle.std.specs.List.{list_all}
use Rattle.cv_base.specs.Printing.{is_printing}
use Rattle.cv_pypi.specs.Name.{normalized}
use Rattle.cv_pypi.proofs.name.normalized.Given as goal

-- the text so far and the normalized rest are the normalized name
abbrev pub invariant-loop-remaining : goal.invariant-loop-remaining
invariant-loop-remaining l = record {
  text : string_bytes l.text ++ normalized l.remaining ≡ normalized l.fn.name;
  printing : list_all is_printing l.remaining ≡ true;
}

abbrev pub decreases-loop-remaining : goal.decreases-loop-remaining
decreases-loop-remaining l = length l.remaining
