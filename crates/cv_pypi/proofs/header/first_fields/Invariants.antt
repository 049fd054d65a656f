use Rattle.std.proofs.Common.{◌≡◌, codes}
use Rattle.std.specs.Option.{option_map, option_or}
use Rattle.cv_base.specs.code.Cuts.{remaining_len}
use Rattle.cv_pypi.specs.Fields.{value_by}
use Rattle.cv_pypi.specs.Metadata.{first_value, header, header_lines}
use Rattle.cv_pypi.specs.code.Lines.{lines_in}
use Rattle.cv_pypi.proofs.header.first_fields.Given as goal

-- what was found so far counts before the first value of the remaining lines
abbrev pub invariant-loop-remaining : goal.invariant-loop-remaining
invariant-loop-remaining l =
    let lines = header (lines_in (option_map (λ s. s.now) l.remaining)) in
    record {
      name : option_or (option_map (λ v. v.now) l.name) (first_value (value_by (codes "Name")) lines) ≡ first_value (value_by (codes "Name")) (header_lines l.fn.bytes);
      version : option_or (option_map (λ v. v.now) l.version) (first_value (value_by (codes "Version")) lines) ≡ first_value (value_by (codes "Version")) (header_lines l.fn.bytes);
    }

abbrev pub decreases-loop-remaining : goal.decreases-loop-remaining
decreases-loop-remaining l = remaining_len (option_map (λ s. s.now) l.remaining)
