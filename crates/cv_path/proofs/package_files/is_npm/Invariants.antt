use Rattle.std.proofs.Common.{◌≡◌}
use Rattle.std.specs.List.{slice_split}
use Rattle.std.specs.Option.{option_map}
use Rattle.cv_path.specs.code.Cuts.{remaining_len, remaining_parts}
use Rattle.cv_path.specs.Path.{is_slash}
use Rattle.cv_path.specs.Place.{is_npm}
use Rattle.cv_path.proofs.package_files.is_npm.Given as goal

-- the remaining text ends so if the whole does
abbrev pub invariant-loop-remaining : goal.invariant-loop-remaining
invariant-loop-remaining l = is_npm (remaining_parts is_slash (option_map (λ text. text.now) l.remaining)) ≡ is_npm (slice_split is_slash l.fn.text)

abbrev pub decreases-loop-remaining : goal.decreases-loop-remaining
decreases-loop-remaining l = remaining_len (option_map (λ text. text.now) l.remaining)
