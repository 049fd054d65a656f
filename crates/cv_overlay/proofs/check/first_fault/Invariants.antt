use Rattle.std.proofs.Common.{◌≡◌, map, drop, None}
use Rattle.std.specs.Option.{option_map}
use Rattle.cv_overlay.specs.code.Step.{fault_from}
use Rattle.cv_overlay.proofs.check.first_fault.Given as goal

-- the first fault of the remaining entries, after the entry before them, is that of the whole
abbrev pub invariant-loop-index : goal.invariant-loop-index
invariant-loop-index g l =
    fault_from l.index (option_map (λ b. g.E.Outlined.outline b.now) l.before) (map g.E.Outlined.outline (drop l.index l.entries))
    ≡ fault_from 0 None (map g.E.Outlined.outline l.entries)
