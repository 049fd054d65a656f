use Rattle.std.proofs.Common.{◌≡◌, None, drop, option_map}
use Rattle.std.specs.Ordering.{on}
use Rattle.cv_match_range.specs.Order.{version_cmp_of}
use Rattle.cv_match_range.specs.code.Walk.{least_place, numbered}
use Rattle.cv_match_range.proofs.within.least_place.Given as goal

-- the least so far, with those that remain, gives the least of all
abbrev pub invariant-loop-place : goal.invariant-loop-place
invariant-loop-place g l = let R = on g.V.Version.text (version_cmp_of g.V.Version.kind) in
    least_place R l.version (option_map numbered l.best) l.place (drop l.place l.events) ≡ least_place R l.version None 0 l.events
