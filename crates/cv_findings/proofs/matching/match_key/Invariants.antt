use Rattle.std.proofs.Common.{◌≡◌, ◌+◌, ◌-◌, ◌≤◌, ◌++◌, drop, length}
use Rattle.std.specs.List.{flat_map, sum_by}
use Rattle.std.specs.Option.{option_copied}
use Rattle.cv_advdb.specs.Feeds.{listed_under}
use Rattle.cv_findings.specs.code.Lookup.{found_once, tries_once}
use Rattle.cv_findings.proofs.matching.match_key.Given as goal

-- the findings so far, with those of the remaining records, are all, and so the tries
abbrev pub invariant-loop-listed : goal.invariant-loop-listed
invariant-loop-listed g l = let records = listed_under l.key l.feeds.feeds in
    (l.out.items ++ flat_map (found_once (option_copied l.earlier) l.«package») (drop l.index records) ≡ l.fn.out.items ++ flat_map (found_once (option_copied l.earlier) l.«package») records)
    × (l.steps + sum_by (tries_once (option_copied l.earlier)) (drop l.index records) ≤ l.fn.steps + sum_by (tries_once (option_copied l.earlier)) records)

abbrev pub decreases-loop-listed : goal.decreases-loop-listed
decreases-loop-listed g l = length (listed_under l.key l.feeds.feeds) - l.index
