use Rattle.std.proofs.Common.{◌≡◌, ◌++◌, drop, filter}
use Rattle.cv_overlay.specs.Lay.{is_plain}
use Rattle.cv_overlay.specs.Mark.{mark}
use Rattle.cv_overlay.proofs.root.plain_entries.Given as goal

-- the copies so far, with the remaining plain entries, are all plain entries
abbrev pub invariant-loop-entry : goal.invariant-loop-entry
invariant-loop-entry l = l.plain.items ++ filter (λ e. is_plain (mark e)) (drop l.entry-index l.entries) ≡ filter (λ e. is_plain (mark e)) l.entries
