use Rattle.std.proofs.Common.{◌≡◌, ◌==◌, ◌≤◌, length}
use Rattle.cv_debver.specs.Version.{last_position}
use Rattle.cv_debver.proofs.version.find_last.Given as goal

-- the byte stands last where it does in what is in front of the bytes read
abbrev pub invariant-loop-front : goal.invariant-loop-front
invariant-loop-front l = record {
  place : last_position (λ x. x == l.fn.byte) l.front ≡ last_position (λ x. x == l.fn.byte) l.fn.bytes;
  bound : length l.front ≤ length l.fn.bytes;
}

abbrev pub decreases-loop-front : goal.decreases-loop-front
decreases-loop-front l = length l.front
