use Rattle.std.proofs.Common.{◌≡◌, ◌≤◌, ◌⊎◌}
use Rattle.cv_io.specs.Lines.{HasNoLineEnd}
use Rattle.cv_io.specs.Takes.{Takes}
use Rattle.cv_io.specs.code.Gather.{held_by, progress_by, SameLimits, reads_remaining}
use Rattle.cv_io.proofs.gather.Gather.gather.Given as goal

abbrev pub invariant-pieces : goal.invariant-pieces
invariant-pieces g l = record {
  takes : Takes (held_by l.initial.self) (held_by l.self) (progress_by l.initial.self) (progress_by l.self) (g.S.Source.remaining l.initial.input) (g.S.Source.remaining l.input);
  needed : HasNoLineEnd (held_by l.initial.self) ⊎ (progress_by l.self ≡ progress_by l.initial.self);
  limits : SameLimits l.initial.self l.self;
  later : g.S.Source.faults l.initial.input ≤ g.S.Source.faults l.input;
}

abbrev pub decreases-pieces : goal.decreases-pieces
decreases-pieces g l = reads_remaining l.self
