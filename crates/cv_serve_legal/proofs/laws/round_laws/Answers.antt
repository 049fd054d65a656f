use Rattle.cv_serve_legal.proofs.Divided.{divides, lines_kept, rounds_short}
use Rattle.cv_serve_legal.proofs.Unique.{determined}
use Rattle.cv_serve_legal.proofs.laws.round_laws.Goals as goal

pub returns : goal.returns
returns c = record {
  ends = divides;
  unique = determined;
  lines = lines_kept;
  short = rounds_short;
}
