use Rattle.std.proofs.Common.{sym}
use Rattle.cv_run.proofs.push.push_by.Goals as goal

pub returns-clause-outcome : goal.returns-clause-outcome
returns-clause-outcome g c = record {
  end = c.serve_pushed.result;
  status = sym c.status_of.ensures;
  ends = c.serve_pushed.ensures.outcome;
  reads = c.serve_pushed.ensures.reads;
  others = (c.serve_pushed.ensures.others, c.serve_pushed.ensures.count);
}
