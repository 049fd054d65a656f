use Rattle.cv_serve_legal.proofs.Ended.{all_ended, all_indexed, divided, pending_from}
use Rattle.cv_serve_legal.proofs.complete_laws.completeness_laws.Goals as goal

pub returns : goal.returns
returns c = record { indexed = all_indexed; ended = all_ended; divided = divided; pending = pending_from }
