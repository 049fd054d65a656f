use Rattle.cv_serve_legal.proofs.Generations.{never_fall}
use Rattle.cv_serve_legal.proofs.laws.generation_law.Goals as goal

pub returns : goal.returns
returns c = never_fall c.step_laws.ensures.generation
