use Rattle.cv_path.proofs.PathSlashes.{found_last, found_none, found_parts}
use Rattle.cv_path.proofs.path_text.split_last.Goals as goal

pub returns-clause-parts : goal.returns-clause-parts
returns-clause-parts c = found_parts c.args.text.now c.rsplit_once.result c.rsplit_once.ensures.cases

pub returns-clause-last : goal.returns-clause-last
returns-clause-last c = found_last c.args.text.now c.rsplit_once.result c.rsplit_once.ensures.cases

pub returns-clause-none : goal.returns-clause-none
returns-clause-none c = found_none c.args.text.now c.rsplit_once.result c.rsplit_once.ensures.cases
