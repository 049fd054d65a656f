use Rattle.cv_facts.proofs.TargetLemmas.{named, unnamed}
use Rattle.cv_facts.proofs.hides.name_of.Goals as goal

pub returns-in-Some-clause-name : goal.returns-in-Some-clause-name
returns-in-Some-clause-name c = named c.args.path.now c.in-Some.name.now c.in-Some.ensures

pub returns-in-None-clause-name : goal.returns-in-None-clause-name
returns-in-None-clause-name c = unnamed c.args.path.now c.text-text.result.now c.in-None.ensures c.text-text.ensures.value
