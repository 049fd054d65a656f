use Rattle.std.proofs.Common.{sym, ◌∙◌}
use Rattle.cv_osrel.proofs.Assignments.{other_name}
use Rattle.cv_osrel.proofs.assignment.value_by.Goals as goal

pub returns-else-eq : goal.returns-else-eq
returns-else-eq c = sym (other_name c.args.name.now c.args.line.now c.in-Some.front.now c.in-Some.rest.now (sym c.in-Some.ensures.parts) (sym c.eq.ensures ∙ c.if-eq.false))
