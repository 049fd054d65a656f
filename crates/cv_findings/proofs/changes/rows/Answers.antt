use Rattle.std.proofs.Common.{◌∙◌}
use Rattle.cv_findings.proofs.RowLemmas.{walked_is}
use Rattle.cv_findings.proofs.changes.rows.Goals as goal

pub returns : goal.returns
returns c = c.of.ensures ∙ c.in_ok-rows.ensures ∙ walked_is c.args.image c.args.before.now c.args.after.now c.requires.before c.requires.after
