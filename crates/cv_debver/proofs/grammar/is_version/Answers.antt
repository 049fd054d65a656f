use Rattle.std.proofs.Common.{sym, ◌∙◌}
use Rattle.cv_debver.proofs.Written.{IsVersion-from_is_version, is_version-from_IsVersion}
use Rattle.cv_debver.proofs.grammar.is_version.Goals as goal

pub returns-clause-grammar : goal.returns-clause-grammar
returns-clause-grammar c = (
  λ taken. IsVersion-from_is_version c.args.text.now (sym c.has_version_parts.ensures ∙ taken),
  λ version. c.has_version_parts.ensures ∙ is_version-from_IsVersion c.args.text.now version,
)
