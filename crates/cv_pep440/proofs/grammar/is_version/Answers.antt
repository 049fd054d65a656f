-- The test that was made is the one of the definition, which passes exactly the texts of the grammar.
use Rattle.std.proofs.Common.{Bool, ◌↔◌, IsTrue, sym, subst}
use Rattle.cv_pep440.specs.Grammar.{IsVersion}
use Rattle.cv_pep440.proofs.ReadBack.{is_version_iff}
use Rattle.cv_pep440.proofs.grammar.is_version.Goals as goal

pub returns-clause-grammar : goal.returns-clause-grammar
returns-clause-grammar c =
    let Passes : Bool → Type 0 = λ b. IsTrue b ↔ IsVersion c.args.text.now in
    subst Passes (sym c.has_version_parts.ensures) (is_version_iff c.args.text.now)
