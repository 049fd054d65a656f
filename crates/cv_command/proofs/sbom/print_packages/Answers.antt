use Rattle.std.proofs.Common.{inr}
use Rattle.cv_command.proofs.Ends.{text_printed}
use Rattle.cv_command.specs.code.Printing.{printed_of}
use Rattle.cv_command.proofs.sbom.print_packages.Goals as goal

pub returns-in-Ok-clause-printed : goal.returns-in-Ok-clause-printed
returns-in-Ok-clause-printed g c =
    inr (printed_of c.in-Ok.answer, c.in-Ok.ensures.outcome, text_printed _ c.as_str.result.now c.in-Ok.answer.ended _ _ c.print.result c.as_str.ensures.value c.print.ensures.printed)
