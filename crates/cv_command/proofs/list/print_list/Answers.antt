use Rattle.std.proofs.Common.{inr}
use Rattle.cv_command.proofs.ListLemmas.{answer_printed, never_desk}
use Rattle.cv_command.proofs.list.print_list.Goals as goal

pub returns-in-Ok-clause-printed : goal.returns-in-Ok-clause-printed
returns-in-Ok-clause-printed g c =
    inr (answer_printed c.in-Ok.answer _ c.as_str.result.now _ _ c.print.result c.in-Ok.ensures c.as_str.ensures.value c.print.ensures.printed)

pub returns-in-Ok-clause-no_desk : goal.returns-in-Ok-clause-no_desk
returns-in-Ok-clause-no_desk g c =
    never_desk c.in-Ok.answer c.args.request.now.first c.args.request.now.records c.as_str.result.now _ _ c.print.result c.in-Ok.ensures c.print.ensures.printed
