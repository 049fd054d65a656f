use Rattle.std.specs.Prelude.{map, option_map, string_bytes}
use Rattle.std.proofs.lemmas.Result.{IfOk-weaker}
use Rattle.clap.specs.Words.{app_of, found_of, rows_of}
use Rattle.cv_command_arguments.proofs.OrderForm.{read_order}
use Rattle.cv_command_arguments.proofs.order.order_matches.Goals as goal

pub returns : goal.returns
returns c =
    let arguments = map (λ argument. string_bytes argument) c.args.arguments.now in
    IfOk-weaker c.read.result _ _
    (λ found. read_order (app_of c.in_ok-command.command) c.package_names.result arguments (option_map (λ matches. rows_of (found_of matches)) found)
    c.in_ok-command.ensures.app c.package_names.ensures)
    c.read.ensures
