use Rattle.std.proofs.Common.{ap, ◌∙◌}
use Rattle.std.specs.Prelude.{map, option_map, string_bytes}
use Rattle.std.proofs.lemmas.Result.{IfOk-weaker}
use Rattle.clap.specs.Words.{app_of, found_of, rows_of}
use Rattle.cv_command_arguments.proofs.Reading.{not_taken, taken}
use Rattle.cv_command_arguments.proofs.simple.read.Goals as goal

pub returns-in-Ok : goal.returns-in-Ok
returns-in-Ok c =
    taken (app_of c.args.command) (map (λ argument. string_bytes argument) c.args.arguments.now) (rows_of (found_of c.in-Ok.matches)) c.requires.simple c.in-Ok.ensures.kinds c.in-Ok.ensures.matches

pub returns-in-Err : goal.returns-in-Err
returns-in-Err c =
    IfOk-weaker c.refused.result _ _
    (λ found h. ap (option_map (λ matches. rows_of (found_of matches))) h.0
    ∙ not_taken (app_of c.args.command) (map (λ argument. string_bytes argument) c.args.arguments.now) c.in-Err.error c.requires.simple c.in-Err.ensures.kinds (λ e. h.1 (c.kind.ensures ∙ e)))
    c.refused.ensures
