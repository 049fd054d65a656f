use Rattle.std.specs.Prelude.{map, string_bytes}
use Rattle.cv_run.proofs.Unread.{unread_ends}
use Rattle.cv_run.specs.Arguments.{command_of}
use Rattle.cv_run.proofs.commands.run.Goals as goal

pub returns-in-Err-clause-outcome : goal.returns-in-Err-clause-outcome
returns-in-Err-clause-outcome g c =
    unread_ends g.D.Desk.tree g.S.Source.remaining g.D.Desk.listings g.D.Desk.faults _ (command_of (map (λ argument. string_bytes argument) c.args.arguments.now)) _ c.requires.has_desks
