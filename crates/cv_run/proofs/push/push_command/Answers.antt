use Rattle.std.specs.Prelude.{length}
use Rattle.cv_command_arguments.specs.Simple.{texts_of}
use Rattle.cv_run.specs.Keep.{keep_count}
use Rattle.cv_run.proofs.PushEnds.{unread_pushes}
use Rattle.cv_run.proofs.push.push_command.Goals as goal

pub returns-in-Err-clause-outcome : goal.returns-in-Err-clause-outcome
returns-in-Err-clause-outcome g c =
    unread_pushes g.D.Desk.tree g.S.Source.remaining g.D.Desk.listings g.D.Desk.faults g.H.Hook.offers g.H.Hook.faults _ c.args.hook.now
    (keep_count (texts_of c.args.options.now) (length c.args.desks.now.items))
