use Rattle.std.specs.Prelude.{map, string_bytes}
use Rattle.cv_run.proofs.KeepEnds.{unread_keeps}
use Rattle.cv_run.proofs.keep.keep_command.Goals as goal

pub returns-in-Err-clause-outcome : goal.returns-in-Err-clause-outcome
returns-in-Err-clause-outcome g c =
    unread_keeps g.D.Desk.tree g.S.Source.remaining g.D.Desk.listings g.D.Desk.faults g.J.Disk.contents _ c.args.disk.now (map (λ argument. string_bytes argument) c.args.options.now) c.requires.has_desks
