use Rattle.std.specs.Prelude.{◌≡◌, codes, refl, string_bytes, true}
use Rattle.std.proofs.Common.{subst}
use Rattle.cv_base.specs.Texts.{same}
use Rattle.cv_command_arguments.specs.Simple.{texts_of}
use Rattle.cv_run.specs.Run.{FirstRose}
use Rattle.cv_run.proofs.KeepEnds.{options_are, run_reports}
use Rattle.cv_run.proofs.keep.run_kept.Goals as goal

pub returns-in-len1-up-clause-bad_keep : goal.returns-in-len1-up-clause-bad_keep
returns-in-len1-up-clause-bad_keep g c =
    let is = options_are (λ argument. string_bytes argument) c.args.arguments.now c.name-item.result c.in-len1-up.len_at_least c.name-item.is
    (subst (λ name. true ≡ same name (codes "keep")) c.as_str.ensures.value c.if-eq.ensures) in
    run_reports (g.S.Source.remaining c.args.input.now) (g.S.Source.faults c.args.input.now) (g.S.Source.faults c.keep_command.new.input) (g.K.Sink.faults c.args.output.now) (g.K.Sink.faults c.keep_command.new.output)
    (g.J.Disk.faults c.args.disk.now) (g.J.Disk.faults c.keep_command.new.disk) (FirstRose g.D.Desk.faults c.args.desks.now.items c.keep_command.new.desks.items) c.keep_command.result
    c.keep_command.ensures.read_fault c.keep_command.ensures.write_fault c.keep_command.ensures.desk_fault c.keep_command.ensures.keep_fault
    g.D.Desk.tree g.S.Source.remaining g.D.Desk.listings g.D.Desk.faults g.J.Disk.contents
    (record { input = c.args.input.now; written = g.K.Sink.contents c.args.output.now; desks = c.args.desks.now.items })
    (record { input = c.keep_command.new.input; written = g.K.Sink.contents c.keep_command.new.output; desks = c.keep_command.new.desks.items })
    c.args.disk.now c.keep_command.new.disk refl (texts_of c.args.arguments.now) _ is c.keep_command.ensures.outcome
