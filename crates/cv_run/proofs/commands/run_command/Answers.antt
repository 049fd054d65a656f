use Rattle.std.specs.Prelude.{map, string_bytes}
use Rattle.cv_run.proofs.CommandEnds.{commands_blame_none}
use Rattle.cv_run.proofs.FirstDesk.{sbom_runs}
use Rattle.cv_run.proofs.commands.run_command.Goals as goal

pub returns-in-Print-clause-desk_fault : goal.returns-in-Print-clause-desk_fault
returns-in-Print-clause-desk_fault g c h =
    absurd (commands_blame_none (map (λ argument. string_bytes argument) c.args.arguments.now) _ _ c.print_command.result c.print_command.ensures.printed h)

pub returns-in-Sbom-clause-outcome : goal.returns-in-Sbom-clause-outcome
returns-in-Sbom-clause-outcome g c =
    sbom_runs g.D.Desk.tree g.S.Source.remaining g.D.Desk.listings g.D.Desk.faults (map (λ argument. string_bytes argument) c.args.arguments.now) _ _ _ _ c.args.command c.args.desks.now.items c.index_mut-first-in-Sbom.result.now c.sbom_command.new.desk c.sbom_command.result
    c.in-Sbom.is c.requires.has_desks c.index_mut-first-in-Sbom.ensures.value c.sbom_command.ensures.outcome
