use Rattle.cv_base.proofs.Results.{if_ok}
use Rattle.cv_core_machine.specs.Scans.{trees_of}
use Rattle.cv_core_machine.specs.declared.event.MachineEvent.TheVariants as act
use Rattle.cv_core.proofs.CoreLemmas.{held, update_made, update_stepped}
use Rattle.cv_core.proofs.TryLemmas.{tries_core}
use Rattle.cv_core.proofs.machine.Core.update.Goals as goal

pub returns-in-Ok-clause-stepped : goal.returns-in-Ok-clause-stepped
returns-in-Ok-clause-stepped g c known =
    let inside = c.self.inside in
    if_ok _ _ c.updated.result c.updated.ensures
    (λ after is. update_stepped (trees_of g.D.Desk.tree) c.args.self.now inside.inventory c.in-Ok.inventory c.args.feed c.in_ok-name.name c.args.records c.in-Ok.rows after
    (held inside.inventory inside.notices inside.since inside.generation inside.count c.args.self.now c.self.view_is) c.in_ok-name.ensures
    c.in-Ok.ensures.value c.in-Ok.ensures.room (c.in-Ok.ensures.rows known c.args.self.now.state) is)

pub returns-in-Ok-clause-known : goal.returns-in-Ok-clause-known
returns-in-Ok-clause-known g c =
    let inside = c.self.inside in
    if_ok _ _ c.updated.result c.updated.ensures
    (λ after is. update_made c.args.self.now inside.inventory c.in-Ok.inventory c.args.feed c.in_ok-name.name c.args.records c.in-Ok.rows after
    (held inside.inventory inside.notices inside.since inside.generation inside.count c.args.self.now c.self.view_is) c.in_ok-name.ensures c.in-Ok.ensures.value c.in-Ok.ensures.room is)

pub returns-in-Ok-clause-tries : goal.returns-in-Ok-clause-tries
returns-in-Ok-clause-tries g c known =
    let inside = c.self.inside in
    tries_core (trees_of g.D.Desk.tree) c.args.self.now inside.inventory (act.Update c.args.feed c.args.records) _ _
    (held inside.inventory inside.notices inside.since inside.generation inside.count c.args.self.now c.self.view_is) (c.update.ensures.counted known)
