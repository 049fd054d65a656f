use Rattle.std.proofs.Common.{refl, ◌∙◌}
use Rattle.cv_base.proofs.Results.{if_ok}
use Rattle.cv_core_machine.specs.Scans.{trees_of}
use Rattle.cv_core.proofs.CoreLemmas.{held}
use Rattle.cv_core.proofs.PatchLemmas.{full_known, patch_made, patch_stepped}
use Rattle.cv_core.proofs.TryLemmas.{tries_patch}
use Rattle.cv_core.proofs.machine.Core.patched.Goals as goal

pub returns-in-Ok-clause-stepped : goal.returns-in-Ok-clause-stepped
returns-in-Ok-clause-stepped g c known =
    let inside = c.self.inside in
    if_ok _ _ c.updated.result c.updated.ensures
    (λ after is. patch_stepped (trees_of g.D.Desk.tree) c.args.self.now inside.inventory c.in-Ok.inventory c.args.feed c.args.records c.args.remove.now c.in-Ok.rows after
    (held inside.inventory inside.notices inside.since inside.generation inside.count c.args.self.now c.self.view_is)
    c.in-Ok.ensures.value c.requires.stands c.in-Ok.ensures.room (c.in-Ok.ensures.rows known c.args.self.now.state) is)

pub returns-in-Ok-clause-known : goal.returns-in-Ok-clause-known
returns-in-Ok-clause-known g c =
    let inside = c.self.inside in
    if_ok _ _ c.updated.result c.updated.ensures
    (λ after is. (
      c.in-Ok.rows,
      is ∙ patch_made c.args.self.now inside.inventory c.in-Ok.inventory c.args.feed c.args.records c.args.remove.now c.in-Ok.rows
          (held inside.inventory inside.notices inside.since inside.generation inside.count c.args.self.now c.self.view_is)
          c.in-Ok.ensures.value c.requires.stands c.in-Ok.ensures.room,
    ))

pub returns-in-Ok-clause-tries : goal.returns-in-Ok-clause-tries
returns-in-Ok-clause-tries g c known =
    let inside = c.self.inside in
    tries_patch (trees_of g.D.Desk.tree) c.args.self.now inside.inventory c.args.feed c.args.records c.args.remove.now _ _
    (held inside.inventory inside.notices inside.since inside.generation inside.count c.args.self.now c.self.view_is)
    c.requires.stands c.patch.ensures.refused (c.patch.ensures.counted known)

pub returns-in-Err-TooManyRecords-clause-known : goal.returns-in-Err-TooManyRecords-clause-known
returns-in-Err-TooManyRecords-clause-known g c =
    let inside = c.self.inside in
    if_ok _ _ c.unchanged-in-Err-TooManyRecords.result c.unchanged-in-Err-TooManyRecords.ensures
    (λ after is. full_known c.args.self.now inside.inventory c.args.feed c.args.records c.args.remove.now c.in-Err-TooManyRecords.field-0 c.in-Err-TooManyRecords.would after
    (held inside.inventory inside.notices inside.since inside.generation inside.count c.args.self.now c.self.view_is)
    c.requires.stands c.in-Err-TooManyRecords.field-0-is c.in-Err-TooManyRecords.ensures.too_many (is ∙ rw c.in-Err-TooManyRecords.field-0-is refl))

pub returns-clause-tries : goal.returns-clause-tries
returns-clause-tries g c known =
    let inside = c.self.inside in
    tries_patch (trees_of g.D.Desk.tree) c.args.self.now inside.inventory c.args.feed c.args.records c.args.remove.now _ _
    (held inside.inventory inside.notices inside.since inside.generation inside.count c.args.self.now c.self.view_is)
    c.requires.stands c.patch.ensures.refused (c.patch.ensures.counted known)
