-- A copy of the id is the id.
use Rattle.std.specs.Prelude.{◌≡◌}
use Rattle.cv_osv.proofs.record_list.replace_index.Goals as goal

pub returns-clause-new : goal.returns-clause-new
returns-clause-new c =
    let key : c.in_ok-clone.field-0 ≡ c.args.id.now = c.in_ok-clone.ensures.cases in
    λ other. rw (← key) (c.in_ok-insert.ensures.updates.0 other)
