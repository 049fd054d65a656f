use Rattle.cv_advdb.proofs.NameLemmas.{same_parts}
use Rattle.cv_advdb.proofs.Patched.{put_at}
use Rattle.cv_advdb.proofs.indexed.put_list.Goals as goal

pub returns : goal.returns
returns c = λ name.
    let same = same_parts c.in_ok-clone.field-0 c.args.key.now c.in_ok-clone.ensures.cases.0 c.in_ok-clone.ensures.cases.1 in
    put_at c.args.key.now name c.args.index.now.entries _ c.args.list.items (rw (same, c.of.ensures) at (c.in_ok-insert.ensures.updates.0 name))
