use Rattle.std.specs.Prelude.{◌++◌, ◌∷◌, [], List, Option, is_some, unwrap_or}
use Rattle.std.proofs.Common.{ap, sym}
use Rattle.cv_base.specs.declared.advisory.Advisory.{Advisory}
use Rattle.cv_advdb.proofs.IndexLemmas.{put_under}
use Rattle.cv_advdb.proofs.NameLemmas.{same_parts}
use Rattle.cv_advdb.proofs.index.add_under.Goals as goal

pub returns-in-Some : goal.returns-in-Some
returns-in-Some c = λ key.
    put_under c.args.name.now key c.args.index.now.entries _ c.args.stored.now c.push.new.self
    (((c.get_mut.follows.holds c.push.new.self).3 (ap is_some (sym c.in-Some.ensures.value))).0 key)
    (rw (c.in_ok-push.ensures, c.in_ok-clone.ensures.cases) (ap (λ (o : Option (List Advisory)). unwrap_or o [] ++ c.args.stored.now ∷ []) c.in-Some.ensures.value))

pub returns : goal.returns
returns c = λ key.
    let same = same_parts c.in_ok-clone-3.field-0 c.args.name.now c.in_ok-clone-3.ensures.cases.0 c.in_ok-clone-3.ensures.cases.1 in
    put_under c.args.name.now key c.args.index.now.entries _ c.args.stored.now c.push-2.new.self
    (rw (same, c.get_mut.follows.holds-at-none) at (c.in_ok-insert.ensures.updates.0 key))
    (rw (c.in_ok-push-2.ensures, c.new-list.ensures, c.in_ok-clone-2.ensures.cases) (ap (λ (o : Option (List Advisory)). unwrap_or o [] ++ c.args.stored.now ∷ []) c.in_default.ensures.value))
