use Rattle.std.proofs.Common.{◌≡◌, ◌++◌, ◌∷◌, [], length, sym, ap, ◌∙◌, subst, arith}
use Rattle.std.proofs.lemmas.List.{length-append}
use Rattle.cv_pool.specs.code.Filling.{AreOwners}
use Rattle.cv_pool.proofs.FillLemmas.{owners_opened}
use Rattle.cv_pool.proofs.filling.open_all.Goals as goal

pub loop-preserved : goal.loop-preserved
loop-preserved c =
    let longer : c.push.new.self.items ≡ c.loop.owners.items ++ c.in_ok-fifo_as.field-0 ∷ [] = c.in_ok-push.ensures.items in
    let owners = owners_opened c.loop.owners.items c.in_ok-fifo_as.field-0 c.loop.invariant.0 c.in_ok-fifo_as.ensures.4 c.in_ok-fifo_as.ensures.1 in
    (subst (AreOwners 0 9 0) (sym longer) owners, ap length longer ∙ length-append c.loop.owners.items (c.in_ok-fifo_as.field-0 ∷ []) ∙ (let e = c.loop.invariant.1 in omega arith))
