use Rattle.std.proofs.Common.{arith, subst, sym}
use Rattle.cv_findings.specs.Rematch.{AgreeOnUntouched}
use Rattle.cv_core_inventory.specs.Holdings.{Holdings}
use Rattle.cv_core_inventory.proofs.KeptLemmas.{counted_kept, kept_updated, rows_kept}
use Rattle.cv_core_inventory.proofs.inventory.Inventory.with_feeds.Goals as goal

pub with_feeds-requires-clause-untouched : goal.with_feeds-requires-clause-untouched
with_feeds-requires-clause-untouched g c =
    subst (λ (h : Holdings). AgreeOnUntouched c.args.touched.now.keys h.feeds c.args.feeds.feeds) (sym c.self.view_is) c.requires.untouched

pub with_feeds-requires-clause-made : goal.with_feeds-requires-clause-made
with_feeds-requires-clause-made g c = c.self.invariant.made

pub of-requires : goal.of-requires
of-requires g c =
    let inside = c.self.inside in
    kept_updated _ inside.registry c.in_ok-registry.registry inside.knowledge c.in_ok-knowledge.knowledge c.args.feeds c.self.invariant c.in_ok-registry.ensures
    c.in_ok-knowledge.ensures.value c.requires.within_limit

pub returns-clause-rows : goal.returns-clause-rows
returns-clause-rows g c = λ known state.
    let inside = c.self.inside in
    rows_kept _ inside.registry inside.knowledge c.args.self.now c.args.feeds c.in_ok-knowledge.rows state c.self.invariant c.self.view_is known
    c.in_ok-knowledge.ensures.rows

pub returns-in_err-registry-clause-counted : goal.returns-in_err-registry-clause-counted
returns-in_err-registry-clause-counted g c = λ all state. omega arith

pub returns-in_err-knowledge-clause-counted : goal.returns-in_err-knowledge-clause-counted
returns-in_err-knowledge-clause-counted g c = λ all state.
    let inside = c.self.inside in
    counted_kept _ inside.registry inside.knowledge c.args.self.now c.args.feeds c.args.touched.now.keys state _ _ c.self.invariant c.self.view_is all
    c.with_feeds.ensures.counted

pub returns-clause-counted : goal.returns-clause-counted
returns-clause-counted g c = λ all state.
    let inside = c.self.inside in
    counted_kept _ inside.registry inside.knowledge c.args.self.now c.args.feeds c.args.touched.now.keys state _ _ c.self.invariant c.self.view_is all
    c.with_feeds.ensures.counted
