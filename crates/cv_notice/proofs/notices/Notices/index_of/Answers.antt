use Rattle.std.proofs.Common.{rules}
use Rattle.std.proofs.lemmas.List.Sorted.{answers_always}
use Rattle.cv_notice.proofs.SearchLemmas.{searched}
use Rattle.cv_notice.proofs.notices.Notices.index_of.Goals as goal

pub returns : goal.returns
returns c =
    let facts = c.binary_search_by_key.ensures in
    let by_number = facts.position (λ notice. notice.0) (answers_always _ _ _ (λ f a r g called. search rules)) in
    rw (c.ok.ensures.value, ← c.self.view_is, ← c.deref.ensures.value) (searched c.deref.result.now c.args.number c.binary_search_by_key.result (rw c.deref.ensures.value c.self.invariant) facts.bound by_number)
