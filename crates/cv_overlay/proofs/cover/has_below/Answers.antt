use Rattle.std.proofs.Common.{ℕ, List, Bor, ◌∙◌}
use Rattle.cv_overlay.proofs.CoverLemmas.{searched_text}
use Rattle.cv_overlay.proofs.cover.has_below.Goals as goal

pub returns : goal.returns
returns c =
    c.is_ok.ensures.value
    ∙ searched_text (λ (b : Bor (List ℕ)). b.now) c.args.list.now c.args.text.now c.binary_search.result c.requires c.binary_search.ensures.bound c.binary_search.ensures.position
