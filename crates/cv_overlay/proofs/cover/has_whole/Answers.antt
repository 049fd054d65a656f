use Rattle.std.proofs.Common.{rules, ℕ, Vec, Global, ◌∙◌}
use Rattle.std.specs.Cmp.Lexicographic.{slice_cmp}
use Rattle.std.specs.Ordering.{nat_cmp}
use Rattle.std.proofs.lemmas.Fn.{always_returns_same}
use Rattle.cv_overlay.proofs.CoverLemmas.{searched_text}
use Rattle.cv_overlay.proofs.cover.has_whole.Goals as goal

pub returns : goal.returns
returns c =
    c.is_ok.ensures.value
    ∙ searched_text (λ (w : Vec ℕ Global). w.items) c.args.list.now c.args.text.now c.binary_search_by.result c.requires c.binary_search_by.ensures.bound
    (c.binary_search_by.ensures.position (λ (w : Vec ℕ Global). slice_cmp nat_cmp w.items c.args.text.now) (always_returns_same _ _ _ (λ a r k called. (search rules, search rules))))
