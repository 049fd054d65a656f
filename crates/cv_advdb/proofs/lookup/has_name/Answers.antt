use Rattle.std.proofs.Common.{rules, ◌∙◌}
use Rattle.std.proofs.lemmas.Fn.{always_returns_same}
use Rattle.cv_base.specs.declared.«package».PackageName.{PackageName}
use Rattle.cv_match.specs.Keys.{name_cmp}
use Rattle.cv_advdb.proofs.Searched.{searched}
use Rattle.cv_advdb.proofs.lookup.has_name.Goals as goal

pub returns : goal.returns
returns c =
    let key : PackageName = record { ecosystem = c.args.ecosystem.now; name = c.args.name.now } in
    c.is_ok.ensures.value
    ∙ searched c.args.names.now key c.binary_search_by.result c.requires c.binary_search_by.ensures.bound
    (c.binary_search_by.ensures.position (λ (n : PackageName). name_cmp n key) (always_returns_same _ _ _ (λ a r k called. (search rules, search rules))))
