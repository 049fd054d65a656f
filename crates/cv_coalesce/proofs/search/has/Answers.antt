use Rattle.std.proofs.Common.{◌∙◌}
use Rattle.cv_coalesce.proofs.SearchLemmas.{searched}
use Rattle.cv_coalesce.proofs.search.has.Goals as goal

pub returns : goal.returns
returns c =
    c.is_ok.ensures.value
    ∙ searched c.args.list.now c.args.path.now c.binary_search.result c.requires c.binary_search.ensures.bound c.binary_search.ensures.position
