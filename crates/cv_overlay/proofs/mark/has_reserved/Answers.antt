use Rattle.std.proofs.Common.{rules, tests}
use Rattle.std.proofs.lemmas.Iterator.Search.{any_from_yields_List}
use Rattle.std.proofs.lemmas.Iterator.Splits.{YieldsList-from_slice_split}
use Rattle.cv_base.specs.Path.{is_slash}
use Rattle.cv_overlay.specs.Mark.{is_reserved_name}
use Rattle.cv_overlay.proofs.mark.has_reserved.Goals as goal

pub returns : goal.returns
returns c =
    any_from_yields_List is_reserved_name _ _ _ c.any.ensures.ran
    (YieldsList-from_slice_split _ is_slash c.args.text.now c.split.ensures.rest c.split.ensures.done c.split.ensures.closure (λ x b q k. search (rules, tests)))
    (λ x b q k. search (rules, tests))
