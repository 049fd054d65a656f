use Rattle.std.proofs.Common.{◌≡◌, ap, ◌∙◌}
use Rattle.std.proofs.lemmas.Result.{IfOk-weaker}
use Rattle.cv_base.specs.InOrder.{in_order}
use Rattle.cv_match.specs.Findings.{finding_cmp, findings}
use Rattle.cv_findings.proofs.LookupLemmas.{looked_up_is}
use Rattle.cv_findings.proofs.matching.match_all.Goals as goal

pub returns-clause-found : goal.returns-clause-found
returns-clause-found g c =
    IfOk-weaker c.in_order.result (λ out. out ≡ in_order finding_cmp c.in_ok-found.found.items) (λ out. out ≡ findings c.args.packages.now c.args.feeds.now.feeds)
    (λ out h. h ∙ ap (in_order finding_cmp) c.in_ok-found.ensures.found ∙ looked_up_is c.args.packages.now c.args.feeds.now.feeds c.sorted_law.ensures.names c.sorted_law.ensures.records)
    c.in_order.ensures.order
