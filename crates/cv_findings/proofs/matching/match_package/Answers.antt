use Rattle.std.proofs.Common.{ap, arith, ◌≡◌, ◌∙◌}
use Rattle.cv_findings.specs.Pairs.{about_count}
use Rattle.cv_findings.specs.code.Lookup.{tries_by}
use Rattle.cv_findings.proofs.LookupLemmas.{tries_is}
use Rattle.cv_findings.proofs.matching.match_package.Goals as goal

pub returns-clause-counted : goal.returns-clause-counted
returns-clause-counted g c =
    let feeds = c.args.feeds.now.feeds in
    let same : tries_by feeds c.as_slice.result.now ≡ about_count feeds c.args.package.now =
    ap (tries_by feeds) (c.as_slice.ensures ∙ c.in_ok-keys.ensures) ∙ tries_is feeds c.args.package.now in
    omega (arith, same, c.match_keys.ensures.counted)
