use Rattle.std.specs.Prelude.{◌≡◌, ◌++◌, List}
use Rattle.std.specs.List.{flat_map}
use Rattle.std.proofs.Common.{ap, sym, ◌∙◌}
use Rattle.std.proofs.lemmas.Result.{IfOk-weaker}
use Rattle.cv_base.specs.InOrder.{in_order}
use Rattle.cv_base.specs.declared.finding.Finding.{Finding}
use Rattle.cv_match.specs.Findings.{finding_cmp, findings}
use Rattle.cv_findings.specs.Rematch.{rematched, touched_packages, untouched_findings}
use Rattle.cv_findings.specs.code.Lookup.{looked_up}
use Rattle.cv_findings.proofs.LookupLemmas.{looked_up_is}
use Rattle.cv_findings.proofs.RematchLemmas.{found_from, made_anew, rematched_kept}
use Rattle.cv_findings.proofs.again.rematch.Goals as goal

pub returns-then-not-any_touched-clause-value : goal.returns-then-not-any_touched-clause-value
returns-then-not-any_touched-clause-value g c =
    c.of.ensures ∙ c.in_ok-keep_all.ensures ∙ ap (λ (fs : List Finding). fs ++ c.args.before.now) c.new-found.ensures.items
    ∙ sym (rematched_kept c.args.touched.now.keys c.args.feeds.now.feeds c.args.packages.now c.args.before.now (sym c.any_touched.ensures ∙ c.if-not-any_touched.true))

pub returns-then-not-any_touched-clause-found : goal.returns-then-not-any_touched-clause-found
returns-then-not-any_touched-clause-found g c = λ earlier h e.
    found_from c.args.touched.now.keys earlier c.args.feeds.now.feeds c.args.packages.now c.args.before.now c.of.result h e
    (c.of.ensures ∙ c.in_ok-keep_all.ensures ∙ ap (λ (fs : List Finding). fs ++ c.args.before.now) c.new-found.ensures.items
    ∙ sym (rematched_kept c.args.touched.now.keys c.args.feeds.now.feeds c.args.packages.now c.args.before.now (sym c.any_touched.ensures ∙ c.if-not-any_touched.true)))

pub returns-clause-value : goal.returns-clause-value
returns-clause-value g c =
    let keys = c.args.touched.now.keys in
    let feeds = c.args.feeds.now.feeds in
    let packages = c.args.packages.now in
    let kept = untouched_findings keys c.args.before.now in
    let new = flat_map (looked_up feeds) (touched_packages keys packages) in
    let items : c.match_touched.new.found.items ≡ kept ++ new =
    c.in_ok-match_touched.ensures.found
    ∙ ap (λ (fs : List Finding). fs ++ new) (c.in_ok-keep_untouched.ensures ∙ ap (λ (fs : List Finding). fs ++ kept) c.new-found.ensures.items) in
    IfOk-weaker c.in_order.result (λ out. out ≡ in_order finding_cmp c.match_touched.new.found.items) (λ out. out ≡ rematched keys feeds packages c.args.before.now)
    (λ out h. made_anew keys feeds packages c.args.before.now new out (sym c.any_touched.ensures ∙ c.if-not-any_touched.false)
    (looked_up_is (touched_packages keys packages) feeds c.sorted_law.ensures.names c.sorted_law.ensures.records) (h ∙ ap (in_order finding_cmp) items))
    c.in_order.ensures.order

pub returns-clause-found : goal.returns-clause-found
returns-clause-found g c = λ earlier agree before.
    let keys = c.args.touched.now.keys in
    let feeds = c.args.feeds.now.feeds in
    let packages = c.args.packages.now in
    let kept = untouched_findings keys c.args.before.now in
    let new = flat_map (looked_up feeds) (touched_packages keys packages) in
    let items : c.match_touched.new.found.items ≡ kept ++ new =
    c.in_ok-match_touched.ensures.found
    ∙ ap (λ (fs : List Finding). fs ++ new) (c.in_ok-keep_untouched.ensures ∙ ap (λ (fs : List Finding). fs ++ kept) c.new-found.ensures.items) in
    IfOk-weaker c.in_order.result (λ out. out ≡ in_order finding_cmp c.match_touched.new.found.items) (λ out. out ≡ findings packages feeds)
    (λ out h. found_from keys earlier feeds packages c.args.before.now out agree before
    (made_anew keys feeds packages c.args.before.now new out (sym c.any_touched.ensures ∙ c.if-not-any_touched.false)
    (looked_up_is (touched_packages keys packages) feeds c.sorted_law.ensures.names c.sorted_law.ensures.records) (h ∙ ap (in_order finding_cmp) items)))
    c.in_order.ensures.order
