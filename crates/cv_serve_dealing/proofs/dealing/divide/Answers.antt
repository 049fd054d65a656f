use Rattle.std.specs.Prelude.{◌≡◌}
use Rattle.std.proofs.Common.{ap, rules, ◌∙◌}
use Rattle.std.proofs.IntoIterSteps.{All-taken}
use Rattle.cv_serve_legal.specs.ParsedLine.{requests}
use Rattle.cv_serve_dealing.proofs.DealLemmas.{one_refused, one_requested, sound_requested}
use Rattle.cv_serve_dealing.proofs.dealing.divide.Goals as goal

pub loop-line-preserved-in-Continue-1 : goal.loop-line-preserved-in-Continue-1
loop-line-preserved-in-Continue-1 c =
    let before = c.loop-line.invariant in
    let is = one_requested c.loop-line.yielded c.in-Some.field-0 c.in-Ok.request c.loop-line.refused.items c.loop-line.requested.items c.push.new.self.items
    c.in-Ok.is before.refused before.requested c.in_ok-push-in-Ok.ensures.items in
    record { refused = is.0; requested = is.1 }

pub loop-line-preserved : goal.loop-line-preserved
loop-line-preserved c =
    let before = c.loop-line.invariant in
    let is = one_refused c.loop-line.yielded c.in-Some.field-0 c.in-Err.error c.loop-line.refused.items c.push-in-Err.new.self.items c.loop-line.requested.items
    c.in-Err.is before.refused before.requested c.in_ok-push-in-Err.ensures.items in
    record { refused = is.0; requested = is.1 }

pub returns-clause-sound : goal.returns-clause-sound
returns-clause-sound c =
    let start : c.into_iter-line-iterator.result.rest.items ≡ c.args.taken.items = search rules in
    let all : c.loop-line.yielded ≡ c.args.taken.items =
    All-taken c.into_iter-line-iterator.result c.loop-line.yielded (c.next.new.self, (c.loop-line.line-iterator, c.loop-line.yielded_by, c.in-None.ensures.steps)) ∙ start in
    sound_requested c.args.taken.items c.loop-line.requested.items c.requires.sound (c.loop-line.invariant.requested ∙ ap requests all)
