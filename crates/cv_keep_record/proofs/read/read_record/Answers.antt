use Rattle.std.proofs.Common.{rules, ◌≡◌, ◌<◌, ◌++◌, [], ◌∷◌, length, Some, None, subst, sym, arith}
use Rattle.cv_keep_record.specs.code.Reading.{event_at}
use Rattle.cv_keep_record.proofs.EventLemmas.{IsReadTo, no_record, reads_more, reads_none, reads_on}
use Rattle.cv_keep_record.proofs.read.read_record.Goals as goal

pub loop-rest-smaller : goal.loop-rest-smaller
loop-rest-smaller c =
    let found : Some (c.in-Some.event, c.in-Some.after.now) ≡ event_at c.loop-rest.rest.now = search rules in
    reads_on c.args.bytes.now c.loop-rest.events.items c.loop-rest.rest.now c.in-Some.event c.in-Some.after.now (λ i. omega (arith, c.type_inv.bytes i)) c.loop-rest.invariant found

pub loop-rest-preserved : goal.loop-rest-preserved
loop-rest-preserved c =
    let found : Some (c.in-Some.event, c.in-Some.after.now) ≡ event_at c.loop-rest.rest.now = search rules in
    let more = reads_more c.args.bytes.now c.loop-rest.events.items c.loop-rest.rest.now c.in-Some.event c.in-Some.after.now (λ i. omega (arith, c.type_inv.bytes i)) c.loop-rest.invariant found in
    let pushed : c.push.new.self.items ≡ c.loop-rest.events.items ++ c.in-Some.event ∷ [] = c.in_ok-push-in-Some.ensures.items in
    subst (λ events. IsReadTo c.args.bytes.now events c.in-Some.after.now) (sym pushed) more

pub returns-in-None-clause-none : goal.returns-in-None-clause-none
returns-in-None-clause-none c =
    let some : 0 < length c.loop-rest.rest.now = search rules in
    let none : None ≡ event_at c.loop-rest.rest.now = search rules in
    no_record c.args.bytes.now c.loop-rest.events.items c.loop-rest.rest.now c.loop-rest.invariant some none

pub returns-then-is_empty-clause-none : goal.returns-then-is_empty-clause-none
returns-then-is_empty-clause-none c =
    let none : length c.loop-rest.rest.now ≡ 0 = search rules in
    let empty : length c.loop-rest.events.items ≡ 0 = search rules in
    reads_none c.args.bytes.now c.loop-rest.events.items c.loop-rest.rest.now c.loop-rest.invariant none empty
