use Rattle.std.proofs.Common.{◌≡◌, [], ◌∷◌, ◌++◌, map, ap, sym, subst, ◌∙◌, arith, append_assoc}
use Rattle.std.proofs.lemmas.List.{map-append}
use Rattle.cv_keep_replay.specs.Kept.{index_count}
use Rattle.cv_keep_replay.specs.code.Alone.{Submitted}
use Rattle.cv_keep_replay.specs.code.Ready.{acts_named, named_of}
use Rattle.cv_keep_replay.proofs.Alone.{submitted_length, submitted_then}
use Rattle.cv_keep_replay.proofs.ReadyEvents.{index_one, named_more}
use Rattle.cv_keep_replay.proofs.submit.submit_all.Goals as goal

-- one event more
pub loop-event-preserved : goal.loop-event-preserved
loop-event-preserved g c =
    let before = c.loop-event.invariant in
    let one = named_of c.in-Some.event in
    let more = map-append named_of c.loop-event.yielded (c.in-Some.event ∷ []) in
    let rest : c.loop-event.event-iterator.rest.items ≡ c.in-Some.event ∷ c.next.new.self.rest.items = c.in-Some.ensures.steps.0 in
    let count = ap (λ (list : _). index_count (acts_named list)) more ∙ named_more (map named_of c.loop-event.yielded) one in
    let longer = submitted_length c.loop-event.seat c.submit_one.new.seat (one ∷ []) c.in_ok-submit_one.ensures.submitted in
    record {
      split = append_assoc c.loop-event.yielded (c.in-Some.event ∷ []) c.next.new.self.rest.items ∙ (ap (λ items. c.loop-event.yielded ++ items) (sym rest) ∙ before.split);
      submitted = subst (λ (list : _). Submitted c.args.seat.now c.submit_one.new.seat list) (sym more)
          (submitted_then c.args.seat.now c.loop-event.seat c.submit_one.new.seat (map named_of c.loop-event.yielded) (one ∷ []) before.submitted c.in_ok-submit_one.ensures.submitted);
      listed = omega (arith, before.listed, c.in_ok-submit_one.ensures.listed, count);
      room = omega (arith, before.room, c.in_ok-submit_one.ensures.listed, index_one one, longer);
      later = omega (arith, before.later, c.submit_one.ensures.cause.later);
    }
