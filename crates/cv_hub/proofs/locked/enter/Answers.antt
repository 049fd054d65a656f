use Rattle.std.proofs.Common.{◌≡◌, List, [], ◌∷◌, ◌++◌, length, ap, sym, subst, ◌∙◌, length-append}
use Rattle.cv_core.specs.Core.{act_of}
use Rattle.cv_core_machine.specs.Board.{board_of}
use Rattle.cv_core_machine.specs.Scans.{trees_of}
use Rattle.cv_hub_seats.specs.Events.{IsReplayed, state_of}
use Rattle.cv_hub_seats.specs.declared.submission.Submission.{Submission}
use Rattle.cv_hub.specs.code.Locked.{IsAfter}
use Rattle.cv_hub.proofs.Replays.{planned_after, planned_reply, replayed_more}
use Rattle.cv_hub.proofs.locked.enter.Goals as goal

pub added-next-requires-clause-replayed : goal.added-next-requires-clause-replayed
added-next-requires-clause-replayed g c =
    let event : Submission = record { seat = c.index.result; by = c.args.by; act = act_of c.args.prepared.event.value; reply = c.of.result.value } in
    let list = c.args.events.list in
    let before : IsReplayed g.D.Desk.tree g.L.Identity.limits list = subst (IsReplayed g.D.Desk.tree g.L.Identity.limits) (ap (λ s. s.list) c.events.view_is) c.len-facts.ensures.replayed in
    replayed_more g.D.Desk.tree g.L.Identity.limits list event before
    (λ known. c.of.ensures ∙ (c.requires.prepared.reply_is ∙ planned_reply g.D.Desk.tree g.L.Identity.limits list c.args.prepared.planned.before event.act c.args.prepared.planned c.requires.after c.requires.prepared.stepped known))

pub publish-writer-requires-clause-board : goal.publish-writer-requires-clause-board
publish-writer-requires-clause-board g c known =
    let event : Submission = record { seat = c.index.result; by = c.args.by; act = act_of c.args.prepared.event.value; reply = c.of.result.value } in
    let list = c.args.events.list in
    let trees = trees_of g.D.Desk.tree in
    let after : IsAfter g.D.Desk.tree g.L.Identity.limits (list ++ event ∷ []) c.args.prepared.planned.after =
    planned_after g.D.Desk.tree g.L.Identity.limits list c.args.prepared.planned.before event c.args.prepared.planned c.requires.after c.requires.prepared.count_is c.requires.prepared.stepped in
    c.requires.prepared.board_is known ∙ ap (board_of trees) (after.state_is known ∙ ap (λ (l : List Submission). state_of trees g.L.Identity.limits l) (sym c.added-next.ensures))

pub invariant_of-result : goal.invariant_of-result
invariant_of-result g c =
    let event : Submission = record { seat = c.index.result; by = c.args.by; act = act_of c.args.prepared.event.value; reply = c.of.result.value } in
    let core = ap (λ end. end.0) c.commit-core.ensures in
    let list : c.keep.new.self.list ≡ c.args.events.list ++ event ∷ [] = c.keep.ensures.list ∙ c.added-next.ensures in (
      rw (list, core) (planned_after g.D.Desk.tree g.L.Identity.limits c.args.events.list c.args.prepared.planned.before event c.args.prepared.planned c.requires.after c.requires.prepared.count_is c.requires.prepared.stepped),
      record {
        shown_is = ap (λ p. p.value.list) (c.told_one.ensures.shown ∙ c.told_one-reader.ensures.shown) ∙ (c.publish-writer.ensures.shown ∙ sym c.keep.ensures.list);
        none_pending = c.told_one.ensures.pending ∙ (c.told_one-reader.ensures.pending ∙ c.publish-writer.ensures.pending);
        known_is = c.told_one.ensures.same ∙ (c.told_one-reader.ensures.same ∙ (c.publish-writer.ensures.known ∙ ap length (sym c.keep.ensures.list)));
      },
    )

pub returns-clause-applied : goal.returns-clause-applied
returns-clause-applied g c =
    let list = c.args.events.list in
    let replied : c.of.result.value ≡ c.commit-core.result.1 = c.of.ensures ∙ (c.requires.prepared.reply_is ∙ sym (ap (λ end. end.1) c.commit-core.ensures)) in
    let front : c.again-front.result ≡ c.keep.new.self.list = c.again-front.ensures ∙ ap (λ s. s.list) c.events-2.view_is in
    let noted : c.of-note.result ≡ c.keep.new.self.list = c.of-note.ensures ∙ front in
    let event : Submission = record { seat = c.args.seat.now.index; by = c.args.by; act = act_of c.args.prepared.event.value; reply = c.commit-core.result.1 } in
    let is : c.keep.new.self.list ≡ list ++ event ∷ [] = cc (c.keep.ensures.list, c.added-next.ensures, c.index.ensures.index, replied) in
    record {
      number_is = c.len-number.ensures.length ∙ (ap length (front ∙ is) ∙ length-append list (event ∷ []));
      at_most_2_63 = rw c.len-number.ensures.length c.len-number.ensures.at_most_2_63_events;
      reply_is = λ known. ap (λ end. end.1) c.commit-core.ensures
          ∙ planned_reply g.D.Desk.tree g.L.Identity.limits list c.args.prepared.planned.before event.act c.args.prepared.planned c.requires.after c.requires.prepared.stepped known;
      note_is = noted ∙ is;
      seat_is = rw (noted, c.keep.ensures.list) c.keep.ensures.seat;
      seen = c.requires.seen;
    }
