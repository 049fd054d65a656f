use Rattle.std.proofs.Common.{◌≡◌, ◌+◌, List, [], ◌∷◌, ◌++◌, length, ap, sym, subst, ◌∙◌, length-append}
use mathlib.Core.List.{IsPrefix}
use Rattle.cv_core_records.specs.declared.event.EventEntry.{EventEntry}
use Rattle.cv_core_machine.specs.History.{event_entry}
use Rattle.cv_hub_seats.specs.code.Book.{submission_of}
use Rattle.cv_hub_seats.specs.declared.submission.Submission.{Submission}
use Rattle.cv_hub.proofs.Listed.{listed_more}
use Rattle.cv_hub_seats.proofs.Made.{made_more}
use Rattle.cv_hub.proofs.events.EventList.keep.Goals as goal

pub receive-requires-clause-more : goal.receive-requires-clause-more
receive-requires-clause-more g c =
    let list : c.args.self.now.list ≡ c.self.inside.front = sym (ap (λ s. s.list) c.self.view_is) in
    let seen : IsPrefix c.args.seat.now.list c.self.inside.front = subst (λ (l : List Submission). IsPrefix c.args.seat.now.list l) list c.requires.seen in
    let next : c.args.next ≡ c.self.inside.front ++ submission_of c.args.submitted ∷ [] = c.requires.next ∙ ap (λ (l : List Submission). l ++ submission_of c.args.submitted ∷ []) list in
    rw next (made_more c.args.seat.now.index c.args.seat.now.list c.self.inside.front (submission_of c.args.submitted) seen c.requires.seat)

pub invariant_of-self : goal.invariant_of-self
invariant_of-self g c =
    let event = submission_of c.args.submitted in
    let list : c.args.self.now.list ≡ c.self.inside.front = sym (ap (λ s. s.list) c.self.view_is) in
    let next : c.args.next ≡ c.self.inside.front ++ event ∷ [] = c.requires.next ∙ ap (λ (l : List Submission). l ++ event ∷ []) list in
    let number = c.len.ensures.length ∙ (ap length next ∙ length-append c.self.inside.front (event ∷ [])) in
    let entry : EventEntry = record { number = c.len.result; by = c.args.submitted.by; act = c.args.name; reply = c.args.reply } in
    let is : entry ≡ event_entry (length c.self.inside.front + 1) event.by event.act event.reply = cc (number, c.requires.name, c.requires.reply) in
    rw (next, c.push_reserved.ensures.items, c.receive.ensures.book) (listed_more c.self.inside.front c.self.inside.taken c.self.inside.entries.items c.self.inside.book.total event entry c.self.invariant is)
