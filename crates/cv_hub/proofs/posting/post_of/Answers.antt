use Rattle.std.proofs.Common.{List, refl, ap, sym, ◌∙◌}
use Rattle.cv_core_machine.specs.Board.{board_of}
use Rattle.cv_core_machine.specs.Scans.{trees_of}
use Rattle.cv_hub_seats.specs.Events.{state_of}
use Rattle.cv_hub_seats.specs.declared.submission.Submission.{Submission}
use Rattle.cv_hub.proofs.posting.post_of.Goals as goal

pub returns-clause-shows : goal.returns-clause-shows
returns-clause-shows g c =
    let trees = trees_of g.D.Desk.tree in
    record {
      front = record {
        length_is = refl;
        book_is = c.of.ensures.book;
        at_most_2_63_events = rw c.of.ensures.list c.len-facts.ensures.at_most_2_63_events;
        seats = rw c.of.ensures.list c.len-facts.ensures.seats;
        replayed = rw c.of.ensures.list c.len-facts.ensures.replayed;
      };
      board = λ known. c.of.ensures.board ∙ (c.requires known ∙ ap (λ (l : List Submission). board_of trees (state_of trees g.L.Identity.limits l)) (sym c.of.ensures.list));
    }
