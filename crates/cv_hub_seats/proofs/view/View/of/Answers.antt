use Rattle.std.proofs.Common.{ap, ◌∙◌, arith}
use Rattle.cv_hub_seats.specs.Posts.{PostView}
use Rattle.cv_hub_seats.proofs.Made.{made_begins}
use Rattle.cv_hub_seats.proofs.view.View.of.Goals as goal

pub invariant_of-result : goal.invariant_of-result
invariant_of-result g c =
    let seat = c.requires.seat in
    record {
      shows = c.requires.shows;
      list_is = c.later.ensures.next ∙ (c.front-next.ensures ∙ ap (λ (post : PostView). post.list) c.get.ensures);
      known_is = c.requires.known;
      seat_is = record {
        numbered = seat.numbered;
        one_part = seat.one_part;
        amount_is = seat.amount_is;
        made = omega (arith, seat.made, made_begins c.args.index c.args.front c.later.result c.later.ensures.seen);
      };
    }
