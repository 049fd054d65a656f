use Rattle.std.proofs.Common.{List, sym, subst}
use Rattle.cv_pool.specs.declared.seat.Seat.{Seat}
use Rattle.cv_pool.specs.code.Gathering.{AreSeatsOf, Absorbed}
use Rattle.cv_pool.proofs.GatherLemmas.{seats_of, gathered_one}
use Rattle.cv_pool.proofs.taken.gather_hand.Goals as goal

pub absorb_all-requires : goal.absorb_all-requires
absorb_all-requires c = subst (AreSeatsOf c.args.owners.now) (sym c.from_vec.ensures.items) (seats_of _ _ c.requires.seats.1 c.requires.seats.0 c.requires.shares)

pub returns-clause-owners : goal.returns-clause-owners
returns-clause-owners c = λ n index. gathered_one n index _ _ _ _ (subst (λ (ss : List Seat). Absorbed c.args.owners.now ss c.absorb_all.new.owners) c.from_vec.ensures.items c.absorb_all.ensures) c.requires.seats.0 c.requires.weights
