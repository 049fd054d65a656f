use Rattle.std.proofs.Common.{◌≡◌, ◌++◌, None, Some, sym, ◌∙◌, subst}
use Rattle.std.specs.List.{AllByRecursion}
use Rattle.cv_seq.proofs.AllItems.{all_front}
use Rattle.cv_pool.specs.code.Seats.{IsSeated, SeatsTook}
use Rattle.cv_pool.proofs.SeatLemmas.{took_later, took_earlier, same_length, take_written}
use Rattle.cv_pool.proofs.seat.take_from.Goals as goal

pub returns-in-Some : goal.returns-in-Some
returns-in-Some g c =
    let parts : c.args.seats.now.items ≡ c.split_at_mut-before.result.0.now ++ c.split_at_mut-before.result.1.now = sym c.as_mut_slice.ensures.value ∙ c.split_at_mut-before.ensures.value in
    let all : AllByRecursion IsSeated (c.split_at_mut-before.result.0.now ++ c.split_at_mut-before.result.1.now) = subst (AllByRecursion IsSeated) parts c.requires.0 in
    let took : SeatsTook c.split_at_mut-before.result.1.now (Some c.in-Some.job) c.take_first.new.seats = c.in-Some.ensures in
    let later = took_later c.split_at_mut-before.result.0.now c.split_at_mut-before.result.1.now c.take_first.new.seats c.in-Some.job (all_front IsSeated _ _ all) took in
    let whole : SeatsTook c.args.seats.now.items (Some c.in-Some.job) (c.split_at_mut-before.result.0.now ++ c.take_first.new.seats) = subst (λ xs. SeatsTook xs (Some c.in-Some.job) (c.split_at_mut-before.result.0.now ++ c.take_first.new.seats)) (sym parts) later in
    subst (SeatsTook c.args.seats.now.items (Some c.in-Some.job)) (sym (take_written _ _ _ (same_length _ _ _ whole ∙ sym c.args.seats.now.ok.0))) whole

pub returns-in-None : goal.returns-in-None
returns-in-None g c =
    let parts : c.args.seats.now.items ≡ c.split_at_mut-before.result.0.now ++ c.split_at_mut-before.result.1.now = sym c.as_mut_slice.ensures.value ∙ c.split_at_mut-before.ensures.value in
    let later : SeatsTook c.split_at_mut-before.result.1.now None c.take_first.new.seats = c.in-None.ensures in
    let earlier = took_earlier c.split_at_mut-before.result.0.now c.split_at_mut-before.result.1.now c.take_first-in-None.new.seats c.take_first.new.seats c.take_first-in-None.result later c.take_first-in-None.ensures in
    let whole : SeatsTook c.args.seats.now.items c.take_first-in-None.result (c.take_first-in-None.new.seats ++ c.take_first.new.seats) = subst (λ xs. SeatsTook xs c.take_first-in-None.result (c.take_first-in-None.new.seats ++ c.take_first.new.seats)) (sym parts) earlier in
    subst (SeatsTook c.args.seats.now.items c.take_first-in-None.result) (sym (take_written _ _ _ (same_length _ _ _ whole ∙ sym c.args.seats.now.ok.0))) whole
