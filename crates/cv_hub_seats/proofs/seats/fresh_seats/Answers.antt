use Rattle.std.proofs.Common.{◌≡◌, [], ◌∷◌, ◌++◌, length, ap, sym, ◌∙◌, arith, length-append}
use Rattle.cv_hub_seats.specs.Seats.{seat_of}
use Rattle.cv_hub_seats.proofs.Fresh.{fresh_more}
use Rattle.cv_hub_seats.proofs.seats.fresh_seats.Goals as goal

pub loop-index-preserved : goal.loop-index-preserved
loop-index-preserved g c =
    let made = c.loop-index.made.items in
    let before = c.loop-index.invariant in
    let items : c.push.new.self.items ≡ made ++ c.fresh.result ∷ [] = c.in_ok-push.ensures.items in
    let place : c.loop-index.index ≡ length made = sym before.2 in
    let seat : c.fresh.result ≡ seat_of (length made) [] 0 0 = c.fresh.ensures ∙ ap (λ n. seat_of n [] 0 0) (c.from.ensures ∙ place) in (
      omega (arith, before.0, c.split_off-part.ensures.parts_left),
      omega (arith, before.1, c.split_off-part.ensures.amount_left),
      ap length items ∙ omega (arith, length-append made (c.fresh.result ∷ []), before.2),
      rw items (fresh_more made c.fresh.result before.3 seat),
    )
