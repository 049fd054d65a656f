use Rattle.std.proofs.Common.{ap, ◌≡◌, ◌∷◌, map, length, refl, ◌∙◌, arith}
use Rattle.std.proofs.lemmas.List.{length-map}
use Rattle.cv_pool.specs.code.Owners.{owner_deque}
use Rattle.cv_pool.specs.Hands.{deal, new_hand, new_hands}
use Rattle.cv_pool.specs.code.Filling.{fill_of}
use Rattle.cv_pool.proofs.FillLemmas.{new_is_seen, new_fill}
use Rattle.cv_pool.proofs.filling.fill.Goals as goal

pub returns : goal.returns
returns c =
    let made = c.in_ok-seats.ensures in
    let some = c.requires.0 in
    let count : length c.fill_owners.new.owners ≡ c.args.hands = made.count ∙ c.as_mut_slice.ensures.len ∙ c.in_ok-owners.owners.ok.0 ∙ c.in_ok-owners.ensures.1 in
    let deques : length (map owner_deque c.fill_owners.new.owners) ≡ c.args.hands = length-map c.fill_owners.new.owners owner_deque ∙ count in
    let first = new_is_seen c.args.jobs 0 c.fill_owners.new.owners c.in_ok-seats.seats.items c.in_ok-list.list.items made.first (omega arith) c.in_ok-list.ensures.items in
    let all : c.insert.new.self.items ≡ new_hand (fill_of c.args.jobs c.fill_owners.new.owners) 0 ∷ new_hands (fill_of c.args.jobs c.fill_owners.new.owners) 1 made.rest =
    c.in_ok-insert.ensures.items ∙ (λ i. first i ∷ made.hands i) in
    new_fill c.args.jobs c.args.hands made.rest (fill_of c.args.jobs c.fill_owners.new.owners) c.insert.new.self.items deques refl (made.owners.in_turn ∙ ap (λ n. deal c.args.jobs n 0 n) count) (made.one_more ∙ count) all
