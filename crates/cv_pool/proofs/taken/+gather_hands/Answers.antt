use Rattle.std.proofs.Common.{◌≡◌, ◌∷◌, [], map, length, rules, sym, ap, subst, arith}
use Rattle.cv_pool.specs.Hands.{HandState}
use Rattle.cv_pool.specs.code.Owners.{owner_deque}
use Rattle.cv_pool.specs.code.Gathering.{AreOfDeques, Gathered}
use Rattle.cv_pool.proofs.GatherLemmas.{gathered_more}
use Rattle.cv_pool.proofs.taken.+gather_hands.Goals as goal

pub gather_hands-requires : goal.gather_hands-requires
gather_hands-requires t c =
    let one : Gathered c.args.owners.now (c.in-Some.hand ∷ []) c.gather_hand.new.owners = subst (λ (h : HandState). Gathered c.args.owners.now (h ∷ []) c.gather_hand.new.owners) c.hand.view_is (c.gather_hand.ensures.owners c.hand.inside.jobs c.hand.inside.index) in
    let parts : c.args.hands.items ≡ c.in-Some.hand ∷ c.pop_front.new.self.items = c.in-Some.ensures.items in
    let of : AreOfDeques (map owner_deque c.args.owners.now) (c.in-Some.hand ∷ c.pop_front.new.self.items) = subst (AreOfDeques (map owner_deque c.args.owners.now)) parts c.requires.hands in
    let more : length c.args.hands.items ≡ length (c.in-Some.hand ∷ c.pop_front.new.self.items) = ap length parts in
    let room = c.requires.room in
    let longer = c.gather_hand.ensures.room in
    (search rules, (subst (λ deques. AreOfDeques deques c.pop_front.new.self.items) (sym one.deques) of.1, (one.share c.requires.shares, omega arith)))

pub returns-clause-owners : goal.returns-clause-owners
returns-clause-owners t c =
    let one : Gathered c.args.owners.now (c.in-Some.hand ∷ []) c.gather_hand.new.owners = subst (λ (h : HandState). Gathered c.args.owners.now (h ∷ []) c.gather_hand.new.owners) c.hand.view_is (c.gather_hand.ensures.owners c.hand.inside.jobs c.hand.inside.index) in
    subst (λ hs. Gathered c.args.owners.now hs c.gather_hands.new.owners) (sym c.in-Some.ensures.items) (gathered_more _ _ _ _ _ one c.gather_hands.ensures.owners)
