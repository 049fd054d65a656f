use Rattle.std.proofs.Common.{◌≡◌, ◌∷◌, List, map, length, sym, ap, ◌∙◌, subst, arith}
use Rattle.std.specs.List.{AllByRecursion}
use Rattle.cv_pool.specs.Hands.{AreHandsOf}
use Rattle.cv_pool.specs.code.Owners.{Owner, owner_deque, IsOwner}
use Rattle.cv_pool.specs.code.Gathering.{AreOfDeques}
use Rattle.cv_pool.proofs.GatherLemmas.{Opened, opened}
use Rattle.cv_pool.proofs.taken.gather.Goals as goal

-- the owners of the queues, which the first hand has
queue_owners : (c : goal.After-lists-1) → Opened c.requires.0 c.in-Some-queue_owners.queue_owners c.pop_front.new.self.items
queue_owners c =
    let all : AreHandsOf c.requires.0 (c.in-Some.first ∷ c.pop_front.new.self.items) = subst (AreHandsOf c.requires.0) (sym c.from_vec-hands.ensures.items ∙ c.in-Some.ensures.items) c.requires.1 in
    opened _ _ _ _ _ _ _ _ _ c.first.view_is c.first.invariant c.in-Some-queue_owners.is all

pub gather_all-requires-clause-hands : goal.gather_all-requires-clause-hands
gather_all-requires-clause-hands c =
    subst (λ (os : List Owner). AreOfDeques (map owner_deque os) c.pop_front.new.self.items) (sym c.as_mut_slice.ensures.value) (queue_owners c).of

pub gather_all-requires-clause-shares : goal.gather_all-requires-clause-shares
gather_all-requires-clause-shares c =
    let o = queue_owners c in
    let shares = o.queue_owners.shares in
    let count = o.count in
    (o.kept, o.queue_owners.keeps_a_share, omega arith, subst (AllByRecursion (IsOwner o.kept 9)) (sym c.as_mut_slice.ensures.value) o.queue_owners.owners)

pub gather_all-requires-clause-room : goal.gather_all-requires-clause-room
gather_all-requires-clause-room c =
    let o = queue_owners c in
    let room = o.queue_owners.room in
    let count = o.count in
    let none : length c.in-Some-queue_owners.queue_owners.lists.items ≡ 0 = ap length o.queue_owners.empty in
    let len = c.in-Some-queue_owners.queue_owners.lists.ok.0 in
    omega arith
