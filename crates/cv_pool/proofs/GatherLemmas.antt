-- What the owners know after the accounts of hands went back to them.
use Rattle.std.proofs.Common.{◌≡◌, ℕ, ◌+◌, ◌<◌, ◌≤◌, Bool, true, false, ◌||◌, not, List, [], ◌∷◌, map, length, Option, Some, refl, ap, sym, ◌∙◌, subst, true≢false, arith}
use Rattle.std.specs.List.{AllByRecursion}
use Rattle.cv_pool.specs.declared.account.Account.{Account}
use Rattle.std.specs.Global.{Vec}
use Rattle.cv_pool.specs.declared.queue_owners.QueueOwners.{QueueOwners}
use Rattle.cv_pool.specs.declared.seat.Seat.{Seat}
use Rattle.cv_pool.specs.Jobs.{weigh, lists_weigh}
use Rattle.cv_pool.specs.Hands.{Fill, HandState, AreHandsFrom, AreHandsOf, lists_of, any_done}
use Rattle.cv_pool.specs.code.HandParts.{hand_state, AreQueueOwners, HasQueueOwners, IsHand}
use Rattle.cv_pool.specs.code.Tasks.{jobs}
use Rattle.cv_pool.specs.code.Seats.{seat_deque, seat_jobs, seat_account, IsSeated, seats_weigh, any_more}
use Rattle.cv_pool.specs.code.Owners.{Owner, owner_deque, owner_account, IsOwner, HasShares, HasEnded, owners_weigh, owners_dealt}
use Rattle.cv_pool.specs.code.Gathering.{HasShare, AreSeatsOf, AreOfDeques, Absorbed, AbsorbedAt, Gathered, HasSettled}
use Rattle.cv_pool.proofs.TaskLemmas.{cons_is_not_nil, weigh-append}
use Rattle.cv_pool.proofs.SeatLemmas.{each_seat_by, or_is_false-first, or_is_false-second}

abbrev pub head_or : {A : Type 0} → A → List A → A
head_or d [] = d
head_or d (x ∷ xs) = x

abbrev pub tail : {A : Type 0} → List A → List A
tail [] = []
tail (x ∷ xs) = xs

-- seats at the deques of the owners
pub seats_of : (os : List Owner) (ss : List Seat) → map seat_deque ss ≡ map owner_deque os → AllByRecursion IsSeated ss → AllByRecursion HasShare os → AreSeatsOf os ss
seats_of [] [] e seated share = tt
seats_of [] (s ∷ ss) e seated share = absurd (cons_is_not_nil _ _ e)
seats_of (o ∷ os) [] e seated share = absurd (cons_is_not_nil _ _ (sym e))
seats_of (o ∷ os) (s ∷ ss) e seated share = (ap (head_or (owner_deque o)) e, seated.0, share.0, seats_of os ss (ap tail e) seated.1 share.1)

-- owners keep their deques
absorbed_deques : (os : List Owner) (ss : List Seat) (ns : List Owner) → Absorbed os ss ns → map owner_deque ns ≡ map owner_deque os
absorbed_deques = each_seat_by AbsorbedAt (λ os ss ns. map owner_deque ns ≡ map owner_deque os) refl (λ o s n os ss ns a rest. λ i. a.0 i ∷ rest i)

-- owners keep their shares
absorbed_share : (os : List Owner) (ss : List Seat) (ns : List Owner) → Absorbed os ss ns → AllByRecursion HasShare os → AllByRecursion HasShare ns
absorbed_share = each_seat_by AbsorbedAt (λ os ss ns. AllByRecursion HasShare os → AllByRecursion HasShare ns) (λ share. tt)
    (λ o s n os ss ns a rest share. (subst (λ (v : Account). 0 < v.shares) (sym a.1) (let p = share.0 in omega arith), rest share.1))

-- each owner has a share more
absorbed_shares : (p : ℕ) (os : List Owner) (ss : List Seat) (ns : List Owner) → Absorbed os ss ns → AllByRecursion IsSeated ss → AllByRecursion (HasShares p) os → AllByRecursion (HasShares (p + 1)) ns
absorbed_shares p = each_seat_by AbsorbedAt (λ os ss ns. AllByRecursion IsSeated ss → AllByRecursion (HasShares p) os → AllByRecursion (HasShares (p + 1)) ns) (λ seated shares. tt)
    (λ o s n os ss ns a rest seated shares. (ap (λ (v : Account). v.shares) a.1 ∙ (let e = shares.0 in let d = seated.0.share in omega arith), rest seated.1 shares.1))

-- the jobs taken at the seats are added
absorbed_weights : (h : ℕ → ℕ) (os : List Owner) (ss : List Seat) (ns : List Owner) → Absorbed os ss ns → owners_weigh h ns ≡ owners_weigh h os + seats_weigh h ss
absorbed_weights h = each_seat_by AbsorbedAt (λ os ss ns. owners_weigh h ns ≡ owners_weigh h os + seats_weigh h ss) refl
    (λ o s n os ss ns a rest.
    let here : weigh h (owner_account n).taken ≡ weigh h (owner_account o).taken + weigh h (seat_account s).taken = ap (λ (v : Account). weigh h v.taken) a.1 ∙ weigh-append h (owner_account o).taken (seat_account s).taken in
    omega arith)

-- what was dealt stays
absorbed_dealt : (h : ℕ → ℕ) (os : List Owner) (ss : List Seat) (ns : List Owner) → Absorbed os ss ns → owners_dealt h ns ≡ owners_dealt h os
absorbed_dealt h = each_seat_by AbsorbedAt (λ os ss ns. owners_dealt h ns ≡ owners_dealt h os) refl
    (λ o s n os ss ns a rest. let here : weigh h (jobs (owner_account n).pushed) ≡ weigh h (jobs (owner_account o).pushed) = ap (λ (v : Account). weigh h (jobs v.pushed)) a.1 in omega arith)

-- marks that were taken stay taken
absorbed_ended : (os : List Owner) (ss : List Seat) (ns : List Owner) → Absorbed os ss ns → AllByRecursion HasEnded os → AllByRecursion HasEnded ns
absorbed_ended = each_seat_by AbsorbedAt (λ os ss ns. AllByRecursion HasEnded os → AllByRecursion HasEnded ns) (λ ended. tt)
    (λ o s n os ss ns a rest ended. (subst (λ (v : Account). 0 < v.ended) (sym a.1) (let p = ended.0 in omega arith), rest ended.1))

-- a hand took a mark where it has no more to do
seat_ended : (s : Seat) → IsSeated s → s.more ≡ false → (seat_account s).ended ≡ 1
seat_ended s seated none = rw (seated.ended, none) refl

-- the marks of a hand that is done are at all owners
absorbed_done : (os : List Owner) (ss : List Seat) (ns : List Owner) → Absorbed os ss ns → AllByRecursion IsSeated ss → any_more ss ≡ false → AllByRecursion HasEnded ns
absorbed_done = each_seat_by AbsorbedAt (λ os ss ns. AllByRecursion IsSeated ss → any_more ss ≡ false → AllByRecursion HasEnded ns) (λ seated none. tt)
    (λ o s n os ss ns a rest seated none.
    (subst (λ (v : Account). 0 < v.ended) (sym a.1) (let p = seat_ended s seated.0 (or_is_false-first s.more (any_more ss) none) in omega arith), rest seated.1 (or_is_false-second s.more (any_more ss) none)))

-- a hand that is done has no mark to take
not_is_true : (b : Bool) → not b || false ≡ true → b ≡ false
not_is_true true e = sym e
not_is_true false e = refl

-- the accounts of one hand went back
pub gathered_one : (n index : ℕ) (os : List Owner) (ss : List Seat) (ns : List Owner) (list : List ℕ) → Absorbed os ss ns → AllByRecursion IsSeated ss → ((h : ℕ → ℕ) → weigh h list ≡ seats_weigh h ss)
    → Gathered os (hand_state n index ss list ∷ []) ns
gathered_one n index os ss ns list a seated weights = record {
  deques = absorbed_deques os ss ns a;
  share = absorbed_share os ss ns a;
  shares = λ p. absorbed_shares p os ss ns a seated;
  weights = λ h. let e = absorbed_weights h os ss ns a in let d = weights h in omega arith;
  dealt = λ h. absorbed_dealt h os ss ns a;
  ended = absorbed_ended os ss ns a;
  done = λ e. absorbed_done os ss ns a seated (not_is_true (any_more ss) e);
}

-- the accounts of no hand
pub gathered_none : (os : List Owner) → Gathered os [] os
gathered_none os = record {
  deques = refl;
  share = λ s. s;
  shares = λ p s. subst (λ n. AllByRecursion (HasShares n) os) (omega arith) s;
  weights = λ h. omega arith;
  dealt = λ h. refl;
  ended = λ e. e;
  done = λ e. absurd (true≢false (sym e));
}

-- some hand is done: the first, or one of the others
done_cases : (h : HandState) (hs : List HandState) (os ns : List Owner) → (h.done || false ≡ true → AllByRecursion HasEnded ns) → (any_done hs ≡ true → AllByRecursion HasEnded ns) → (b : Bool) → h.done ≡ b → h.done || any_done hs ≡ true → AllByRecursion HasEnded ns
done_cases h hs os ns first rest true is e = first (ap (λ b. b || false) is)
done_cases h hs os ns first rest false is e = rest (sym (ap (λ b. b || any_done hs) is) ∙ e)

-- the accounts of a hand and then those of others
pub gathered_more : (h : HandState) (hs : List HandState) (os ms ns : List Owner) → Gathered os (h ∷ []) ms → Gathered ms hs ns → Gathered os (h ∷ hs) ns
gathered_more h hs os ms ns one rest = record {
  deques = rest.deques ∙ one.deques;
  share = λ s. rest.share (one.share s);
  shares = λ p s. subst (λ n. AllByRecursion (HasShares n) ns) (omega arith) (rest.shares (p + 1) (subst (λ n. AllByRecursion (HasShares n) ms) (omega arith) (one.shares p s)));
  weights = λ w. let a = one.weights w in let b = rest.weights w in omega arith;
  dealt = λ w. rest.dealt w ∙ one.dealt w;
  ended = λ e. rest.ended (one.ended e);
  done = done_cases h hs os ns (λ e. rest.ended (one.done e)) rest.done h.done refl;
}

-- what was taken is within what was dealt
pub settled_within : (os : List Owner) → AllByRecursion HasSettled os → (h : ℕ → ℕ) → owners_weigh h os ≤ owners_dealt h os
settled_within [] settled h = omega arith
settled_within (o ∷ os) settled h = let a = settled.0.0 h in let b = settled_within os settled.1 h in omega arith

-- and it is all of it where a mark of each deque was taken
pub settled_all : (os : List Owner) → AllByRecursion HasSettled os → AllByRecursion HasEnded os → (h : ℕ → ℕ) → owners_weigh h os ≡ owners_dealt h os
settled_all [] settled ended h = refl
settled_all (o ∷ os) settled ended h = let a = settled.0.1 ended.0 h in let b = settled_all os settled.1 ended.1 h in omega arith

-- the shares of owners
pub owners_shares : (kept ends : ℕ) (os : List Owner) → AllByRecursion (IsOwner kept ends) os → AllByRecursion (HasShares kept) os
owners_shares kept ends [] owners = tt
owners_shares kept ends (o ∷ os) owners = (owners.0.shares_kept, owners_shares kept ends os owners.1)

-- owners with a share
pub owners_share : (kept : ℕ) (os : List Owner) → 0 < kept → AllByRecursion (HasShares kept) os → AllByRecursion HasShare os
owners_share kept [] some shares = tt
owners_share kept (o ∷ os) some shares = ((let e = shares.0 in omega arith), owners_share kept os some shares.1)

-- owners that took nothing weigh nothing
owners_none : (kept ends : ℕ) (os : List Owner) → AllByRecursion (IsOwner kept ends) os → (h : ℕ → ℕ) → owners_weigh h os ≡ 0
owners_none kept ends [] owners h = refl
owners_none kept ends (o ∷ os) owners h =
    let here : weigh h (owner_account o).taken ≡ 0 = ap (weigh h) owners.0.none_taken in let rest = owners_none kept ends os owners.1 h in omega arith

-- what hands gave back is within what was dealt
pub gathered_within : (os : List Owner) (hs : List HandState) (ns : List Owner) → Gathered os hs ns → AllByRecursion HasSettled ns → (h : ℕ → ℕ) → lists_weigh h (lists_of hs) ≤ owners_dealt h os
gathered_within os hs ns gathered settled h = let a = settled_within ns settled h in let b = gathered.weights h in let c = gathered.dealt h in omega arith

-- and all of it where a hand is done
pub gathered_all : (kept ends : ℕ) (os : List Owner) (hs : List HandState) (ns : List Owner) → AllByRecursion (IsOwner kept ends) os → Gathered os hs ns → AllByRecursion HasSettled ns → any_done hs ≡ true
    → (h : ℕ → ℕ) → lists_weigh h (lists_of hs) ≡ owners_dealt h os
gathered_all kept ends os hs ns owners gathered settled done h =
    let a = settled_all ns settled (gathered.done done) h in let b = gathered.weights h in let c = gathered.dealt h in let d = owners_none kept ends os owners h in omega arith

-- hands of a fill are of its deques
of_deques : (fill : Fill) (from : ℕ) (hs : List HandState) (to : ℕ) → AreHandsFrom fill from hs to → AreOfDeques fill.deques hs
of_deques fill from [] to hands = tt
of_deques fill from (h ∷ hs) to hands = (ap (λ (f : Fill). f.deques) hands.0, of_deques fill (from + 1) hs to hands.2)

-- how many hands there are
from_to : (fill : Fill) (from : ℕ) (hs : List HandState) (to : ℕ) → AreHandsFrom fill from hs to → from + length hs ≡ to
from_to fill from [] to hands = (let e = hands in omega arith)
from_to fill from (h ∷ hs) to hands = let e = from_to fill (from + 1) hs to hands.2 in omega arith

-- the owners of the queues, which lie in the first hand and fit the hands of its fill
pub record Opened (fill : Fill) (c : QueueOwners) (rest : List HandState) : Type 0 where
  pub kept : ℕ
  pub queue_owners : AreQueueOwners fill.jobs fill.deques kept c
  pub of : AreOfDeques (map owner_deque c.owners.items) rest
  pub count : length fill.deques ≡ length rest + 1

-- the first hand has the owners of the queues
pub opened : (n index : ℕ) (seats : List Seat) (list : Vec ℕ) (queue_owners : Option QueueOwners) (c : QueueOwners) (first : HandState) (rest : List HandState) (fill : Fill)
    → hand_state n index seats list.items ≡ first → IsHand n index seats list queue_owners → queue_owners ≡ Some c → AreHandsOf fill (first ∷ rest) → Opened fill c rest
opened n index seats list queue_owners c first rest fill is hand some all =
    let here : index ≡ 0 = ap (λ (h : HandState). h.index) is ∙ all.1.1 in
    let of_fill : record { deques = map seat_deque seats; jobs = n; dealt = map seat_jobs seats } ≡ fill = ap (λ (h : HandState). h.fill) is ∙ all.1.0 in
    let has : HasQueueOwners n (map seat_deque seats) (Some c) = subst (HasQueueOwners n (map seat_deque seats)) some (hand.first here) in
    let box : AreQueueOwners fill.jobs fill.deques has.0 c = subst (λ (f : Fill). AreQueueOwners f.jobs f.deques has.0 c) of_fill has.1 in
    record {
      kept = has.0;
      queue_owners = box;
      of = subst (λ deques. AreOfDeques deques rest) (sym box.deques_of) (of_deques fill 1 rest (length fill.deques) all.1.2);
      count = (let e = from_to fill 1 rest (length fill.deques) all.1.2 in omega arith);
    }
