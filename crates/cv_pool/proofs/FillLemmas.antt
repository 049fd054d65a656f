-- What owners know while their deques are filled, and while seats are made.
use Rattle.std.proofs.Common.{false, ◌%◌, ◌==◌, cond, ◌≡◌, ℕ, zero, suc, ◌+◌, ◌-◌, ◌<◌, ◌≤◌, ◌++◌, true, not, ◌||◌, Option, List, [], ◌∷◌, map, length, set, get_or, refl, ap, sym, ◌∙◌, subst, arith}
use Rattle.std.specs.List.{AllByRecursion}
use Rattle.crossbeam_deque.specs.Handles.{worker_flavor}
use Rattle.cv_seq.proofs.AllItems.{all_more}
use Rattle.std.proofs.lemmas.List.{append-nil, length-append, length-map, length-set, map-append, map-set}
use Rattle.std.proofs.lemmas.List.Elements.{filter-append}
use Rattle.std.proofs.lemmas.Bool.Decides.{nat_tests}
use Rattle.cv_pool.proofs.GatherLemmas.{head_or, tail}
use Rattle.cv_pool.specs.declared.account.Account.{Account}
use Rattle.cv_pool.specs.declared.task.Task.TheVariants.{Job, End}
use Rattle.cv_pool.specs.declared.seat.Seat.{Seat}
use Rattle.cv_pool.specs.Jobs.{weigh, lists_weigh, weigh_below}
use Rattle.cv_pool.specs.code.Tasks.{jobs, marks}
use Rattle.cv_pool.specs.code.Accounts.{account, with_pushed}
use Rattle.cv_pool.specs.code.Owners.{Owner, owner_account, owner_deque, IsOwner, owners_dealt}
use Rattle.cv_pool.specs.code.Filling.{AreOwners, AreNewSeats, AreParts, Seated, SeatedAt, fill_of, owner_jobs}
use Rattle.cv_pool.specs.code.Seats.{seat_deque, seat_jobs, seat_account, IsSeated, seats_weigh, seats_dealt, any_more}
use Rattle.cv_pool.specs.code.HandParts.{hand_state, IsHand, HasQueueOwners}
use Rattle.cv_pool.specs.Hands.{Fill, HandState, below, dealt_to, deal, new_hand, new_hands, AreHandsFrom, IsNewFill}
use Rattle.cv_pool.specs.declared.queue_owners.QueueOwners.{QueueOwners}
use Rattle.std.specs.Global.{Global, Vec}
use Rattle.std.specs.Vec.{vec_capacity}
use Rattle.cv_pool.proofs.SeatLemmas.{each_seat_by}
use Rattle.cv_pool.proofs.TaskLemmas.{weigh-append, jobs-append, marks-append}

-- a job was added
pub owner_job : (o n : Owner) (k : ℕ) → IsOwner 9 0 o → owner_account n ≡ with_pushed (owner_account o) (Job k ∷ []) → worker_flavor n ≡ worker_flavor o → IsOwner 9 0 n
owner_job o n k owner account fifo = record {
  shares_kept = ap (λ (v : Account). v.shares) account ∙ owner.shares_kept;
  marked = ap (λ (v : Account). marks v.pushed) account ∙ marks-append (owner_account o).pushed (Job k ∷ []) ∙ (let e = owner.marked in omega arith);
  none_taken = ap (λ (v : Account). v.taken) account ∙ owner.none_taken;
  none_ended = ap (λ (v : Account). v.ended) account ∙ owner.none_ended;
  fifo = fifo ∙ owner.fifo;
}

-- the deque's jobs after a job was added
pub jobs_with_job : (o n : Owner) (k : ℕ) → owner_account n ≡ with_pushed (owner_account o) (Job k ∷ []) → owner_jobs n ≡ owner_jobs o ++ k ∷ []
jobs_with_job o n k account = ap (λ (v : Account). jobs v.pushed) account ∙ jobs-append (owner_account o).pushed (Job k ∷ [])

-- a mark was added
pub owner_end : (ends : ℕ) (o n : Owner) → IsOwner 9 ends o → owner_account n ≡ with_pushed (owner_account o) (End ∷ []) → worker_flavor n ≡ worker_flavor o → IsOwner 9 (ends + 1) n
owner_end ends o n owner account fifo = record {
  shares_kept = ap (λ (v : Account). v.shares) account ∙ owner.shares_kept;
  marked = ap (λ (v : Account). marks v.pushed) account ∙ marks-append (owner_account o).pushed (End ∷ []) ∙ (let e = owner.marked in omega arith);
  none_taken = ap (λ (v : Account). v.taken) account ∙ owner.none_taken;
  none_ended = ap (λ (v : Account). v.ended) account ∙ owner.none_ended;
  fifo = fifo ∙ owner.fifo;
}

-- the deque's jobs after a mark was added
pub jobs_with_end : (o n : Owner) → owner_account n ≡ with_pushed (owner_account o) (End ∷ []) → owner_jobs n ≡ owner_jobs o
jobs_with_end o n account = ap (λ (v : Account). jobs v.pushed) account ∙ jobs-append (owner_account o).pushed (End ∷ []) ∙ append-nil (owner_jobs o)

-- what was dealt to owners that are joined
owners_dealt-append : (h : ℕ → ℕ) (os ns : List Owner) → owners_dealt h (os ++ ns) ≡ owners_dealt h os + owners_dealt h ns
owners_dealt-append h [] ns = omega arith
owners_dealt-append h (o ∷ os) ns = let e = owners_dealt-append h os ns in omega arith

-- this number of empty lists
abbrev empty_lists : ℕ → List (List ℕ)
empty_lists zero = []
empty_lists (suc m) = [] ∷ empty_lists m

-- no job is dealt yet
deal_none : (hands from m : ℕ) → deal 0 hands from m ≡ empty_lists m
deal_none hands from zero = refl
deal_none hands from (suc m) = ap (λ l. [] ∷ l) (deal_none hands (from + 1) m)

-- one more empty list
empty_lists-snoc : (m : ℕ) → empty_lists m ++ [] ∷ [] ≡ empty_lists (suc m)
empty_lists-snoc zero = refl
empty_lists-snoc (suc m) = ap (λ l. [] ∷ l) (empty_lists-snoc m)

add_one : (n : ℕ) → n + 1 ≡ suc n
add_one n = omega arith

-- no job is dealt to one more deque
opened_in_turn : (os : List Owner) (o : Owner) → map owner_jobs os ≡ deal 0 (length os) 0 (length os) → owner_jobs o ≡ [] → map owner_jobs (os ++ o ∷ []) ≡ deal 0 (length (os ++ o ∷ [])) 0 (length (os ++ o ∷ []))
opened_in_turn os o in_turn none =
    let so_far : map owner_jobs os ≡ empty_lists (length os) = in_turn ∙ deal_none (length os) 0 (length os) in
    let count : suc (length os) ≡ length (os ++ o ∷ []) = sym (length-append os (o ∷ []) ∙ add_one (length os)) in
    map-append owner_jobs os (o ∷ []) ∙ (λ i. so_far i ++ none i ∷ []) ∙ empty_lists-snoc (length os) ∙ ap empty_lists count ∙ sym (deal_none (length (os ++ o ∷ [])) 0 (length (os ++ o ∷ [])))

-- one more empty deque
pub owners_opened : (os : List Owner) (o : Owner) → AreOwners 0 9 0 os → owner_account o ≡ account 9 [] [] 0 → worker_flavor o ≡ 0 → AreOwners 0 9 0 (os ++ o ∷ [])
owners_opened os o owners new fifo = record {
  owners = all_more (IsOwner 9 0) os o owners.owners (record {
    shares_kept = ap (λ (v : Account). v.shares) new;
    marked = ap (λ (v : Account). marks v.pushed) new;
    none_taken = ap (λ (v : Account). v.taken) new;
    none_ended = ap (λ (v : Account). v.ended) new;
    fifo = fifo;
  });
  dealt = λ h.
      let a = owners.dealt h in
      let b : weigh h (owner_jobs o) ≡ 0 = ap (λ (v : Account). weigh h (jobs v.pushed)) new in
      let c = owners_dealt-append h os (o ∷ []) in
      omega arith;
  in_turn = opened_in_turn os o owners.in_turn (ap (λ (v : Account). jobs v.pushed) new);
}

-- no deque yet
pub none_opened : AreOwners 0 9 0 []
none_opened = record { owners = tt; dealt = λ h. refl; in_turn = refl }

-- a fact of each owner after a change of one
owners_set : (P : Owner → Type 0) (os : List Owner) (i : ℕ) (n : Owner) → AllByRecursion P os → P n → AllByRecursion P (set os i n)
owners_set P [] i n all one = tt
owners_set P (o ∷ os) zero n all one = (one, all.1)
owners_set P (o ∷ os) (suc i) n all one = (all.0, owners_set P os i n all.1 one)

-- what was dealt after a change of one owner
owners_dealt-set : (h : ℕ → ℕ) (os : List Owner) (i : ℕ) (n d : Owner) → i < length os → owners_dealt h (set os i n) + weigh h (owner_jobs (get_or os i d)) ≡ owners_dealt h os + weigh h (owner_jobs n)
owners_dealt-set h [] i n d inside = absurd (omega arith)
owners_dealt-set h (o ∷ os) zero n d inside = omega arith
owners_dealt-set h (o ∷ os) (suc i) n d inside = let e = owners_dealt-set h os i n d (omega arith) in omega arith

-- the weights of one job more
weigh_below_more : (h : ℕ → ℕ) (k : ℕ) → weigh_below h (k + 1) ≡ weigh_below h k + h k
weigh_below_more h k = let e : k + 1 ≡ suc k = omega arith in ap (weigh_below h) e

-- a job goes to the list of its remainder
dealt_to-here : (k hands from : ℕ) → k % hands ≡ from → dealt_to (suc k) hands from ≡ dealt_to k hands from ++ k ∷ []
dealt_to-here k hands from e =
    let test : (k % hands == from) ≡ true = grind (arith, nat_tests) in
    filter-append (λ j. j % hands == from) (below k) (k ∷ []) ∙ ap (λ b. dealt_to k hands from ++ cond b (k ∷ []) []) test

-- and to no other
dealt_to-else : (k hands from : ℕ) → (k % hands ≡ from → ⊥) → dealt_to (suc k) hands from ≡ dealt_to k hands from
dealt_to-else k hands from other =
    let test : (k % hands == from) ≡ false = grind (arith, nat_tests) in
    filter-append (λ j. j % hands == from) (below k) (k ∷ []) ∙ ap (λ b. dealt_to k hands from ++ cond b (k ∷ []) []) test ∙ append-nil (dealt_to k hands from)

-- the lists after that of the remainder stay
deal-after : (k hands from m : ℕ) → k % hands < from → deal (suc k) hands from m ≡ deal k hands from m
deal-after k hands from zero after = refl
deal-after k hands from (suc m) after = let rest = deal-after k hands (from + 1) m (omega arith) in λ i. dealt_to-else k hands from (λ e. omega arith) i ∷ rest i

-- the lists with one more job
deal-set : (k hands from m place : ℕ) (js : List ℕ) → k % hands ≡ from + place → place < m → js ≡ dealt_to k hands (from + place) ++ k ∷ [] → set (deal k hands from m) place js ≡ deal (suc k) hands from m
deal-set k hands from zero place js at inside more = absurd (omega arith)
deal-set k hands from (suc m) zero js at inside more =
    let here : from + 0 ≡ from = omega arith in
    let head : js ≡ dealt_to (suc k) hands from = more ∙ ap (λ i. dealt_to k hands i ++ k ∷ []) here ∙ sym (dealt_to-here k hands from (at ∙ here)) in
    let rest = deal-after k hands (from + 1) m (omega arith) in
    λ i. head i ∷ sym rest i
deal-set k hands from (suc m) (suc place) js at inside more =
    let next : from + suc place ≡ from + 1 + place = omega arith in
    let rest = deal-set k hands (from + 1) m place js (at ∙ next) (omega arith) (more ∙ ap (λ i. dealt_to k hands i ++ k ∷ []) next) in
    let head = dealt_to-else k hands from (λ e. omega arith) in
    λ i. sym head i ∷ rest i

-- the jobs that were dealt to one owner
jobs_at : (k hands from : ℕ) (os : List Owner) (i : ℕ) (d : Owner) → i < length os → map owner_jobs os ≡ deal k hands from (length os) → owner_jobs (get_or os i d) ≡ dealt_to k hands (from + i)
jobs_at k hands from [] i d inside e = absurd (omega arith)
jobs_at k hands from (o ∷ os) zero d inside e = let here : from ≡ from + 0 = omega arith in ap (head_or []) e ∙ ap (dealt_to k hands) here
jobs_at k hands from (o ∷ os) (suc i) d inside e = let next : from + 1 + i ≡ from + suc i = omega arith in jobs_at k hands (from + 1) os i d (omega arith) (ap tail e) ∙ ap (dealt_to k hands) next

-- owners whose deques have the same jobs
pub jobs_count : (os ns : List Owner) → map owner_jobs ns ≡ map owner_jobs os → length ns ≡ length os
jobs_count os ns e = sym (length-map ns owner_jobs) ∙ ap length e ∙ length-map os owner_jobs

-- have them dealt in turn, too
same_in_turn : (k : ℕ) (os ns : List Owner) → map owner_jobs ns ≡ map owner_jobs os → map owner_jobs os ≡ deal k (length os) 0 (length os) → map owner_jobs ns ≡ deal k (length ns) 0 (length ns)
same_in_turn k os ns same in_turn = same ∙ in_turn ∙ ap (λ n. deal k n 0 n) (sym (jobs_count os ns same))

-- what was dealt weighs what its lists weigh
owners_dealt_is : (h : ℕ → ℕ) (os : List Owner) → owners_dealt h os ≡ lists_weigh h (map owner_jobs os)
owners_dealt_is h [] = refl
owners_dealt_is h (o ∷ os) = ap (λ n. weigh h (owner_jobs o) + n) (owners_dealt_is h os)

-- one more job is dealt
pub owners_with_job : (os : List Owner) (i k : ℕ) (n d : Owner) → i < length os → k % length os ≡ i → AreOwners k 9 0 os → IsOwner 9 0 n → owner_jobs n ≡ owner_jobs (get_or os i d) ++ k ∷ [] → AreOwners (k + 1) 9 0 (set os i n)
owners_with_job os i k n d inside place owners owner more = record {
  owners = owners_set (IsOwner 9 0) os i n owners.owners owner;
  dealt = λ h.
      let a = owners.dealt h in
      let b : weigh h (owner_jobs n) ≡ weigh h (owner_jobs (get_or os i d) ++ k ∷ []) = ap (weigh h) more in
      let c = weigh-append h (owner_jobs (get_or os i d)) (k ∷ []) in
      let e = owners_dealt-set h os i n d inside in
      let f : weigh_below h (k + 1) ≡ weigh_below h k + h k = weigh_below_more h k in
      omega arith;
  in_turn =
      let first : i ≡ 0 + i = omega arith in
      let one : suc k ≡ k + 1 = omega arith in
      let js : owner_jobs n ≡ dealt_to k (length os) (0 + i) ++ k ∷ [] = more ∙ ap (λ l. l ++ k ∷ []) (jobs_at k (length os) 0 os i d inside owners.in_turn) in
      let count : length os ≡ length (set os i n) = sym (length-set os i n) in
      map-set owner_jobs os i n ∙ ap (λ l. set l i (owner_jobs n)) owners.in_turn ∙ deal-set k (length os) 0 (length os) i (owner_jobs n) (place ∙ first) inside js
      ∙ ap (λ j. deal j (length os) 0 (length os)) one ∙ ap (λ m. deal (k + 1) m 0 m) count;
}

-- owners keep their deques
seated_deques : (os : List Owner) (ss : List Seat) (ns : List Owner) → Seated os ss ns → map owner_deque ns ≡ map owner_deque os
seated_deques = each_seat_by SeatedAt (λ os ss ns. map owner_deque ns ≡ map owner_deque os) refl (λ o s n os ss ns a rest i. a.deque i ∷ rest i)

-- each owner gave a share
seated_each : (kept : ℕ) (os : List Owner) (ss : List Seat) (ns : List Owner) → Seated os ss ns → AllByRecursion (IsOwner (kept + 1) 9) os → AllByRecursion (IsOwner kept 9) ns
seated_each kept = each_seat_by SeatedAt (λ os ss ns. AllByRecursion (IsOwner (kept + 1) 9) os → AllByRecursion (IsOwner kept 9) ns) (λ all. tt) (λ o s n os ss ns a rest all. (a.owner kept all.0, rest all.1))

-- what was dealt stays
seated_dealt : (h : ℕ → ℕ) (os : List Owner) (ss : List Seat) (ns : List Owner) → Seated os ss ns → owners_dealt h ns ≡ owners_dealt h os
seated_dealt h = each_seat_by SeatedAt (λ os ss ns. owners_dealt h ns ≡ owners_dealt h os) refl
    (λ o s n os ss ns a rest. let here : weigh h (owner_jobs n) ≡ weigh h (owner_jobs o) = ap (weigh h) a.same in omega arith)

-- the seats are at the owners' deques
seats_deques : (os : List Owner) (ss : List Seat) (ns : List Owner) → Seated os ss ns → map seat_deque ss ≡ map owner_deque os
seats_deques = each_seat_by SeatedAt (λ os ss ns. map seat_deque ss ≡ map owner_deque os) refl (λ o s n os ss ns a rest i. a.at_deque i ∷ rest i)

-- each seat has a share
seats_seated : (os : List Owner) (ss : List Seat) (ns : List Owner) → Seated os ss ns → AllByRecursion IsSeated ss
seats_seated = each_seat_by SeatedAt (λ os ss ns. AllByRecursion IsSeated ss) tt (λ o s n os ss ns a rest. (a.seated, rest))

-- nothing was taken at a new seat
seats_none : (h : ℕ → ℕ) (os : List Owner) (ss : List Seat) (ns : List Owner) → Seated os ss ns → seats_weigh h ss ≡ 0
seats_none h = each_seat_by SeatedAt (λ os ss ns. seats_weigh h ss ≡ 0) refl (λ o s n os ss ns a rest. let here : weigh h (seat_account s).taken ≡ 0 = ap (weigh h) a.none_taken in omega arith)

-- the seats know what was dealt
seats_dealt_of : (h : ℕ → ℕ) (os : List Owner) (ss : List Seat) (ns : List Owner) → Seated os ss ns → seats_dealt h ss ≡ owners_dealt h os
seats_dealt_of h = each_seat_by SeatedAt (λ os ss ns. seats_dealt h ss ≡ owners_dealt h os) refl
    (λ o s n os ss ns a rest. let here : weigh h (jobs (seat_account s).pushed) ≡ weigh h (owner_jobs o) = ap (weigh h) a.dealt in omega arith)

-- a new seat has a mark to take
seats_more : (os : List Owner) (ss : List Seat) (ns : List Owner) → Seated os ss ns → 0 < length (map owner_deque os) → any_more ss ≡ true
seats_more = each_seat_by SeatedAt (λ os ss ns. 0 < length (map owner_deque os) → any_more ss ≡ true) (λ some. absurd (omega arith)) (λ o s n os ss ns a rest some. ap (λ b. b || any_more ss) a.more)

-- the deques keep their jobs
seated_jobs : (os : List Owner) (ss : List Seat) (ns : List Owner) → Seated os ss ns → map owner_jobs ns ≡ map owner_jobs os
seated_jobs = each_seat_by SeatedAt (λ os ss ns. map owner_jobs ns ≡ map owner_jobs os) refl (λ o s n os ss ns a rest i. a.same i ∷ rest i)

-- the seats know the jobs of their deques
seats_jobs : (os : List Owner) (ss : List Seat) (ns : List Owner) → Seated os ss ns → map seat_jobs ss ≡ map owner_jobs os
seats_jobs = each_seat_by SeatedAt (λ os ss ns. map seat_jobs ss ≡ map owner_jobs os) refl (λ o s n os ss ns a rest i. a.dealt i ∷ rest i)

-- the fill stays the same
pub seated_fill : (k : ℕ) (os : List Owner) (ss : List Seat) (ns : List Owner) → Seated os ss ns → fill_of k ns ≡ fill_of k os
seated_fill k os ss ns a = λ i. record { deques = seated_deques os ss ns a i; jobs = k; dealt = seated_jobs os ss ns a i }

-- the owners with a share fewer
pub seated_owners : (k kept : ℕ) (os : List Owner) (ss : List Seat) (ns : List Owner) → Seated os ss ns → AreOwners k (kept + 1) 9 os → AreOwners k kept 9 ns
seated_owners k kept os ss ns a owners = record { owners = seated_each kept os ss ns a owners.owners; dealt = λ h. seated_dealt h os ss ns a ∙ owners.dealt h; in_turn = same_in_turn k os ns (seated_jobs os ss ns a) owners.in_turn }

-- the seats that were made are a hand's
pub seated_seats : (k kept : ℕ) (os : List Owner) (ss : List Seat) (ns : List Owner) → Seated os ss ns → AreOwners k kept 9 os → AreNewSeats k (map owner_deque os) (map owner_jobs os) ss
seated_seats k kept os ss ns a owners = record {
  deques_of = seats_deques os ss ns a;
  jobs_of = seats_jobs os ss ns a;
  seated = seats_seated os ss ns a;
  none_taken = λ h. seats_none h os ss ns a;
  dealt = λ h. seats_dealt_of h os ss ns a ∙ owners.dealt h;
  more = seats_more os ss ns a;
}

-- there are as many seats as owners
pub same_count : (f : Seat → (ℕ × ℕ) × Global) (os : List Owner) (ss : List Seat) → map f ss ≡ map owner_deque os → length ss ≡ length os
same_count f os ss e = sym (length-map ss f) ∙ ap length e ∙ length-map os owner_deque

-- a hand with new seats and an empty list
pub new_is_hand : (k index : ℕ) (os : List Owner) (ss : List Seat) (list : Vec ℕ) (queue_owners : Option QueueOwners) → AreNewSeats k (map owner_deque os) (map owner_jobs os) ss → index < length os → list.items ≡ [] → k ≤ vec_capacity list
    → (index ≡ 0 → HasQueueOwners k (map owner_deque os) queue_owners) → IsHand k index ss list queue_owners
new_is_hand k index os ss list queue_owners new place empty room first = record {
  place = subst (λ n. index < n) (sym (same_count seat_deque os ss new.deques_of)) place;
  seated = new.seated;
  weights = (λ h. ap (weigh h) empty ∙ sym (new.none_taken h));
  dealt = new.dealt;
  room = room;
  first = λ e. subst (λ deques. HasQueueOwners k deques queue_owners) (sym new.deques_of) (first e);
}

-- and what callers see of it
pub new_is_seen : (k index : ℕ) (os : List Owner) (ss : List Seat) (list : List ℕ) → AreNewSeats k (map owner_deque os) (map owner_jobs os) ss → index < length os → list ≡ []
    → hand_state k index ss list ≡ new_hand (fill_of k os) index
new_is_seen k index os ss list new place empty =
    let some : 0 < length (map owner_deque os) = subst (λ n. 0 < n) (sym (length-map os owner_deque)) (omega arith) in
    λ i. record { fill = record { deques = new.deques_of i; jobs = k; dealt = new.jobs_of i }; index = index; list = empty i; done = not (new.more some i) }

-- one more hand at the end
pub new_hands_snoc : (fill : Fill) (from n : ℕ) → new_hands fill from n ++ new_hand fill (from + n) ∷ [] ≡ new_hands fill from (suc n)
new_hands_snoc fill from zero = let e : from + 0 ≡ from = omega arith in ap (λ i. new_hand fill i ∷ []) e
new_hands_snoc fill from (suc n) =
    let e : from + suc n ≡ from + 1 + n = omega arith in
    ap (λ i. new_hand fill from ∷ (new_hands fill (from + 1) n ++ new_hand fill i ∷ [])) e ∙ ap (λ hs. new_hand fill from ∷ hs) (new_hands_snoc fill (from + 1) n)

-- the hands so far, and one more
pub one_more_hand : (fill : Fill) (index n : ℕ) (hs longer : List HandState) (hand : HandState) → n + 1 ≡ index → hs ≡ new_hands fill 1 n → hand ≡ new_hand fill index → longer ≡ hs ++ hand ∷ []
    → (m : ℕ) × (m + 1 ≡ index + 1) × (longer ≡ new_hands fill 1 m)
one_more_hand fill index n hs longer hand count so_far new more =
    let e : index ≡ 1 + n = omega arith in
    let both : hs ++ hand ∷ [] ≡ new_hands fill 1 n ++ new_hand fill (1 + n) ∷ [] = (λ i. so_far i ++ (new ∙ ap (new_hand fill) e) i ∷ []) in
    (suc n, omega arith, more ∙ both ∙ new_hands_snoc fill 1 n)

-- an index below 9 shows that shares are kept
pub fewer_shares : (k index kept : ℕ) (os : List Owner) → kept + index ≡ 9 → index < 9 → AreOwners k kept 9 os → (m : ℕ) × (m + (index + 1) ≡ 9) × AreOwners k (m + 1) 9 os
fewer_shares k index kept os count some owners = let e : kept ≡ kept - 1 + 1 = omega arith in (kept - 1, omega arith, subst (λ n. AreOwners k n 9 os) e owners)

-- what was made of owners whose deques are filled
pub parts : (k : ℕ) (os ms ps ns : List Owner) (seats : List Seat) (others : List HandState) → length ms ≡ length os → AreOwners k 9 9 ms → Seated ms seats ps → fill_of k ns ≡ fill_of k ps
    → (kept : ℕ) → kept + length ps ≡ 9 → AreOwners k kept 9 ns → (n : ℕ) → n + 1 ≡ length ps → others ≡ new_hands (fill_of k ps) 1 n → AreParts k os seats others ns
parts k os ms ps ns seats others count owners made same kept shares kept_by n one_more hands =
    let deques : map owner_deque ns ≡ map owner_deque ps = ap (λ (f : Fill). f.deques) same in
    let before : map owner_deque ps ≡ map owner_deque ms = ap (λ (f : Fill). f.deques) (seated_fill k ms seats ps made) in
    let lengths : length ns ≡ length ps = sym (length-map ns owner_deque) ∙ ap length deques ∙ length-map ps owner_deque in
    let lengths_before : length ps ≡ length ms = sym (length-map ps owner_deque) ∙ ap length before ∙ length-map ms owner_deque in
    record {
      count = lengths ∙ lengths_before ∙ count;
      kept = kept;
      shares = ap (λ m. kept + m) lengths ∙ shares;
      owners = kept_by;
      first = subst (λ (f : Fill). AreNewSeats k f.deques f.dealt seats) (sym (same ∙ seated_fill k ms seats ps made)) (seated_seats k 9 ms seats ps made owners);
      rest = n;
      one_more = one_more ∙ sym lengths;
      hands = hands ∙ ap (λ fill. new_hands fill 1 n) (sym same);
    }

-- new hands are hands of their fill
are_new : (fill : Fill) (from n : ℕ) → AreHandsFrom fill from (new_hands fill from n) (from + n)
are_new fill from zero = omega arith
are_new fill from (suc n) = (refl, refl, subst (AreHandsFrom fill (from + 1) (new_hands fill (from + 1) n)) (omega arith) (are_new fill (from + 1) n))

-- all hands of a new fill
pub new_fill : (k hands rest : ℕ) (fill : Fill) (all : List HandState) → length fill.deques ≡ hands → fill.jobs ≡ k → fill.dealt ≡ deal k hands 0 hands → rest + 1 ≡ hands → all ≡ new_hand fill 0 ∷ new_hands fill 1 rest → IsNewFill k hands all
new_fill k hands rest fill all count jobs_below in_turn one_more is =
    let n : suc rest ≡ hands = omega arith in
    let whole : all ≡ new_hands fill 0 hands = is ∙ ap (new_hands fill 0) n in
    let some : 0 < length all = subst (λ hs. 0 < length hs) (sym is) (omega arith) in
    let are : AreHandsFrom fill 0 (new_hands fill 0 hands) (length fill.deques) = subst (AreHandsFrom fill 0 (new_hands fill 0 hands)) (omega arith) (are_new fill 0 hands) in
    record {
      fill = fill;
      count = count;
      jobs_below = jobs_below;
      dealt_in_turn = in_turn;
      new = whole;
      all = (some, subst (λ hs. AreHandsFrom fill 0 hs (length fill.deques)) (sym whole) are);
    }

-- the marks are added to all deques
pub marked : (k : ℕ) (os ns : List Owner) → AreOwners k 9 0 os → AllByRecursion (IsOwner 9 9) ns → map owner_jobs ns ≡ map owner_jobs os → AreOwners k 9 9 ns
marked k os ns owners all same = record { owners = all; dealt = λ h. owners_dealt_is h ns ∙ ap (lists_weigh h) same ∙ sym (owners_dealt_is h os) ∙ owners.dealt h; in_turn = same_in_turn k os ns same owners.in_turn }
