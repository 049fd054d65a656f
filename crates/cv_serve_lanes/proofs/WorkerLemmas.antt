-- What a worker does, job after job.
use Rattle.std.proofs.Common.{◌≡◌, ℕ, ◌+◌, ◌-◌, ◌^◌, ◌<◌, ◌≤◌, Bool, true, false, List, [], ◌∷◌, ◌++◌, filter, length, map, None, Some, Option, refl, ap, sym, subst, ◌∙◌, arith, length-append}
use Rattle.std.specs.Prelude.{get_or, OnOk, Result, Ok, Err}
use Rattle.std.proofs.lemmas.List.{get_or_default, map-append}
use Rattle.std.proofs.lemmas.List.Elements.{filter-append, filter_map-append}
use Rattle.cv_base.proofs.AllItems.{all_both}
use Rattle.cv_core_records.specs.declared.event.Act.TheVariants as name
use Rattle.cv_core_records.specs.declared.event.By.{By}
use Rattle.cv_core_records.specs.declared.event.EventEntry.{EventEntry}
use Rattle.cv_core_records.specs.declared.reply.Reply.{Reply}
use Rattle.cv_core_records.specs.declared.reply.Reply.TheVariants as reply
use Rattle.cv_core_machine.specs.History.{act_name}
use Rattle.cv_core_machine.specs.declared.event.MachineEvent.{MachineEvent}
use Rattle.cv_core_machine.specs.declared.event.MachineEvent.TheVariants as whole
use Rattle.cv_core_machine.specs.declared.limits.Limits.{Limits}
use Rattle.cv_serve_legal.specs.Parts.{claim_in, claims_of, is_grant}
use Rattle.cv_serve_legal.specs.Turns.{Works, work_after}
use Rattle.cv_serve_legal.proofs.Segments.{works_both}
use Rattle.cv_pool.specs.Hands.{Fill, HandState, IsSameHand, hand_after}
use Rattle.cv_serve_lanes.specs.Events.{DeskTrees}
use Rattle.cv_serve_lanes.specs.Seats.{IsApplied, SeatView, one_if}
use Rattle.cv_serve_lanes.specs.code.Own.{Submission, entry_of}
use Rattle.cv_serve_lanes.proofs.Prefixes.{prefix_length}
use Rattle.cv_serve_lanes.proofs.OwnLemmas.{made_longer, made_none, made_then}
use Rattle.cv_serve_lanes.specs.Counts.{RoseBy, fault_count, grant_count, is_fault}
use Rattle.cv_serve_lanes.specs.code.Worker.{Claimed, EndsWork, IsByWorker, IsHandPrepared, Settled, WorkerDid, claim_at, fault_of, layers_of}

-- ---- counts

most : ℕ
most = 2 ^ 64 - 1

rose_none : (faults : ℕ) → RoseBy 0 faults faults
rose_none faults = omega arith

-- this number of times, and then some more
pub rose_then : (m n a b c : ℕ) → RoseBy m a b → RoseBy n b c → RoseBy (m + n) a c
rose_then m n a b c first second = omega (arith, first, second)

grants_both : (xs ys : List EventEntry) → grant_count (xs ++ ys) ≡ grant_count xs + grant_count ys
grants_both xs ys = ap length (filter-append (λ (event : EventEntry). is_grant event.act event.reply) xs ys)
    ∙ length-append (filter (λ (event : EventEntry). is_grant event.act event.reply) xs) (filter (λ (event : EventEntry). is_grant event.act event.reply) ys)

pub faults_both : (xs ys : List EventEntry) → fault_count (xs ++ ys) ≡ fault_count xs + fault_count ys
faults_both xs ys = ap length (filter-append (λ (event : EventEntry). is_fault event.act) xs ys)
    ∙ length-append (filter (λ (event : EventEntry). is_fault event.act) xs) (filter (λ (event : EventEntry). is_fault event.act) ys)

-- ---- work

-- nothing yet
pub did_none : (worker : ℕ) (seat : SeatView) (listings faults : ℕ) → WorkerDid worker [] seat listings faults seat listings faults
did_none worker seat listings faults = record {
  own = [];
  made = made_none seat;
  by_worker = tt;
  works = refl;
  claims = refl;
  listed = omega arith;
  failed = rose_none faults;
}

-- one after the other
pub did_then : (worker : ℕ) (first second : List (List ℕ)) (a b c : SeatView) (l f m g n h : ℕ) → WorkerDid worker first a l f b m g → WorkerDid worker second b m g c n h → WorkerDid worker (first ++ second) a l f c n h
did_then worker first second a b c l f m g n h one two =
    let both = map-append entry_of one.own two.own in
    record {
      own = one.own ++ two.own;
      made = made_then a b c one.own two.own one.made two.made;
      by_worker = all_both (IsByWorker worker) one.own two.own one.by_worker two.by_worker;
      works = rw both (works_both None None None (map entry_of one.own) (map entry_of two.own) one.works two.works);
      claims = ap claims_of both ∙ (filter_map-append (λ (event : EventEntry). claim_in event.act) (map entry_of one.own) (map entry_of two.own) ∙ cc (one.claims, two.claims));
      listed = omega (arith, one.listed, two.listed, ap grant_count both, grants_both (map entry_of one.own) (map entry_of two.own));
      failed = rw (both, faults_both (map entry_of one.own) (map entry_of two.own)) (rose_then (fault_count (map entry_of one.own)) (fault_count (map entry_of two.own)) f g h one.failed two.failed);
    }

-- ---- one job

no_work : (layer : List ℕ) (reply : Reply) → is_grant (name.Claim layer) reply ≡ false → work_after (name.Claim layer) reply ≡ None
no_work layer reply.Registered is = refl
no_work layer reply.Already is = refl
no_work layer (reply.Conflict kept seals) is = refl
no_work layer reply.TooManyImages is = refl
no_work layer reply.Dropped is = refl
no_work layer reply.NotRegistered is = refl
no_work layer reply.Claimed is = absurd cc
no_work layer reply.Taken is = refl
no_work layer reply.Unwanted is = refl
no_work layer reply.Entered is = refl
no_work layer reply.Discarded is = refl
no_work layer reply.Requeued is = refl
no_work layer reply.NotClaimed is = refl
no_work layer (reply.Updated generation rows) is = refl
no_work layer reply.TooManyFeeds is = refl
no_work layer reply.NoFeed is = refl
no_work layer (reply.StaleBase kept) is = refl
no_work layer (reply.TooManyRecords would) is = refl
no_work layer reply.Acked is = refl
no_work layer reply.NoNotification is = refl

grant_work : (layer : List ℕ) (reply : Reply) → is_grant (name.Claim layer) reply ≡ true → work_after (name.Claim layer) reply ≡ Some layer
grant_work layer reply.Registered is = absurd cc
grant_work layer reply.Already is = absurd cc
grant_work layer (reply.Conflict kept seals) is = absurd cc
grant_work layer reply.TooManyImages is = absurd cc
grant_work layer reply.Dropped is = absurd cc
grant_work layer reply.NotRegistered is = absurd cc
grant_work layer reply.Claimed is = refl
grant_work layer reply.Taken is = absurd cc
grant_work layer reply.Unwanted is = absurd cc
grant_work layer reply.Entered is = absurd cc
grant_work layer reply.Discarded is = absurd cc
grant_work layer reply.Requeued is = absurd cc
grant_work layer reply.NotClaimed is = absurd cc
grant_work layer (reply.Updated generation rows) is = absurd cc
grant_work layer reply.TooManyFeeds is = absurd cc
grant_work layer reply.NoFeed is = absurd cc
grant_work layer (reply.StaleBase kept) is = absurd cc
grant_work layer (reply.TooManyRecords would) is = absurd cc
grant_work layer reply.Acked is = absurd cc
grant_work layer reply.NoNotification is = absurd cc

grant_one : (event : EventEntry) (b : Bool) → is_grant event.act event.reply ≡ b → grant_count (event ∷ []) ≡ one_if b
grant_one event true is = rw is refl
grant_one event false is = rw is refl

-- a claim was not granted
pub claim_refused : (worker : ℕ) (layer : List ℕ) (granted : Bool) (before after : SeatView) (l f : ℕ)
    → Claimed worker layer granted before after → granted ≡ false → WorkerDid worker (layer ∷ []) before l f after l f
claim_refused worker layer granted before after l f claimed not =
    let claim = claim_at claimed.number before.index worker layer claimed.reply in
    let refused : is_grant (name.Claim layer) claimed.reply ≡ false = sym claimed.granted_is ∙ not in
    record {
      own = claim ∷ [];
      made = claimed.made;
      by_worker = ((refl, refl), tt);
      works = (tt, sym (no_work layer claimed.reply refused));
      claims = refl;
      listed = let none = grant_one (entry_of claim) false refused in omega (arith, none);
      failed = rose_none f;
    }

fault_two : {m n : ℕ} → m ≡ n → 0 + m ≡ n
fault_two is = omega (arith, is)

-- what became of a layer is no claim
ends_claim : (worker : ℕ) (layer : List ℕ) (act : MachineEvent) (event : EventEntry) → EndsWork worker layer act → event.act ≡ act_name act
    → (work_after event.act event.reply ≡ None) × (claims_of (event ∷ []) ≡ []) × (is_grant event.act event.reply ≡ false) × (fault_count (event ∷ []) ≡ fault_of (act_name act))
ends_claim worker layer (whole.Register manifest) event ends is = absurd ends.fits
ends_claim worker layer (whole.DropImage image) event ends is = absurd ends.fits
ends_claim worker layer (whole.Claim other by) event ends is = absurd ends.fits
ends_claim worker layer (whole.Indexed other by) event ends is = rw is (refl, refl, refl, refl)
ends_claim worker layer (whole.Fault other by) event ends is = rw is (refl, refl, refl, refl)
ends_claim worker layer (whole.Memory other by) event ends is = rw is (refl, refl, refl, refl)
ends_claim worker layer (whole.Update feed records) event ends is = absurd ends.fits
ends_claim worker layer (whole.Patch feed base records remove) event ends is = absurd ends.fits
ends_claim worker layer (whole.Ack number) event ends is = absurd ends.fits

-- a claim was granted, and its worker said what became of the layer
pub claim_settled : (worker : ℕ) (layer : List ℕ) (granted : Bool) (act : MachineEvent) (a b c : SeatView) (l f m g : ℕ)
    → Claimed worker layer granted a b → granted ≡ true → (settled : Settled worker act b c) → EndsWork worker layer settled.placed.event.act
    → m ≡ l + 1 → RoseBy (fault_of (act_name settled.placed.event.act)) f g → WorkerDid worker (layer ∷ []) a l f c m g
claim_settled worker layer granted act a b c l f m g claimed is settled ends listed failed =
    let claim = claim_at claimed.number a.index worker layer claimed.reply in
    let end = settled.placed in
    let grant : is_grant (name.Claim layer) claimed.reply ≡ true = sym claimed.granted_is ∙ is in
    let none = ends_claim worker layer end.event.act (entry_of end) ends refl in
    record {
      own = claim ∷ end ∷ [];
      made = made_then a b c (claim ∷ []) (end ∷ []) claimed.made settled.made;
      by_worker = ((refl, refl), ((settled.by_is, ends.source), tt));
      works = (tt, subst (λ (at : Option (List ℕ)). Works at (entry_of end ∷ []) None) (sym (grant_work layer claimed.reply grant)) (ends.fits, sym none.0));
      claims = ap (λ more. layer ∷ more) none.1;
      listed = let two = grants_both (entry_of claim ∷ []) (entry_of end ∷ []) in
          omega (arith, listed, two, grant_one (entry_of claim) true grant, grant_one (entry_of end) false none.2);
      failed = subst (λ (n : ℕ). RoseBy n f g) (sym (faults_both (entry_of claim ∷ []) (entry_of end ∷ []) ∙ fault_two none.3)) failed;
    }

-- ---- room

pub on_ok : {X E : Type 0} {P Q : Type 0} (r : Result X E) → OnOk r P → (P → Q) → OnOk r Q
on_ok (Ok x) h f = f h
on_ok (Err e) h f = tt

-- what a seat has seen after an event of its own: more than before, and at most 2^63 events
pub applied_length : (tree : DeskTrees) (limits : Limits) (list : List Submission) (before after : SeatView) (source : By) (act : MachineEvent) (number : ℕ) (reply : Reply) (note : List Submission)
    → IsApplied tree limits list before source act number reply note after → (length before.list < length after.list) × (length after.list ≤ 2 ^ 63)
applied_length tree limits list before after source act number reply note h =
    let size : length after.list ≡ length list + 1 = ap (λ s. length s.list) h.seat_is ∙ (ap length h.note_is ∙ length-append list (record { seat = before.index; by = source; act = act; reply = reply } ∷ [])) in
    (omega (arith, size, prefix_length before.list list h.seen), omega (arith, size, h.number_is, h.at_most_2_63))

-- a listing follows a claim
pub settled_room : (worker : ℕ) (layer : List ℕ) (granted : Bool) (act : MachineEvent) (a b c : SeatView) (l m : ℕ)
    → Claimed worker layer granted a b → Settled worker act b c → m ≡ l + 1 → l ≤ 2 ^ 62 + length a.list → m ≤ 2 ^ 62 + length c.list
settled_room worker layer granted act a b c l m claimed settled listed room =
    let longer = prefix_length b.list c.list (made_longer b c (settled.placed ∷ []) settled.made) in omega (arith, listed, longer, claimed.longer, room)

-- ---- jobs

-- the layers of one more job
pub layers_more : (queue : List (List ℕ)) (jobs : List ℕ) (job : ℕ) → layers_of queue (jobs ++ job ∷ []) ≡ layers_of queue jobs ++ get_or queue job [] ∷ []
layers_more queue jobs job = map-append (λ j. get_or queue j []) jobs (job ∷ [])

-- the layer of a job that a hand took
pub job_layer : (queue : List (List ℕ)) (first hand : HandState) (job : ℕ) (layer : List ℕ) → IsHandPrepared (length queue) first → IsSameHand first hand → job < hand.fill.jobs
    → layer ≡ get_or queue job layer → layer ≡ get_or queue job []
job_layer queue first hand job layer prepared same below at =
    let jobs : hand.fill.jobs ≡ length queue = ap (λ (fill : Fill). fill.jobs) same.0 ∙ prepared.0 in
    at ∙ get_or_default queue job layer [] (subst (λ n. job < n) jobs below)

-- one more job was taken and worked at
pub job_did : (worker : ℕ) (queue : List (List ℕ)) (hand next : HandState) (job : ℕ) (layer : List ℕ) (a b c : SeatView) (l f m g n h : ℕ) → next ≡ hand_after hand (Some job) → layer ≡ get_or queue job []
    → WorkerDid worker (layers_of queue hand.list) a l f b m g → WorkerDid worker (layer ∷ []) b m g c n h → WorkerDid worker (layers_of queue next.list) a l f c n h
job_did worker queue hand next job layer a b c l f m g n h is at before one =
    let layers : layers_of queue next.list ≡ layers_of queue hand.list ++ layer ∷ [] =
    ap (λ (k : HandState). layers_of queue k.list) is ∙ (layers_more queue hand.list job ∙ ap (λ x. layers_of queue hand.list ++ x ∷ []) (sym at)) in
    subst (λ (some : List (List ℕ)). WorkerDid worker some a l f c n h) (sym layers) (did_then worker (layers_of queue hand.list) (layer ∷ []) a b c l f m g n h before one)

-- a hand stays the same hand, whatever it gets
pub same_next : (first hand next : HandState) (got : Option ℕ) → IsSameHand first hand → next ≡ hand_after hand got → IsSameHand first next
same_next first hand next None same is = (ap (λ (k : HandState). k.fill) is ∙ same.0, ap (λ (k : HandState). k.index) is ∙ same.1)
same_next first hand next (Some job) same is = (ap (λ (k : HandState). k.fill) is ∙ same.0, ap (λ (k : HandState). k.index) is ∙ same.1)
