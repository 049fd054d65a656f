-- What a worker does in a round.
use Rattle.std.specs.Prelude.{◌≡◌, ⊤, ℕ, ◌+◌, ◌^◌, ◌<◌, ◌≤◌, Bool, true, List, [], ◌∷◌, get_or, length, map, None, Some}
use Rattle.std.specs.List.{AllByRecursion}
use Rattle.cv_core_records.specs.declared.event.Act.{Act}
use Rattle.cv_core_records.specs.declared.event.Act.TheVariants as name
use Rattle.cv_core_records.specs.declared.event.By.TheVariants as by
use Rattle.cv_core_records.specs.declared.reply.Reply.{Reply}
use Rattle.cv_core_machine.specs.History.{act_name}
use Rattle.cv_core_machine.specs.declared.event.MachineEvent.{MachineEvent}
use Rattle.cv_core_machine.specs.declared.event.MachineEvent.TheVariants as whole
use Rattle.cv_serve_legal.specs.Parts.{claims_of, is_grant}
use Rattle.cv_serve_legal.specs.Replay.{worker_event}
use Rattle.cv_serve_legal.specs.Turns.{FitsWork, Works}
use Rattle.cv_pool.specs.Hands.{HandState, IsSameHand}
use Rattle.cv_serve_lanes.specs.Core.{IsSound}
use Rattle.cv_serve_lanes.specs.Seats.{SeatView, one_if}
use Rattle.cv_serve_lanes.specs.code.Own.{Made, Placed, entry_of, placed}
use Rattle.cv_serve_lanes.specs.Counts.{RoseBy, fault_count, grant_count, is_fault}

-- the layers of jobs
abbrev pub layers_of : List (List ℕ) → List ℕ → List (List ℕ)
layers_of queue jobs = map (λ job. get_or queue job []) jobs

-- an event says what became of a layer that this worker claimed
pub record EndsWork (worker : ℕ) (layer : List ℕ) (act : MachineEvent) : Type 0 where
  pub source : worker_event worker (act_name act) ≡ Some act
  pub fits : FitsWork (Some layer) (act_name act)
  pub sound : IsSound act

-- a worker's event
abbrev pub IsByWorker : ℕ → Placed → Type 0
IsByWorker worker p = (p.event.by ≡ by.Worker worker) × (worker_event worker (act_name p.event.act) ≡ Some p.event.act)

-- a worker worked at these layers. Its desk listed a layer for each granted claim, and failed for each fault
pub record WorkerDid (worker : ℕ) (layers : List (List ℕ)) (before : SeatView) (listings faults : ℕ) (after : SeatView) (listings_after faults_after : ℕ) : Type 0 where
  pub own : List Placed
  pub made : Made before after own
  pub by_worker : AllByRecursion (IsByWorker worker) own
  pub works : Works None (map entry_of own) None
  pub claims : claims_of (map entry_of own) ≡ layers
  pub listed : listings_after ≡ listings + grant_count (map entry_of own)
  pub failed : RoseBy (fault_count (map entry_of own)) faults faults_after

-- the workers in turn, from this one on, each with a hand, a seat and a desk of its own: each did the jobs of its hand
abbrev pub WorkersDid : {D : Type 0} → (D → ℕ) → (D → ℕ) → List (List ℕ) → ℕ → List HandState → List SeatView → List SeatView → List D → List D → Type 0
WorkersDid listings faults queue worker [] [] [] [] [] = ⊤
WorkersDid listings faults queue worker (hand ∷ hands) (before ∷ seats) (after ∷ seats_after) (desk ∷ desks) (desk_after ∷ desks_after) =
    WorkerDid worker (layers_of queue hand.list) before (listings desk) (faults desk) after (listings desk_after) (faults desk_after)
    × WorkersDid listings faults queue (worker + 1) hands seats seats_after desks desks_after
WorkersDid listings faults queue worker _ _ _ _ _ = ⊥

-- 1 where an event says that a desk failed, and else 0
abbrev pub fault_of : Act → ℕ
fault_of act = one_if (is_fault act)

-- a worker's claim of a layer, with its number and its reply
abbrev pub claim_at : ℕ → ℕ → ℕ → List ℕ → Reply → Placed
claim_at number seat worker layer reply = placed number (record { seat = seat; by = by.Worker worker; act = whole.Claim layer worker; reply = reply })

-- a worker claimed a layer, and the claim was granted or not. Its seat has then seen the claim, and at most 2^63 events
pub record Claimed (worker : ℕ) (layer : List ℕ) (granted : Bool) (before after : SeatView) : Type 0 where
  pub number : ℕ
  pub reply : Reply
  pub made : Made before after (claim_at number before.index worker layer reply ∷ [])
  pub granted_is : granted ≡ is_grant (name.Claim layer) reply
  pub longer : length before.list < length after.list
  pub at_most_2_63_events : length after.list ≤ 2 ^ 63

-- a worker said by an event what became of a layer
pub record Settled (worker : ℕ) (act : MachineEvent) (before after : SeatView) : Type 0 where
  pub placed : Placed
  pub made : Made before after (placed ∷ [])
  pub by_is : placed.event.by ≡ by.Worker worker
  pub act_is : placed.event.act ≡ act

-- a hand of a fill of this number of jobs that has taken none
abbrev pub IsHandPrepared : ℕ → HandState → Type 0
IsHandPrepared jobs hand = (hand.fill.jobs ≡ jobs) × (hand.list ≡ [])

-- all hands are
abbrev pub AreHandsPrepared : ℕ → List HandState → Type 0
AreHandsPrepared jobs [] = ⊤
AreHandsPrepared jobs (hand ∷ hands) = IsHandPrepared jobs hand × AreHandsPrepared jobs hands

-- each hand knows that no job remains
abbrev pub AreDone : List HandState → Type 0
AreDone [] = ⊤
AreDone (hand ∷ hands) = (hand.done ≡ true) × AreDone hands

-- a desk has listed at most 2^62 layers more than its worker's seat has seen events, so that it can list more
abbrev pub HasRoom : {D : Type 0} → (D → ℕ) → SeatView → D → Type 0
HasRoom listings seat desk = listings desk ≤ 2 ^ 62 + length seat.list

-- each worker has room
abbrev pub HaveRoom : {D : Type 0} → (D → ℕ) → List SeatView → List D → Type 0
HaveRoom listings [] [] = ⊤
HaveRoom listings (seat ∷ seats) (desk ∷ desks) = HasRoom listings seat desk × HaveRoom listings seats desks
HaveRoom listings _ _ = ⊥

-- a worker took jobs with its hand until there were none, and worked at them
pub record HandDid {D : Type 0} (listings faults : D → ℕ) (queue : List (List ℕ)) (worker : ℕ) (hand hand_after : HandState) (before after : SeatView) (desk desk_after : D) : Type 0 where
  pub did : WorkerDid worker (layers_of queue hand_after.list) before (listings desk) (faults desk) after (listings desk_after) (faults desk_after)
  pub done : hand_after.done ≡ true
  pub same : IsSameHand hand hand_after
  pub room : HasRoom listings after desk_after
