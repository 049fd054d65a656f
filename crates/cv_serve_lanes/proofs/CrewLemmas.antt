-- What workers did, as places that were worked at.
use Rattle.std.proofs.Common.{◌≡◌, ℕ, ◌+◌, List, [], ◌∷◌, drop, length, arith}
use Rattle.std.proofs.lemmas.List.{length-drop}
use Rattle.cv_pool.specs.Hands.{AreSameHands, HandState}
use Rattle.cv_serve_crew.specs.code.Team.{ArePreparedFrom, EachDidFrom}
use Rattle.cv_serve_lanes.specs.Seats.{SeatView}
use Rattle.cv_serve_lanes.specs.code.Worker.{AreDone, AreHandsPrepared, HandDid, HasRoom, HaveRoom, IsHandPrepared, WorkersDid}

-- the seats past the first ones
pub seats_past : {S : Type 0} (n m : ℕ) (seats : List S) → length seats ≡ n + m → length (drop n seats) ≡ m
seats_past n m seats all = let past = length-drop n seats in omega (arith, past, all)

module _ {D : Type 0} (listings faults : D → ℕ) (queue : List (List ℕ)) where
  pub workers_prepared : (worker : ℕ) (hands : List HandState) (seats : List SeatView) (desks : List D) → AreHandsPrepared (length queue) hands → HaveRoom listings seats desks
      → ArePreparedFrom (λ _ hand seat desk. IsHandPrepared (length queue) hand × HasRoom listings seat desk) worker hands seats desks
  workers_prepared worker [] seats desks hand room = tt
  workers_prepared worker (h ∷ hands) [] desks hand room = tt
  workers_prepared worker (h ∷ hands) (s ∷ seats) [] hand room = tt
  workers_prepared worker (h ∷ hands) (s ∷ seats) (d ∷ desks) hand room = ((hand.0, room.0), workers_prepared (worker + 1) hands seats desks hand.1 room.1)

  -- what all workers did
  abbrev pub CrewDid : ℕ → List HandState → List HandState → List SeatView → List SeatView → List D → List D → Type 0
  CrewDid worker hands hands_after seats seats_after desks desks_after =
      WorkersDid listings faults queue worker hands_after seats seats_after desks desks_after × (AreSameHands hands hands_after × AreDone hands_after) × HaveRoom listings seats_after desks_after

  pub workers_did : (worker : ℕ) (hs ks : List HandState) (ss ts : List SeatView) (ds es : List D) → length hs ≡ length ds → length ss ≡ length ds
      → length ks ≡ length hs → length ts ≡ length ds → length es ≡ length ds
      → EachDidFrom (HandDid listings faults queue) worker hs ks ss ts ds es → CrewDid worker hs ks ss ts ds es
  workers_did worker [] [] [] [] [] [] a b c d e h = (tt, (tt, tt), tt)
  workers_did worker [] [] [] [] [] (_ ∷ es) a b c d e h = absurd (omega (arith, e))
  workers_did worker [] [] [] [] (_ ∷ ds) es a b c d e h = absurd (omega (arith, a))
  workers_did worker [] [] [] (t ∷ ts) ds es a b c d e h = absurd (omega (arith, a, d))
  workers_did worker [] [] (s ∷ ss) ts ds es a b c d e h = absurd (omega (arith, a, b))
  workers_did worker [] (k ∷ ks) ss ts ds es a b c d e h = absurd (omega (arith, c))
  workers_did worker (x ∷ hs) [] ss ts ds es a b c d e h = absurd (omega (arith, c))
  workers_did worker (x ∷ hs) (k ∷ ks) [] ts ds es a b c d e h = absurd (omega (arith, a, b))
  workers_did worker (x ∷ hs) (k ∷ ks) (s ∷ ss) [] ds es a b c d e h = absurd (omega (arith, a, d))
  workers_did worker (x ∷ hs) (k ∷ ks) (s ∷ ss) (t ∷ ts) [] es a b c d e h = absurd (omega (arith, a))
  workers_did worker (x ∷ hs) (k ∷ ks) (s ∷ ss) (t ∷ ts) (d ∷ ds) [] a b c f g h = absurd (omega (arith, g))
  workers_did worker (x ∷ hs) (k ∷ ks) (s ∷ ss) (t ∷ ts) (d ∷ ds) (e ∷ es) a b c f g h =
      let rest = workers_did (worker + 1) hs ks ss ts ds es (omega (arith, a)) (omega (arith, b)) (omega (arith, c)) (omega (arith, f)) (omega (arith, g)) h.1 in
      ((h.0.did, rest.0), ((h.0.same, rest.1.0), (h.0.done, rest.1.1)), (h.0.room, rest.2))
