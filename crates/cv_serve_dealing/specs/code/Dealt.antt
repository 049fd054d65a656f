-- How the requests of a round are dealt to lanes.
use Rattle.std.specs.Prelude.{◌≡◌, ⊤, ℕ, ◌+◌, ◌==◌, cond, List, [], ◌∷◌, ◌++◌}
use Rattle.std.specs.List.{AllByRecursion}
use Rattle.cv_request.specs.Limits.{IsWithinLimits}
use Rattle.cv_serve_legal.specs.code.Segment.{lane_requests}
use Rattle.cv_serve_legal.specs.declared.parsed_line.Requested.{Requested}
use Rattle.cv_serve_dealing.specs.declared.lane.Lane.{Lane}

-- a lane has just its requests, and has answered none
abbrev pub IsDealt : ℕ → List Requested → Lane → Type 0
IsDealt number requested lane = (lane.number ≡ number) × (lane.requested.items ≡ lane_requests number requested) × (lane.reads.items ≡ [])

-- the lanes from this one on have just their requests
abbrev pub AreDealt : ℕ → List Requested → List Lane → Type 0
AreDealt number requested [] = ⊤
AreDealt number requested (lane ∷ lanes) = IsDealt number requested lane × AreDealt (number + 1) requested lanes

-- the requests of a lane, with one more if it is of this lane
abbrev pub requests_with : ℕ → List Requested → Requested → List Requested
requests_with number requested one = cond (one.request.lane == number) (requested ++ one ∷ []) requested

-- the lane of a request, counted from this number on, has it after its others, and the other lanes are as they were
abbrev pub IsGiven : ℕ → Requested → List Lane → List Lane → Type 0
IsGiven number one [] [] = ⊤
IsGiven number one [] (given ∷ more) = ⊥
IsGiven number one (lane ∷ lanes) [] = ⊥
IsGiven number one (lane ∷ lanes) (given ∷ more) =
    (given.number ≡ lane.number) × (given.requested.items ≡ requests_with number lane.requested.items one) × (given.reads.items ≡ lane.reads.items) × IsGiven (number + 1) one lanes more

-- the requests of a lane are within the limits of requests; it has answered none
pub record IsLanePrepared (lane : Lane) : Type 0 where
  pub within_limits : AllByRecursion (λ (requested : Requested). IsWithinLimits requested.request.act) lane.requested.items
  pub no_reads : lane.reads.items ≡ []
