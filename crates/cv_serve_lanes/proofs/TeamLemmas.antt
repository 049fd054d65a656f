-- What lanes did, as places that were worked at.
use Rattle.std.specs.Prelude.{List, [], ◌∷◌}
use Rattle.std.specs.List.{AllByRecursion}
use Rattle.cv_core_machine.specs.declared.limits.Limits.{Limits}
use Rattle.cv_hub.specs.Events.{DeskTrees}
use Rattle.cv_hub.specs.Seats.{SeatView}
use Rattle.cv_serve_crew.specs.code.Team.{ArePrepared, EachDid}
use Rattle.cv_serve_dealing.specs.code.Dealt.{IsLanePrepared}
use Rattle.cv_serve_dealing.specs.declared.lane.Lane.{Lane}
use Rattle.cv_serve_lanes.specs.code.Lane.{LaneAt, LanesDid}

pub lanes_prepared : (seats : List SeatView) (lanes : List Lane) → AllByRecursion IsLanePrepared lanes → ArePrepared (λ (seat : SeatView) lane. IsLanePrepared lane) seats lanes
lanes_prepared [] lanes h = tt
lanes_prepared (seat ∷ seats) [] h = tt
lanes_prepared (seat ∷ seats) (lane ∷ lanes) h = (h.0, lanes_prepared seats lanes h.1)

pub lanes_did : (tree : DeskTrees) (limits : Limits) (ss ts : List SeatView) (os ns : List Lane) → EachDid (LaneAt tree limits) ss ts os ns → LanesDid tree limits ss ts os ns
lanes_did tree limits [] ts os ns h = tt
lanes_did tree limits (s ∷ ss) [] os ns h = tt
lanes_did tree limits (s ∷ ss) (t ∷ ts) [] ns h = tt
lanes_did tree limits (s ∷ ss) (t ∷ ts) (o ∷ os) [] h = tt
lanes_did tree limits (s ∷ ss) (t ∷ ts) (o ∷ os) (n ∷ ns) h = (h.0, lanes_did tree limits ss ts os ns h.1)
