-- Threads may share what lanes work with, if they may share the hub. Each step is named: a search that sees the inside of a hub gives up.
use denote.RattleType.{RattleType}
use denote.Ref.{NamedLft, ShrRef}
use denote.Struct.Field.{row_field, shr_ref_field}
use denote.Param.Send.{IsSync, shr_sync}
use denote.Param.SendFields.{declared_sync, as_row_sync}
use Rattle.std.specs.declared.sync.ledger.Ledger as ledger
use Rattle.cv_desk.specs.declared.desk.Desk as desk
pub use Rattle.cv_hub_seats.proofs.Crossing.{seat_send}
pub use Rattle.cv_hub.specs.contracts.hub.Hub.{the_row as hub_row}
pub use Rattle.cv_hub_seats.specs.declared.identity.Identity.{Ghosts as IdentityGhosts}
use Rattle.cv_serve_lanes.specs.contracts.lanes.LaneTeam as team

module _ (a : NamedLft) (D L W : RattleType) (d : desk.Ghosts D.Denot) (i : IdentityGhosts L.Denot) (l : ledger.Ghosts L.Denot) where
  pub team_sync : IsSync W → IsSync (hub_row D L d i l) → IsSync (team.the_row a D L W d i l)
  team_sync w h =
      declared_sync (team.the_type a D L W d i l) (
        as_row_sync (row_field (ShrRef a.mir a.lft W)) (shr_sync a.mir a.lft W w),
        (as_row_sync (shr_ref_field a (hub_row D L d i l) tt) (shr_sync a.mir a.lft (hub_row D L d i l) h), tt),
      )
