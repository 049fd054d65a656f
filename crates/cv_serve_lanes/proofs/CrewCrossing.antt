-- Threads may share what workers work with, if they may share the hub. Each step is named: a search that sees the inside of a hub gives up.
use denote.RattleType.{RattleType}
use denote.Ref.{NamedLft, ShrRef}
use denote.Struct.Field.{row_field, shr_ref_field, shr_slice_field}
use denote.Param.Send.{IsSync, shr_sync, shr_slice_sync}
use denote.Param.SendFields.{declared_sync, as_row_sync}
use Rattle.std.specs.declared.sync.ledger.Ledger as ledger
use Rattle.std.proofs.alloc.Global.TheSendSync as global
use Rattle.cv_base.proofs.digest.Digest.TheSendSync as digest_crossing
use Rattle.cv_base.specs.contracts.digest.Digest as digest
use Rattle.cv_desk.specs.declared.desk.Desk as desk
use Rattle.cv_serve_lanes.proofs.TeamCrossing.{IdentityGhosts, hub_row}
use Rattle.cv_serve_lanes.specs.contracts.workers.WorkerCrew as crew

module _ (a : NamedLft) (D L W : RattleType) (d : desk.Ghosts D.Denot) (i : IdentityGhosts L.Denot) (l : ledger.Ghosts L.Denot) where
  pub crew_sync : IsSync W → IsSync (hub_row D L d i l) → IsSync (crew.the_row a D L W d i l)
  crew_sync w h =
      declared_sync (crew.the_type a D L W d i l) (
        as_row_sync (row_field (ShrRef a.mir a.lft W)) (shr_sync a.mir a.lft W w),
        (
          global.the_sync,
          (
            as_row_sync (shr_ref_field a (hub_row D L d i l) tt) (shr_sync a.mir a.lft (hub_row D L d i l) h),
            (as_row_sync (shr_slice_field a digest.the_row tt) (shr_slice_sync a.mir a.lft digest.the_row digest_crossing.the_sync), tt),
          ),
        ),
      )
