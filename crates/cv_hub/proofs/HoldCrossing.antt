-- What lies under the lock of a hub, for the crate that puts it there.
pub use Rattle.cv_hub.proofs.LockedCrossing.{locked_send}
pub use Rattle.cv_hub.specs.contracts.locked.Locked.{the_row as locked_row}
