use Rattle.cv_hub_seats.proofs.Posts.{looks}
use Rattle.cv_hub_seats.proofs.door.Door.enter.Goals as goal

pub enter_as-requires : goal.enter_as-requires
enter_as-requires g c x = looks _ _ _ _ _ _ x
