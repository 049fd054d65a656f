-- A core by its parts.
use Rattle.std.specs.Prelude.{ℕ}
use Rattle.cv_core_inventory.specs.Holdings.{Holdings}
use Rattle.cv_core_machine.specs.State.{Generations, Notifications}
use Rattle.cv_core.specs.Core.{CoreView}

-- the core of an inventory, notifications, the generations of feeds, a generation and a count of events
abbrev pub core_of : Holdings → Notifications → Generations → ℕ → ℕ → CoreView
core_of h notifications since generation count = record {
  state = record {
    images = h.images;
    layers = h.layers;
    feeds = h.feeds;
    since = since;
    generation = generation;
    notifications = notifications;
    limits = h.limits;
  };
  count = count;
}
