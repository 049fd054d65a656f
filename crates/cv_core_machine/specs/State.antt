-- What the machine holds (defined by this project). Each of its lists is in ascending order of its keys, each key once:
-- images by hash, layers by digest, feeds by name, notifications by number. It holds no findings, and nothing that was read
-- from a layer.
use Rattle.std.specs.Prelude.{ℕ, List, [], ◌∷◌, ◌++◌, Option, unwrap_or}
use Rattle.std.specs.BTreeMap.{insert_entry, is_at}
use Rattle.std.specs.Map.{lookup, remove_entry}
use Rattle.std.specs.Ordering.{nat_cmp}
use Rattle.cv_base.specs.declared.advisory.Advisory.{Advisory}
use Rattle.cv_base.specs.declared.finding.Row.{Row}
use Rattle.cv_match.specs.Findings.{text_cmp}
pub use Rattle.cv_core_records.specs.Pages.{Notifications, notification_at}
use Rattle.cv_core_machine.specs.declared.image.Image.{Image}
use Rattle.cv_core_machine.specs.declared.limits.Limits.{Limits}
use Rattle.cv_core_machine.specs.declared.status.Status.{Status}

-- registered images: the hash of each with its layers, the base first, and with their stated seals
abbrev pub Images : Type 0
Images = List (List ℕ × Image)

-- the table of layers: the digest of each with its status
abbrev pub Layers : Type 0
Layers = List (List ℕ × Status)

-- feeds: the name of each with its records, in ascending order of their ids
abbrev pub Feeds : Type 0
Feeds = List (List ℕ × List Advisory)

-- for each feed the generation of its last update
abbrev pub Generations : Type 0
Generations = List (List ℕ × ℕ)

-- what the machine holds
pub record State : Type 0 where
  pub images : Images
  pub layers : Layers
  pub feeds : Feeds
  pub since : Generations
  pub generation : ℕ
  pub notifications : Notifications
  pub limits : Limits

-- the state before all events
abbrev pub opening : Limits → State
opening limits = record { images = []; layers = []; feeds = []; since = []; generation = 0; notifications = []; limits = limits }

-- what a list has at a digest or a name
abbrev pub value_at : {V : Type 0} → List (List ℕ × V) → List ℕ → Option V
value_at entries key = lookup (is_at (text_cmp key)) entries

-- a list with this at a digest or a name
abbrev pub with_value : {V : Type 0} → List (List ℕ × V) → List ℕ → V → List (List ℕ × V)
with_value entries key value = insert_entry text_cmp entries key value

-- a list without what it has at a digest or a name
abbrev pub without_value : {V : Type 0} → List (List ℕ × V) → List ℕ → List (List ℕ × V)
without_value entries key = remove_entry (is_at (text_cmp key)) entries

-- the generation of a feed's last update, and 0 for a feed that does not stand
abbrev pub feed_generation : State → List ℕ → ℕ
feed_generation state feed = unwrap_or (value_at state.since feed) 0

-- notifications with one more after the others, of which none has a higher number
abbrev pub with_notification : Notifications → ℕ → List Row → Notifications
with_notification notifications number rows = notifications ++ (number, rows) ∷ []

-- notifications without one
abbrev pub without_notification : Notifications → ℕ → Notifications
without_notification notifications number = remove_entry (is_at (nat_cmp number)) notifications
