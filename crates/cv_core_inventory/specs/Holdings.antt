-- What an inventory holds (defined by this project): all of the machine but the generation and the notifications.
use Rattle.std.specs.Prelude.{[]}
use Rattle.cv_advdb.specs.Feeds.{FeedTable}
use Rattle.cv_core_records.specs.declared.reply.Reply.{Reply}
use Rattle.cv_core_machine.specs.Parts.{IsRegularIn, LeadsIn, alone_in}
use Rattle.cv_core_machine.specs.State.{Feeds, Images, Layers, State}
use Rattle.cv_core_machine.specs.declared.limits.Limits.{Limits}

-- the images with their layers and seals, the layers with their status, the feeds with their records, and how many there may be
pub record Holdings : Type 0 where
  pub images : Images
  pub layers : Layers
  pub feeds : Feeds
  pub limits : Limits

-- nothing
abbrev pub nothing : Limits → Holdings
nothing limits = record { images = []; layers = []; feeds = []; limits = limits }

-- a state of the machine, with these holdings in place of its own
abbrev pub holding : State → Holdings → State
holding state h = record state { images = h.images; layers = h.layers; feeds = h.feeds; limits = h.limits }

-- a step of the machine leads from holdings to others and to a reply
abbrev pub Leads : (State → State × Reply) → Holdings → Holdings × Reply → Type 0
Leads = LeadsIn holding

-- the machine that has these holdings and nothing else
abbrev pub alone : Holdings → State
alone = alone_in holding

-- holdings are consistent: each list is in ascending order of its keys, there are no more images and feeds than may be, and a
-- layer is in the table exactly if a registered image names it or it is Claimed
abbrev pub IsRegular : Holdings → Type 0
IsRegular = IsRegularIn holding

-- the feeds, and how many there may be
abbrev pub feed_table : Holdings → FeedTable
feed_table h = record { feeds = h.feeds; limit = h.limits.feeds }
