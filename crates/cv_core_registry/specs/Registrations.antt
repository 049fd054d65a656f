-- What is registered (defined by this project): the part of the machine that knows the images, the status of their layers, and
-- how many images there may be.
use Rattle.std.specs.Prelude.{ℕ, List, map, filter}
use Rattle.cv_base.specs.Texts.{has_text}
use Rattle.cv_core_records.specs.declared.reply.Reply.{Reply}
use Rattle.cv_core_machine.specs.Parts.{IsRegularIn, LeadsIn, alone_in}
use Rattle.cv_core_machine.specs.State.{Images, Layers, State}
use Rattle.cv_core_machine.specs.declared.image.Image.{Image}

-- the images with their layers and seals, the layers with their status, and how many images there may be
pub record Registrations : Type 0 where
  pub images : Images
  pub layers : Layers
  pub limit : ℕ

-- a state of the machine, with these registrations in place of its own
abbrev pub holding : State → Registrations → State
holding state r = record state { images = r.images; layers = r.layers; limits = record state.limits { images = r.limit } }

-- a step of the machine leads from registrations to others and to a reply
abbrev pub Leads : (State → State × Reply) → Registrations → Registrations × Reply → Type 0
Leads = LeadsIn holding

-- the machine that holds these registrations and nothing else
abbrev pub alone : Registrations → State
alone = alone_in holding

-- registrations are consistent: both lists are in ascending order of their keys, there are no more images than may be, and a
-- layer is in the table exactly if a registered image names it or it is Claimed
abbrev pub IsRegular : Registrations → Type 0
IsRegular = IsRegularIn holding

-- the images that name a layer, in ascending order
abbrev pub users_of : Images → List ℕ → List (List ℕ)
users_of images layer =
    map (λ (image : List ℕ × Image). image.0) (filter (λ (image : List ℕ × Image). has_text image.1.layers layer) images)
