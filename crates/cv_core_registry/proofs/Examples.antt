-- Words for registrations, on small lists: digests of one byte, images 1 and 2, which share layer 11.
use Rattle.std.specs.Prelude.{◌≡◌, ℕ, List, [], ◌∷◌, map, Some, None, refl}
use Rattle.cv_core_records.specs.declared.reply.Reply.TheVariants as reply
use Rattle.cv_core_machine.specs.Layers.{queued}
use Rattle.cv_core_machine.specs.State.{State}
use Rattle.cv_core_machine.specs.Step.{claim, drop_image, register}
use Rattle.cv_core_machine.specs.declared.image.Image.{Image}
use Rattle.cv_core_machine.specs.declared.status.Status.TheVariants as status
use Rattle.cv_core_registry.specs.Registrations.{Leads, Registrations, users_of}

abbrev d : ℕ → List ℕ
d n = n ∷ []

-- an image with these layers and no stated seal
abbrev unsealed : List (List ℕ) → Image
unsealed layers = record { layers = layers; seals = map (λ (layer : List ℕ). None) layers }

abbrev both : Registrations
both = record {
  images = (d 1, unsealed (d 10 ∷ d 11 ∷ [])) ∷ (d 2, unsealed (d 11 ∷ [])) ∷ [];
  layers = (d 10, status.Queued) ∷ (d 11, status.Indexed) ∷ [];
  limit = 2;
}

-- the images that name a layer
users_of_shared : users_of both.images (d 11) ≡ d 1 ∷ d 2 ∷ []
users_of_shared = refl

users_of_own : users_of both.images (d 10) ≡ d 1 ∷ []
users_of_own = refl

users_of_other : users_of both.images (d 12) ≡ []
users_of_other = refl

-- without the first image, its own layer goes, and the shared one stays indexed
without_first : Leads (λ (state : State). drop_image state (d 1)) both (
  record { images = (d 2, unsealed (d 11 ∷ [])) ∷ []; layers = (d 11, status.Indexed) ∷ []; limit = 2 },
  reply.Dropped,
)
without_first = λ state. refl

-- an image that is registered without seals keeps none, whatever seals come later
sealed_later : Leads (λ (state : State). register state (record { hash = d 2; layers = d 11 ∷ []; seals = Some (d 20) ∷ [] })) both
    (both, reply.Conflict (d 11 ∷ []) (None ∷ []))
sealed_later = λ state. refl

-- an indexed layer is taken
taken : Leads (λ (state : State). claim state (d 11) 5) both (both, reply.Taken)
taken = λ state. refl
