-- The definitions on worked examples.
use Rattle.std.specs.Prelude.{◌≡◌, ◌∷◌, [], refl}
use Rattle.cv_core_records.specs.declared.reply.Reply.TheVariants as reply
use Rattle.cv_core_machine.specs.Step.{claim}
use Rattle.cv_core_inventory.specs.Holdings.{Holdings, Leads, nothing}

-- a layer that nobody wants: nothing changes, in any state
unwanted : (h : Holdings) → h ≡ nothing (record { images = 1; feeds = 1 }) → Leads (λ state. claim state (97 ∷ []) 1) h (h, reply.Unwanted)
unwanted h is = rw is (λ state. refl)
