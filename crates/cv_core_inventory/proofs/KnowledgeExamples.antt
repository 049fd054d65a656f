-- The definitions on worked examples.
use Rattle.std.specs.Prelude.{◌≡◌, ℕ, Bool, true, false, cond, List, [], ◌∷◌, Option, Some, None, refl}
use Rattle.std.specs.Ordering.{is_eq}
use Rattle.std.proofs.Common.{arith}
use Rattle.cv_desk.specs.Stored.{Stored}
use Rattle.cv_facts.specs.Reduction.{Known}
use Rattle.cv_facts.specs.declared.reduction.Shape.TheVariants.{NoLayer}
use Rattle.cv_match.specs.Findings.{text_cmp}
use Rattle.cv_core_machine.specs.State.{Images}
use Rattle.cv_core_machine.specs.declared.image.Image.{Image}
use Rattle.cv_core_machine.specs.declared.limits.Limits.{Limits}
use Rattle.cv_core_machine.specs.declared.status.Status.TheVariants as status
use Rattle.cv_core_machine.proofs.Examples.{a, b, c}
use Rattle.cv_core_outcome.specs.Outcome.{outcome_at}
use Rattle.cv_core_outcome.specs.declared.outcome.Outcome.TheVariants.{Pending}
use Rattle.cv_core_records.specs.declared.read.ReportOutcome.TheVariants as report
use Rattle.cv_core_registry.specs.code.Users.{Users, uses}
use Rattle.cv_core_inventory.specs.code.Names.{AreNamed, has_name}
use Rattle.cv_core_inventory.specs.code.Changes.{all_renewed, image_dropped, layer_indexed, remaining_facts}
use Rattle.cv_core_inventory.specs.Holdings.{nothing}
use Rattle.cv_core_inventory.specs.Knowledge.{AreOutcomesOf, IsSoundImage, KnowledgeView, nothing_known, report_by}

-- the facts of a digest that names no layer
abbrev known : List ℕ → Known
known digest = record { digest = digest; shape = NoLayer }

-- one image, which waits for two layers
abbrev image : Image
image = record { layers = a ∷ b ∷ []; seals = None ∷ None ∷ [] }

abbrev images : Images
images = (c, image) ∷ []

-- it has a seal or none for each layer, and one that lacks a seal is not sound
sound : IsSoundImage image
sound = record { at_most_128_layers = omega arith; as_many_seals = refl }

unsound : ¬ IsSoundImage (record { layers = a ∷ b ∷ []; seals = None ∷ [] })
unsound h = cc h.as_many_seals

-- its outcome before it has facts of a layer, and after: only an image that waits for the layer has another outcome
waits : outcome_at [] [] image ≡ Pending a
waits = refl

renewed_one : all_renewed (outcome_at ((a, known a) ∷ []) []) images a ((c, Pending a) ∷ []) ((c, Pending a) ∷ []) (c ∷ []) ≡ (c, Pending b) ∷ []
renewed_one = refl

others_stay : all_renewed (outcome_at ((b, known b) ∷ []) []) images b ((c, Pending a) ∷ []) ((c, Pending a) ∷ []) (c ∷ []) ≡ (c, Pending a) ∷ []
others_stay = refl

-- facts go with the layers that the table does not have any more
facts_go : remaining_facts ((a, known a) ∷ (b, known b) ∷ []) (a ∷ b ∷ []) ((b, status.Indexed) ∷ []) ≡ (b, known b) ∷ []
facts_go = refl

-- the image waits for the second layer once the first one is indexed, and has no outcome once it is dropped
waiting : KnowledgeView
waiting = record { facts = []; outcomes = (c, Pending a) ∷ []; feeds = record { feeds = []; limit = 1 } }

indexed : layer_indexed waiting (known a) images
    ≡ record { facts = (a, known a) ∷ []; outcomes = (c, Pending b) ∷ []; feeds = record { feeds = []; limit = 1 } }
unfolding waiting
indexed = refl

dropped : image_dropped waiting c (a ∷ b ∷ []) [] ≡ nothing_known 1
unfolding waiting
dropped = refl

-- where no image is registered there are no outcomes
no_outcomes : (trees : List ℕ → Option (Option (List Stored))) (limits : Limits) → AreOutcomesOf trees (nothing limits) []
no_outcomes trees limits = record {
  facts = [];
  right = record { indexed = λ q. refl; own = λ q known is. absurd (cc is); right = λ q known is. absurd (cc is) };
  made = refl;
}

-- the report of an image that is not registered
no_image : report_by 7 None ≡ report.NotRegistered
no_image = refl

-- a layer is in the set of a name, and no layer without facts or files has one
sets : Users
sets = (a, (b, tt) ∷ []) ∷ []

in_set : (uses sets a b ≡ true) × (uses sets a c ≡ false) × (uses sets b b ≡ false)
unfolding sets
in_set = (refl, refl, refl)

no_names : AreNamed ((a, known a) ∷ []) []
no_names name layer = by_test (is_eq (text_cmp layer a)) where
  by_test : (b : Bool) → false ≡ has_name (cond b (Some (known a)) None) name
  by_test true = refl
  by_test false = refl
