-- What an event leaves as it is, and the generation after it.
use Rattle.std.specs.Prelude.{◌≡◌, ℕ, Bool, true, false, ◌∷◌, [], List, map, cond, nat_lt, length, Option, Some, None, IsSome, refl}
use Rattle.std.specs.Option.{unwrap_or}
use Rattle.std.proofs.Common.{ap, ◌∙◌}
use Rattle.cv_base.specs.declared.advisory.Advisory.{Advisory}
use Rattle.cv_base.specs.declared.finding.Row.{Row}
use Rattle.cv_base.specs.declared.manifest.Manifest.{Manifest}
use Rattle.cv_desk.specs.Stored.{Stored}
use Rattle.cv_core_records.specs.declared.reply.Reply.{Reply}
use Rattle.cv_core_records.specs.declared.reply.Reply.TheVariants as reply
use Rattle.cv_scan.specs.Layers.{stored_layers, with_stored}
use Rattle.cv_advdb.specs.Feeds.{by_id}
use Rattle.cv_core_machine.specs.Laws.{IsGenerationAfter, changes_nothing}
use Rattle.cv_core_machine.specs.Layers.{is_claimed_by, is_named}
use Rattle.cv_core_machine.specs.Rows.{rows_of}
use Rattle.cv_core_machine.specs.Scans.{StatesEveryLayer, Trees, trees_of}
use Rattle.cv_core_machine.specs.State.{Feeds, State, notification_at, value_at, with_value, without_value}
use Rattle.cv_core_machine.specs.Step.{ack_at, claim_at, drop_at, entered, feed_patched, finish, image_of, patch, register_at, same_image, step, update, updated}
use Rattle.cv_core_machine.specs.declared.event.MachineEvent.{MachineEvent}
use Rattle.cv_core_machine.specs.declared.event.MachineEvent.TheVariants as act
use Rattle.cv_core_machine.specs.declared.image.Image.{Image}
use Rattle.cv_core_machine.specs.declared.status.Status.{Status}
use Rattle.cv_core_machine.specs.declared.status.Status.TheVariants as status
use Rattle.cv_core_machine.proofs.FeedEvents.{either, patch_ends, update_ends}

-- an event from a state is orderly: a reply that says so leaves the state, the generation is as the reply says, and the limits stay
pub record IsOrderly (s : State) (end : State × Reply) : Type 0 where
  pub unchanged : changes_nothing end.1 ≡ true → end.0 ≡ s
  pub generation : IsGenerationAfter s.generation end.1 end.0.generation
  pub limits : end.0.limits ≡ s.limits

-- nothing changed
stays : (s : State) (answer : Reply) → IsGenerationAfter s.generation answer s.generation → IsOrderly s (s, answer)
stays s answer same = record { unchanged = λ h. refl; generation = same; limits = refl }

register_orderly : (found : Option Image) (s : State) (m : Manifest) → IsOrderly s (register_at found s m)
register_orderly (Some kept) s m = by_test (same_image kept (image_of m)) where
  by_test : (b : Bool) → IsOrderly s (s, cond b reply.Already (reply.Conflict kept.layers kept.seals))
  by_test true = stays s reply.Already refl
  by_test false = stays s (reply.Conflict kept.layers kept.seals) refl
register_orderly None s m = by_room (nat_lt (length s.images) s.limits.images) where
  by_room : (b : Bool)
      → IsOrderly s (either b (record s { images = with_value s.images m.hash (image_of m); layers = entered s.layers m.layers }, reply.Registered) (s, reply.TooManyImages))
  by_room true = record { unchanged = λ h. absurd (cc h); generation = refl; limits = refl }
  by_room false = stays s reply.TooManyImages refl

drop_orderly : (found : Option Image) (s : State) (image : List ℕ) → IsOrderly s (drop_at found s image)
drop_orderly None s image = stays s reply.NotRegistered refl
drop_orderly (Some kept) s image = record { unchanged = λ h. absurd (cc h); generation = refl; limits = refl }

claim_orderly : (found : Option Status) (s : State) (layer : List ℕ) (worker : ℕ) → IsOrderly s (claim_at found s layer worker)
claim_orderly None s layer worker = stays s reply.Unwanted refl
claim_orderly (Some status.Queued) s layer worker = record { unchanged = λ h. absurd (cc h); generation = refl; limits = refl }
claim_orderly (Some (status.Claimed other)) s layer worker = stays s reply.Taken refl
claim_orderly (Some status.Indexed) s layer worker = stays s reply.Taken refl

-- the reply is one that changes the state and is not Updated
abbrev IsPlain : Reply → Type 0
IsPlain answer = (changes_nothing answer ≡ false) × ((n : ℕ) → IsGenerationAfter n answer n)

finish_orderly : (s : State) (layer : List ℕ) (worker : ℕ) (next : Status) (answer : Reply) → IsPlain answer → IsOrderly s (finish s layer worker next answer)
finish_orderly s layer worker next answer plain = by_claim (is_claimed_by worker (value_at s.layers layer)) where
  by_name : (b : Bool)
      → IsOrderly s (either b (record s { layers = with_value s.layers layer next }, answer) (record s { layers = without_value s.layers layer }, reply.Discarded))
  by_name true = record { unchanged = λ h. absurd (cc (h, plain.0)); generation = plain.1 s.generation; limits = refl }
  by_name false = record { unchanged = λ h. absurd (cc h); generation = refl; limits = refl }

  by_claim : (b : Bool)
      → IsOrderly s (either b (either (is_named s.images layer) (record s { layers = with_value s.layers layer next }, answer) (record s { layers = without_value s.layers layer }, reply.Discarded)) (s, reply.NotClaimed))
  by_claim true = by_name (is_named s.images layer)
  by_claim false = stays s reply.NotClaimed refl

updated_orderly : (s : State) (feed : List ℕ) (feeds : Feeds) (rows : List Row) → IsOrderly s (updated s feed feeds rows)
updated_orderly s feed feeds rows = record { unchanged = λ h. absurd (cc h); generation = (refl, refl); limits = refl }

update_orderly : (trees : Trees) (s : State) (feed : List ℕ) (records : List Advisory) → IsOrderly s (update trees s feed records)
update_orderly trees s feed records =
    update_ends (IsOrderly s) (rows_of trees s (with_value s.feeds feed (by_id records))) s feed records
    (λ answer refused. stays s answer (refused.generation s.generation))
    (λ room. updated_orderly s feed (with_value s.feeds feed (by_id records)) (rows_of trees s (with_value s.feeds feed (by_id records))))

patch_orderly : (trees : Trees) (s : State) (feed : List ℕ) (base : ℕ) (records : List Advisory) (remove : List (List ℕ))
    → IsOrderly s (patch trees s feed base records remove)
patch_orderly trees s feed base records remove =
    let after : List Advisory = feed_patched s.feeds feed records remove in
    patch_ends (IsOrderly s) (rows_of trees s (with_value s.feeds feed after)) s feed base records remove
    (λ answer refused. stays s answer (refused.generation s.generation))
    (λ stands. updated_orderly s feed (with_value s.feeds feed after) (rows_of trees s (with_value s.feeds feed after)))

ack_orderly : (found : Option (List Row)) (s : State) (number : ℕ) → IsOrderly s (ack_at found s number)
ack_orderly None s number = stays s reply.NoNotification refl
ack_orderly (Some rows) s number = record { unchanged = λ h. absurd (cc h); generation = refl; limits = refl }

pub step_orderly : (trees : Trees) (s : State) (a : MachineEvent) → IsOrderly s (step trees s a)
step_orderly trees s (act.Register manifest) = register_orderly (value_at s.images manifest.hash) s manifest
step_orderly trees s (act.DropImage image) = drop_orderly (value_at s.images image) s image
step_orderly trees s (act.Claim layer worker) = claim_orderly (value_at s.layers layer) s layer worker
step_orderly trees s (act.Indexed layer worker) = finish_orderly s layer worker status.Indexed reply.Entered (refl, λ n. refl)
step_orderly trees s (act.Fault layer worker) = finish_orderly s layer worker status.Queued reply.Requeued (refl, λ n. refl)
step_orderly trees s (act.Memory layer worker) = finish_orderly s layer worker status.Queued reply.Requeued (refl, λ n. refl)
step_orderly trees s (act.Update feed records) = update_orderly trees s feed records
step_orderly trees s (act.Patch feed base records remove) = patch_orderly trees s feed base records remove
step_orderly trees s (act.Ack number) = ack_orderly (notification_at s.notifications number) s number

-- the layers of an image, as the scan of one image names them
one_known : (found : Option (Option (List Stored))) (others : List (Option (List Stored))) → IsSome found
    → with_stored found (Some others) ≡ Some (unwrap_or found None ∷ others)
one_known None others h = absurd (cc h)
one_known (Some stored) others h = refl

pub all_known : (tree : List ℕ → Option (Option (List Stored))) (layers : List (List ℕ)) → StatesEveryLayer tree → stored_layers tree layers ≡ Some (map (trees_of tree) layers)
all_known tree [] known = refl
all_known tree (layer ∷ layers) known =
    ap (with_stored (tree layer)) (all_known tree layers known) ∙ one_known (tree layer) (map (trees_of tree) layers) (known layer)
