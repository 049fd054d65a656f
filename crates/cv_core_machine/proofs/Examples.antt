-- The definitions, computed on small states: each event with each of its replies, a report, pages and rows.
use Rattle.std.specs.Prelude.{◌≡◌, ℕ, List, [], ◌∷◌, codes, map, Option, Some, None, refl}
use Rattle.cv_base.specs.Path.{components}
use Rattle.cv_base.specs.declared.advisory.Advisory.{Advisory}
use Rattle.cv_base.specs.declared.finding.Finding.{Finding}
use Rattle.cv_base.specs.declared.finding.Reason.TheVariants.{Added, Changed, Removed}
use Rattle.cv_base.specs.declared.finding.Row.{Row}
use Rattle.cv_base.specs.declared.manifest.Manifest.{Manifest}
use Rattle.cv_base.specs.declared.«package».PackageName.{PackageName}
use Rattle.cv_desk.specs.Stored.{Dir, File}
use Rattle.cv_match.specs.Affects.{affects, fixed}
use Rattle.cv_match.specs.Findings.{findings}
use Rattle.cv_overlay.specs.declared.fault.ImageFault.TheVariants.{NoLayer}
use Rattle.cv_packages.specs.Packages.{packages}
use Rattle.cv_core_records.specs.Pages.{heads, page_of}
use Rattle.cv_core_records.specs.declared.read.PageOutcome.TheVariants as page
use Rattle.cv_core_records.specs.declared.read.ReportOutcome.TheVariants as report
use Rattle.cv_core_records.specs.declared.reply.Reply.TheVariants as reply
use Rattle.cv_scan.specs.Root.{root_entries}
use Rattle.cv_scan.specs.Image.{image_packages}
use Rattle.cv_scan.specs.Scan.{scan}
use Rattle.cv_findings.specs.Rows.{rows_of}
use Rattle.cv_core_machine.specs.Answer.{report_of, waiting_for}
use Rattle.cv_core_machine.specs.History.{replies, state_after}
use Rattle.cv_core_machine.specs.Layers.{queued}
use Rattle.cv_core_machine.specs.Matching.{fresh_pairs, touched_pairs}
use Rattle.cv_core_machine.specs.Scans.{Trees}
use Rattle.cv_core_machine.specs.State.{State, opening}
use Rattle.cv_core_machine.specs.Step.{update_with}
use Rattle.cv_core_machine.specs.declared.event.MachineEvent.TheVariants.{Ack, Claim, DropImage, Fault, Indexed, Memory, Patch, Register, Update}
use Rattle.cv_core_machine.specs.declared.status.Status.TheVariants as status
use Rattle.cv_packages.proofs.Examples.{zlib_of}
use Rattle.cv_scan.proofs.Examples.{listed}
use Rattle.cv_core_machine.specs.declared.limits.TheConstants.{MAX_FEEDS, MAX_IMAGES}

-- no layer is on any desk
abbrev no_trees : Trees
no_trees digest = None

-- one image and one feed at most
abbrev small : State
small = opening (record { images = 1; feeds = 1 })

-- three images and one feed at most
abbrev wide : State
wide = opening (record { images = 3; feeds = 1 })

abbrev pub a : List ℕ
a = 10 ∷ []

abbrev pub b : List ℕ
b = 11 ∷ []

abbrev pub c : List ℕ
c = 12 ∷ []

-- the image of this hash with these layers and no stated seal
abbrev image : ℕ → List (List ℕ) → Manifest
image hash layers = record { hash = hash ∷ []; layers = layers; seals = map (λ (layer : List ℕ). None) layers }

-- the image of the hash 1 with one layer, which has this seal
abbrev sealed : Option (List ℕ) → Manifest
sealed seal = record { hash = 1 ∷ []; layers = a ∷ []; seals = seal ∷ [] }

-- Register.

registered : replies no_trees small (Register (image 1 (b ∷ a ∷ [])) ∷ Register (image 1 (b ∷ a ∷ [])) ∷ Register (image 1 (a ∷ b ∷ [])) ∷ Register (image 2 []) ∷ [])
    ≡ reply.Registered ∷ reply.Already ∷ reply.Conflict (b ∷ a ∷ []) (None ∷ None ∷ []) ∷ reply.TooManyImages ∷ []
registered = refl

-- an image with the same layers and other seals is another one, and a conflict tells the seals that stand
registered_sealed : replies no_trees small (Register (sealed (Some b)) ∷ Register (sealed (Some b)) ∷ Register (sealed (Some c)) ∷ Register (sealed None) ∷ [])
    ≡ reply.Registered ∷ reply.Already ∷ reply.Conflict (a ∷ []) (Some b ∷ []) ∷ reply.Conflict (a ∷ []) (Some b ∷ []) ∷ []
registered_sealed = refl

-- new layers wait, each once, in ascending order, and a layer that is in the table stays as it is
entering : (state_after no_trees wide (Register (image 2 (b ∷ a ∷ b ∷ [])) ∷ Claim a 0 ∷ Register (image 1 (c ∷ a ∷ [])) ∷ [])).layers
    ≡ (a, status.Claimed 0) ∷ (b, status.Queued) ∷ (c, status.Queued) ∷ []
entering = refl

-- images stand by their hashes
ascending : (state_after no_trees wide (Register (image 2 []) ∷ Register (image 1 []) ∷ [])).images
    ≡ (1 ∷ [], record { layers = []; seals = [] }) ∷ (2 ∷ [], record { layers = []; seals = [] }) ∷ []
ascending = refl

-- a registered image stands with its seals
standing : (state_after no_trees wide (Register (sealed (Some b)) ∷ [])).images ≡ (1 ∷ [], record { layers = a ∷ []; seals = Some b ∷ [] }) ∷ []
standing = refl

-- DropImage.

-- of the layers of a dropped image those leave that no other image names and that are not Claimed
dropped : (state_after no_trees wide (Register (image 1 (a ∷ b ∷ c ∷ [])) ∷ Register (image 2 (c ∷ [])) ∷ Claim b 0 ∷ DropImage (1 ∷ []) ∷ [])).layers
    ≡ (b, status.Claimed 0) ∷ (c, status.Queued) ∷ []
dropped = refl

dropped_twice : replies no_trees small (Register (image 1 (a ∷ [])) ∷ DropImage (1 ∷ []) ∷ DropImage (1 ∷ []) ∷ []) ≡ reply.Registered ∷ reply.Dropped ∷ reply.NotRegistered ∷ []
dropped_twice = refl

-- Claim, and the results of workers.

claimed : replies no_trees small (Claim a 0 ∷ Register (image 1 (a ∷ [])) ∷ Claim a 0 ∷ Claim a 1 ∷ Indexed a 0 ∷ Claim a 1 ∷ [])
    ≡ reply.Unwanted ∷ reply.Registered ∷ reply.Claimed ∷ reply.Taken ∷ reply.Entered ∷ reply.Taken ∷ []
claimed = refl

-- only the worker that claimed a layer may say what became of it
not_claimed : replies no_trees small (Register (image 1 (a ∷ [])) ∷ Indexed a 0 ∷ Claim a 0 ∷ Indexed a 1 ∷ Fault a 1 ∷ Memory a 1 ∷ Indexed a 0 ∷ Indexed a 0 ∷ [])
    ≡ reply.Registered ∷ reply.NotClaimed ∷ reply.Claimed ∷ reply.NotClaimed ∷ reply.NotClaimed ∷ reply.NotClaimed ∷ reply.Entered ∷ reply.NotClaimed ∷ []
not_claimed = refl

-- a result for a layer that no image names any more is discarded, and the layer is not wanted any more
discarded : replies no_trees small (Register (image 1 (a ∷ [])) ∷ Claim a 0 ∷ DropImage (1 ∷ []) ∷ Indexed a 0 ∷ Claim a 0 ∷ [])
    ≡ reply.Registered ∷ reply.Claimed ∷ reply.Dropped ∷ reply.Discarded ∷ reply.Unwanted ∷ []
discarded = refl

-- so are a fault and a lack of memory, and else the layer waits again
requeued : replies no_trees small (Register (image 1 (a ∷ [])) ∷ Claim a 0 ∷ Fault a 0 ∷ Claim a 1 ∷ Memory a 1 ∷ Claim a 0 ∷ DropImage (1 ∷ []) ∷ Fault a 0 ∷ [])
    ≡ reply.Registered ∷ reply.Claimed ∷ reply.Requeued ∷ reply.Claimed ∷ reply.Requeued ∷ reply.Claimed ∷ reply.Dropped ∷ reply.Discarded ∷ []
requeued = refl

waiting : queued (state_after no_trees wide (Register (image 1 (c ∷ b ∷ a ∷ [])) ∷ Claim b 0 ∷ [])).layers ≡ a ∷ c ∷ []
waiting = refl

-- Update.

updated : replies no_trees small (Update (codes "p") [] ∷ Update (codes "q") [] ∷ Update (codes "p") [] ∷ [])
    ≡ reply.Updated 1 0 ∷ reply.TooManyFeeds ∷ reply.Updated 2 0 ∷ []
updated = refl

-- the generation is the number of updates that were made
counted : (state_after no_trees small (Update (codes "p") [] ∷ Update (codes "q") [] ∷ Update (codes "p") [] ∷ [])).generation ≡ 2
counted = refl

-- the records of a feed stand by their ids, and take the place of those before
replaced : ((state_after no_trees small (Update (codes "p") (listed (codes "X-2") ∷ listed (codes "X-1") ∷ []) ∷ [])).feeds
    ≡ (codes "p", listed (codes "X-1") ∷ listed (codes "X-2") ∷ []) ∷ [])
    × ((state_after no_trees small (Update (codes "p") (listed (codes "X-2") ∷ []) ∷ Update (codes "p") (listed (codes "X-1") ∷ []) ∷ [])).feeds
    ≡ (codes "p", listed (codes "X-1") ∷ []) ∷ [])
replaced = (refl, refl)

-- Rows.

abbrev zlib : List ℕ → Option (List ℕ) → Finding
zlib id fix = record {
  «package» = zlib_of (codes "unknown");
  feed = codes "p";
  advisory = id;
  fixed = fix;
}

-- what is there on one side alone is removed or added, and of what is there on both sides there is a row only if the fixed
-- versions differ; rows stand in finding order
rows : rows_of (1 ∷ [])
    (zlib (codes "X-1") None ∷ zlib (codes "X-2") None ∷ zlib (codes "X-4") None ∷ [])
    (zlib (codes "X-1") None ∷ zlib (codes "X-2") (Some (codes "2")) ∷ zlib (codes "X-3") None ∷ [])
    ≡ record { image = 1 ∷ []; reason = Changed; finding = zlib (codes "X-2") (Some (codes "2")) }
    ∷ record { image = 1 ∷ []; reason = Added; finding = zlib (codes "X-3") None }
    ∷ record { image = 1 ∷ []; reason = Removed; finding = zlib (codes "X-4") None }
    ∷ []
unfolding rows_of
rows = refl

-- a layer that has zlib 1
abbrev trees : Trees
trees digest = Some (
    record { path = components (codes "var"); item = Dir }
    ∷ record { path = components (codes "var/lib"); item = Dir }
    ∷ record { path = components (codes "var/lib/dpkg"); item = Dir }
    ∷ record { path = components (codes "var/lib/dpkg/status"); item = File (codes "Package: zlib\nStatus: install ok installed\nVersion: 1\n") }
    ∷ [])

-- an image that is indexed, and one that is not
abbrev indexed : State
indexed = state_after trees wide (Register (image 2 (a ∷ [])) ∷ Register (image 1 (a ∷ b ∷ [])) ∷ Claim a 0 ∷ Indexed a 0 ∷ [])

-- an update notifies of the rows of the images that are indexed, an update without rows does not, and a notification is kept
-- until it is acknowledged
notified : ((state_after trees indexed (Update (codes "p") (listed (codes "X-1") ∷ []) ∷ Update (codes "p") (listed (codes "X-1") ∷ []) ∷ Update (codes "p") [] ∷ [])).notifications
    ≡ (1, record { image = 2 ∷ []; reason = Added; finding = zlib (codes "X-1") None } ∷ [])
    ∷ (3, record { image = 2 ∷ []; reason = Removed; finding = zlib (codes "X-1") None } ∷ []) ∷ [])
    × ((state_after trees indexed (Update (codes "p") (listed (codes "X-1") ∷ []) ∷ Ack 1 ∷ [])).notifications ≡ [])
unfolding rows_of scan image_packages root_entries packages findings affects fixed
notified = (refl, refl)

-- Patch.

-- the fourth event is a patch of a feed in generation 3 on that generation: the record that it removes goes, and an id that does not
-- stand is skipped. The same patch again is of another generation than that of the feed, and a feed that does not stand is not made
patched : replies trees (state_after trees indexed (Update (codes "p") [] ∷ Update (codes "p") [] ∷ Update (codes "p") (listed (codes "X-1") ∷ []) ∷ []))
    (Patch (codes "p") 3 [] (codes "X-1" ∷ codes "Q" ∷ []) ∷ Patch (codes "p") 3 [] (codes "X-1" ∷ codes "Q" ∷ []) ∷ Patch (codes "x") 0 [] [] ∷ [])
    ≡ reply.Updated 4 1 ∷ reply.StaleBase 4 ∷ reply.NoFeed ∷ []
unfolding rows_of scan image_packages root_entries packages findings affects fixed
patched = refl

-- the notification of a patch has its rows
patch_notified : (state_after trees indexed (Update (codes "p") (listed (codes "X-1") ∷ []) ∷ Patch (codes "p") 1 [] (codes "X-1" ∷ []) ∷ [])).notifications
    ≡ (1, record { image = 2 ∷ []; reason = Added; finding = zlib (codes "X-1") None } ∷ [])
    ∷ (2, record { image = 2 ∷ []; reason = Removed; finding = zlib (codes "X-1") None } ∷ []) ∷ []
unfolding rows_of scan image_packages root_entries packages findings affects fixed
patch_notified = refl

-- the record with this id, which was modified at this time
abbrev changed : List ℕ → List ℕ → Advisory
changed id at = record (listed id) { modified = at }

-- a patch keeps the records that it does not name, and has its own in place of those of the same ids
patched_feed : (state_after no_trees small (Update (codes "p") (listed (codes "X-1") ∷ listed (codes "X-2") ∷ listed (codes "X-3") ∷ [])
    ∷ Patch (codes "p") 1 (changed (codes "X-4") (codes "now") ∷ changed (codes "X-2") (codes "now") ∷ []) (codes "X-3" ∷ []) ∷ [])).feeds
    ≡ (codes "p", listed (codes "X-1") ∷ changed (codes "X-2") (codes "now") ∷ changed (codes "X-4") (codes "now") ∷ []) ∷ []
patched_feed = refl

-- each feed has the generation of its last update or patch, and a refused patch leaves it
generations : ((state_after no_trees wide (Update (codes "p") [] ∷ Patch (codes "p") 1 [] [] ∷ Patch (codes "p") 1 [] [] ∷ [])).since ≡ (codes "p", 2) ∷ [])
    × ((state_after no_trees (opening (record { images = 1; feeds = 2 })) (Update (codes "q") [] ∷ Update (codes "p") [] ∷ Patch (codes "q") 1 [] [] ∷ [])).since
    ≡ (codes "p", 2) ∷ (codes "q", 3) ∷ [])
generations = (refl, refl)

-- Tries.

-- the name of zlib in the records
abbrev zlib_key : PackageName
zlib_key = record { ecosystem = codes "unknown"; name = codes "zlib" }

-- one image is indexed, and its package is tried with each of two records; another key touches nothing
touched : (touched_pairs trees indexed ((codes "p", listed (codes "X-1") ∷ listed (codes "X-2") ∷ []) ∷ []) (zlib_key ∷ []) ≡ 2)
    × (touched_pairs trees indexed ((codes "p", listed (codes "X-1") ∷ []) ∷ []) (record { ecosystem = codes "unknown"; name = codes "bash" } ∷ []) ≡ 0)
unfolding image_packages root_entries packages
touched = (refl, refl)

-- an image that is indexed by an event is tried whole, and one that was indexed before it is not
fresh : (fresh_pairs trees (state_after trees wide (Update (codes "p") (listed (codes "X-1") ∷ []) ∷ Register (image 2 (a ∷ [])) ∷ Claim a 0 ∷ []))
    (state_after trees wide (Update (codes "p") (listed (codes "X-1") ∷ []) ∷ Register (image 2 (a ∷ [])) ∷ Claim a 0 ∷ Indexed a 0 ∷ [])) ≡ 1)
    × (fresh_pairs trees (state_after trees indexed (Update (codes "p") (listed (codes "X-1") ∷ []) ∷ []))
    (state_after trees indexed (Update (codes "p") (listed (codes "X-1") ∷ []) ∷ Register (image 3 (a ∷ [])) ∷ [])) ≡ 1)
    × (fresh_pairs trees indexed (state_after trees indexed (Update (codes "p") (listed (codes "X-1") ∷ []) ∷ [])) ≡ 0)
unfolding image_packages root_entries packages
fresh = (refl, refl, refl)

-- Notifications.

abbrev row : ℕ → Row
row hash = record { image = hash ∷ []; reason = Added; finding = zlib (codes "X-1") None }

-- a state with an image and two notifications
abbrev two : State
two = record small {
  images = (1 ∷ [], record { layers = a ∷ []; seals = None ∷ [] }) ∷ [];
  layers = (a, status.Indexed) ∷ [];
  generation = 5;
  notifications = (2, row 1 ∷ []) ∷ (4, row 1 ∷ row 2 ∷ []) ∷ [];
}

-- an update notifies of its rows under the next generation, and its reply counts them
noted : ((update_with (row 1 ∷ []) two (codes "p") []).1 ≡ reply.Updated 6 1)
    × ((update_with (row 1 ∷ []) two (codes "p") []).0.notifications ≡ (2, row 1 ∷ []) ∷ (4, row 1 ∷ row 2 ∷ []) ∷ (6, row 1 ∷ []) ∷ [])
noted = (refl, refl)

-- an acknowledgement removes the notification of its number and no other
acked : ((state_after no_trees two (Ack 2 ∷ [])).notifications ≡ (4, row 1 ∷ row 2 ∷ []) ∷ [])
    × ((state_after no_trees two (Ack 4 ∷ [])).notifications ≡ (2, row 1 ∷ []) ∷ [])
    × ((state_after no_trees two (Ack 3 ∷ [])).notifications ≡ two.notifications)
acked = (refl, refl, refl)

-- an image that is dropped leaves the notifications about it
drop_leaves : (replies no_trees two (DropImage (1 ∷ []) ∷ []) ≡ reply.Dropped ∷ [])
    × ((state_after no_trees two (DropImage (1 ∷ []) ∷ [])).notifications ≡ (2, row 1 ∷ []) ∷ (4, row 1 ∷ row 2 ∷ []) ∷ [])
drop_leaves = (refl, refl)

-- Answers.

reports : (report_of trees indexed (3 ∷ []) ≡ report.NotRegistered)
    × (report_of trees indexed (1 ∷ []) ≡ report.Pending b)
    × (report_of trees indexed (2 ∷ []) ≡ report.Good 0 [])
    × (report_of no_trees indexed (2 ∷ []) ≡ report.BadImage (NoLayer 0))
    × (report_of trees (state_after trees indexed (Update (codes "p") (listed (codes "X-1") ∷ []) ∷ [])) (2 ∷ []) ≡ report.Good 1 (zlib (codes "X-1") None ∷ []))
unfolding rows_of scan image_packages root_entries packages findings affects fixed
reports = (refl, refl, refl, refl, refl)

-- only the second image waits, for the layer that is not indexed
waiting_images : (waiting_for indexed (1 ∷ []) ≡ Some (Some b)) × (waiting_for indexed (2 ∷ []) ≡ Some None) × (waiting_for indexed (3 ∷ []) ≡ None)
waiting_images = (refl, refl, refl)

-- a state with a notification of three rows
abbrev three : State
three = record small { generation = 4; notifications = (4, row 1 ∷ row 2 ∷ row 3 ∷ []) ∷ [] }

pages : (page_of three.notifications 4 2 1 ≡ page.Rows 2 (row 1 ∷ row 2 ∷ []))
    × (page_of three.notifications 4 2 2 ≡ page.Rows 2 (row 3 ∷ []))
    × (page_of three.notifications 4 2 3 ≡ page.NoPage 2)
    × (page_of three.notifications 4 3 1 ≡ page.Rows 1 (row 1 ∷ row 2 ∷ row 3 ∷ []))
    × (page_of three.notifications 3 2 1 ≡ page.NoNotification)
    × (heads three.notifications ≡ record { number = 4; rows = 3 } ∷ [])
pages = (refl, refl, refl, refl, refl, refl)

acknowledged : replies no_trees three (Ack 4 ∷ Ack 4 ∷ []) ≡ reply.Acked ∷ reply.NoNotification ∷ []
acknowledged = refl

-- the limits of images and feeds
limits : (MAX_IMAGES ≡ 20000) × (MAX_FEEDS ≡ 64)
limits = (refl, refl)
