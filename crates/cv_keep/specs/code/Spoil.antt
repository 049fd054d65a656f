-- Private facts of a crash of the disk in memory.
use Rattle.std.specs.Prelude.{◌≡◌, ℕ, List}
use Rattle.cv_keep.specs.Memory.{DiskState, MayLeave, after}
use Rattle.cv_keep.specs.declared.call.Call.{Call}

-- what a read gives and an image, before a call and after it, whatever the state was
abbrev pub Spoils : Call → List ℕ → List ℕ → List ℕ → List ℕ → Type 0
Spoils call old_bytes old_image bytes image =
    (s : DiskState) → s.bytes ≡ old_bytes → MayLeave s old_image → ((after s call).bytes ≡ bytes) × MayLeave (after s call) image
