-- The layers of an image as a desk has them, and what an answer to its scan says (defined by this project).
use Rattle.std.specs.Prelude.{◌≡◌, ℕ, ◌+◌, ◌≤◌, List, [], ◌∷◌, length, Option, Some, None, Result, Ok, Err, IfSome}
use Rattle.std.specs.Option.{option_map}
use Rattle.cv_base.specs.declared.advisory.Advisory.{Advisory}
use Rattle.cv_base.specs.declared.finding.Finding.{Finding}
use Rattle.cv_desk.specs.Stored.{Stored}
pub use Rattle.cv_scan.specs.Distinct.{distinct}
pub use Rattle.cv_scan.specs.Failed.{IsFailed, is_desk_fault}
pub use Rattle.cv_scan.specs.Seals.{no_seals}
use Rattle.cv_scan.specs.declared.layer_error.ImageError.{ImageError}
use Rattle.cv_scan.specs.declared.layer_error.ImageError.TheVariants as error
use Rattle.cv_scan.specs.Scan.{Scanned, scan}
use Rattle.cv_seq.specs.Cause.{CausedBy}

-- one layer before others, where both are known
abbrev pub with_stored : Option (Option (List Stored)) → Option (List (Option (List Stored))) → Option (List (Option (List Stored)))
with_stored None others = None
with_stored (Some stored) others = option_map (λ ss. stored ∷ ss) others

-- what a desk's type names for each layer, if it names all
abbrev pub stored_layers : (List ℕ → Option (Option (List Stored))) → List (List ℕ) → Option (List (Option (List Stored)))
stored_layers trees [] = Some []
stored_layers trees (layer ∷ layers) = with_stored (trees layer) (stored_layers trees layers)

-- an answer is that of the definition. A layer that the desk failed at, and out of memory, say nothing of the image
abbrev pub IsScanned : Result (List Finding) ImageError → Scanned → Type 0
IsScanned (Ok found) scanned = scanned ≡ Ok found
IsScanned (Err (error.Bad bad)) scanned = scanned ≡ Err bad
IsScanned (Err (error.Desk layer)) scanned = Unit {0}
IsScanned (Err error.NoMemory) scanned = Unit {0}

-- how many listings there were: one for each distinct layer if the image was scanned, as many as up to the one that the
-- desk failed at, and no more than distinct layers if memory ran out
abbrev pub AreListed : List (List ℕ) → ℕ → ℕ → Result (List Finding) ImageError → Type 0
AreListed layers before now (Ok found) = now ≡ before + length (distinct layers)
AreListed layers before now (Err (error.Bad bad)) = now ≡ before + length (distinct layers)
AreListed layers before now (Err (error.Desk layer)) = IsFailed (distinct layers) before now layer
AreListed layers before now (Err error.NoMemory) = now ≤ before + length (distinct layers)

-- the answer to the scan of an image with these seals and feeds, by a desk with these counts, before and now: that of the
-- definition, if the desk's type names all layers; each distinct layer was listed once; and the desk is blamed only if it failed
pub record IsScanAnswer {D : Type 0} (trees : List ℕ → Option (Option (List Stored))) (listings faults : D → ℕ) (before now : D)
    (layers : List (List ℕ)) (seals : List (Option (List ℕ))) (feeds : List (List ℕ × List Advisory)) (result : Result (List Finding) ImageError) : Type 0 where
  pub answer : IfSome (stored_layers trees layers) (λ stored. IsScanned result (scan stored seals feeds))
  pub listed : AreListed layers (listings before) (listings now) result
  pub cause : CausedBy (faults before) (faults now) (is_desk_fault result)
