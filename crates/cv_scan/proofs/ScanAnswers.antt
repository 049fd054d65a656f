-- The answer to the scan of an image, from what is known of its layers.
use Rattle.std.specs.Prelude.{◌≡◌, ℕ, ◌+◌, ◌≤◌, false, List, length, Option, Some, None, Result, Ok, Err, IfSome}
use Rattle.std.proofs.Common.{arith, sym, subst}
use Rattle.cv_base.specs.declared.advisory.Advisory.{Advisory}
use Rattle.cv_base.specs.declared.finding.Finding.{Finding}
use Rattle.cv_desk.specs.Stored.{Stored}
use Rattle.cv_scan.specs.Failed.{IsOfLayers}
use Rattle.cv_scan.specs.declared.layer_error.ImageError.{ImageError}
use Rattle.cv_scan.specs.declared.layer_error.ImageError.TheVariants as error
use Rattle.cv_scan.specs.Layers.{AreListed, IsScanAnswer, IsScanned, distinct, is_desk_fault, stored_layers}
use Rattle.cv_scan.specs.Scan.{Scanned, scan}
use Rattle.cv_seq.specs.Cause.{CausedBy}

-- A layer that was not read says nothing of the image.

failed_scanned : (layers : List (List ℕ)) (before now : ℕ) (e : ImageError) (scanned : Scanned) → IsOfLayers layers before now e → IsScanned (Err e) scanned
failed_scanned layers before now (error.Bad bad) scanned h = absurd h
failed_scanned layers before now (error.Desk layer) scanned h = tt
failed_scanned layers before now error.NoMemory scanned h = tt

failed_answer : (known : Option (List (Option (List Stored)))) (layers : List (List ℕ)) (before now : ℕ) (e : ImageError) (seals : List (Option (List ℕ))) (feeds : List (List ℕ × List Advisory))
    → IsOfLayers layers before now e → IfSome known (λ stored. IsScanned (Err e) (scan stored seals feeds))
failed_answer None layers before now e seals feeds h = tt
failed_answer (Some stored) layers before now e seals feeds h = failed_scanned layers before now e (scan stored seals feeds) h

failed_listed : (layers : List (List ℕ)) (before now : ℕ) (e : ImageError) → IsOfLayers (distinct layers) before now e → AreListed layers before now (Err e)
failed_listed layers before now (error.Bad bad) h = absurd h
failed_listed layers before now (error.Desk layer) h = h
failed_listed layers before now error.NoMemory h = h

-- the answer if the layers of an image were not all read
pub unread_answer : {D : Type 0} (trees : List ℕ → Option (Option (List Stored))) (listings faults : D → ℕ) (before now : D) (layers : List (List ℕ)) (seals : List (Option (List ℕ))) (feeds : List (List ℕ × List Advisory)) (e : ImageError)
    → IsOfLayers (distinct layers) (listings before) (listings now) e → CausedBy (faults before) (faults now) (is_desk_fault {A = List Finding} (Err e))
    → IsScanAnswer trees listings faults before now layers seals feeds (Err e)
unread_answer trees listings faults before now layers seals feeds e h k = record {
  answer = failed_answer (stored_layers trees layers) (distinct layers) (listings before) (listings now) e seals feeds h;
  listed = failed_listed layers (listings before) (listings now) e h;
  cause = k;
}

-- What was read was listed, whatever comes of it then.

at_most_is : (n m : ℕ) → n ≡ m → n ≤ m
at_most_is n m h = omega (arith, h)

read_listed : (layers : List (List ℕ)) (before now : ℕ) (answer : Result (List Finding) ImageError) → is_desk_fault answer ≡ false
    → now ≡ before + length (distinct layers) → AreListed layers before now answer
read_listed layers before now (Ok found) h k = k
read_listed layers before now (Err (error.Bad bad)) h k = k
read_listed layers before now (Err (error.Desk layer)) h k = cc
read_listed layers before now (Err error.NoMemory) h k = at_most_is now (before + length (distinct layers)) k

-- the answer if all layers were read
pub read_answer : {D : Type 0} (trees : List ℕ → Option (Option (List Stored))) (listings faults : D → ℕ) (before now : D) (layers : List (List ℕ)) (seals : List (Option (List ℕ))) (feeds : List (List ℕ × List Advisory)) (answer : Result (List Finding) ImageError)
    → listings now ≡ listings before + length (distinct layers) → CausedBy (faults before) (faults now) false → is_desk_fault answer ≡ false
    → IfSome (stored_layers trees layers) (λ stored. IsScanned answer (scan stored seals feeds))
    → IsScanAnswer trees listings faults before now layers seals feeds answer
read_answer trees listings faults before now layers seals feeds answer h k l m = record {
  answer = m;
  listed = read_listed layers (listings before) (listings now) answer l h;
  cause = subst (CausedBy (faults before) (faults now)) (sym l) k;
}
