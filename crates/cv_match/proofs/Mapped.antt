-- What holds of ranges and entries by their versions holds of them by the texts of these.
use Rattle.std.proofs.Common.{◌≡◌, ℕ, List, map, Option, refl}
use Rattle.std.specs.List.{list_any, position_from}
use Rattle.std.specs.declared.cmp.Ordering.{Ordering}
use Rattle.cv_match.specs.declared.entry.PreparedEntry.{PreparedEntry}
use Rattle.cv_match.specs.declared.key.PackageKey.{PackageKey}
use Rattle.cv_match.specs.code.Entries.{entry_text}
use Rattle.cv_match.specs.code.Hit.{entry_holds, entry_lists}
use Rattle.cv_match_range.specs.declared.placed.Placed.{Placed}
use Rattle.cv_match_range.specs.ReadRange.{range_holds, range_text}
use Rattle.cv_match_range.proofs.Mapped.{any_map, place_map}

pub any_ranges : {V : Type 0} (f : V → List ℕ) (R : List ℕ → List ℕ → Ordering) (v : List ℕ) (xs : List (Option (List (Placed V))))
    → list_any (range_holds R v) (map (range_text f) xs) ≡ list_any (λ range. range_holds R v (range_text f range)) xs
any_ranges f R v xs = any_map (range_text f) (range_holds R v) (λ range. range_holds R v (range_text f range)) (λ x. refl) xs

pub place_ranges : {V : Type 0} (f : V → List ℕ) (R : List ℕ → List ℕ → Ordering) (v : List ℕ) (xs : List (Option (List (Placed V))))
    → position_from (range_holds R v) 0 (map (range_text f) xs) ≡ position_from (λ range. range_holds R v (range_text f range)) 0 xs
place_ranges f R v xs = place_map (range_text f) (range_holds R v) (λ range. range_holds R v (range_text f range)) (λ x. refl) 0 xs

pub place_entries : {V : Type 0} (f : V → List ℕ) (R : List ℕ → List ℕ → Ordering) (key : PackageKey) (v : List ℕ) (xs : List (PreparedEntry V))
    → position_from (entry_holds R key v) 0 (map (entry_text f) xs) ≡ position_from (λ entry. entry_holds R key v (entry_text f entry)) 0 xs
place_entries f R key v xs = place_map (entry_text f) (entry_holds R key v) (λ entry. entry_holds R key v (entry_text f entry)) (λ x. refl) 0 xs

pub any_entries : {V : Type 0} (f : V → List ℕ) (key : PackageKey) (xs : List (PreparedEntry V))
    → list_any (entry_lists key) (map (entry_text f) xs) ≡ list_any (λ entry. entry_lists key (entry_text f entry)) xs
any_entries f key xs = any_map (entry_text f) (entry_lists key) (λ entry. entry_lists key (entry_text f entry)) (λ x. refl) xs
