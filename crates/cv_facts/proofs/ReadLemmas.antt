-- How often files are read when a layer is indexed.
use Rattle.std.proofs.Common.{◌≡◌, ℕ, ◌+◌, ◌<◌, ◌≤◌, Bool, true, false, ◌&&◌, ◌||◌, not, cond, List, ◌∷◌, drop, get_or, length, map, Option, Some, None, refl, sym, ◌∙◌, ap}
use Rattle.std.specs.Prelude.{IfOk, IfSome, OnOk, Result, Ok, Err, if◌then◌else◌}
use Rattle.std.specs.List.{count_by}
use Rattle.std.specs.Option.{is_none, is_some, option_map}
use Rattle.std.proofs.lemmas.Bool.{or_parts}
use Rattle.std.proofs.lemmas.List.{drop_all, drop_more}
use Rattle.cv_base.specs.Path.{Path}
use Rattle.cv_base.specs.Place.{place_of}
use Rattle.cv_path.specs.declared.places.Place.{Place}
use Rattle.cv_base.specs.declared.tree.Kind.{Kind}
use Rattle.cv_base.specs.declared.tree.Kind.TheVariants as kind
use Rattle.cv_base.specs.declared.tree.ListEntry.{ListEntry}
use Rattle.cv_desk.proofs.ReadCounts.{count_after-more, count_by-cons}
use Rattle.cv_desk.specs.Counts.{count_after}
use Rattle.cv_desk.specs.Stored.{Stored, listed as listed_entry}
use Rattle.cv_overlay.specs.Lay.{is_plain}
use Rattle.cv_overlay.specs.Mark.{mark_of}
use Rattle.cv_seal.specs.Seal.{is_file, is_summed}
use Rattle.cv_facts.specs.Cover.{is_place}
use Rattle.cv_facts.specs.Reads.{HasReads, IsShapeOf, is_read, read_count}
use Rattle.cv_facts.specs.code.Listing.{own_place, place_by}
use Rattle.cv_facts.specs.declared.error.IndexError.{IndexError}
use Rattle.cv_facts.specs.declared.reduction.Shape.{Shape}

-- the reads so far, with those of the entries that remain, are all
pub one_read : (es : List ListEntry) (i : ℕ) (x : ListEntry) (before now all : ℕ) → i < length es → x ≡ get_or es i x
    → now ≡ count_after before (cond (is_read x) 1 0) → count_after before (count_by is_read (drop i es)) ≡ all
    → count_after now (count_by is_read (drop (i + 1) es)) ≡ all
one_read es i x before now all lt at n h =
    let rest = drop (i + 1) es in
    let here : drop i es ≡ x ∷ rest = drop_more es i x lt ∙ ap (λ (y : ListEntry). y ∷ rest) (sym at) in
    ap (λ (k : ℕ). count_after k (count_by is_read rest)) n
    ∙ count_after-more before (cond (is_read x) 1 0) (count_by is_read rest)
    ∙ ap (count_after before) (sym (count_by-cons is_read x rest) ∙ ap (count_by is_read) (sym here))
    ∙ h

-- the reads after all entries
pub all_counted : (es : List ListEntry) (i : ℕ) (now all : ℕ) → length es ≤ i → count_after now (count_by is_read (drop i es)) ≡ all → now ≡ all
all_counted es i now all n h = sym (ap (λ (ys : List ListEntry). count_after now (count_by is_read ys)) (drop_all i es n)) ∙ h

-- An entry is read if it has a place as a plain file, or is summed.

with_mark : (plain : Bool) (place : Option Place) → is_some (if plain then place else None) ≡ is_some place && plain
with_mark true None = refl
with_mark true (Some pl) = refl
with_mark false None = refl
with_mark false (Some pl) = refl

has_place : (path : Path) (k : Kind) → is_some (place_by path k) ≡ is_file k && (is_place path && is_plain (mark_of path false))
has_place path kind.Dir = refl
has_place path kind.File = with_mark (is_plain (mark_of path false)) (place_of path)
has_place path kind.Other = refl

read_is : (e : ListEntry) → is_some (own_place e) || is_summed e ≡ is_read e
read_is e = ap (λ (b : Bool). b || is_summed e) (has_place e.path e.kind)

pub placed_read : (e : ListEntry) (place : Option Place) (b : Bool) → place ≡ own_place e → b ≡ is_some place → b ≡ true → b ≡ is_read e
placed_read e place b h k t = t ∙ ap (λ (c : Bool). c || is_summed e) (sym t ∙ k ∙ ap is_some h) ∙ read_is e

pub unplaced_read : (e : ListEntry) (place : Option Place) (b summed : Bool) → place ≡ own_place e → b ≡ is_some place → b ≡ false → summed ≡ is_summed e → summed ≡ is_read e
unplaced_read e place b summed h k f s = s ∙ ap (λ (c : Bool). c || is_summed e) (sym f ∙ k ∙ ap is_some h) ∙ read_is e

unread : (e : ListEntry) → is_read e ≡ false → (is_some (own_place e) ≡ false) × (is_summed e ≡ false)
unread e h = or_parts (is_some (own_place e)) (is_summed e) (read_is e ∙ h)

pub not_summed : (e : ListEntry) → is_read e ≡ false → is_summed e ≡ false
not_summed e h = (unread e h).1

none_by : (place : Option Place) → is_some place ≡ false → place ≡ None
none_by None h = refl
none_by (Some pl) h = cc

pub no_place : (e : ListEntry) → is_read e ≡ false → own_place e ≡ None
no_place e h = none_by (own_place e) (unread e h).0

-- The reads of a layer that is known.
pub reads_known : (tree : Option (Option (List Stored))) (found : Option (List ListEntry)) (r : Result Shape IndexError) (before now : ℕ)
    → IfSome tree (λ t. found ≡ option_map (map listed_entry) t) → OnOk r (now ≡ count_after before (read_count found))
    → IfSome tree (λ t. OnOk r (now ≡ count_after before (read_count (option_map (map listed_entry) t))))
reads_known None found r before now h reads = tt
reads_known (Some t) found (Err e) before now h reads = tt
reads_known (Some t) found (Ok s) before now h reads = reads ∙ ap (λ l. count_after before (read_count l)) h

-- The reads of any layer.
pub reads_any : (found : Option (List ListEntry)) (r : Result Shape IndexError) (before now : ℕ) → OnOk r (now ≡ count_after before (read_count found))
    → IfOk r (λ s. IsShapeOf found s) → IfOk r (λ s. HasReads s before now)
reads_any found (Err e) before now reads shape = tt
reads_any found (Ok s) before now reads shape = record { listing = found; shape = shape; counted = reads }
