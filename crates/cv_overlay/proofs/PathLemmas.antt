-- Paths as lists of components: their last components.
use Rattle.std.specs.Prelude.{◌≡◌, ℕ, Bool, true, false, ◌&&◌, ◌||◌, not, List, [], ◌∷◌, ◌++◌, codes, drop, if◌then◌else◌, refl}
use Rattle.std.specs.List.{list_any}
use Rattle.std.proofs.Common.{ap, ◌∙◌, sym}
use Rattle.std.proofs.Math.Bool.{or_assoc, or-false}
use Rattle.cv_base.specs.Path.{Path, is_special, parent_of}
use Rattle.cv_overlay.specs.Fault.{needs_parent}
use Rattle.cv_overlay.specs.Mark.{name_of, has_mark, is_opaque_name, is_reserved_name, is_whiteout_name, mark_of}
use Rattle.cv_overlay.specs.code.Text.{mark_by}
use Rattle.cv_overlay.specs.declared.mark.Mark.{Mark}
use Rattle.cv_overlay.specs.declared.mark.Mark.TheVariants.{Reserved, Opaque, Whiteout, Bad, Plain}
use Rattle.cv_base.proofs.Same.{same_is}
use Rattle.cv_base.specs.Texts.{is_cons}

-- The last component.

pub name_of_last : (p : Path) (c : List ℕ) → name_of (p ++ c ∷ []) ≡ c
name_of_last [] c = refl
name_of_last (x ∷ []) c = refl
name_of_last (x ∷ y ∷ ys) c = name_of_last (y ∷ ys) c

pub needs_parent_last : (p : Path) (c : List ℕ) → needs_parent (p ++ c ∷ []) ≡ is_cons p
needs_parent_last [] c = refl
needs_parent_last (x ∷ []) c = refl
needs_parent_last (x ∷ y ∷ ys) c = refl

-- a component is reserved where one before the last is, or the last one
any_reserved : (p : Path) → list_any is_reserved_name p ≡ (list_any is_reserved_name (parent_of p) || is_reserved_name (name_of p))
any_reserved [] = refl
any_reserved (c ∷ []) = or-false (is_reserved_name c)
any_reserved (c ∷ d ∷ ds) =
    ap (λ b. is_reserved_name c || b) (any_reserved (d ∷ ds))
    ∙ sym (or_assoc (is_reserved_name c) (list_any is_reserved_name (parent_of (d ∷ ds))) (is_reserved_name (name_of (d ∷ ds))))

-- the name of an opaque mark is reserved
opaque_reserved : (c : List ℕ) → is_opaque_name c ≡ true → is_reserved_name c ≡ true
opaque_reserved c h = rw (same_is c (codes ".wh..wh..opq") h) refl

-- The mark by its tests: `a` for a reserved component before the last one, and `o`, `r`, `m` and `s` for the name.

abbrev by_path : Bool → Bool → Bool → Bool → Bool → Bool → Mark
by_path d o a r m s =
    let opaque = not d && o && not a in
    let reserved = (a || r) && not opaque in
    let whiteout = not d && not reserved && not opaque && (m && not s) in
    let bad = not reserved && not opaque && m && not whiteout in
    if reserved then Reserved else (if opaque then Opaque else (if whiteout then Whiteout else (if bad then Bad else Plain)))

abbrev by_name : Bool → Bool → Bool → Bool → Bool → Bool → Mark
by_name d o a r m s =
    if a then Reserved
    else (if r then (if not d && o then Opaque else Reserved)
    else (if not m then Plain else (if not d && (m && not s) then Whiteout else Bad)))

by_name_is : (d o a r m s : Bool) → (o ≡ true → r ≡ true) → by_path d o a r m s ≡ by_name d o a r m s
by_name_is true o true r m s h = refl
by_name_is true o false true m s h = refl
by_name_is true o false false true s h = refl
by_name_is true o false false false s h = refl
by_name_is false true true r m s h = refl
by_name_is false true false true m s h = refl
by_name_is false true false false m s h = cc (h refl)
by_name_is false false true r m s h = refl
by_name_is false false false true m s h = refl
by_name_is false false false false true true h = refl
by_name_is false false false false true false h = refl
by_name_is false false false false false s h = refl

abbrev by_any : Bool → Path → Bool → Mark
by_any dir p any =
    let opaque = not dir && is_opaque_name (name_of p) && not (list_any is_reserved_name (parent_of p)) in
    let reserved = any && not opaque in
    let whiteout = not dir && not reserved && not opaque && is_whiteout_name (name_of p) in
    let bad = not reserved && not opaque && has_mark (name_of p) && not whiteout in
    if reserved then Reserved else (if opaque then Opaque else (if whiteout then Whiteout else (if bad then Bad else Plain)))

-- the mark of an entry depends on its name and on whether a component before that is reserved
pub mark_by_name : (p : Path) (dir : Bool) → mark_of p dir ≡ mark_by (list_any is_reserved_name (parent_of p)) (name_of p) dir
mark_by_name p dir =
    let n = name_of p in
    ap (by_any dir p) (any_reserved p)
    ∙ by_name_is dir (is_opaque_name n) (list_any is_reserved_name (parent_of p)) (is_reserved_name n) (has_mark n) (is_special (drop 4 n)) (opaque_reserved n)
