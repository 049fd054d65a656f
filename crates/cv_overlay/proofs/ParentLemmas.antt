-- Why one look at the entry before is enough: where all entries before are in order and have their parents, the
-- parent of the next one stands before it as a directory exactly where it is the last of them, or is above that one.
use Rattle.std.specs.Prelude.{◌≡◌, ℕ, ◌+◌, Bool, true, false, ◌&&◌, ◌||◌, not, List, [], ◌∷◌, if◌then◌else◌, Option, Some, None, refl}
use Rattle.std.specs.Cmp.Lexicographic.{slice_cmp, nat_list_cmp_total}
use Rattle.std.specs.List.{list_all, list_any}
use Rattle.std.specs.Ordering.{nat_cmp, ordering_then, ordering_reverse}
use Rattle.std.specs.declared.cmp.Ordering.{Ordering}
use Rattle.std.specs.declared.cmp.Ordering.TheVariants.{Less, Equal, Greater}
use Rattle.std.proofs.Common.{ap, sym, subst, ◌∙◌, ◌≤◌, map, length, nat_lt, arith}
use Rattle.std.proofs.lemmas.List.{length-map}
use Rattle.std.proofs.lemmas.Bool.Decides.{nat_tests}
use Rattle.std.proofs.lemmas.Map.Lookups.{exact_bytes}
use Rattle.std.proofs.lemmas.Cmp.{tied_itself}
use Rattle.std.specs.Option.{option_or}
use Rattle.std.proofs.lemmas.Bool.{or_left, or_right, and_from}
use Rattle.cv_base.specs.Path.{Path, is_above, path_cmp, same_path, parent_of}
use Rattle.cv_base.specs.declared.limits.TheConstants.{MAX_ENTRIES}
use Rattle.cv_base.specs.Texts.{same, is_cons}
use Rattle.cv_overlay.specs.Fault.{is_less, comes_before, is_sorted_after, has_parent, needs_parent, fault, first_fault}
use Rattle.cv_overlay.specs.Mark.{Outline, at_or_above, is_bad}
use Rattle.cv_overlay.specs.code.Step.{follows, stands_by_parent, fault_from}
use Rattle.cv_overlay.specs.declared.fault.TreeFault.{TreeFault}
use Rattle.cv_overlay.specs.declared.fault.TreeFault.TheVariants.{Unsorted, NoParent, BadMark}
use Rattle.cv_base.proofs.Bools.{both_ways, and_left, and_right, or_cases}
use Rattle.cv_base.proofs.Same.{same_is, same_self, path_is, path_self, path_total}

-- The order of paths.

pub less_is : (o : Ordering) → is_less o ≡ true → o ≡ Less
less_is Less h = refl
less_is Equal h = cc
less_is Greater h = cc

pub before_trans : (p q r : Path) → comes_before p q ≡ true → comes_before q r ≡ true → comes_before p r ≡ true
before_trans p q r h k = rw (path_total.trans p q r (less_is (path_cmp p q) h) (less_is (path_cmp q r) k)) refl

then_less : (o c : Ordering) → is_less (ordering_then o c) ≡ true → (o ≡ Equal → is_less c ≡ true)
then_less Less c h = λ e. cc
then_less Equal c h = λ e. h
then_less Greater c h = λ e. cc

-- The first components `x`, `y` and `z` of three paths in order, where the first of them is above the last, so that `x` is `z`.
not_greater : (o c : Ordering) → is_less (ordering_then o c) ≡ true → o ≡ Greater → ⊥
not_greater Less c h e = absurd (less_greater e) where
  less_greater : Less ≡ Greater → ⊥
  less_greater e = cc
not_greater Equal c h e = cc
not_greater Greater c h e = cc

reversed_less : (o : Ordering) → o ≡ Less → ordering_reverse o ≡ Greater
reversed_less o e = rw e refl

-- of three components in order, where the first one is the last one, all are one
pub squeezed : (x y : List ℕ) (c d : Ordering)
    → is_less (ordering_then (slice_cmp nat_cmp x y) c) ≡ true → is_less (ordering_then (slice_cmp nat_cmp y x) d) ≡ true → slice_cmp nat_cmp x y ≡ Equal
squeezed x y c d h k = by_order (slice_cmp nat_cmp x y) refl where
  by_order : (o : Ordering) → slice_cmp nat_cmp x y ≡ o → slice_cmp nat_cmp x y ≡ Equal
  by_order Equal e = e
  by_order Less e =
      absurd (not_greater (slice_cmp nat_cmp y x) d k (nat_list_cmp_total.antisymm y x ∙ reversed_less (slice_cmp nat_cmp x y) e))
  by_order Greater e = absurd (not_greater (slice_cmp nat_cmp x y) c h e)

-- what comes between a path and one below it lies below it, too
pub between : (p q r : Path) → is_above p r ≡ true → comes_before p q ≡ true → comes_before q r ≡ true → is_above p q ≡ true
between p [] r a h k = absurd (nothing_before p h) where
  nothing_before : (p : Path) → comes_before p [] ≡ true → ⊥
  nothing_before [] h = cc
  nothing_before (x ∷ xs) h = cc
between [] (y ∷ ys) r a h k = refl
between (x ∷ xs) (y ∷ ys) [] a h k = cc
between (x ∷ xs) (y ∷ ys) (z ∷ zs) a h k =
    let same_xz : x ≡ z = same_is x z (and_left (same x z) (is_above xs zs) a) in
    let k_at : is_less (ordering_then (slice_cmp nat_cmp y x) (path_cmp ys zs)) ≡ true = subst (λ (w : List ℕ). is_less (ordering_then (slice_cmp nat_cmp y w) (path_cmp ys zs)) ≡ true) (sym same_xz) k in
    let tied : slice_cmp nat_cmp x y ≡ Equal = squeezed x y (path_cmp xs ys) (path_cmp ys zs) h k_at in
    let x_is_y : x ≡ y = exact_bytes x y tied in
    let tied_back : slice_cmp nat_cmp y x ≡ Equal = rw x_is_y (tied_itself nat_list_cmp_total y) in
    let first : same x y ≡ true = rw x_is_y (same_self y) in
    let rest = between xs ys zs (and_right (same x z) (is_above xs zs) a)
    (then_less (slice_cmp nat_cmp x y) (path_cmp xs ys) h tied)
    (then_less (slice_cmp nat_cmp y x) (path_cmp ys zs) k_at tied_back) in
    and_from (same x y) (is_above xs ys) first rest

-- Parents.

-- what is above a path is its parent or above that
above_parent : (q p : Path) → is_above q p ≡ true → at_or_above q (parent_of p) ≡ true
above_parent [] [] h = cc
above_parent [] (c ∷ []) h = refl
above_parent [] (c ∷ d ∷ ds) h = refl
above_parent (x ∷ xs) [] h = cc
above_parent (x ∷ []) (c ∷ []) h = cc (and_right (same x c) false h)
above_parent (x ∷ y ∷ ys) (c ∷ []) h = cc (and_right (same x c) false h)
above_parent (x ∷ xs) (c ∷ d ∷ ds) h =
    let first = and_left (same x c) (is_above xs (d ∷ ds)) h in
    let rest = above_parent xs (d ∷ ds) (and_right (same x c) (is_above xs (d ∷ ds)) h) in
    step (same x c) (same_path xs (parent_of (d ∷ ds))) (is_above xs (parent_of (d ∷ ds))) first rest where
      step : (a b c : Bool) → a ≡ true → (b || c) ≡ true → ((a && b) || (a && c)) ≡ true
      step true b c h k = k
      step false b c h k = cc

-- a path with one above it that is not the top needs a parent
above_needs : (q p : Path) → is_cons q ≡ true → is_above q p ≡ true → needs_parent p ≡ true
above_needs [] p h k = cc
above_needs (x ∷ xs) [] h k = cc
above_needs (x ∷ []) (c ∷ []) h k = cc (and_right (same x c) false k)
above_needs (x ∷ y ∷ ys) (c ∷ []) h k = cc (and_right (same x c) false k)
above_needs (x ∷ xs) (c ∷ d ∷ ds) h k = refl

parent_below_top : (p : Path) → needs_parent p ≡ true → is_cons (parent_of p) ≡ true
parent_below_top [] h = cc
parent_below_top (c ∷ []) h = cc
parent_below_top (c ∷ d ∷ ds) h = refl

parent_above : (p : Path) → needs_parent p ≡ true → is_above (parent_of p) p ≡ true
parent_above [] h = cc
parent_above (c ∷ []) h = cc
parent_above (c ∷ d ∷ []) h = and_from (same c c) true (same_self c) refl
parent_above (c ∷ d ∷ e ∷ es) h = and_from (same c c) (is_above (parent_of (d ∷ e ∷ es)) (d ∷ e ∷ es)) (same_self c) (parent_above (d ∷ e ∷ es) refl)

-- The entries before.

-- an entry of a list is a directory at a path
abbrev pub has_dir : List Outline → Path → Bool
has_dir before p = list_any (λ b. b.is_dir && same_path b.path p) before

-- an entry of a list stands at a path
abbrev pub has_path : List Outline → Path → Bool
has_path before p = list_any (λ b. same_path b.path p) before

-- entries, the last one first, that are in order and have their parents
abbrev pub AreSettled : List Outline → Type 0
AreSettled [] = Unit {0}
AreSettled (b ∷ bs) = (is_sorted_after bs b ≡ true) × (has_parent bs b ≡ true) × AreSettled bs

dir_is_there : (bs : List Outline) (p : Path) → has_dir bs p ≡ true → has_path bs p ≡ true
dir_is_there [] p h = cc
dir_is_there (b ∷ bs) p h =
    or_cases (b.is_dir && same_path b.path p) (has_dir bs p) (has_path (b ∷ bs) p ≡ true) h
    (λ k. or_left (same_path b.path p) (has_path bs p) (and_right b.is_dir (same_path b.path p) k))
    (λ k. or_right (same_path b.path p) (has_path bs p) (dir_is_there bs p k))

given_parent : (n d : Bool) → (not n || d) ≡ true → n ≡ true → d ≡ true
given_parent true d h k = h
given_parent false d h k = cc

-- all directories above an entry are there
pub closed : (bs : List Outline) → AreSettled bs → (q p : Path) → has_path bs p ≡ true → is_cons q ≡ true → is_above q p ≡ true → has_dir bs q ≡ true
closed [] s q p h n a = cc
closed (b ∷ bs) s q p h n a =
    or_cases (same_path b.path p) (has_path bs p) (has_dir (b ∷ bs) q ≡ true) h
    (λ k. let at_b : is_above q b.path ≡ true = rw (path_is b.path p k) a in
    let there : has_dir bs (parent_of b.path) ≡ true = given_parent (needs_parent b.path) (has_dir bs (parent_of b.path)) s.1 (above_needs q b.path n at_b) in
    or_right (b.is_dir && same_path b.path q) (has_dir bs q)
    (or_cases (same_path q (parent_of b.path)) (is_above q (parent_of b.path)) (has_dir bs q ≡ true) (above_parent q b.path at_b)
    (λ e. rw (path_is q (parent_of b.path) e) there)
    (λ e. closed bs s.2 q (parent_of b.path) (dir_is_there bs (parent_of b.path) there) n e)))
    (λ k. or_right (b.is_dir && same_path b.path q) (has_dir bs q) (closed bs s.2 q p k n a))

-- all entries before a path come before what comes after the last one of them
all_before : (bs : List Outline) (p q : Path) → list_all (λ b. comes_before b.path p) bs ≡ true → comes_before p q ≡ true → list_all (λ b. comes_before b.path q) bs ≡ true
all_before [] p q h k = refl
all_before (b ∷ bs) p q h k =
    and_from (comes_before b.path q) (list_all (λ b. comes_before b.path q) bs)
    (before_trans b.path p q (and_left (comes_before b.path p) (list_all (λ b. comes_before b.path p) bs) h) k)
    (all_before bs p q (and_right (comes_before b.path p) (list_all (λ b. comes_before b.path p) bs) h) k)

-- a directory among entries that come before a path comes before it
dir_before : (bs : List Outline) (p q : Path) → list_all (λ b. comes_before b.path p) bs ≡ true → has_dir bs q ≡ true → comes_before q p ≡ true
dir_before [] p q h k = cc
dir_before (b ∷ bs) p q h k =
    or_cases (b.is_dir && same_path b.path q) (has_dir bs q) (comes_before q p ≡ true) k
    (λ e. rw (← path_is b.path q (and_right b.is_dir (same_path b.path q) e)) (and_left (comes_before b.path p) (list_all (λ b. comes_before b.path p) bs) h))
    (λ e. dir_before bs p q (and_right (comes_before b.path p) (list_all (λ b. comes_before b.path p) bs) h) e)

-- the last of the entries before
abbrev pub last_of : List Outline → Option Outline
last_of [] = None
last_of (b ∷ bs) = Some b

follows_all : (bs : List Outline) → AreSettled bs → (e : Outline) → follows (last_of bs) e ≡ is_sorted_after bs e
follows_all [] s e = refl
follows_all (b ∷ bs) s e =
    both_ways (comes_before b.path e.path) (is_sorted_after (b ∷ bs) e)
    (λ h. and_from (comes_before b.path e.path) (is_sorted_after bs e) h (all_before bs b.path e.path s.0 h))
    (λ h. and_left (comes_before b.path e.path) (is_sorted_after bs e) h)

-- the parent `q` of an entry at `p` that comes after all before it: the heart of the matter
near_parent : (b : Outline) (bs : List Outline) (q p : Path) → AreSettled (b ∷ bs) → comes_before b.path p ≡ true → is_cons q ≡ true → is_above q p ≡ true
    → (is_above q b.path || (b.is_dir && same_path b.path q)) ≡ has_dir (b ∷ bs) q
near_parent b bs q p s h n a =
    both_ways (is_above q b.path || (b.is_dir && same_path b.path q)) (has_dir (b ∷ bs) q)
    (λ k. or_cases (is_above q b.path) (b.is_dir && same_path b.path q) (has_dir (b ∷ bs) q ≡ true) k
    (λ e. closed (b ∷ bs) s q b.path (or_left (same_path b.path b.path) (has_path bs b.path) (path_self b.path)) n e)
    (λ e. or_left (b.is_dir && same_path b.path q) (has_dir bs q) e))
    (λ k. or_cases (b.is_dir && same_path b.path q) (has_dir bs q) ((is_above q b.path || (b.is_dir && same_path b.path q)) ≡ true) k
    (λ e. or_right (is_above q b.path) (b.is_dir && same_path b.path q) e)
    (λ e. or_left (is_above q b.path) (b.is_dir && same_path b.path q) (between q b.path p a (dir_before bs b.path q s.0 e) h)))

needed : (n a b : Bool) → (n ≡ true → a ≡ b) → (not n || a) ≡ (not n || b)
needed true a b h = h refl
needed false a b h = refl

parents_all : (bs : List Outline) → AreSettled bs → (e : Outline) → is_sorted_after bs e ≡ true → stands_by_parent (last_of bs) e ≡ has_parent bs e
parents_all [] s e h = needed_none (needs_parent e.path) where
  needed_none : (n : Bool) → not n ≡ (not n || false)
  needed_none true = refl
  needed_none false = refl
parents_all (b ∷ bs) s e h =
    needed (needs_parent e.path) (is_above (parent_of e.path) b.path || (b.is_dir && same_path b.path (parent_of e.path))) (has_dir (b ∷ bs) (parent_of e.path))
    (λ n. near_parent b bs (parent_of e.path) e.path s (and_left (comes_before b.path e.path) (is_sorted_after bs e) h) (parent_below_top e.path n) (parent_above e.path n))

abbrev chosen : ℕ → Outline → Bool → Bool → Option TreeFault → Option TreeFault
chosen i e sorted parent rest =
    option_or (if not sorted then Some (Unsorted i) else (if not parent then Some (NoParent i) else (if is_bad e.path e.is_dir then Some (BadMark i) else None))) rest

chosen_alike : (i : ℕ) (e : Outline) (s t p q : Bool) (r u : Option TreeFault) → s ≡ t → (t ≡ true → p ≡ q) → (t ≡ true → q ≡ true → r ≡ u) → chosen i e s p r ≡ chosen i e t q u
chosen_alike i e true true true true r u h k m = ap (option_or (if is_bad e.path e.is_dir then Some (BadMark i) else None)) (m refl refl)
chosen_alike i e true true true false r u h k m = cc (k refl)
chosen_alike i e true true false true r u h k m = cc (k refl)
chosen_alike i e true true false false r u h k m = refl
chosen_alike i e true false p q r u h k m = cc
chosen_alike i e false true p q r u h k m = cc
chosen_alike i e false false p q r u h k m = refl

-- one look at the entry before gives the fault
pub fault_near : (i : ℕ) (bs es : List Outline) → AreSettled bs → fault_from i (last_of bs) es ≡ first_fault i bs es
fault_near i bs [] s = refl
fault_near i bs (e ∷ es) s =
    chosen_alike i e (follows (last_of bs) e) (is_sorted_after bs e) (stands_by_parent (last_of bs) e) (has_parent bs e) (fault_from (i + 1) (Some e) es) (first_fault (i + 1) (e ∷ bs) es)
    (follows_all bs s e) (λ h. parents_all bs s e h) (λ h k. fault_near (i + 1) (e ∷ bs) es (h, k, s))

within_limit : (n : ℕ) → n ≤ MAX_ENTRIES → nat_lt MAX_ENTRIES n ≡ false
within_limit n h = grind (arith, nat_tests)

-- the fault of a list that is not too long
pub fault_within : {A : Type 0} (outline : A → Outline) (es : List A) → length es ≤ MAX_ENTRIES → fault_from 0 None (map outline es) ≡ fault (map outline es)
fault_within outline es h =
    let within : nat_lt MAX_ENTRIES (length (map outline es)) ≡ false = rw (length-map es outline) (within_limit (length es) h) in
    rw within (fault_near 0 [] (map outline es) tt)
