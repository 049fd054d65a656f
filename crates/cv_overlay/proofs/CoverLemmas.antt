-- What a tree hides, by texts: the part of each entry, and the lookup of the fronts of a text.
use Rattle.std.specs.Prelude.{◌≡◌, ℕ, ◌<◌, Bool, true, false, ◌&&◌, ◌||◌, ◌==◌, not, if◌then◌else◌, List, [], ◌∷◌, ◌++◌, length, map, drop, Result, Ok, Err, refl}
use Rattle.std.specs.Cmp.Lexicographic.{nat_list_cmp_total, slice_cmp, texts_ties}
use Rattle.std.proofs.lemmas.Cmp.{lists_equiv, nat_list_eq_equiv}
use Rattle.std.specs.List.{list_any, slice_split}
use Rattle.std.specs.List.Sorted.{IsSortedBy, IsSearchInRange, IsBinarySearchResult, IsPermutation}
use Rattle.std.specs.Ordering.{nat_cmp, is_lt}
use Rattle.std.specs.Result.{is_ok}
use Rattle.std.specs.declared.cmp.Ordering.TheVariants.{Less, Equal, Greater}
use Rattle.std.proofs.Common.{zero, suc, ap, sym, ◌∙◌, inl, inr, get_or, arith}
use Rattle.std.proofs.lemmas.Bool.{cases_lt, eqb-true, or_parts}
use Rattle.std.proofs.lemmas.List.Folds.{list_any_at, list_any_none}
use Rattle.std.proofs.lemmas.List.Sorted.{searchable_from_sorted, list_any-IsPermutation}
use Rattle.std.proofs.Math.Bool.{or_assoc, or_comm, or-false}
use Rattle.cv_base.specs.Path.{Path, components, is_above, is_slash, is_special, same_path, parent_of}
use Rattle.cv_base.specs.code.PathText.{goes_on}
use Rattle.cv_base.specs.Texts.{same, is_cons, has_text}
use Rattle.cv_base.proofs.PathLemmas.{above_components, none_above, split_cons, top_above}
use Rattle.cv_overlay.specs.code.Cover.{any_front, hides_text}
use Rattle.cv_base.specs.declared.tree.TreeEntry.{TreeEntry}
use Rattle.cv_overlay.specs.Lay.{hides_by}
use Rattle.cv_overlay.specs.Mark.{at_or_above, name_of, target_of, is_dir_node, is_whiteout_name, is_opaque_name, is_reserved_name, has_mark, mark, mark_of}
use Rattle.cv_overlay.specs.declared.mark.Mark.{Mark}
use Rattle.cv_overlay.specs.declared.mark.Mark.TheVariants.{Reserved, Opaque, Whiteout, Bad, Plain}
use Rattle.cv_overlay.specs.code.Text.{is_within}
use Rattle.cv_base.proofs.Bools.{and_right, or_swap_inner}
use Rattle.cv_base.proofs.Lists.{any_last}
use Rattle.cv_base.proofs.PathReads.{components_split, split_none}
use Rattle.cv_base.proofs.PathEnds.{parent_last}
use Rattle.cv_overlay.proofs.PathLemmas.{name_of_last, mark_by_name}
use Rattle.cv_overlay.proofs.TextLemmas.{components_last, above_split, within_is}

-- Tests joined by "or".

or_middle : (a b c : Bool) → ((a || b) || c) ≡ ((a || c) || b)
or_middle true b c = refl
or_middle false true true = refl
or_middle false true false = refl
or_middle false false c = sym (or-false c)

pub empty_text : (t : List ℕ) (b : Bool) → b ≡ (length t == 0) → b ≡ true → is_cons t ≡ false
empty_text [] b h k = refl
empty_text (x ∷ xs) b h k =
    let none : length (x ∷ xs) ≡ 0 = eqb-true (length (x ∷ xs)) 0 (sym h ∙ k) in
    absurd (omega (arith, none))

pub some_text : (t : List ℕ) (b : Bool) → b ≡ (length t == 0) → b ≡ false → is_cons t ≡ true
some_text [] b h k = cc
some_text (x ∷ xs) b h k = refl

-- One more cover.

pub hides_whole : (w b : List (List ℕ)) (a : Bool) (t c : List ℕ) → hides_text (w ++ c ∷ []) b a t ≡ (hides_text w b a t || is_within c t true)
hides_whole w b a t c =
    ap (λ h. h || (list_any (λ c. goes_on c t) b || (a && is_cons t))) (any_last (λ c. is_within c t true) w c)
    ∙ or_middle (list_any (λ c. is_within c t true) w) (is_within c t true) (list_any (λ c. goes_on c t) b || (a && is_cons t))

below_last : (w b g a : Bool) → (w || ((b || g) || a)) ≡ ((w || (b || a)) || g)
below_last true b g a = refl
below_last false b g a = or_middle b g a

pub hides_below : (w b : List (List ℕ)) (a : Bool) (t c : List ℕ) → hides_text w (b ++ c ∷ []) a t ≡ (hides_text w b a t || goes_on c t)
hides_below w b a t c =
    ap (λ h. list_any (λ c. is_within c t true) w || (h || (a && is_cons t))) (any_last (λ c. goes_on c t) b c)
    ∙ below_last (list_any (λ c. is_within c t true) w) (list_any (λ c. goes_on c t) b) (goes_on c t) (a && is_cons t)

all_last : (w b a s : Bool) → (w || (b || s)) ≡ ((w || (b || (a && s))) || s)
all_last true b a s = refl
all_last false true a s = refl
all_last false false true true = refl
all_last false false true false = refl
all_last false false false s = refl

pub hides_all : (w b : List (List ℕ)) (a : Bool) (t : List ℕ) → hides_text w b true t ≡ (hides_text w b a t || is_cons t)
hides_all w b a t = all_last (list_any (λ c. is_within c t true) w) (list_any (λ c. goes_on c t) b) a (is_cons t)

-- What a cover hides, as paths.

none_same : (p : Path) → is_cons p ≡ true → same_path p [] ≡ false
none_same [] h = cc
none_same (x ∷ xs) h = refl

-- a text that is not empty, and what is at its path or below
pub whole_is : (c t : List ℕ) → is_cons c ≡ true → is_within c t true ≡ at_or_above (components c) (components t)
whole_is [] t h = cc
whole_is (x ∷ xs) [] h = sym (rw (none_same (slice_split is_slash (x ∷ xs)) (split_cons (x ∷ xs)), none_above (slice_split is_slash (x ∷ xs))) refl)
whole_is (x ∷ xs) (y ∷ ys) h =
    within_is (x ∷ xs) (y ∷ ys) true refl
    ∙ or_comm (is_above (slice_split is_slash (x ∷ xs)) (components (y ∷ ys))) (same_path (components (y ∷ ys)) (slice_split is_slash (x ∷ xs)))
    ∙ ap (λ b. b || is_above (components (x ∷ xs)) (components (y ∷ ys))) ((lists_equiv nat_list_eq_equiv).symm (components (y ∷ ys)) (components (x ∷ xs)))

goes_none : (c : List ℕ) → goes_on c [] ≡ false
goes_none [] = refl
goes_none (x ∷ xs) = refl

-- the directory of a path of more than one component, and what is below it
pub directory_is : (a n t : List ℕ) → list_any is_slash n ≡ false → goes_on a t ≡ is_above (parent_of (components (a ++ 47 ∷ n))) (components t)
directory_is a n t h = rw (components_last a n h, parent_last (slice_split is_slash a) n) (at_text t) where
  at_text : (t : List ℕ) → goes_on a t ≡ is_above (slice_split is_slash a) (components t)
  at_text [] = goes_none a ∙ sym (none_above (slice_split is_slash a))
  at_text (y ∷ ys) = sym (above_split a (y ∷ ys) refl)

all_below : (t : List ℕ) → is_cons t ≡ is_above [] (components t)
all_below [] = refl
all_below (y ∷ ys) = sym (top_above (slice_split is_slash (y ∷ ys)) (split_cons (y ∷ ys)))

-- the directory of a path of one component is the top
pub top_is : (m t : List ℕ) → list_any is_slash m ≡ false → is_cons t ≡ is_above (parent_of (components m)) (components t)
top_is [] t h = all_below t
top_is (x ∷ xs) t h = rw (split_none (x ∷ xs) h) (all_below t)

-- a path, and what is below it
pub below_is : (m t : List ℕ) → is_cons m ≡ true → goes_on m t ≡ is_above (components m) (components t)
below_is [] t h = cc
below_is (x ∷ xs) [] h = sym (none_above (slice_split is_slash (x ∷ xs)))
below_is (x ∷ xs) (y ∷ ys) h = above_components (x ∷ xs) (y ∷ ys)

-- The targets of whiteouts.

any_drop : (n : ℕ) (t : List ℕ) → list_any is_slash t ≡ false → list_any is_slash (drop n t) ≡ false
any_drop zero t h = h
any_drop (suc n) [] h = refl
any_drop (suc n) (x ∷ xs) h = any_drop n xs (or_parts (is_slash x) (list_any is_slash xs) h).1

some_name : (x : List ℕ) → not (is_special x) ≡ true → is_cons x ≡ true
some_name [] h = cc
some_name (y ∷ ys) h = refl

-- in a directory
pub target_in : (a n : List ℕ) → list_any is_slash n ≡ false → components (a ++ 47 ∷ drop 4 n) ≡ target_of (components (a ++ 47 ∷ n))
target_in a n h =
    components_last a (drop 4 n) (any_drop 4 n h)
    ∙ ap (λ p. p ++ drop 4 n ∷ []) (sym (parent_last (slice_split is_slash a) n))
    ∙ ap (λ c. parent_of (slice_split is_slash a ++ n ∷ []) ++ drop 4 c ∷ []) (sym (name_of_last (slice_split is_slash a) n))
    ∙ ap target_of (sym (components_last a n h))

-- at the top
pub target_top : (t : List ℕ) → list_any is_slash t ≡ false → is_whiteout_name (name_of (components t)) ≡ true → components (drop 4 t) ≡ target_of (components t)
target_top [] h k = cc
target_top (x ∷ xs) h k =
    let parts = split_none (x ∷ xs) h in
    let named : is_whiteout_name (x ∷ xs) ≡ true = rw parts at k in
    let some : is_cons (drop 4 (x ∷ xs)) ≡ true = some_name (drop 4 (x ∷ xs)) (and_right (has_mark (x ∷ xs)) (not (is_special (drop 4 (x ∷ xs)))) named) in
    components_split (drop 4 (x ∷ xs)) some ∙ split_none (drop 4 (x ∷ xs)) (any_drop 4 (x ∷ xs) h) ∙ ap target_of (sym parts)

target_cons : (p : Path) (c : List ℕ) → is_cons (p ++ c ∷ []) ≡ true
target_cons [] c = refl
target_cons (x ∷ xs) c = refl

-- the text of a target is not empty
pub target_some : (c : List ℕ) (p : Path) → components c ≡ target_of p → is_cons c ≡ true
target_some [] p e = absurd (differ ([]) (target_of p) e refl (target_cons (parent_of p) (drop 4 (name_of p)))) where
  differ : (q r : Path) → q ≡ r → is_cons q ≡ false → is_cons r ≡ true → ⊥
  differ q r e h k = cc
target_some (x ∷ xs) p e = refl

-- Fronts.

-- the rest of a text goes on where another text ends, after what was read before
abbrev after : List ℕ → List ℕ → List ℕ → Bool
after [] c ys = goes_on c ys
after (x ∷ b) [] ys = false
after (x ∷ b) (z ∷ c) ys = (z == x) && after b c ys

after_end : (b c : List ℕ) → false ≡ after b c []
after_end [] c = sym (goes_none c)
after_end (x ∷ b) [] = refl
after_end (x ∷ b) (z ∷ c) = by_head (z == x) (after b c []) (after_end b c) where
  by_head : (h r : Bool) → false ≡ r → false ≡ (h && r)
  by_head true r e = e
  by_head false r e = refl

end_here : (s : Bool) → ((s && true) || false) ≡ s
end_here true = refl
end_here false = refl

not_here : (s r : Bool) → ((s && false) || r) ≡ r
not_here true r = refl
not_here false r = refl

in_head : (s h q r : Bool) → ((s && (h && q)) || (h && r)) ≡ (h && ((s && q) || r))
in_head true true q r = refl
in_head true false q r = refl
in_head false true q r = refl
in_head false false q r = refl

after_step : (b c : List ℕ) (y : ℕ) (ys : List ℕ) → ((is_slash y && same c b) || after (b ++ y ∷ []) c ys) ≡ after b c (y ∷ ys)
after_step [] [] y ys = end_here (is_slash y)
after_step [] (z ∷ c) y ys = not_here (is_slash y) ((z == y) && goes_on c ys)
after_step (x ∷ b) [] y ys = not_here (is_slash y) false
after_step (x ∷ b) (z ∷ c) y ys =
    in_head (is_slash y) (z == x) (same c b) (after (b ++ y ∷ []) c ys)
    ∙ ap (λ r. (z == x) && r) (after_step b c y ys)

front_from : (c b ys : List ℕ) → any_front (λ f. same c f) b ys ≡ after b c ys
front_from c b [] = after_end b c
front_from c b (y ∷ ys) = ap (λ r. (is_slash y && same c b) || r) (front_from c (b ++ y ∷ []) ys) ∙ after_step b c y ys

no_front : (b ys : List ℕ) → any_front (λ f. false) b ys ≡ false
no_front b [] = refl
no_front b (y ∷ ys) = not_here (is_slash y) (any_front (λ f. false) (b ++ y ∷ []) ys) ∙ no_front (b ++ y ∷ []) ys

two_tests : (s g h r q : Bool) → ((s && (g || h)) || (r || q)) ≡ (((s && g) || r) || ((s && h) || q))
two_tests true true h r q = refl
two_tests true false true true q = refl
two_tests true false true false q = refl
two_tests true false false true q = refl
two_tests true false false false q = refl
two_tests false g h r q = refl

front_or : (g h : List ℕ → Bool) (b ys : List ℕ) → any_front (λ f. g f || h f) b ys ≡ (any_front g b ys || any_front h b ys)
front_or g h b [] = refl
front_or g h b (y ∷ ys) =
    ap (λ r. (is_slash y && (g b || h b)) || r) (front_or g h (b ++ y ∷ []) ys)
    ∙ two_tests (is_slash y) (g b) (h b) (any_front g (b ++ y ∷ []) ys) (any_front h (b ++ y ∷ []) ys)

-- a text goes on where one of a list ends, if one of its fronts is in the list
fronts_in : (cs : List (List ℕ)) (t : List ℕ) → any_front (has_text cs) [] t ≡ list_any (λ c. goes_on c t) cs
fronts_in [] t = no_front [] t
fronts_in (c ∷ cs) t =
    front_or (λ f. same c f) (has_text cs) [] t
    ∙ ap (λ r. r || any_front (has_text cs) [] t) (front_from c [] t)
    ∙ ap (λ r. goes_on c t || r) (fronts_in cs t)

whole_parts : (cs : List (List ℕ)) (t : List ℕ) → list_any (λ c. is_within c t true) cs ≡ (list_any (λ c. goes_on c t) cs || has_text cs t)
whole_parts [] t = refl
whole_parts (c ∷ cs) t =
    ap (λ r. is_within c t true || r) (whole_parts cs t)
    ∙ ap (λ r. r || (list_any (λ c. goes_on c t) cs || has_text cs t)) (ap (λ r. goes_on c t || r) (nat_list_eq_equiv.symm t c))
    ∙ or_swap_inner (goes_on c t) (same c t) (list_any (λ c. goes_on c t) cs) (has_text cs t)

-- the lookup of a text and its fronts finds what is hidden
pub lookup : (w b : List (List ℕ)) (a : Bool) (t : List ℕ)
    → (any_front (λ f. has_text w f || has_text b f) [] t || (has_text w t || (a && is_cons t))) ≡ hides_text w b a t
lookup w b a t =
    ap (λ r. r || (has_text w t || (a && is_cons t))) (front_or (has_text w) (has_text b) [] t ∙ ap (λ r. r || any_front (has_text b) [] t) (fronts_in w t) ∙ ap (λ r. list_any (λ c. goes_on c t) w || r) (fronts_in b t))
    ∙ or_swap_inner (list_any (λ c. goes_on c t) w) (list_any (λ c. goes_on c t) b) (has_text w t) (a && is_cons t)
    ∙ ap (λ r. r || (list_any (λ c. goes_on c t) b || (a && is_cons t))) (sym (whole_parts w t))

-- Sorted lists.

tied : (x y : List ℕ) → slice_cmp nat_cmp x y ≡ Equal → same x y ≡ true
tied x y h = texts_ties x y ∙ rw h refl

less_differs : (x y : List ℕ) → slice_cmp nat_cmp x y ≡ Less → same x y ≡ false
less_differs x y h = texts_ties x y ∙ rw h refl

greater_differs : (x y : List ℕ) → slice_cmp nat_cmp x y ≡ Greater → same x y ≡ false
greater_differs x y h = texts_ties x y ∙ rw h refl

any_key : {X : Type 0} (key : X → List ℕ) (xs : List X) (t : List ℕ) → list_any (λ x. same (key x) t) xs ≡ has_text (map key xs) t
any_key key [] t = refl
any_key key (x ∷ xs) t = ap (λ b. same (key x) t || b) (any_key key xs t)

first_item : {X : Type 0} (xs : List X) (i : ℕ) → i < length xs → X
first_item [] i h = absurd (omega (arith, h))
first_item (x ∷ xs) i h = x

-- what a binary search answers
pub searched_text : {X : Type 0} (key : X → List ℕ) (xs : List X) (t : List ℕ) (r : Result ℕ ℕ)
    → IsSortedBy (λ x y. is_lt (slice_cmp nat_cmp (key x) (key y))) xs → IsSearchInRange r (length xs)
    → IsBinarySearchResult (λ y. slice_cmp nat_cmp (key y) t) xs r → is_ok r ≡ has_text (map key xs) t
searched_text key xs t (Ok i) sorted bound found =
    let d = first_item xs i bound in
    sym (list_any_at (λ x. same (key x) t) xs i d bound (tied (key (get_or xs i d)) t (found d))) ∙ any_key key xs t
searched_text key xs t (Err i) sorted bound found =
    let point = found (searchable_from_sorted nat_list_cmp_total key xs t sorted) in
    sym (list_any_none (λ x. same (key x) t) xs
    (λ k d h. elim (cases_lt k i) [
      | inl l ↦ less_differs (key (get_or xs k d)) t (point.0 k d (omega arith) l)
      | inr g ↦ greater_differs (key (get_or xs k d)) t (point.1 k d g h)
    ]))
    ∙ any_key key xs t

-- What the entries hide.

whiteout_by : (a r o m d w : Bool)
    → (if a then Reserved else (if r then (if o then Opaque else Reserved) else (if not m then Plain else (if d && w then Whiteout else Bad)))) ≡ Whiteout
    → w ≡ true
whiteout_by false false o true true true h = refl
whiteout_by false true true m d w h = cc
whiteout_by a r o m d w h = cc

-- a whiteout has the name of one
pub named_whiteout : (p : Path) (dir : Bool) → mark_of p dir ≡ Whiteout → is_whiteout_name (name_of p) ≡ true
named_whiteout p dir h =
    let n = name_of p in
    whiteout_by (list_any is_reserved_name (parent_of p)) (is_reserved_name n) (not dir && is_opaque_name n) (has_mark n) (not dir) (is_whiteout_name n) (sym (mark_by_name p dir) ∙ h)

-- an entry of a known mark hides what the mark does
pub hides_at : (m : Mark) (e : TreeEntry) (dir : Bool) (p : Path) → mark_of e.path dir ≡ m → dir ≡ is_dir_node e.node → hides_by m e p ≡ hides_by (mark e) e p
hides_at m e dir p h k = ap (λ m. hides_by m e p) (sym h ∙ ap (mark_of e.path) k)

-- what was found with the remaining entries, one entry on
pub one_more : (found more h rest all : Bool) → (found || (h || rest)) ≡ all → more ≡ (found || h) → (more || rest) ≡ all
one_more found more h rest all e k = ap (λ b. b || rest) k ∙ or_assoc found h rest ∙ e

any_map : {X : Type 0} (p : List ℕ → Bool) (key : X → List ℕ) (xs : List X) → list_any p (map key xs) ≡ list_any (λ x. p (key x)) xs
any_map p key [] = refl
any_map p key (x ∷ xs) = ap (λ b. p (key x) || b) (any_map p key xs)

any_moved : {X : Type 0} (p : List ℕ → Bool) (key : X → List ℕ) (xs ys : List X) → IsPermutation xs ys → list_any p (map key ys) ≡ list_any p (map key xs)
any_moved p key xs ys h = any_map p key ys ∙ sym (list_any-IsPermutation (λ x. p (key x)) xs ys h) ∙ sym (any_map p key xs)

-- a sort leaves what is hidden
pub hides_moved : {X Y : Type 0} (f : X → List ℕ) (g : Y → List ℕ) (w v : List X) (b d : List Y) (a : Bool) (t : List ℕ)
    → IsPermutation w v → IsPermutation b d → hides_text (map f v) (map g d) a t ≡ hides_text (map f w) (map g b) a t
hides_moved f g w v b d a t h k =
    ap (λ r. r || (list_any (λ c. goes_on c t) (map g d) || (a && is_cons t))) (any_moved (λ c. is_within c t true) f w v h)
    ∙ ap (λ r. list_any (λ c. is_within c t true) (map f w) || (r || (a && is_cons t))) (any_moved (λ c. goes_on c t) g b d k)

-- the same, by the answers of three look-ups
pub lookup_so : (w b : List (List ℕ)) (a : Bool) (t : List ℕ) (f h s : Bool)
    → f ≡ any_front (λ f. has_text w f || has_text b f) [] t → h ≡ has_text w t → s ≡ is_cons t → (f || (h || (a && s))) ≡ hides_text w b a t
lookup_so w b a t f h s e k n = rw (e, k, n) (lookup w b a t)
