-- Names among the names of records, and the order of names and of ids.
use Rattle.std.specs.Prelude.{◌≡◌, ℕ, ◌+◌, ◌<◌, Bool, true, false, ◌||◌, List, [], ◌∷◌, ◌++◌, drop, get_or, length, Option, Some, None, option_to_list, refl}
use Rattle.std.specs.Cmp.{IsTotalOrder, on_total, then_total}
use Rattle.std.specs.Cmp.Lexicographic.{nat_list_cmp_total}
use Rattle.std.specs.List.{AllByRecursion, flat_map, list_any}
use Rattle.std.specs.List.Sorted.{IsStrictlySortedBy}
use Rattle.std.specs.Ordering.{is_eq, ordering_reverse}
use Rattle.std.specs.declared.cmp.Ordering.{Ordering}
use Rattle.std.specs.declared.cmp.Ordering.TheVariants.{Less, Equal, Greater}
use Rattle.std.proofs.Common.{ap, append_assoc, sym, ◌∙◌}
use Rattle.std.proofs.lemmas.List.{drop_more}
use Rattle.std.proofs.lemmas.List.Folds.{list_any-append}
use Rattle.std.proofs.Math.Bool.{or-false}
use Rattle.cv_base.specs.InOrder.{in_order}
use Rattle.cv_base.specs.declared.advisory.Advisory.{Advisory}
use Rattle.cv_base.specs.declared.advisory.Affected.{Affected}
use Rattle.cv_base.specs.declared.«package».PackageName.{PackageName}
use Rattle.cv_base.proofs.InOrder.{any_order, in_order_sorted}
use Rattle.cv_match.specs.Keys.{is_key, is_named, name_cmp}
use Rattle.cv_match.proofs.Keys.{same_names}
use Rattle.cv_advdb.specs.Touched.{has_name}
use Rattle.cv_advdb.specs.code.Index.{entry_names, names_in}

-- ---- orders

-- names are in a total order
pub name_total : IsTotalOrder name_cmp
name_total = then_total (on_total (λ (n : PackageName). n.ecosystem) nat_list_cmp_total) (on_total (λ (n : PackageName). n.name) nat_list_cmp_total)

-- nothing is below itself
pub never_below : {K : Type 0} {cmp : K → K → Ordering} → IsTotalOrder cmp → (x : K) → cmp x x ≡ Less → ⊥
never_below {K} {cmp} o x h = let e : Less ≡ Greater = sym h ∙ o.antisymm x x ∙ ap ordering_reverse h in cc

pub turned_eq : (r : Ordering) → is_eq (ordering_reverse r) ≡ is_eq r
turned_eq Less = refl
turned_eq Equal = refl
turned_eq Greater = refl

-- a key is a name where the name is the key
pub turned_key : (key name : PackageName) → is_eq (name_cmp key name) ≡ is_key key (Some name)
turned_key key name = ap is_eq (name_total.antisymm key name) ∙ turned_eq (name_cmp name key)

-- a name that is a key is that key
pub key_is : (key name : PackageName) → is_key key (Some name) ≡ true → name ≡ key
key_is key name h = same_names name key h

self_by : (r : Ordering) → r ≡ ordering_reverse r → is_eq r ≡ true
self_by Less e = cc
self_by Equal e = refl
self_by Greater e = cc

-- names of equal parts are equal
pub same_parts : (x y : PackageName) → x.ecosystem ≡ y.ecosystem → x.name ≡ y.name → x ≡ y
same_parts x y e f = λ i. record { ecosystem = e i; name = f i }

-- a name is itself
pub key_self : (key : PackageName) → is_key key (Some key) ≡ true
key_self key = self_by (name_cmp key key) (name_total.antisymm key key)

-- ---- names of records

pub has_append : (key : PackageName) (xs ys : List PackageName) → has_name key (xs ++ ys) ≡ (has_name key xs || has_name key ys)
has_append key xs ys = list_any-append (λ name. is_key key (Some name)) xs ys

entry_has : (key : PackageName) (name : Option PackageName) → has_name key (option_to_list name) ≡ is_key key name
entry_has key None = refl
entry_has key (Some name) = or-false (is_key key (Some name))

entries_have : (key : PackageName) (entries : List Affected)
    → has_name key (flat_map (λ (entry : Affected). option_to_list entry.«package») entries) ≡ list_any (λ (entry : Affected). is_key key entry.«package») entries
entries_have key [] = refl
entries_have key (entry ∷ rest) =
    has_append key (option_to_list entry.«package») (flat_map (λ (e : Affected). option_to_list e.«package») rest)
    ∙ ap (λ b. b || has_name key (flat_map (λ (e : Affected). option_to_list e.«package») rest)) (entry_has key entry.«package»)
    ∙ ap (λ b. is_key key entry.«package» || b) (entries_have key rest)

-- a record names the key exactly if it is among the names of its entries
pub names_have : (key : PackageName) (a : Advisory) → has_name key (names_in a) ≡ is_named key a
names_have key a = entries_have key a.affected

ties : (key x y : PackageName) → name_cmp x y ≡ Equal → is_key key (Some x) ≡ is_key key (Some y)
ties key x y e = ap is_eq (name_total.congr x y key e)

-- names in order are the same names
pub has_order : (key : PackageName) (names : List PackageName) → has_name key (in_order name_cmp names) ≡ has_name key names
has_order key names = any_order (λ name. is_key key (Some name)) (ties key) names

pub order_sorted : (names : List PackageName) → IsStrictlySortedBy name_cmp (in_order name_cmp names)
order_sorted names = in_order_sorted name_total names

-- a name below all others is none of them
pub not_among : (key : PackageName) (names : List PackageName) → AllByRecursion (λ name. name_cmp key name ≡ Less) names → has_name key names ≡ false
not_among key [] h = refl
not_among key (name ∷ names) h = by_test (is_key key (Some name)) (sym (turned_key key name) ∙ ap is_eq h.0) (not_among key names h.1) where
  by_test : (b : Bool) → b ≡ false → has_name key names ≡ false → (b || has_name key names) ≡ false
  by_test true e rest = cc
  by_test false e rest = rest

-- one more entry, whose name was appended
pub one_more_entry : (es : List Affected) (i : ℕ) (x : Affected) (old new all : List PackageName) → i < length es → x ≡ get_or es i x
    → new ≡ old ++ option_to_list x.«package» → old ++ entry_names (drop i es) ≡ all → new ++ entry_names (drop (i + 1) es) ≡ all
one_more_entry es i x old new all lt at n h =
    let rest = entry_names (drop (i + 1) es) in
    ap (λ (xs : List PackageName). xs ++ rest) n
    ∙ append_assoc old (option_to_list x.«package») rest
    ∙ ap (λ (y : Affected). old ++ (option_to_list y.«package» ++ rest)) at
    ∙ ap (λ (xs : List Affected). old ++ entry_names xs) (sym (drop_more es i x lt))
    ∙ h
