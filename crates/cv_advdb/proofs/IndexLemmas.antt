-- What a map from keys to records has at each key after one more record is put into it.
use Rattle.std.specs.Prelude.{◌≡◌, ℕ, ◌+◌, ◌<◌, Bool, true, false, cond, ◌||◌, List, [], ◌∷◌, ◌++◌, filter, get_or, length, take, Option, Some, unwrap_or, refl}
use Rattle.std.specs.BTreeMap.{is_at}
use Rattle.std.specs.List.{AllByRecursion}
use Rattle.std.specs.List.Sorted.{IsStrictlySortedBy}
use Rattle.std.specs.Map.{lookup}
use Rattle.std.specs.Ordering.{is_eq}
use Rattle.std.specs.declared.cmp.Ordering.TheVariants.{Less}
use Rattle.std.proofs.Common.{ap, arith, sym, subst, ◌∙◌}
use Rattle.std.proofs.lemmas.List.{append-nil, take_more}
use Rattle.std.proofs.lemmas.List.Elements.{filter-append}
use Rattle.cv_base.specs.InOrder.{in_order}
use Rattle.cv_base.specs.declared.advisory.Advisory.{Advisory}
use Rattle.cv_base.specs.declared.«package».PackageName.{PackageName}
use Rattle.cv_match.specs.Keys.{is_key, is_named, name_cmp}
use Rattle.cv_advdb.specs.Touched.{has_name}
use Rattle.cv_advdb.specs.code.Index.{found_under, names_in}
use Rattle.cv_advdb.proofs.NameLemmas.{has_order, key_is, names_have, not_among}

-- a record, if it stands under a key
abbrev pub if_named : Bool → Advisory → List Advisory
if_named b a = cond b (a ∷ []) []

-- names that remain, of which the first is below the others
pub one_more_name : (key name : PackageName) (names : List PackageName) (a : Advisory) (others : List Advisory)
    → AllByRecursion (λ n. name_cmp name n ≡ Less) names
    → (others ++ if_named (is_key key (Some name)) a) ++ if_named (has_name key names) a ≡ others ++ if_named (has_name key (name ∷ names)) a
one_more_name key name names a others h = by_test (is_key key (Some name)) refl where
  by_test : (b : Bool) → is_key key (Some name) ≡ b
      → (others ++ if_named b a) ++ if_named (has_name key names) a ≡ others ++ if_named (b || has_name key names) a
  by_test true e =
      let is : name ≡ key = key_is key name e in
      let none : has_name key names ≡ false = not_among key names (subst (λ (k : PackageName). AllByRecursion (λ n. name_cmp k n ≡ Less) names) is h) in
      ap (λ b. (others ++ (a ∷ [])) ++ if_named b a) none ∙ append-nil (others ++ (a ∷ []))
  by_test false e = ap (λ (xs : List Advisory). xs ++ if_named (has_name key names) a) (append-nil others)

-- the names of a record in order, as a test of the record
pub named_once : (key : PackageName) (a : Advisory) → if_named (has_name key (in_order name_cmp (names_in a))) a ≡ filter (is_named key) (a ∷ [])
named_once key a = ap (λ b. if_named b a) (has_order key (names_in a) ∙ names_have key a)

-- ---- as the code takes the names and the records one by one

pub one_more_key : (key name : PackageName) (names rest : List PackageName) (a : Advisory) (new now all : List Advisory) → names ≡ name ∷ rest
    → IsStrictlySortedBy name_cmp names → new ≡ now ++ if_named (is_key key (Some name)) a → now ++ if_named (has_name key names) a ≡ all
    → new ++ if_named (has_name key rest) a ≡ all
unfolding IsStrictlySortedBy
one_more_key key name names rest a new now all e s n h =
    let t : IsStrictlySortedBy name_cmp (name ∷ rest) = subst (IsStrictlySortedBy name_cmp) e s in
    ap (λ (xs : List Advisory). xs ++ if_named (has_name key rest) a) n
    ∙ one_more_name key name rest a now t.0
    ∙ ap (λ (ns : List PackageName). now ++ if_named (has_name key ns) a) (sym e)
    ∙ h

pub rest_sorted : (name : PackageName) (names rest : List PackageName) → names ≡ name ∷ rest → IsStrictlySortedBy name_cmp names → IsStrictlySortedBy name_cmp rest
unfolding IsStrictlySortedBy
rest_sorted name names rest e s = let t : IsStrictlySortedBy name_cmp (name ∷ rest) = subst (IsStrictlySortedBy name_cmp) e s in t.1

pub no_more_keys : (key : PackageName) (names : List PackageName) (a : Advisory) (now all : List Advisory) → length names ≡ 0
    → now ++ if_named (has_name key names) a ≡ all → now ≡ all
no_more_keys key [] a now all e h = sym (append-nil now) ∙ h
no_more_keys key (name ∷ names) a now all e h = absurd (omega arith)

-- one more record
pub one_more_record : (key : PackageName) (records : List Advisory) (i : ℕ) (a : Advisory) (new now : List Advisory) → i < length records → a ≡ get_or records i a
    → new ≡ now ++ filter (is_named key) (a ∷ []) → now ≡ filter (is_named key) (take i records) → new ≡ filter (is_named key) (take (i + 1) records)
one_more_record key records i a new now lt at n h =
    n ∙ ap (λ (xs : List Advisory). xs ++ filter (is_named key) (a ∷ [])) h
    ∙ sym (filter-append (is_named key) (take i records) (a ∷ []))
    ∙ ap (λ (x : Advisory). filter (is_named key) (take i records ++ x ∷ [])) at
    ∙ ap (filter (is_named key)) (sym (take_more records i a lt))

-- what stands at a key after a list with one more record was put at a name
pub put_under : (name key : PackageName) (olds news : List (PackageName × List Advisory)) (a : Advisory) (records : List Advisory)
    → lookup (is_at (name_cmp key)) news ≡ cond (is_eq (name_cmp name key)) (Some records) (lookup (is_at (name_cmp key)) olds)
    → records ≡ found_under name olds ++ a ∷ [] → found_under key news ≡ found_under key olds ++ if_named (is_key key (Some name)) a
put_under name key olds news a records h e = ap (λ (o : Option (List Advisory)). unwrap_or o []) h ∙ by_test (is_key key (Some name)) refl where
  by_test : (b : Bool) → is_key key (Some name) ≡ b
      → unwrap_or (cond b (Some records) (lookup (is_at (name_cmp key)) olds)) [] ≡ found_under key olds ++ if_named b a
  by_test true k = e ∙ ap (λ (n : PackageName). found_under n olds ++ a ∷ []) (key_is key name k)
  by_test false k = sym (append-nil (found_under key olds))
