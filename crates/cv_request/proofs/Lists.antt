-- A list of records, by the values of its items.
use Rattle.std.specs.Prelude.{◌≡◌, ◌<◌, ◌≤◌, List, [], length, map, Some, None, Err, refl}
use Rattle.std.proofs.Common.{◌∙◌, ap, sym, le-ltb, lt-ltb}
use Rattle.std.proofs.lemmas.List.{length-map}
use Rattle.cv_base.specs.declared.limits.TheConstants.{MAX_ADVISORIES}
use Rattle.cv_osv.specs.Json.{items_list}
use Rattle.cv_osv.specs.Records.{NotList, TooMany, records_of}
use Rattle.cv_osv.specs.code.Appended.{all_appended}
use Rattle.cv_osv.proofs.Appended.{all_appended_listed, items_list-items_of}
use Rattle.serde_json.specs.Data.{Data}
use Rattle.serde_json.specs.Find.{as_array}
use Rattle.serde_json.specs.View.{items_of}

count_of : {A : Type 0} (f : A → Data) (xs : List A) → length (items_list (items_of (map f xs))) ≡ length xs
count_of f xs = ap length (items_list-items_of (map f xs)) ∙ length-map xs f

-- a value that is not a list
pub records_none : (d : Data) → as_array d ≡ None → records_of d ≡ Err NotList
unfolding records_of
records_none d e = rw e refl

-- a list that is too long
pub records_over : {A : Type 0} (f : A → Data) (d : Data) (xs : List A) → as_array d ≡ Some (items_of (map f xs)) → MAX_ADVISORIES < length xs → records_of d ≡ Err TooMany
unfolding records_of
records_over f d xs e long = rw (e, count_of f xs, lt-ltb MAX_ADVISORIES (length xs) long) refl

-- a list that is not
pub records_within : {A : Type 0} (f : A → Data) (d : Data) (xs : List A) → as_array d ≡ Some (items_of (map f xs)) → length xs ≤ MAX_ADVISORIES → records_of d ≡ all_appended [] (map f xs)
unfolding records_of
records_within f d xs e short = rw (e, count_of f xs, le-ltb MAX_ADVISORIES (length xs) short, items_list-items_of (map f xs)) (sym (all_appended_listed (map f xs)))
