-- No number in an update of a feed has a point.
use Rattle.std.proofs.Common.{◌≡◌, ℕ, Bool, true, false, List, [], ◌∷◌, refl, map, filter, ◌%◌, nat_eq}
use Rattle.serde_json.specs.View.{items_of}
use Rattle.serde_json.specs.Written.{has_float, items_have_float}
use Rattle.cv_drill.specs.Lines.{numbers}
use Rattle.cv_drill.specs.Records.{affected_data, debian_data, entry_data, fixed_data, introduced_data, is_kept, last_affected_data, minor, npm_data, package_data, range_data, record_data, update_data}
use Rattle.cv_drill.specs.declared.record.Update.{Update}

debian_has_none : (m j : ℕ) → has_float (debian_data m j) ≡ false
unfolding debian_data entry_data package_data range_data introduced_data fixed_data
debian_has_none m j = refl

npm_has_none : (m j : ℕ) → has_float (npm_data m j) ≡ false
unfolding npm_data entry_data package_data range_data introduced_data last_affected_data
npm_has_none m j = refl

affected_has_none : (m j : ℕ) (even : Bool) → nat_eq (j % 2) 0 ≡ even → has_float (affected_data m j) ≡ false
affected_has_none m j true h = rw h (debian_has_none m j)
affected_has_none m j false h = rw h (npm_has_none m j)

record_has_none : (update : Update) (j : ℕ) → has_float (record_data update j) ≡ false
unfolding record_data
record_has_none update j = rw (affected_has_none (minor update j) j (nat_eq (j % 2) 0) refl) refl

records_have_none : (update : Update) (js : List ℕ) → items_have_float (items_of (map (record_data update) js)) ≡ false
records_have_none update [] = refl
records_have_none update (j ∷ js) = rw (record_has_none update j) (records_have_none update js)

-- the request that updates the feed
pub update_has_none : (update : Update) (count : ℕ) → has_float (update_data update count) ≡ false
update_has_none update count = rw (records_have_none update (filter (is_kept update) (numbers count))) refl
