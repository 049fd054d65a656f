-- A value without a number has none with a point.
use Rattle.std.proofs.Common.{◌≡◌, true, false, refl}
use Rattle.serde_json.specs.Data.{Data, Items, Members, null, boolean, number, string, array, object, no_items, item, no_members, member}
use Rattle.serde_json.specs.Written.{has_float, items_have_float, members_have_float}
use Rattle.std.proofs.lemmas.Bool.{true≢false, or_parts}
use Rattle.cv_drill.specs.Transcript.{has_number, items_have_number, members_have_number}

mutual
  pub no_float : (value : Data) → has_number value ≡ false → has_float value ≡ false
  no_float null h = refl
  no_float (boolean b) h = refl
  no_float (number n) h = absurd (true≢false h)
  no_float (string text) h = refl
  no_float (array more) h = items_no_float more h
  no_float (object more) h = members_no_float more h

  items_no_float : (more : Items) → items_have_number more ≡ false → items_have_float more ≡ false
  items_no_float no_items h = refl
  items_no_float (item value more) h = let p = or_parts (has_number value) (items_have_number more) h in rw (no_float value p.0) (items_no_float more p.1)

  members_no_float : (more : Members) → members_have_number more ≡ false → members_have_float more ≡ false
  members_no_float no_members h = refl
  members_no_float (member key value more) h = let p = or_parts (has_number value) (members_have_number more) h in rw (no_float value p.0) (members_no_float more p.1)
