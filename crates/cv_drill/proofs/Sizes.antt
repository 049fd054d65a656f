-- A script is short.
use Rattle.std.proofs.Common.{◌≡◌, ◌≤◌, ◌<◌, ◌+◌, ◌*◌, ◌^◌, ◌/◌, ◌%◌, ◌∙◌, ℕ, zero, suc, Bool, true, false, cond, List, [], ◌∷◌, ◌++◌, length, map, filter, codes, decimal, refl, ap, arith, nat_lt, nat_eq}
use Rattle.std.specs.Char.{digit_char}
use Rattle.std.specs.List.{range_with_len}
use Rattle.std.proofs.lemmas.Fmt.{length-decimal-le}
use Rattle.std.proofs.Math.Nat.{div-le_self}
use Rattle.std.proofs.lemmas.List.{length-append}
use Rattle.std.proofs.lemmas.Nat.{mod_below}
use Rattle.hex.specs.Hex.{lower_digits}
use Rattle.hex.proofs.HexLemmas.{length-encode_with}
use Rattle.json.specs.Print.{escape, escape_byte, escape_letter, quoted}
use Rattle.serde_json.specs.Data.{Data, Items, Members, null, boolean, number, string, array, object, no_items, item, no_members, member}
use Rattle.serde_json.specs.View.{items_of}
use Rattle.serde_json.specs.Written.{comma_if, compact_text, items_text, members_text, number_text}
use Rattle.cv_base.specs.Digest.{digest_text}
use Rattle.cv_drill.specs.Images.{role_digest, lane, layer_data, layers, lower_layers, register_data, report_data}
use Rattle.cv_drill.specs.Lines.{json_text, lines_text}
use Rattle.cv_drill.specs.Records.{affected_data, debian_data, entry_data, fixed_data, introduced_data, is_kept, last_affected_data, minor, name, npm_data, package_data, range_data, record_data, record_id, update_data}
use Rattle.cv_drill.specs.Script.{list_data, register_lines, report_lines, round_end, script, script_lines}
use Rattle.cv_drill.specs.declared.digest.Role.{Role}
use Rattle.cv_drill.specs.declared.digest.Role.TheVariants.{System, Database, Modules, Opaque, Image}
use Rattle.cv_drill.specs.declared.record.Update.{Update}
use Rattle.cv_drill.specs.declared.record.Update.TheVariants.{First, Second}
use Rattle.cv_drill.proofs.Lists.{lines_joined}

-- no byte is written by more than six
byte_within : (x : ℕ) → length (escape_byte x) ≤ 6
unfolding escape_byte
byte_within x = by (nat_lt 0 (escape_letter x)) (nat_lt x 32) where
  by : (short control : Bool) → length (cond short (92 ∷ escape_letter x ∷ []) (cond control (92 ∷ 117 ∷ 48 ∷ 48 ∷ digit_char (x / 16) ∷ digit_char (x % 16) ∷ []) (x ∷ []))) ≤ 6
  by true control = omega arith
  by false true = omega arith
  by false false = omega arith

escape_within : (s : List ℕ) → length (escape s) ≤ 6 * length s
escape_within [] = omega arith
escape_within (x ∷ xs) =
    let one = byte_within x in
    let more = escape_within xs in
    let whole = length-append (escape_byte x) (escape xs) in
    omega (arith, one, more, whole)

-- at most this number of bytes is written for a value
abbrev mutual
  most : Data → ℕ
  most null = 4
  most (boolean b) = 5
  most (number n) = length (number_text n)
  most (string s) = 6 * length s + 2
  most (array ds) = items_most ds + 2
  most (object ms) = members_most ms + 2

  items_most : Items → ℕ
  items_most no_items = 0
  items_most (item d ds) = most d + 1 + items_most ds

  members_most : Members → ℕ
  members_most no_members = 0
  members_most (member k d ms) = 6 * length k + 4 + most d + members_most ms

comma_within : (later : Bool) → length (comma_if later) ≤ 1
comma_within true = omega arith
comma_within false = omega arith

mutual
  text_within : (d : Data) → length (compact_text d) ≤ most d
  text_within null = omega arith
  text_within (boolean true) = omega arith
  text_within (boolean false) = omega arith
  text_within (number n) = omega arith
  text_within (string s) = let h = escape_within s in let e = length-append (escape s) (34 ∷ []) in omega (arith, h, e)
  text_within (array ds) = let h = items_within false ds in omega (arith, h)
  text_within (object ms) = let h = members_within false ms in omega (arith, h)

  items_within : (later : Bool) (ds : Items) → length (items_text later ds) ≤ items_most ds + 1
  items_within later no_items = omega arith
  items_within later (item d ds) =
      let comma = comma_within later in
      let one = text_within d in
      let more = items_within true ds in
      let front = length-append (comma_if later) (compact_text d ++ items_text true ds) in
      let back = length-append (compact_text d) (items_text true ds) in
      omega (arith, comma, one, more, front, back)

  members_within : (later : Bool) (ms : Members) → length (members_text later ms) ≤ members_most ms + 1
  members_within later no_members = omega arith
  members_within later (member k d ms) =
      let comma = comma_within later in
      let key = escape_within k in
      let one = text_within d in
      let more = members_within true ms in
      let front = length-append (comma_if later) (quoted k ++ 58 ∷ (compact_text d ++ members_text true ms)) in
      let middle = length-append (quoted k) (58 ∷ (compact_text d ++ members_text true ms)) in
      let inner = length-append (escape k) (34 ∷ []) in
      let back = length-append (compact_text d) (members_text true ms) in
      omega (arith, comma, key, one, more, front, middle, inner, back)

-- a value as JSON is no longer than that
json_within : (d : Data) → length (json_text d) ≤ most d
unfolding json_text
json_within d = text_within d

-- numbers of 64 bits have 20 digits at most
digits_within : (n : ℕ) → n < 2 ^ 64 → length (decimal n) ≤ 20
digits_within n h = length-decimal-le 20 n (omega arith) (omega (arith, h)) h

digit_within : (n : ℕ) → length (decimal (n % 10)) ≤ 20
digit_within n = let small = mod_below n 10 (omega arith) in digits_within (n % 10) (omega (arith, small))

name_within : (letter : List ℕ) (j : ℕ) → length letter ≡ 1 → length (name letter j) ≤ 41
name_within letter j one =
    let tens = digit_within (j / 10) in
    let ones = digit_within j in
    let front = length-append letter (decimal (j / 10 % 10) ++ decimal (j % 10)) in
    let back = length-append (decimal (j / 10 % 10)) (decimal (j % 10)) in
    omega (arith, one, tens, ones, front, back)

id_within : (j : ℕ) → j < 2 ^ 32 → length (record_id j) ≤ 84
id_within j h =
    let less = div-le_self j 1000 in
    let thousands = digits_within (j / 1000) (omega (arith, h, less)) in
    let hundreds = digit_within (j / 100) in
    let tens = digit_within (j / 10) in
    let ones = digit_within j in
    let third = length-append (decimal (j / 10 % 10)) (decimal (j % 10)) in
    let second = length-append (decimal (j / 100 % 10)) (decimal (j / 10 % 10) ++ decimal (j % 10)) in
    let first = length-append (decimal (j / 1000)) (decimal (j / 100 % 10) ++ (decimal (j / 10 % 10) ++ decimal (j % 10))) in
    omega (arith, thousands, hundreds, tens, ones, first, second, third)

version_within : (m : ℕ) (ending : List ℕ) → m < 2 ^ 64 → length ending ≡ 2 → length (codes "1." ++ (decimal m ++ ending)) ≤ 24
version_within m ending h two =
    let digits = digits_within m h in
    let whole = length-append (decimal m) ending in
    omega (arith, digits, two, whole)

minor_within : (update : Update) (j : ℕ) → j < 2 ^ 32 → minor update j < 2 ^ 64
minor_within First j h = let less = div-le_self j 40 in omega (arith, h, less)
minor_within Second j h = by (nat_eq (j % 3) 1) (div-le_self j 40) where
  by : (b : Bool) → j / 40 ≤ j → cond b (j / 40 + 1) (j / 40) < 2 ^ 64
  by true less = omega (arith, h, less)
  by false less = omega (arith, h, less)

debian_within : (m j : ℕ) → m < 2 ^ 64 → most (debian_data m j) ≤ 1200
unfolding debian_data entry_data package_data range_data introduced_data fixed_data
debian_within m j h = omega (arith, name_within (codes "p") j refl, version_within m (codes "-1") h refl)

npm_within : (m j : ℕ) → m < 2 ^ 64 → most (npm_data m j) ≤ 1200
unfolding npm_data entry_data package_data range_data introduced_data last_affected_data
npm_within m j h = omega (arith, name_within (codes "n") j refl, version_within m (codes ".0") h refl)

affected_within : (m j : ℕ) → m < 2 ^ 64 → most (affected_data m j) ≤ 1200
affected_within m j h = by (nat_eq (j % 2) 0) where
  by : (even : Bool) → most (cond even (debian_data m j) (npm_data m j)) ≤ 1200
  by true = debian_within m j h
  by false = npm_within m j h

record_within : (update : Update) (j : ℕ) → j < 2 ^ 32 → most (record_data update j) ≤ 2000
unfolding record_data
record_within update j h =
    let affected = affected_within (minor update j) j (minor_within update j h) in
    let called = id_within j h in
    omega (arith, affected, called)

records_within : (update : Update) (a n : ℕ) → a + n < 2 ^ 32 → items_most (items_of (map (record_data update) (filter (is_kept update) (range_with_len a n)))) ≤ n * 2001
records_within update a zero h = omega arith
records_within update a (suc n) h = by (is_kept update a) (records_within update (a + 1) n (omega (arith, h))) where
  by : (kept : Bool) → items_most (items_of (map (record_data update) (filter (is_kept update) (range_with_len (a + 1) n)))) ≤ n * 2001
      → items_most (items_of (map (record_data update) (cond kept (a ∷ filter (is_kept update) (range_with_len (a + 1) n)) (filter (is_kept update) (range_with_len (a + 1) n))))) ≤ suc n * 2001
  by true more = let one = record_within update a (omega (arith, h)) in omega (arith, one, more)
  by false more = omega (arith, more)

update_within : (update : Update) (count : ℕ) → count ≤ 10000 → most (update_data update count) ≤ 20011000
update_within update count h =
    let all = records_within update 0 count (omega (arith, h)) in
    let digits = digits_within 0 (omega arith) in
    omega (arith, all, h, digits)

hash_within : (role : Role) (n : ℕ) → length (digest_text (role_digest role n)) ≤ 71
hash_within role n = let digits = length-encode_with lower_digits (role_digest role n) in omega (arith, digits)

layer_within : (role : Role) (n : ℕ) → most (layer_data (role_digest role n)) ≤ 460
layer_within role n = let hash = hash_within role n in omega (arith, hash)

layers_within : (offset i : ℕ) → items_most (items_of (map layer_data (layers offset i))) ≤ 2305
layers_within offset i = by (nat_eq (i % 2) 1) where
  by : (odd : Bool) → items_most (items_of (map layer_data (lower_layers offset i ++ cond odd (role_digest Opaque (offset + i % 50) ∷ role_digest Modules (offset + (i + 5) % 50) ∷ []) []))) ≤ 2305
  by true =
      let a = layer_within System (offset + i % 50) in
      let b = layer_within Database (offset + (3 * i + 1) % 50) in
      let d = layer_within Modules (offset + (7 * i + 2) % 50) in
      let e = layer_within Opaque (offset + i % 50) in
      let f = layer_within Modules (offset + (i + 5) % 50) in
      omega (arith, a, b, d, e, f)
  by false =
      let a = layer_within System (offset + i % 50) in
      let b = layer_within Database (offset + (3 * i + 1) % 50) in
      let d = layer_within Modules (offset + (7 * i + 2) % 50) in
      omega (arith, a, b, d)

lane_within : (i : ℕ) → length (decimal (lane i)) ≤ 20
lane_within i = let small = mod_below i 8 (omega arith) in digits_within (i % 8) (omega (arith, small))

register_within : (offset i : ℕ) → most (register_data offset i) ≤ 3300
register_within offset i =
    let hash = hash_within Image i in
    let all = layers_within offset i in
    let digits = lane_within i in
    omega (arith, hash, all, digits)

report_within : (i : ℕ) → most (report_data i) ≤ 700
report_within i =
    let hash = hash_within Image i in
    let digits = lane_within i in
    omega (arith, hash, digits)

-- lines of at most this number of bytes
lines_within : (line : ℕ → List ℕ) (k a n : ℕ) → ((i : ℕ) → length (line i) ≤ k) → length (lines_text (map line (range_with_len a n))) ≤ n * (k + 1)
lines_within line k a zero h = omega arith
lines_within line k a (suc n) h =
    let one = h a in
    let more = lines_within line k (a + 1) n h in
    let outer = length-append (line a ++ 10 ∷ []) (lines_text (map line (range_with_len (a + 1) n))) in
    let inner = length-append (line a) (10 ∷ []) in
    grind (arith, one, more, outer, inner)

joined_within : (some more : List (List ℕ)) (m n : ℕ) → length (lines_text some) ≤ m → length (lines_text more) ≤ n → length (lines_text (some ++ more)) ≤ m + n
joined_within some more m n h k =
    let whole = ap length (lines_joined some more) ∙ length-append (lines_text some) (lines_text more) in
    omega (arith, whole, h, k)

line_within : (line : List ℕ) (k : ℕ) → length line ≤ k → length (lines_text (line ∷ [])) ≤ k + 1
line_within line k h =
    let outer = length-append (line ++ 10 ∷ []) [] in
    let inner = length-append line (10 ∷ []) in
    omega (arith, h, outer, inner)

json_line_within : (d : Data) (k : ℕ) → most d ≤ k → length (lines_text (json_text d ∷ [])) ≤ k + 1
json_line_within d k h = let text = json_within d in line_within (json_text d) k (omega (arith, h, text))

registrations_within : (offset images : ℕ) → length (lines_text (register_lines offset images)) ≤ images * 3301
registrations_within offset images =
    lines_within (λ i. json_text (register_data offset i)) 3300 0 images
    (λ i. let text = json_within (register_data offset i) in let size = register_within offset i in omega (arith, text, size))

reports_within : (images : ℕ) → length (lines_text (report_lines images)) ≤ images * 701
reports_within images =
    lines_within (λ i. json_text (report_data i)) 700 0 images
    (λ i. let text = json_within (report_data i) in let size = report_within i in omega (arith, text, size))

end_within : length (lines_text round_end) ≤ 1
end_within = omega arith

list_within : most list_data ≤ 200
list_within = let digits = digits_within 0 (omega arith) in omega (arith, digits)

-- the lines for these numbers of images and records
lines_short : (offset images records : ℕ) → images ≤ 1000 → records ≤ 10000 → length (lines_text (script_lines offset images records)) ≤ 2 ^ 26
unfolding script_lines
lines_short offset images records few many =
    let registered = register_lines offset images in
    let first = json_text (update_data First records) ∷ [] in
    let second = json_text (update_data Second records) ∷ [] in
    let before = registered ++ round_end ++ round_end in
    let between = before ++ first ++ round_end in
    let after = between ++ second ++ round_end in
    let a : length (lines_text before) ≤ images * 3301 + 1 + 1 =
    joined_within (registered ++ round_end) round_end (images * 3301 + 1) 1
    (joined_within registered round_end (images * 3301) 1 (registrations_within offset images) end_within) end_within in
    let b : length (lines_text between) ≤ images * 3301 + 1 + 1 + 20011001 + 1 =
    joined_within (before ++ first) round_end (images * 3301 + 1 + 1 + 20011001) 1
    (joined_within before first (images * 3301 + 1 + 1) 20011001 a (json_line_within (update_data First records) 20011000 (update_within First records many))) end_within in
    let d : length (lines_text after) ≤ images * 3301 + 1 + 1 + 20011001 + 1 + 20011001 + 1 =
    joined_within (between ++ second) round_end (images * 3301 + 1 + 1 + 20011001 + 1 + 20011001) 1
    (joined_within between second (images * 3301 + 1 + 1 + 20011001 + 1) 20011001 b (json_line_within (update_data Second records) 20011000 (update_within Second records many))) end_within in
    let e = joined_within after (report_lines images) (images * 3301 + 1 + 1 + 20011001 + 1 + 20011001 + 1) (images * 701) d (reports_within images) in
    let all = joined_within (after ++ report_lines images) (json_text list_data ∷ []) (images * 3301 + 1 + 1 + 20011001 + 1 + 20011001 + 1 + images * 701) 201 e
    (json_line_within list_data 200 list_within) in
    omega (arith, few, all)

-- the script of a seed
pub script_short : (seed : ℕ) → length (script seed) ≤ 2 ^ 26
unfolding script
script_short seed = lines_short (seed % 1000) 64 2000 (omega arith) (omega arith)
