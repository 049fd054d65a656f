-- What serde_json makes of a tree, and how its members are found.
use Rattle.std.specs.Prelude.{◌≡◌, ℕ, Bool, true, false, not, ◌||◌, cond, List, [], ◌∷◌, map, Option, Some, None, is_some, option_map, Ok, Err, refl}
use Rattle.std.specs.Borrow.{Bor}
use Rattle.std.specs.Option.{ok_or}
use Rattle.std.specs.Str.{bytes_eq, is_utf8}
use Rattle.std.specs.Cmp.Lexicographic.{bytes_decides}
use Rattle.std.proofs.Common.{◌∙◌, sym, ap}
use Rattle.std.proofs.lemmas.Bool.{or_parts}
use Rattle.json.specs.Json as json
use Rattle.json.specs.Find as find
use Rattle.json.specs.Value.{value_view, items_view}
use Rattle.json.specs.declared.value.Value.{Value}
use Rattle.serde_json.specs.Data.{Num, Data, number, Members, no_members, put, item}
use Rattle.serde_json.specs.Find.{get, get_member, as_null}
use Rattle.serde_json.specs.Read.{number_of, of_json, of_items, of_members}
use Rattle.serde_json.specs.View.{items_of}
use Rattle.serde_json.proofs.Views.{get_member-put, get_member-put_other}
use Rattle.cv_osv_text.specs.Tree.{data_of, data_items, data_members, data_view, has_bad_number, items_bad_number, members_bad_number, number_or, tree_of}
use Rattle.cv_request.specs.Line.{json_or}
use Rattle.cv_request.specs.declared.error.RequestFault.TheVariants.{BadJson}

number_is : (n : Option Num) → not (is_some n) ≡ false → option_map number n ≡ Some (number_or n)
number_is None h = absurd (cc)
number_is (Some n) h = refl

number_none : (n : Option Num) → not (is_some n) ≡ true → option_map number n ≡ None
number_none None h = refl
number_none (Some n) h = absurd (cc)

-- serde_json has the value of a tree whose numbers are in range
mutual
  pub of_json_is : (j : json.Json) → has_bad_number j ≡ false → of_json j ≡ Some (data_of j)
  of_json_is json.null h = refl
  of_json_is (json.boolean b) h = refl
  of_json_is (json.number s) h = number_is (number_of s) h
  of_json_is (json.string s) h = refl
  of_json_is (json.array js) h = rw (of_items_is js h) refl
  of_json_is (json.object ms) h = rw (of_members_is ms no_members h) refl

  of_items_is : (js : json.Items) → items_bad_number js ≡ false → of_items js ≡ Some (data_items js)
  of_items_is json.no_items h = refl
  of_items_is (json.item j js) h =
      let both = or_parts (has_bad_number j) (items_bad_number js) h in
      rw (of_json_is j both.0, of_items_is js both.1) refl

  of_members_is : (ms : json.Members) (found : Members) → members_bad_number ms ≡ false → of_members ms found ≡ Some (data_members ms found)
  of_members_is json.no_members found h = refl
  of_members_is (json.member k j ms) found h =
      let both = or_parts (has_bad_number j) (members_bad_number ms) h in
      rw (of_json_is j both.0) (of_members_is ms (put k (data_of j) found) both.1)

-- one of the parts has such a number
item_none : (j : json.Json) (js : json.Items) (bad : Bool) → has_bad_number j ≡ bad → (has_bad_number j ≡ true → of_json j ≡ None) → (items_bad_number js ≡ true → of_items js ≡ None)
    → (bad || items_bad_number js) ≡ true → of_items (json.item j js) ≡ None
item_none j js true e here later h = rw (here e) refl
item_none j js false e here later h = rw (of_json_is j e, later h) refl

member_none : (k : List ℕ) (j : json.Json) (ms : json.Members) (found : Members) (bad : Bool) → has_bad_number j ≡ bad → (has_bad_number j ≡ true → of_json j ≡ None)
    → (members_bad_number ms ≡ true → of_members ms (put k (data_of j) found) ≡ None)
    → (bad || members_bad_number ms) ≡ true → of_members (json.member k j ms) found ≡ None
member_none k j ms found true e here later h = rw (here e) refl
member_none k j ms found false e here later h = rw (of_json_is j e) (later h)

-- serde_json has no value of a tree with a number that is out of range
mutual
  pub of_json_none : (j : json.Json) → has_bad_number j ≡ true → of_json j ≡ None
  of_json_none json.null h = absurd (cc)
  of_json_none (json.boolean b) h = absurd (cc)
  of_json_none (json.number s) h = number_none (number_of s) h
  of_json_none (json.string s) h = absurd (cc)
  of_json_none (json.array js) h = rw (of_items_none js h) refl
  of_json_none (json.object ms) h = rw (of_members_none ms no_members h) refl

  of_items_none : (js : json.Items) → items_bad_number js ≡ true → of_items js ≡ None
  of_items_none json.no_items h = absurd (cc)
  of_items_none (json.item j js) h = item_none j js (has_bad_number j) refl (λ e. of_json_none j e) (λ e. of_items_none js e) h

  of_members_none : (ms : json.Members) (found : Members) → members_bad_number ms ≡ true → of_members ms found ≡ None
  of_members_none json.no_members found h = absurd (cc)
  of_members_none (json.member k j ms) found h =
      member_none k j ms found (has_bad_number j) refl (λ e. of_json_none j e) (λ e. of_members_none ms (put k (data_of j) found) e) h

-- the last value of a key, or one that was found before
abbrev found_or : Option json.Json → Option Data → Option Data
found_or None before = before
found_or (Some j) before = Some (data_of j)

-- one more member is put before the others
put_first : (name k : List ℕ) (j : json.Json) (found : Members) (b : Bool) → bytes_eq k name ≡ b
    → get_member name (put k (data_of j) found) ≡ found_or (cond b (Some j) None) (get_member name found)
put_first name k j found true e = ap (λ n. get_member n (put k (data_of j) found)) (sym ((bytes_decides k name).0 e)) ∙ get_member-put k (data_of j) found
put_first name k j found false e =
    get_member-put_other name k (data_of j) found (λ same. absurd (cc (e, (bytes_decides k name).1 (sym same))))

later : (o : Option json.Json) (first : Option json.Json) (before : Option Data) → found_or o (found_or first before) ≡ found_or (find.later_or o first) before
later None first before = refl
later (Some j) first before = refl

member_is : (name : List ℕ) (ms : json.Members) (found : Members) → get_member name (data_members ms found) ≡ found_or (find.get_member name ms) (get_member name found)
member_is name json.no_members found = refl
member_is name (json.member k j ms) found =
    member_is name ms (put k (data_of j) found)
    ∙ ap (found_or (find.get_member name ms)) (put_first name k j found (bytes_eq k name) refl)
    ∙ later (find.get_member name ms) (cond (bytes_eq k name) (Some j) None) (get_member name found)

found_none : (o : Option json.Json) → found_or o None ≡ option_map data_of o
found_none None = refl
found_none (Some j) = refl

-- a number has no members
of_number : (name : List ℕ) (n : Option Num) → get name (number_or n) ≡ None
of_number name None = refl
of_number name (Some n) = refl

-- the member with a name
pub get_is : (name : List ℕ) (j : json.Json) → get name (data_of j) ≡ option_map data_of (find.get name j)
get_is name json.null = refl
get_is name (json.boolean b) = refl
get_is name (json.number s) = of_number name (number_of s)
get_is name (json.string s) = refl
get_is name (json.array js) = refl
get_is name (json.object ms) = member_is name ms no_members ∙ found_none (find.get_member name ms)

-- the same of a member as the code has it
pub member_found : {A : Type 0} (name : List ℕ) (j : json.Json) (found : Option (Bor (Value A))) → option_map (λ v. value_view v.now) found ≡ find.get name j → option_map (λ v. data_view v.now) found ≡ get name (data_of j)
member_found name j None h = rw (get_is name j, ← h) refl
member_found name j (Some v) h = rw (get_is name j, ← h) refl

is_number : (n : Option Num) → as_null (number_or n) ≡ None
is_number None = refl
is_number (Some n) = refl

-- null alone is null
pub null_is : (j : json.Json) → find.is_null j ≡ is_some (as_null (data_of j))
null_is json.null = refl
null_is (json.boolean b) = refl
null_is (json.number s) = sym (ap is_some (is_number (number_of s)))
null_is (json.string s) = refl
null_is (json.array js) = refl
null_is (json.object ms) = refl

-- the items of a list are the values of its trees
pub items_are : {A : Type 0} (vs : List (Value A)) → items_of (map data_view vs) ≡ data_items (items_view vs)
items_are [] = refl
items_are (v ∷ vs) = ap (item (data_view v)) (items_are vs)

some_found : {A E : Type 0} (o : Option A) (bad : E) (x : A) → ok_or o bad ≡ Ok x → o ≡ Some x
some_found None bad x h = absurd (cc)
some_found (Some y) bad x h = let same : y ≡ x = cc in ap Some same

-- the tree of a line that is a text
pub tree_found : (line text : List ℕ) (j : json.Json) → text ≡ line → ok_or (tree_of text) BadJson ≡ Ok j → tree_of line ≡ Some j
tree_found line text j same h = ap tree_of (sym same) ∙ some_found (tree_of text) BadJson j h

-- a line that is such a tree
pub json_found : (line : List ℕ) (j : json.Json) → is_utf8 line ≡ true → tree_of line ≡ Some j → has_bad_number j ≡ false → json_or line ≡ Ok (data_of j)
json_found line j text tree good = rw (text, tree, of_json_is j good) refl

-- a line with a number that is out of range
pub json_number : (line : List ℕ) (j : json.Json) → is_utf8 line ≡ true → tree_of line ≡ Some j → has_bad_number j ≡ true → json_or line ≡ Err BadJson
json_number line j text tree bad = rw (text, tree, of_json_none j bad) refl

-- a line that is not JSON
pub json_none : (line : List ℕ) → is_utf8 line ≡ true → tree_of line ≡ None → json_or line ≡ Err BadJson
json_none line text none = rw (text, none) refl

-- a line that is not a text
pub json_bytes : (line : List ℕ) → is_utf8 line ≡ false → json_or line ≡ Err BadJson
json_bytes line bytes = rw bytes refl
