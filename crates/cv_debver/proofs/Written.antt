-- The texts that `is_version` takes are those that the grammar writes.
use Rattle.std.proofs.Common.{◌≡◌, ℕ, ◌+◌, ◌<◌, Bool, true, false, ◌&&◌, List, [], ◌∷◌, ◌++◌, length, take, drop, get_or, nat_lt, Option, Some, None, refl, ap, sym, ◌∙◌, add-one, arith, codes, eqb-true, ltb-true}
use Rattle.std.proofs.lemmas.Bool.{and_parts, or_parts}
use Rattle.std.proofs.lemmas.Bool.Decides.{nat_tests}
use Rattle.std.proofs.lemmas.List.{take-append-drop, take_at, drop_at, drop-drop, drop_more, length-append}
use Rattle.std.proofs.lemmas.List.Folds.{list_any-append}
use Rattle.std.proofs.lemmas.List.Sums.{passes_at_first}
use Rattle.std.specs.List.{list_all, list_any, position, position_or_len}
use Rattle.std.specs.Prelude.{IfSome, IsNone, IsTrue}
use Rattle.cv_order.specs.Digits.{is_digit}
use Rattle.cv_debver.specs.Version.{Version, last_position, is_colon, is_hyphen, split_at_hyphen, split_at_colon, with_epoch, version_of}
use Rattle.cv_debver.specs.Grammar.{one_or_more, is_revision_byte, is_upstream_byte, are_version_parts, is_version, with_colon, with_hyphen, IsVersion}

-- Which bytes are no colon, and which no hyphen.
digit_no_colon : (x : ℕ) → is_digit x ≡ true → is_colon x ≡ false
digit_no_colon x h = grind (arith, nat_tests)

revision_no_colon : (x : ℕ) → is_revision_byte x ≡ true → is_colon x ≡ false
revision_no_colon x h = grind (arith, nat_tests)

revision_no_hyphen : (x : ℕ) → is_revision_byte x ≡ true → is_hyphen x ≡ false
revision_no_hyphen x h = grind (arith, nat_tests)

upstream_no_colon : (x : ℕ) → is_upstream_byte x ≡ true → is_colon x ≡ false
upstream_no_colon x h = grind (arith, nat_tests)

none_of : (p q : ℕ → Bool) → ((x : ℕ) → q x ≡ true → p x ≡ false) → (xs : List ℕ) → list_all q xs ≡ true → list_any p xs ≡ false
none_of p q apart [] h = refl
none_of p q apart (x ∷ xs) h = let k = and_parts (q x) (list_all q xs) h in rw (apart x k.0, none_of p q apart xs k.1) refl

none_of_some : (p q : ℕ → Bool) → ((x : ℕ) → q x ≡ true → p x ≡ false) → (xs : List ℕ) → one_or_more q xs ≡ true → list_any p xs ≡ false
none_of_some p q apart xs h = none_of p q apart xs (and_parts (nat_lt 0 (length xs)) (list_all q xs) h).1

-- Where a byte stands first.
first_by : (p : ℕ → Bool) (x : ℕ) (xs : List ℕ) (n : ℕ) → p x ≡ false → position_or_len p xs ≡ n → position_or_len p (x ∷ xs) ≡ n + 1
first_by p x xs n e more = simp (e, more) (omega arith)

first_place : (p : ℕ → Bool) (xs ys : List ℕ) (y : ℕ) → list_any p xs ≡ false → p y ≡ true → position_or_len p (xs ++ y ∷ ys) ≡ length xs
first_place p [] ys y none e = simp e
first_place p (x ∷ xs) ys y none e =
    let k = or_parts (p x) (list_any p xs) none in
    first_by p x (xs ++ y ∷ ys) (length xs) k.0 (first_place p xs ys y k.1 e) ∙ simp add-one

no_place : (p : ℕ → Bool) (xs : List ℕ) → list_any p xs ≡ false → position_or_len p xs ≡ length xs
no_place p [] none = refl
no_place p (x ∷ xs) none = let k = or_parts (p x) (list_any p xs) none in first_by p x xs (length xs) k.0 (no_place p xs k.1) ∙ simp add-one

position_first : (p : ℕ → Bool) (xs ys : List ℕ) (y : ℕ) → list_any p xs ≡ false → p y ≡ true → position p (xs ++ y ∷ ys) ≡ Some (length xs)
position_first p xs ys y none e =
    let inside : nat_lt (length xs) (length (xs ++ y ∷ ys)) ≡ true = simp length-append (grind (arith, nat_tests)) in
    rw (first_place p xs ys y none e, inside) refl

position_none : (p : ℕ → Bool) (xs : List ℕ) → list_any p xs ≡ false → position p xs ≡ None
position_none p xs none = let past : nat_lt (length xs) (length xs) ≡ false = grind (arith, nat_tests) in rw (no_place p xs none, past) refl

-- Where a byte stands last.
last_none : (p : ℕ → Bool) (xs : List ℕ) → list_any p xs ≡ false → last_position p xs ≡ None
last_none p [] none = refl
last_none p (x ∷ xs) none = let k = or_parts (p x) (list_any p xs) none in rw (last_none p xs k.1, k.0) refl

last_place : (p : ℕ → Bool) (xs ys : List ℕ) (y : ℕ) → list_any p ys ≡ false → p y ≡ true → last_position p (xs ++ y ∷ ys) ≡ Some (length xs)
last_place p [] ys y none e = rw (last_none p ys none, e) refl
last_place p (x ∷ xs) ys y none e = rw (last_place p xs ys y none e) (simp add-one)

-- What comes before and after a byte.
after_byte : (xs ys : List ℕ) (y : ℕ) → drop (length xs + 1) (xs ++ y ∷ ys) ≡ ys
after_byte xs ys y = sym (drop-drop 1 (length xs) (xs ++ y ∷ ys)) ∙ ap (drop 1) (drop_at xs (y ∷ ys) (length xs) refl)

-- From the grammar to the parts.
cut_at_colon : (epoch body : List ℕ) → list_any is_colon epoch ≡ false → version_of (epoch ++ 58 ∷ body) ≡ with_epoch epoch body
cut_at_colon epoch body none =
    ap (split_at_colon (epoch ++ 58 ∷ body)) (position_first is_colon epoch body 58 none refl)
    ∙ rw (take_at epoch (58 ∷ body) (length epoch) refl, after_byte epoch body 58) refl

cut_at_no_colon : (body : List ℕ) → list_any is_colon body ≡ false → version_of body ≡ with_epoch (codes "0") body
cut_at_no_colon body none = ap (split_at_colon body) (position_none is_colon body none)

cut_at_hyphen : (epoch upstream revision : List ℕ) → list_any is_hyphen revision ≡ false → with_epoch epoch (upstream ++ 45 ∷ revision) ≡ record { epoch = epoch; upstream = upstream; revision = revision }
cut_at_hyphen epoch upstream revision none =
    ap (split_at_hyphen epoch (upstream ++ 45 ∷ revision)) (last_place is_hyphen upstream revision 45 none refl)
    ∙ rw (take_at upstream (45 ∷ revision) (length upstream) refl, after_byte upstream revision 45) refl

cut_at_no_hyphen : (epoch upstream : List ℕ) → list_any is_hyphen upstream ≡ false → with_epoch epoch upstream ≡ record { epoch = epoch; upstream = upstream; revision = codes "0" }
cut_at_no_hyphen epoch upstream none = ap (split_at_hyphen epoch upstream) (last_none is_hyphen upstream none)

no_colon : (upstream : List ℕ) (revision : Option (List ℕ)) → IsTrue (one_or_more is_upstream_byte upstream) → IfSome revision (λ bytes. IsTrue (one_or_more is_revision_byte bytes)) → list_any is_colon (with_hyphen upstream revision) ≡ false
no_colon upstream None u r = none_of_some is_colon is_upstream_byte upstream_no_colon upstream u
no_colon upstream (Some revision) u r =
    list_any-append is_colon upstream (45 ∷ revision)
    ∙ rw (none_of_some is_colon is_upstream_byte upstream_no_colon upstream u, none_of_some is_colon is_revision_byte revision_no_colon revision r) refl

parts_pass : (epoch upstream revision : List ℕ) → one_or_more is_digit epoch ≡ true → one_or_more is_upstream_byte upstream ≡ true → one_or_more is_revision_byte revision ≡ true
    → are_version_parts (record { epoch = epoch; upstream = upstream; revision = revision }) ≡ true
parts_pass epoch upstream revision e u r = rw (e, u, r) refl

body_passes : (epoch upstream : List ℕ) (revision : Option (List ℕ)) → one_or_more is_digit epoch ≡ true → IsTrue (one_or_more is_upstream_byte upstream) → IfSome revision (λ bytes. IsTrue (one_or_more is_revision_byte bytes))
    → (IsNone revision → list_any is_hyphen upstream ≡ false) → are_version_parts (with_epoch epoch (with_hyphen upstream revision)) ≡ true
body_passes epoch upstream None e u r none = ap are_version_parts (cut_at_no_hyphen epoch upstream (none refl)) ∙ parts_pass epoch upstream (codes "0") e u refl
body_passes epoch upstream (Some revision) e u r none =
    ap are_version_parts (cut_at_hyphen epoch upstream revision (none_of_some is_hyphen is_revision_byte revision_no_hyphen revision r)) ∙ parts_pass epoch upstream revision e u r

written_passes : (epoch : Option (List ℕ)) (upstream : List ℕ) (revision : Option (List ℕ)) → IfSome epoch (λ digits. IsTrue (one_or_more is_digit digits)) → IsTrue (one_or_more is_upstream_byte upstream)
    → IfSome revision (λ bytes. IsTrue (one_or_more is_revision_byte bytes)) → (IsNone revision → list_any is_hyphen upstream ≡ false) → is_version (with_colon epoch (with_hyphen upstream revision)) ≡ true
written_passes None upstream revision e u r none =
    ap are_version_parts (cut_at_no_colon (with_hyphen upstream revision) (no_colon upstream revision u r)) ∙ body_passes (codes "0") upstream revision refl u r none
written_passes (Some epoch) upstream revision e u r none =
    ap are_version_parts (cut_at_colon epoch (with_hyphen upstream revision) (none_of_some is_colon is_digit digit_no_colon epoch e)) ∙ body_passes epoch upstream revision e u r none

pub is_version-from_IsVersion : (text : List ℕ) → IsVersion text → IsTrue (is_version text)
is_version-from_IsVersion text v = ap is_version v.written ∙ written_passes v.epoch v.upstream v.revision v.epoch_digits v.upstream_bytes v.revision_bytes v.no_hyphen

-- From the parts to the grammar.
parted_by : (xs : List ℕ) (y place : ℕ) → place < length xs → get_or xs place 0 ≡ y → xs ≡ take place xs ++ y ∷ drop (place + 1) xs
parted_by xs y place inside e = sym (take-append-drop place xs) ∙ ap (λ ys. take place xs ++ ys) (drop_more xs place 0 inside ∙ rw e refl)

-- a byte that stands last is there, by whether more come after the first and whether the first passes
last_by : (p : ℕ → Bool) (y x : ℕ) (xs : List ℕ) (after : Option ℕ) (here : Bool) → ((x : ℕ) → p x ≡ true → x ≡ y) → last_position p xs ≡ after → p x ≡ here
    → ((place : ℕ) → last_position p xs ≡ Some place → (place < length xs) × (get_or xs place 0 ≡ y)) → (place : ℕ) → last_position p (x ∷ xs) ≡ Some place → (place < length (x ∷ xs)) × (get_or (x ∷ xs) place 0 ≡ y)
last_by p y x xs (Some n) here means e t more place h =
    let k : (n < length xs) × (get_or xs n 0 ≡ y) = more n e in
    let q : Some (n + 1) ≡ Some place = rw e at h in
    let m : n + 1 ≡ place = cc in
    (omega (arith, k.0), rw (sym m, add-one) k.1)
last_by p y x xs None true means e t more place h =
    let q : Some 0 ≡ Some place = rw (e, t) at h in
    let m : 0 ≡ place = cc in
    (omega arith, rw (sym m) (means x t))
last_by p y x xs None false means e t more place h = let q : None ≡ Some place = rw (e, t) at h in cc

last_is : (p : ℕ → Bool) (y : ℕ) → ((x : ℕ) → p x ≡ true → x ≡ y) → (xs : List ℕ) (place : ℕ) → last_position p xs ≡ Some place → (place < length xs) × (get_or xs place 0 ≡ y)
last_is p y means [] place h = cc
last_is p y means (x ∷ xs) place h = last_by p y x xs (last_position p xs) (p x) means refl refl (last_is p y means xs) place h

no_last_by : (p : ℕ → Bool) (x : ℕ) (xs : List ℕ) (after : Option ℕ) (here : Bool) → last_position p xs ≡ after → p x ≡ here → (last_position p xs ≡ None → list_any p xs ≡ false) → last_position p (x ∷ xs) ≡ None → list_any p (x ∷ xs) ≡ false
no_last_by p x xs (Some n) here e t more h = let q : Some (n + 1) ≡ None = rw e at h in cc
no_last_by p x xs None true e t more h = let first : ℕ = 0 in let q : Some first ≡ None = rw (e, t) at h in cc
no_last_by p x xs None false e t more h = rw (t, more e) refl

no_last : (p : ℕ → Bool) (xs : List ℕ) → last_position p xs ≡ None → list_any p xs ≡ false
no_last p [] h = refl
no_last p (x ∷ xs) h = no_last_by p x xs (last_position p xs) (p x) refl refl (no_last p xs) h

hyphen_is : (x : ℕ) → is_hyphen x ≡ true → x ≡ 45
hyphen_is x h = eqb-true x 45 h

body_written : (text : List ℕ) (epoch : Option (List ℕ)) (digits body : List ℕ) (last : Option ℕ) → text ≡ with_colon epoch body → IfSome epoch (λ digits. IsTrue (one_or_more is_digit digits)) → last_position is_hyphen body ≡ last
    → are_version_parts (split_at_hyphen digits body last) ≡ true → IsVersion text
body_written text epoch digits body (Some place) w e stands h =
    let k = and_parts (one_or_more is_digit digits && one_or_more is_upstream_byte (take place body)) (one_or_more is_revision_byte (drop (place + 1) body)) h in
    let j = and_parts (one_or_more is_digit digits) (one_or_more is_upstream_byte (take place body)) k.0 in
    let found = last_is is_hyphen 45 hyphen_is body place stands in
    record {
      epoch = epoch;
      upstream = take place body;
      revision = Some (drop (place + 1) body);
      written = w ∙ ap (with_colon epoch) (parted_by body 45 place found.0 found.1);
      epoch_digits = e;
      upstream_bytes = j.1;
      revision_bytes = k.1;
      no_hyphen = λ h. cc;
    }
body_written text epoch digits body None w e none h =
    let k = and_parts (one_or_more is_digit digits && one_or_more is_upstream_byte body) (one_or_more is_revision_byte (codes "0")) h in
    let j = and_parts (one_or_more is_digit digits) (one_or_more is_upstream_byte body) k.0 in
    record { epoch = epoch; upstream = body; revision = None; written = w; epoch_digits = e; upstream_bytes = j.1; revision_bytes = tt; no_hyphen = λ h. no_last is_hyphen body none }

digits_pass : (parts : Version) → are_version_parts parts ≡ true → one_or_more is_digit parts.epoch ≡ true
digits_pass parts h =
    let k = and_parts (one_or_more is_digit parts.epoch && one_or_more is_upstream_byte parts.upstream) (one_or_more is_revision_byte parts.revision) h in
    (and_parts (one_or_more is_digit parts.epoch) (one_or_more is_upstream_byte parts.upstream) k.0).0

epoch_is : (digits body : List ℕ) (last : Option ℕ) → (split_at_hyphen digits body last).epoch ≡ digits
epoch_is digits body (Some place) = refl
epoch_is digits body None = refl

text_written : (text : List ℕ) (inside : Bool) → nat_lt (position_or_len is_colon text) (length text) ≡ inside → is_version text ≡ true → IsVersion text
text_written text true e h =
    let place = position_or_len is_colon text in
    let within : place < length text = ltb-true place (length text) e in
    let colon : get_or text place 0 ≡ 58 = eqb-true (get_or text place 0) 58 (passes_at_first is_colon text 0 within) in
    let body = drop (place + 1) text in
    let parts : are_version_parts (with_epoch (take place text) body) ≡ true = rw e at h in
    let digits : one_or_more is_digit (take place text) ≡ true = rw (epoch_is (take place text) body (last_position is_hyphen body)) at (digits_pass (with_epoch (take place text) body) parts) in
    body_written text (Some (take place text)) (take place text) body (last_position is_hyphen body) (parted_by text 58 place within colon) digits refl parts
text_written text false e h =
    let parts : are_version_parts (with_epoch (codes "0") text) ≡ true = rw e at h in
    body_written text None (codes "0") text (last_position is_hyphen text) refl tt refl parts

pub IsVersion-from_is_version : (text : List ℕ) → IsTrue (is_version text) → IsVersion text
IsVersion-from_is_version text h = text_written text (nat_lt (position_or_len is_colon text) (length text)) refl h
