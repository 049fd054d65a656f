-- A text that passes the test for versions is written by the grammar: from its pieces.
use Rattle.std.proofs.Common.{◌≡◌, ℕ, ◌==◌, Bool, true, false, ◌&&◌, List, [], ◌∷◌, ◌++◌, map, Option, Some, None, is_some, refl, ap, sym, ◌∙◌, append-nil, append_assoc}
use Rattle.std.specs.Prelude.{◌↔◌, IsTrue}
use Rattle.std.specs.List.{AllByRecursion, flat_map, list_all, join_with_byte}
use Rattle.std.specs.Option.{option_to_list}
use Rattle.std.proofs.lemmas.Bool.{and_parts, and_from, eqb-true}
use Rattle.std.proofs.lemmas.List.Splits.{join_with_byte-slice_split}
use Rattle.cv_order.specs.Digits.{is_digit, front_while, front_digits, after_digits}
use Rattle.cv_order.proofs.Places.{front_while-append-after_while}
use Rattle.cv_apkver.specs.Grammar.{BUILD_MARK, DOT, HYPHEN, IsSuffixWritten, IsVersion, UNDERSCORE, WrittenSuffix, build_text, is_letter, is_number, rank_of, release_text, suffixes_text}
use Rattle.cv_apkver.specs.Parts.{after_letters, before, after, build_part, front_letters, is_build, is_last_number, is_letter_or_nothing, is_release, is_suffix, is_version, pieces, pieces_after, release_part, suffix_parts}
use Rattle.cv_apkver.proofs.Pieces.{pieces_cut}
use Rattle.cv_apkver.proofs.Spelled.{is_version-text_of}

-- a cut with the byte that it stands at
abbrev marked : ℕ → Option (List ℕ) → List ℕ
marked c None = []
marked c (Some text) = c ∷ text

join_step : (c x : ℕ) (xs : List ℕ) (b : Bool) → (x == c) ≡ b → xs ≡ before c xs ++ marked c (after c xs) → x ∷ xs ≡ before c (x ∷ xs) ++ marked c (after c (x ∷ xs))
join_step c x xs true h ih = simp h (ap (λ y. y ∷ xs) (eqb-true x c h))
join_step c x xs false h ih = simp h (ap (λ r. x ∷ r) ih)

-- the two sides of the first cut are the whole
joined : (c : ℕ) (xs : List ℕ) → xs ≡ before c xs ++ marked c (after c xs)
joined c [] = refl
joined c (x ∷ xs) = join_step c x xs (x == c) refl (joined c xs)

mark_pieces : (c : ℕ) (p : List ℕ) (ps : List (List ℕ)) → c ∷ join_with_byte c (p ∷ ps) ≡ flat_map (λ piece. c ∷ piece) (p ∷ ps)
mark_pieces c p [] = ap (λ r. c ∷ r) (sym (append-nil p))
mark_pieces c p (q ∷ qs) = ap (λ r. c ∷ (p ++ r)) (mark_pieces c q qs)

-- what comes after the first cut is its pieces, each after a cut
marked_is : (c : ℕ) (rest : Option (List ℕ)) → marked c rest ≡ flat_map (λ piece. c ∷ piece) (pieces_after c rest)
marked_is c None = refl
marked_is c (Some text) =
    ap (λ r. c ∷ r) (sym (join_with_byte-slice_split c text))
    ∙ ap (λ ps. c ∷ join_with_byte c ps) (pieces_cut c text)
    ∙ mark_pieces c (before c text) (pieces_after c (after c text))
    ∙ ap (flat_map (λ piece. c ∷ piece)) (sym (pieces_cut c text))

-- the suffixes, by their pieces
front_step : (test : ℕ → Bool) (x : ℕ) (xs : List ℕ) (b : Bool) → test x ≡ b → list_all test (front_while test xs) ≡ true → list_all test (front_while test (x ∷ xs)) ≡ true
front_step test x xs true e ih = simp (e, ih)
front_step test x xs false e ih = simp e

front_passes : (test : ℕ → Bool) (xs : List ℕ) → list_all test (front_while test xs) ≡ true
front_passes test [] = refl
front_passes test (x ∷ xs) = front_step test x xs (test x) refl (front_passes test xs)

abbrev suffix_read : List ℕ → WrittenSuffix
suffix_read piece = record { word = front_letters piece; digits = after_letters piece }

suffixes_well : (ps : List (List ℕ)) → list_all is_suffix ps ≡ true → AllByRecursion IsSuffixWritten (map suffix_read ps)
suffixes_well [] h = tt
suffixes_well (p ∷ ps) h =
    let parts = and_parts (is_suffix p) (list_all is_suffix ps) h in
    let suffix = and_parts (is_some (rank_of (front_letters p))) (list_all is_digit (after_letters p)) parts.0 in
    (record { letters = front_passes is_letter p; known = suffix.0; digits = suffix.1 }, suffixes_well ps parts.1)

suffixes_spelled : (ps : List (List ℕ)) → flat_map (λ piece. UNDERSCORE ∷ piece) ps ≡ suffixes_text (map suffix_read ps)
suffixes_spelled [] = refl
suffixes_spelled (p ∷ ps) =
    let first = sym (front_while-append-after_while is_letter p) in
    let more = suffixes_spelled ps in
    λ i. (UNDERSCORE ∷ first i) ++ more i

-- a release, by its pieces
record ReadRelease (text : List ℕ) : Type 0 where
  first : List ℕ
  more : List (List ℕ)
  letter : Option ℕ
  first_well : is_number first ≡ true
  more_well : list_all is_number more ≡ true
  letter_well : list_all is_letter (option_to_list letter) ≡ true
  spelled : text ≡ release_text first more letter

record ReadLetter (text : List ℕ) : Type 0 where
  letter : Option ℕ
  well : list_all is_letter (option_to_list letter) ≡ true
  spelled : text ≡ option_to_list letter

letter_read : (text : List ℕ) → is_letter_or_nothing text ≡ true → ReadLetter text
letter_read [] h = record { letter = None; well = refl; spelled = refl }
letter_read (c ∷ []) h = record { letter = Some c; well = and_from (is_letter c) true h refl; spelled = refl }
letter_read (c ∷ d ∷ ds) h = cc

last_read : (text : List ℕ) → is_last_number text ≡ true → ReadRelease text
last_read text h =
    let parts = and_parts (is_number (front_digits text)) (is_letter_or_nothing (after_digits text)) h in
    let found = letter_read (after_digits text) parts.1 in
    record {
      first = front_digits text;
      more = [];
      letter = found.letter;
      first_well = parts.0;
      more_well = refl;
      letter_well = found.well;
      spelled = sym (front_while-append-after_while is_digit text) ∙ ap (λ r. front_digits text ++ r) found.spelled;
    }

release_read : (ps : List (List ℕ)) → is_release ps ≡ true → ReadRelease (join_with_byte DOT ps)
release_read [] h = cc
release_read (last ∷ []) h = last_read last h
release_read (number ∷ next ∷ ps) h =
    let parts = and_parts (is_number number) (is_release (next ∷ ps)) h in
    let rest = release_read (next ∷ ps) parts.1 in
    record {
      first = number;
      more = rest.first ∷ rest.more;
      letter = rest.letter;
      first_well = parts.0;
      more_well = and_from (is_number rest.first) (list_all is_number rest.more) rest.first_well rest.more_well;
      letter_well = rest.letter_well;
      spelled = ap (λ t. number ++ (DOT ∷ t))
          (rest.spelled ∙ sym (append_assoc rest.first (flat_map (λ n. DOT ∷ n) rest.more) (option_to_list rest.letter)));
    }

-- a build number
record ReadBuild (text : Option (List ℕ)) : Type 0 where
  build : Option (List ℕ)
  well : list_all is_number (option_to_list build) ≡ true
  spelled : marked HYPHEN text ≡ build_text build

build_read : (text : Option (List ℕ)) → is_build text ≡ true → ReadBuild text
build_read None h = record { build = None; well = refl; spelled = refl }
build_read (Some []) h = cc
build_read (Some (mark ∷ number)) h =
    let parts = and_parts (mark == BUILD_MARK) (is_number number) h in
    record {
      build = Some number;
      well = and_from (is_number number) true parts.1 refl;
      spelled = ap (λ m. HYPHEN ∷ m ∷ number) (eqb-true mark BUILD_MARK parts.0);
    }

-- a text that passes is written by the grammar
pub version_read : (text : List ℕ) → is_version text ≡ true → IsVersion text
version_read text h =
    let parts = and_parts (is_release (pieces DOT (release_part text))) (list_all is_suffix (suffix_parts text) && is_build (build_part text)) h in
    let after_release = and_parts (list_all is_suffix (suffix_parts text)) (is_build (build_part text)) parts.1 in
    let release = release_read (pieces DOT (release_part text)) parts.0 in
    let build = build_read (build_part text) after_release.1 in
    let suffixes = map suffix_read (suffix_parts text) in
    let release_spelled : release_part text ≡ release_text release.first release.more release.letter =
    sym (join_with_byte-slice_split DOT (release_part text)) ∙ release.spelled in
    let suffixes_are : marked UNDERSCORE (after UNDERSCORE (before HYPHEN text)) ≡ suffixes_text suffixes =
    marked_is UNDERSCORE (after UNDERSCORE (before HYPHEN text)) ∙ suffixes_spelled (suffix_parts text) in
    record {
      written = record { first = release.first; more = release.more; letter = release.letter; suffixes = suffixes; build = build.build };
      well = record {
        first = release.first_well;
        more = release.more_well;
        letter = release.letter_well;
        suffixes = suffixes_well (suffix_parts text) after_release.0;
        build = build.well;
      };
      spelled =
          joined HYPHEN text
          ∙ ap (λ r. r ++ marked HYPHEN (after HYPHEN text)) (joined UNDERSCORE (before HYPHEN text))
          ∙ (λ i. (release_spelled i ++ suffixes_are i) ++ build.spelled i)
          ∙ append_assoc (release_text release.first release.more release.letter) (suffixes_text suffixes) (build_text build.build);
    }

-- the test passes exactly the texts of the grammar
pub is_version_iff : (text : List ℕ) → IsTrue (is_version text) ↔ IsVersion text
is_version_iff text = (version_read text, λ v. ap is_version v.spelled ∙ is_version-text_of v.written v.well)
