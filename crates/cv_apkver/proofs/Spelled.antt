-- A text that is written by the grammar is cut into the parts that it was written from.
use Rattle.std.proofs.Common.{◌≡◌, ℕ, ◌==◌, Bool, true, false, not, ◌&&◌, List, [], ◌∷◌, ◌++◌, map, Option, Some, None, is_some, option_map, unwrap_or, refl, ap, sym, ◌∙◌, append-nil, append_assoc, arith}
use Rattle.std.specs.List.{AllByRecursion, flat_map, list_all, find}
use Rattle.std.specs.Option.{option_to_list}
use Rattle.std.proofs.lemmas.Bool.{and_parts, and_from, eqb-true, not-true}
use Rattle.std.proofs.lemmas.Bool.Decides.{nat_tests}
use Rattle.std.proofs.lemmas.List.Folds.{list_all-append}
use Rattle.cv_order.specs.Digits.{is_digit, front_while, after_while, front_digits, after_digits}
use Rattle.cv_apkver.specs.Grammar.{BUILD_MARK, DOT, HYPHEN, IsSuffixWritten, IsWellWritten, UNDERSCORE, Written, WrittenSuffix, build_text, is_letter, is_number, rank_of, release_text, suffix_text, suffixes_text, text_of}
use Rattle.cv_apkver.specs.Order.{suffix_from, build_digits, digits_of, key_of, suffix_of, written_key}
use Rattle.cv_apkver.specs.Parts.{after_letters, before, after, build_part, front_letters, is_build, is_last_number, is_letter_or_nothing, is_release, is_suffix, is_version, pieces, pieces_after, release_part, rest_of, suffix_parts}
use Rattle.cv_apkver.proofs.Pieces.{pieces_cut}

-- a front that passes is skipped
module _ (test : ℕ → Bool) where
  front-append : (xs ys : List ℕ) → list_all test xs ≡ true → front_while test (xs ++ ys) ≡ xs ++ front_while test ys
  front-append [] ys h = refl
  front-append (x ∷ xs) ys h =
      let parts = and_parts (test x) (list_all test xs) h in
      simp parts.0 (ap (λ r. x ∷ r) (front-append xs ys parts.1))

  after-append : (xs ys : List ℕ) → list_all test xs ≡ true → after_while test (xs ++ ys) ≡ after_while test ys
  after-append [] ys h = refl
  after-append (x ∷ xs) ys h =
      let parts = and_parts (test x) (list_all test xs) h in
      simp parts.0 (after-append xs ys parts.1)

  all-from : (weaker : ℕ → Bool) → ((x : ℕ) → test x ≡ true → weaker x ≡ true) → (xs : List ℕ) → list_all test xs ≡ true → list_all weaker xs ≡ true
  all-from weaker up [] h = refl
  all-from weaker up (x ∷ xs) h =
      let parts = and_parts (test x) (list_all test xs) h in
      and_from (weaker x) (list_all weaker xs) (up x parts.0) (all-from weaker up xs parts.1)

  all-append : (xs ys : List ℕ) → list_all test xs ≡ true → list_all test ys ≡ true → list_all test (xs ++ ys) ≡ true
  all-append xs ys h k = list_all-append test xs ys ∙ and_from (list_all test xs) (list_all test ys) h k

  front-whole : (xs : List ℕ) → list_all test xs ≡ true → front_while test xs ≡ xs
  front-whole xs h = ap (front_while test) (sym (append-nil xs)) ∙ front-append xs [] h ∙ append-nil xs

-- any byte but this one
abbrev but : ℕ → ℕ → Bool
but c x = not (x == c)

same_byte : (test : ℕ → Bool) (c x : ℕ) → x ≡ c → test c ≡ false → test x ≡ true → false ≡ true
same_byte test c x same fails passes = cc

apart_by : (test : ℕ → Bool) (c x : ℕ) (same : Bool) → (x == c) ≡ same → test c ≡ false → test x ≡ true → not same ≡ true
apart_by test c x false e fails passes = refl
apart_by test c x true e fails passes = same_byte test c x (eqb-true x c e) fails passes

-- a byte that passes a test is none that fails it
apart : (test : ℕ → Bool) (c : ℕ) → test c ≡ false → (x : ℕ) → test x ≡ true → but c x ≡ true
apart test c fails x passes = apart_by test c x (x == c) refl fails passes

digit_no_letter : (x : ℕ) → is_digit x ≡ true → is_letter x ≡ false
digit_no_letter x h = grind (arith, nat_tests)

letter_no_digit : (x : ℕ) → is_letter x ≡ true → is_digit x ≡ false
letter_no_digit x h = grind (arith, nat_tests)

number_digits : (xs : List ℕ) → is_number xs ≡ true → list_all is_digit xs ≡ true
number_digits [] h = refl
number_digits (x ∷ xs) h = h

-- what holds of the bytes of a release, and of those of suffixes
module _ (test : ℕ → Bool) (digit : (x : ℕ) → is_digit x ≡ true → test x ≡ true) where
  more_all : test DOT ≡ true → (more : List (List ℕ)) → list_all is_number more ≡ true → list_all test (flat_map (λ number. DOT ∷ number) more) ≡ true
  more_all dot [] h = refl
  more_all dot (n ∷ more) h =
      let parts = and_parts (is_number n) (list_all is_number more) h in
      all-append test (DOT ∷ n) (flat_map (λ number. DOT ∷ number) more)
      (and_from (test DOT) (list_all test n) dot (all-from is_digit test digit n (number_digits n parts.0)))
      (more_all dot more parts.1)

  release_all : test DOT ≡ true → ((x : ℕ) → is_letter x ≡ true → test x ≡ true) → (first : List ℕ) (more : List (List ℕ)) (letter : Option ℕ)
      → is_number first ≡ true → list_all is_number more ≡ true → list_all is_letter (option_to_list letter) ≡ true → list_all test (release_text first more letter) ≡ true
  release_all dot up first more letter a b c =
      all-append test first (flat_map (λ number. DOT ∷ number) more ++ option_to_list letter)
      (all-from is_digit test digit first (number_digits first a))
      (all-append test (flat_map (λ number. DOT ∷ number) more) (option_to_list letter) (more_all dot more b) (all-from is_letter test up (option_to_list letter) c))

  suffix_all : ((x : ℕ) → is_letter x ≡ true → test x ≡ true) → (s : WrittenSuffix) → IsSuffixWritten s → list_all test (suffix_text s) ≡ true
  suffix_all up s w = all-append test s.word s.digits (all-from is_letter test up s.word w.letters) (all-from is_digit test digit s.digits w.digits)

  suffixes_all : test UNDERSCORE ≡ true → ((x : ℕ) → is_letter x ≡ true → test x ≡ true) → (ss : List WrittenSuffix) → AllByRecursion IsSuffixWritten ss → list_all test (suffixes_text ss) ≡ true
  suffixes_all mark up [] w = refl
  suffixes_all mark up (s ∷ ss) w =
      all-append test (UNDERSCORE ∷ suffix_text s) (suffixes_text ss)
      (and_from (test UNDERSCORE) (list_all test (suffix_text s)) mark (suffix_all up s w.0))
      (suffixes_all mark up ss w.1)

-- the first piece ends at the first cut
cut_first : (c : ℕ) (xs ys : List ℕ) → list_all (but c) xs ≡ true → before c ys ≡ [] → pieces c (xs ++ ys) ≡ xs ∷ pieces_after c (after c ys)
cut_first c xs ys h stop =
    let front : before c (xs ++ ys) ≡ xs = front-append (but c) xs ys h ∙ (ap (λ r. xs ++ r) stop ∙ append-nil xs) in
    let rest : after c (xs ++ ys) ≡ after c ys = ap rest_of (after-append (but c) xs ys h) in
    pieces_cut c (xs ++ ys) ∙ (λ i. front i ∷ pieces_after c (rest i))

-- the parts of a text: the build number
no_front : (build : Option (List ℕ)) → before HYPHEN (build_text build) ≡ []
no_front None = refl
no_front (Some number) = refl

build_rest : (build : Option (List ℕ)) → after HYPHEN (build_text build) ≡ option_map (λ number. BUILD_MARK ∷ number) build
build_rest None = refl
build_rest (Some number) = refl

build_ok : (build : Option (List ℕ)) → list_all is_number (option_to_list build) ≡ true → is_build (option_map (λ number. BUILD_MARK ∷ number) build) ≡ true
build_ok None h = refl
build_ok (Some number) h = (and_parts (is_number number) true h).0

build_key : (build : Option (List ℕ)) → list_all is_number (option_to_list build) ≡ true → build_digits (option_map (λ number. BUILD_MARK ∷ number) build) ≡ unwrap_or build []
build_key None h = refl
build_key (Some number) h = front-whole is_digit number (number_digits number (and_parts (is_number number) true h).0)

-- the suffixes
suffixes_front : (ss : List WrittenSuffix) → before UNDERSCORE (suffixes_text ss) ≡ []
suffixes_front [] = refl
suffixes_front (s ∷ ss) = refl

suffixes_cut : (ss : List WrittenSuffix) → AllByRecursion IsSuffixWritten ss → pieces_after UNDERSCORE (after UNDERSCORE (suffixes_text ss)) ≡ map suffix_text ss
suffixes_cut [] w = refl
suffixes_cut (s ∷ ss) w =
    cut_first UNDERSCORE (suffix_text s) (suffixes_text ss) (suffix_all (but UNDERSCORE) (apart is_digit UNDERSCORE refl) (apart is_letter UNDERSCORE refl) s w.0) (suffixes_front ss)
    ∙ ap (λ r. suffix_text s ∷ r) (suffixes_cut ss w.1)

digits_front : (ds : List ℕ) → list_all is_digit ds ≡ true → front_letters ds ≡ []
digits_front [] h = refl
digits_front (d ∷ ds) h = simp (digit_no_letter d (and_parts (is_digit d) (list_all is_digit ds) h).0)

digits_after : (ds : List ℕ) → list_all is_digit ds ≡ true → after_letters ds ≡ ds
digits_after [] h = refl
digits_after (d ∷ ds) h = simp (digit_no_letter d (and_parts (is_digit d) (list_all is_digit ds) h).0)

word_is : (s : WrittenSuffix) → IsSuffixWritten s → front_letters (suffix_text s) ≡ s.word
word_is s w = front-append is_letter s.word s.digits w.letters ∙ (ap (λ r. s.word ++ r) (digits_front s.digits w.digits) ∙ append-nil s.word)

digits_are : (s : WrittenSuffix) → IsSuffixWritten s → after_letters (suffix_text s) ≡ s.digits
digits_are s w = after-append is_letter s.word s.digits w.letters ∙ digits_after s.digits w.digits

suffix_ok : (s : WrittenSuffix) → IsSuffixWritten s → is_suffix (suffix_text s) ≡ true
suffix_ok s w = and_from (is_some (rank_of (front_letters (suffix_text s)))) (list_all is_digit (after_letters (suffix_text s)))
    (ap (λ word. is_some (rank_of word)) (word_is s w) ∙ w.known) (ap (list_all is_digit) (digits_are s w) ∙ w.digits)

suffixes_ok : (ss : List WrittenSuffix) → AllByRecursion IsSuffixWritten ss → list_all is_suffix (map suffix_text ss) ≡ true
suffixes_ok [] w = refl
suffixes_ok (s ∷ ss) w = and_from (is_suffix (suffix_text s)) (list_all is_suffix (map suffix_text ss)) (suffix_ok s w.0) (suffixes_ok ss w.1)

suffix_key : (s : WrittenSuffix) → IsSuffixWritten s → suffix_of (suffix_text s) ≡ suffix_from s.word s.digits
suffix_key s w =
    let rank : unwrap_or (rank_of (front_letters (suffix_text s))) 4 ≡ unwrap_or (rank_of s.word) 4 = ap (λ word. unwrap_or (rank_of word) 4) (word_is s w) in
    let number : front_digits (after_letters (suffix_text s)) ≡ s.digits = ap front_digits (digits_are s w) ∙ front-whole is_digit s.digits w.digits in
    λ i. record { rank = rank i; number = number i }

suffixes_key : (ss : List WrittenSuffix) → AllByRecursion IsSuffixWritten ss → map suffix_of (map suffix_text ss) ≡ map (λ s. suffix_from s.word s.digits) ss
suffixes_key [] w = refl
suffixes_key (s ∷ ss) w = let first = suffix_key s w.0 in let more = suffixes_key ss w.1 in λ i. first i ∷ more i

-- the numbers and the letter
abbrev release_pieces : List ℕ → List (List ℕ) → List ℕ → List (List ℕ)
release_pieces first [] letter = (first ++ letter) ∷ []
release_pieces first (n ∷ more) letter = first ∷ release_pieces n more letter

module _ (first : List ℕ) (letter : Option ℕ) (a : is_number first ≡ true) (c : list_all is_letter (option_to_list letter) ≡ true) where
  letter_front : (l : Option ℕ) → list_all is_letter (option_to_list l) ≡ true → front_digits (option_to_list l) ≡ []
  letter_front None h = refl
  letter_front (Some x) h = simp (letter_no_digit x (and_parts (is_letter x) true h).0)

  letter_after : (l : Option ℕ) → list_all is_letter (option_to_list l) ≡ true → after_digits (option_to_list l) ≡ option_to_list l
  letter_after None h = refl
  letter_after (Some x) h = simp (letter_no_digit x (and_parts (is_letter x) true h).0)

  letter_ok : (l : Option ℕ) → list_all is_letter (option_to_list l) ≡ true → is_letter_or_nothing (option_to_list l) ≡ true
  letter_ok None h = refl
  letter_ok (Some x) h = (and_parts (is_letter x) true h).0

  last_front : front_digits (first ++ option_to_list letter) ≡ first
  last_front = front-append is_digit first (option_to_list letter) (number_digits first a) ∙ (ap (λ r. first ++ r) (letter_front letter c) ∙ append-nil first)

  last_after : after_digits (first ++ option_to_list letter) ≡ option_to_list letter
  last_after = after-append is_digit first (option_to_list letter) (number_digits first a) ∙ letter_after letter c

  last_ok : is_last_number (first ++ option_to_list letter) ≡ true
  last_ok = and_from (is_number (front_digits (first ++ option_to_list letter))) (is_letter_or_nothing (after_digits (first ++ option_to_list letter)))
      (ap is_number last_front ∙ a) (ap is_letter_or_nothing last_after ∙ letter_ok letter c)

release_cut : (first : List ℕ) (more : List (List ℕ)) (letter : Option ℕ) → is_number first ≡ true → list_all is_number more ≡ true → list_all is_letter (option_to_list letter) ≡ true
    → pieces DOT (release_text first more letter) ≡ release_pieces first more (option_to_list letter)
release_cut first [] letter a b c =
    ap (pieces DOT) (sym (append-nil (first ++ option_to_list letter)))
    ∙ cut_first DOT (first ++ option_to_list letter) []
    (all-append (but DOT) first (option_to_list letter) (all-from is_digit (but DOT) (apart is_digit DOT refl) first (number_digits first a)) (all-from is_letter (but DOT) (apart is_letter DOT refl) (option_to_list letter) c))
    refl
release_cut first (n ∷ more) letter a b c =
    let parts = and_parts (is_number n) (list_all is_number more) b in
    let rest = flat_map (λ number. DOT ∷ number) more in
    cut_first DOT first (DOT ∷ ((n ++ rest) ++ option_to_list letter)) (all-from is_digit (but DOT) (apart is_digit DOT refl) first (number_digits first a)) refl
    ∙ ap (λ t. first ∷ pieces DOT t) (append_assoc n rest (option_to_list letter))
    ∙ ap (λ r. first ∷ r) (release_cut n more letter parts.0 parts.1 c)

release_step : (x n : List ℕ) (more : List (List ℕ)) (letter : List ℕ) → is_release (x ∷ release_pieces n more letter) ≡ (is_number x && is_release (release_pieces n more letter))
release_step x n [] letter = refl
release_step x n (m ∷ more) letter = refl

release_ok : (first : List ℕ) (more : List (List ℕ)) (letter : Option ℕ) → is_number first ≡ true → list_all is_number more ≡ true → list_all is_letter (option_to_list letter) ≡ true
    → is_release (release_pieces first more (option_to_list letter)) ≡ true
release_ok first [] letter a b c = last_ok first letter a c
release_ok first (n ∷ more) letter a b c =
    let parts = and_parts (is_number n) (list_all is_number more) b in
    release_step first n more (option_to_list letter)
    ∙ and_from (is_number first) (is_release (release_pieces n more (option_to_list letter))) a (release_ok n more letter parts.0 parts.1 c)

numbers_key : (first : List ℕ) (more : List (List ℕ)) (letter : Option ℕ) → is_number first ≡ true → list_all is_number more ≡ true → list_all is_letter (option_to_list letter) ≡ true
    → digits_of (release_pieces first more (option_to_list letter)) ≡ first ∷ more
numbers_key first [] letter a b c = ap (λ t. t ∷ []) (last_front first letter a c)
numbers_key first (n ∷ more) letter a b c =
    let parts = and_parts (is_number n) (list_all is_number more) b in
    let head = front-whole is_digit first (number_digits first a) in
    let tail = numbers_key n more letter parts.0 parts.1 c in
    λ i. head i ∷ tail i

find-append : (xs ys : List ℕ) → list_all (λ x. not (is_letter x)) xs ≡ true → find is_letter (xs ++ ys) ≡ find is_letter ys
find-append [] ys h = refl
find-append (x ∷ xs) ys h =
    let parts = and_parts (not (is_letter x)) (list_all (λ y. not (is_letter y)) xs) h in
    simp (not-true (is_letter x) parts.0) (find-append xs ys parts.1)

find_letter : (l : Option ℕ) → list_all is_letter (option_to_list l) ≡ true → find is_letter (option_to_list l) ≡ l
find_letter None h = refl
find_letter (Some x) h = simp (and_parts (is_letter x) true h).0

digit_passes : (x : ℕ) → is_digit x ≡ true → not (is_letter x) ≡ true
digit_passes x h = ap not (digit_no_letter x h)

letter_key : (first : List ℕ) (more : List (List ℕ)) (letter : Option ℕ) → is_number first ≡ true → list_all is_number more ≡ true → list_all is_letter (option_to_list letter) ≡ true
    → find is_letter (release_text first more letter) ≡ letter
letter_key first more letter a b c =
    let rest = flat_map (λ number. DOT ∷ number) more in
    find-append first (rest ++ option_to_list letter) (all-from is_digit (λ x. not (is_letter x)) digit_passes first (number_digits first a))
    ∙ find-append rest (option_to_list letter) (more_all (λ x. not (is_letter x)) digit_passes refl more b)
    ∙ find_letter letter c

-- the parts of the whole
module _ (w : Written) (well : IsWellWritten w) where
  release_but : (c : ℕ) → but c DOT ≡ true → ((x : ℕ) → is_digit x ≡ true → but c x ≡ true) → ((x : ℕ) → is_letter x ≡ true → but c x ≡ true) → list_all (but c) (release_text w.first w.more w.letter) ≡ true
  release_but c dot digit up = release_all (but c) digit dot up w.first w.more w.letter well.first well.more well.letter

  hyphen_front : before HYPHEN (text_of w) ≡ release_text w.first w.more w.letter ++ suffixes_text w.suffixes
  hyphen_front =
      front-append (but HYPHEN) (release_text w.first w.more w.letter) (suffixes_text w.suffixes ++ build_text w.build) (release_but HYPHEN refl (apart is_digit HYPHEN refl) (apart is_letter HYPHEN refl))
      ∙ ap (λ r. release_text w.first w.more w.letter ++ r)
      (front-append (but HYPHEN) (suffixes_text w.suffixes) (build_text w.build) (suffixes_all (but HYPHEN) (apart is_digit HYPHEN refl) refl (apart is_letter HYPHEN refl) w.suffixes well.suffixes)
      ∙ (ap (λ r. suffixes_text w.suffixes ++ r) (no_front w.build) ∙ append-nil (suffixes_text w.suffixes)))

  build_is : build_part (text_of w) ≡ option_map (λ number. BUILD_MARK ∷ number) w.build
  build_is =
      ap rest_of
      (after-append (but HYPHEN) (release_text w.first w.more w.letter) (suffixes_text w.suffixes ++ build_text w.build) (release_but HYPHEN refl (apart is_digit HYPHEN refl) (apart is_letter HYPHEN refl))
      ∙ after-append (but HYPHEN) (suffixes_text w.suffixes) (build_text w.build) (suffixes_all (but HYPHEN) (apart is_digit HYPHEN refl) refl (apart is_letter HYPHEN refl) w.suffixes well.suffixes))
      ∙ build_rest w.build

  release_is : release_part (text_of w) ≡ release_text w.first w.more w.letter
  release_is =
      ap (before UNDERSCORE) hyphen_front
      ∙ front-append (but UNDERSCORE) (release_text w.first w.more w.letter) (suffixes_text w.suffixes) (release_but UNDERSCORE refl (apart is_digit UNDERSCORE refl) (apart is_letter UNDERSCORE refl))
      ∙ ap (λ r. release_text w.first w.more w.letter ++ r) (suffixes_front w.suffixes) ∙ append-nil (release_text w.first w.more w.letter)

  suffixes_are : suffix_parts (text_of w) ≡ map suffix_text w.suffixes
  suffixes_are =
      ap (λ t. pieces_after UNDERSCORE (after UNDERSCORE t)) hyphen_front
      ∙ ap (λ t. pieces_after UNDERSCORE (rest_of t))
      (after-append (but UNDERSCORE) (release_text w.first w.more w.letter) (suffixes_text w.suffixes) (release_but UNDERSCORE refl (apart is_digit UNDERSCORE refl) (apart is_letter UNDERSCORE refl)))
      ∙ suffixes_cut w.suffixes well.suffixes

  -- it is a version
  pub is_version-text_of : is_version (text_of w) ≡ true
  is_version-text_of =
      and_from (is_release (pieces DOT (release_part (text_of w)))) (list_all is_suffix (suffix_parts (text_of w)) && is_build (build_part (text_of w)))
      (ap (λ t. is_release (pieces DOT t)) release_is
      ∙ ap is_release (release_cut w.first w.more w.letter well.first well.more well.letter)
      ∙ release_ok w.first w.more w.letter well.first well.more well.letter)
      (and_from (list_all is_suffix (suffix_parts (text_of w))) (is_build (build_part (text_of w)))
      (ap (list_all is_suffix) suffixes_are ∙ suffixes_ok w.suffixes well.suffixes)
      (ap is_build build_is ∙ build_ok w.build well.build))

  -- its key is that of its parts
  pub key_of-text_of : key_of (text_of w) ≡ written_key w
  key_of-text_of =
      let numbers : digits_of (pieces DOT (release_part (text_of w))) ≡ w.first ∷ w.more =
      ap (λ t. digits_of (pieces DOT t)) release_is
      ∙ ap digits_of (release_cut w.first w.more w.letter well.first well.more well.letter)
      ∙ numbers_key w.first w.more w.letter well.first well.more well.letter in
      let letter : find is_letter (release_part (text_of w)) ≡ w.letter =
      ap (find is_letter) release_is ∙ letter_key w.first w.more w.letter well.first well.more well.letter in
      let suffixes : map suffix_of (suffix_parts (text_of w)) ≡ (written_key w).suffixes = ap (map suffix_of) suffixes_are ∙ suffixes_key w.suffixes well.suffixes in
      let build : build_digits (build_part (text_of w)) ≡ unwrap_or w.build [] = ap build_digits build_is ∙ build_key w.build well.build in
      λ i. record { numbers = numbers i; letter = letter i; suffixes = suffixes i; build = build i }
