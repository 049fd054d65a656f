-- A text that passes the test for versions is written by the grammar: from the parts that are read.
use Rattle.std.proofs.Common.{◌≡◌, ℕ, Bool, true, false, ◌==◌, ◌&&◌, ◌||◌, List, [], ◌∷◌, ◌++◌, map, Option, Some, None, is_some, option_map, refl, ap, sym, ◌∙◌, append_assoc, eqb-true}
use Rattle.std.specs.Prelude.{IfSome, IsTrue, ◌↔◌}
use Rattle.std.specs.Char.{to_ascii_lowercase}
use Rattle.std.specs.List.{list_all, onto_first}
use Rattle.std.specs.Option.{option_or, option_to_list}
use Rattle.std.proofs.lemmas.Bool.{and_parts, and_from, eq-eqb, not-true}
use lib.Pointwise.{pointwise}
use Rattle.cv_order.specs.Digits.{is_digit, front_digits, after_digits}
use Rattle.cv_order.specs.Filled.{later}
use Rattle.cv_order.proofs.Places.{front_while-append-after_while}
use Rattle.cv_pep440.specs.Bytes.{BANG, DOT, HYPHEN, PLUS, is_mark, is_number, is_run, is_separator}
use Rattle.cv_pep440.specs.Grammar.{Bare, IsLocalWritten, IsNumberWritten, IsPartWritten, IsPostWritten, IsVersion, Named, WrittenLocal, WrittenNumber, WrittenPart, WrittenPost, WrittenRun, epoch_text, is_bare, is_optional_separator, lacks_number, local_text, number_text, numbers_text, optional_text, post_text, runs_text}
use Rattle.cv_pep440.specs.Words.{alpha_words, beta_words, candidate_words, dev_words, is_word, post_words, rank_of}
use Rattle.cv_pep440.specs.Parts.{Part, Word, after_any, after_epoch, after_mark, after_number, after_part, after_release, after_separator, after_word, begins_with, begins_with_digit, dev_of, has_epoch, is_local, is_version, post_of, pre_of, pre_word, release_text, runs, with_number, word_of}
use Rattle.cv_pep440.proofs.Words.{lower}
use Rattle.cv_pep440.proofs.Spelled.{is_version-text_of, part_assoc}

-- the digits at the front are a number where there is one
front_all_by : (c : ℕ) (cs : List ℕ) (digit : Bool) → is_digit c ≡ digit → list_all is_digit (front_digits cs) ≡ true → list_all is_digit (front_digits (c ∷ cs)) ≡ true
front_all_by c cs true e more = simp (e, more)
front_all_by c cs false e more = simp e

front_all : (text : List ℕ) → list_all is_digit (front_digits text) ≡ true
front_all [] = refl
front_all (c ∷ cs) = front_all_by c cs (is_digit c) refl (front_all cs)

front_number : (text : List ℕ) → begins_with_digit text ≡ true → is_number (front_digits text) ≡ true
front_number [] h = cc
front_number (c ∷ cs) h = simp (h, front_all cs)

front_and_after : (text : List ℕ) → text ≡ front_digits text ++ after_digits text
front_and_after text = sym (front_while-append-after_while is_digit text)

-- a separator
record ReadSeparator (text : List ℕ) : Type 0 where
  separator : Option ℕ
  well : is_optional_separator separator ≡ true
  spelled : text ≡ option_to_list separator ++ after_separator text

separator_by : (c : ℕ) (cs : List ℕ) (mark : Bool) → is_separator c ≡ mark → ReadSeparator (c ∷ cs)
separator_by c cs true e = record { separator = Some c; well = and_from (is_separator c) true e refl; spelled = simp e }
separator_by c cs false e = record { separator = None; well = refl; spelled = simp e }

separator_back : (text : List ℕ) → ReadSeparator text
separator_back [] = record { separator = None; well = refl; spelled = refl }
separator_back (c ∷ cs) = separator_by c cs (is_separator c) refl

-- a number, or none
record ReadNumber (text : List ℕ) : Type 0 where
  number : Option WrittenNumber
  well : IfSome number IsNumberWritten
  spelled : text ≡ number_text number ++ after_number text
  absent : is_some number ≡ false → begins_with_digit (after_separator (after_number text)) ≡ false

number_by : (text : List ℕ) (digit : Bool) → begins_with_digit (after_separator text) ≡ digit → ReadNumber text
number_by text true e =
    let mark = separator_back text in
    let rest : after_number text ≡ after_digits (after_separator text) = simp e in
    record {
      number = Some (record { separator = mark.separator; digits = front_digits (after_separator text) });
      well = record { separator = mark.well; digits = front_number (after_separator text) e };
      spelled =
          mark.spelled ∙ ap (λ r. option_to_list mark.separator ++ r) (front_and_after (after_separator text))
          ∙ sym (append_assoc (option_to_list mark.separator) (front_digits (after_separator text)) (after_digits (after_separator text)))
          ∙ ap (λ r. (option_to_list mark.separator ++ front_digits (after_separator text)) ++ r) (sym rest);
      absent = λ none. absurd (cc none);
    }
number_by text false e =
    let rest : after_number text ≡ text = simp e in
    record {
      number = None;
      well = tt;
      spelled = sym rest;
      absent = λ none. ap (λ t. begins_with_digit (after_separator t)) rest ∙ e;
    }

number_back : (text : List ℕ) → ReadNumber text
number_back text = number_by text (begins_with_digit (after_separator text)) refl

-- a word
record ReadWord (test : List ℕ → Bool) (text rest : List ℕ) : Type 0 where
  word : List ℕ
  known : test word ≡ true
  spelled : text ≡ word ++ rest

same_refl : (xs : List ℕ) → pointwise ◌==◌ xs xs ≡ true
same_refl [] = refl
same_refl (x ∷ xs) = and_from (x == x) (pointwise ◌==◌ xs xs) (eq-eqb x x refl) (same_refl xs)

abbrev one_word : List ℕ → List ℕ → Bool
one_word name word = pointwise ◌==◌ (lower word) name

word_back_by : (n c : ℕ) (name text rest : List ℕ) (same : Bool) → (to_ascii_lowercase c == n) ≡ same → (after_word name text ≡ Some rest → ReadWord (one_word name) text rest)
    → after_word (n ∷ name) (c ∷ text) ≡ Some rest → ReadWord (one_word (n ∷ name)) (c ∷ text) rest
word_back_by n c name text rest true e more h =
    let r = more (simp e at h) in
    record {
      word = c ∷ r.word;
      known = and_from (to_ascii_lowercase c == n) (pointwise ◌==◌ (lower r.word) name) e r.known;
      spelled = ap (λ t. c ∷ t) r.spelled;
    }
word_back_by n c name text rest false e more h = absurd (cc (simp e at h))

word_back : (name text rest : List ℕ) → after_word name text ≡ Some rest → ReadWord (one_word name) text rest
word_back [] text rest h = let same : text ≡ rest = cc h in record { word = []; known = refl; spelled = same }
word_back (n ∷ name) [] rest h = absurd (cc h)
word_back (n ∷ name) (c ∷ text) rest h = word_back_by n c name text rest (to_ascii_lowercase c == n) refl (word_back name text rest) h

or_left : (a b : Bool) → a ≡ true → (a || b) ≡ true
or_left true b h = refl
or_left false b h = cc

or_right : (a b : Bool) → b ≡ true → (a || b) ≡ true
or_right true b h = refl
or_right false b h = h

any_by : (name : List ℕ) (words : List (List ℕ)) (text rest : List ℕ) (found : Option (List ℕ)) → after_word name text ≡ found
    → (after_any words text ≡ Some rest → ReadWord (is_word words) text rest) → after_any (name ∷ words) text ≡ Some rest → ReadWord (is_word (name ∷ words)) text rest
any_by name words text rest (Some other) e more h =
    let same : Some other ≡ Some rest = ap (λ o. option_or o (after_any words text)) (sym e) ∙ h in
    let r = word_back name text rest (e ∙ same) in
    record { word = r.word; known = or_left (one_word name r.word) (is_word words r.word) r.known; spelled = r.spelled }
any_by name words text rest None e more h =
    let r = more (ap (λ o. option_or o (after_any words text)) (sym e) ∙ h) in
    record { word = r.word; known = or_right (one_word name r.word) (is_word words r.word) r.known; spelled = r.spelled }

any_back : (words : List (List ℕ)) (text rest : List ℕ) → after_any words text ≡ Some rest → ReadWord (is_word words) text rest
any_back [] text rest h = absurd (cc h)
any_back (name ∷ words) text rest h = any_by name words text rest (after_word name text) refl (any_back words text rest) h

word_at_rest : (test : List ℕ → Bool) (text rest other : List ℕ) → rest ≡ other → ReadWord test text rest → ReadWord test text other
word_at_rest test text rest other e r = record { word = r.word; known = r.known; spelled = r.spelled ∙ ap (λ t. r.word ++ t) e }

weaker_word : (test weaker : List ℕ → Bool) (text rest : List ℕ) → ((word : List ℕ) → test word ≡ true → weaker word ≡ true) → ReadWord test text rest → ReadWord weaker text rest
weaker_word test weaker text rest up r = record { word = r.word; known = up r.word r.known; spelled = r.spelled }

abbrev rest_in : Option Word → List ℕ
rest_in None = []
rest_in (Some word) = word.rest

abbrev ranked : ℕ → Option (List ℕ) → Option Word
ranked rank found = option_map (λ rest. record { rank = rank; rest = rest }) found

-- a word of one rank
word_of_by : (rank : ℕ) (words : List (List ℕ)) (text : List ℕ) (w : Word) (found : Option (List ℕ)) → after_any words text ≡ found → word_of rank words text ≡ Some w → ReadWord (is_word words) text w.rest
word_of_by rank words text w (Some rest) e h =
    let same : Some (record { rank = rank; rest = rest }) ≡ Some w = sym (ap (ranked rank) e) ∙ h in
    word_at_rest (is_word words) text rest w.rest (ap rest_in same) (any_back words text rest e)
word_of_by rank words text w None e h = let same : None ≡ Some w = sym (ap (ranked rank) e) ∙ h in absurd (cc same)

word_of_back : (rank : ℕ) (words : List (List ℕ)) (text : List ℕ) (w : Word) → word_of rank words text ≡ Some w → ReadWord (is_word words) text w.rest
word_of_back rank words text w h = word_of_by rank words text w (after_any words text) refl h

-- a word of a pre-release
abbrev is_known : List ℕ → Bool
is_known word = is_some (rank_of word)

known_by : (word : List ℕ) (alpha beta candidate : Bool) → is_word alpha_words word ≡ alpha → is_word beta_words word ≡ beta → is_word candidate_words word ≡ candidate → (alpha || (beta || candidate)) ≡ true → is_known word ≡ true
known_by word true beta candidate e f g h = simp e
known_by word false true candidate e f g h = simp (e, f)
known_by word false false true e f g h = simp (e, f, g)
known_by word false false false e f g h = cc

known : (word : List ℕ) → (is_word alpha_words word || (is_word beta_words word || is_word candidate_words word)) ≡ true → is_known word ≡ true
known word h = known_by word (is_word alpha_words word) (is_word beta_words word) (is_word candidate_words word) refl refl refl h

abbrev pre_found : Option (List ℕ) → Option (List ℕ) → Option (List ℕ) → Option Word
pre_found alpha beta candidate = option_or (ranked 1 alpha) (option_or (ranked 2 beta) (ranked 3 candidate))

module _ (text : List ℕ) (w : Word) where
  pre_by : (alpha beta candidate : Option (List ℕ)) → after_any alpha_words text ≡ alpha → after_any beta_words text ≡ beta → after_any candidate_words text ≡ candidate
      → pre_found alpha beta candidate ≡ Some w → ReadWord is_known text w.rest
  pre_by (Some rest) beta candidate e f g h =
      weaker_word (is_word alpha_words) is_known text w.rest
      (λ word k. known word (or_left (is_word alpha_words word) (is_word beta_words word || is_word candidate_words word) k))
      (word_at_rest (is_word alpha_words) text rest w.rest (ap rest_in h) (any_back alpha_words text rest e))
  pre_by None (Some rest) candidate e f g h =
      weaker_word (is_word beta_words) is_known text w.rest
      (λ word k. known word (or_right (is_word alpha_words word) (is_word beta_words word || is_word candidate_words word) (or_left (is_word beta_words word) (is_word candidate_words word) k)))
      (word_at_rest (is_word beta_words) text rest w.rest (ap rest_in h) (any_back beta_words text rest f))
  pre_by None None (Some rest) e f g h =
      weaker_word (is_word candidate_words) is_known text w.rest
      (λ word k. known word (or_right (is_word alpha_words word) (is_word beta_words word || is_word candidate_words word) (or_right (is_word beta_words word) (is_word candidate_words word) k)))
      (word_at_rest (is_word candidate_words) text rest w.rest (ap rest_in h) (any_back candidate_words text rest g))
  pre_by None None None e f g h = absurd (cc h)

  pre_word_back : pre_word text ≡ Some w → ReadWord is_known text w.rest
  pre_word_back h = pre_by (after_any alpha_words text) (after_any beta_words text) (after_any candidate_words text) refl refl refl h

-- a part with a word
record ReadPart (test : List ℕ → Bool) (text : List ℕ) (found : Option Part) : Type 0 where
  part : Option WrittenPart
  well : IfSome part (IsPartWritten test)
  spelled : text ≡ optional_text part ++ after_part found text
  absent : lacks_number part ≡ true → begins_with_digit (after_separator (after_part found text)) ≡ false

part_back : (test : List ℕ → Bool) (text : List ℕ) (found : Option Word) → ((w : Word) → found ≡ Some w → ReadWord test (after_separator text) w.rest) → ReadPart test text (with_number found)
part_back test text None back = record { part = None; well = tt; spelled = refl; absent = λ h. absurd (cc h) }
part_back test text (Some w) back =
    let mark = separator_back text in
    let word = back w refl in
    let number = number_back w.rest in
    let part : WrittenPart = record { separator = mark.separator; word = word.word; number = number.number } in
    record {
      part = Some part;
      well = record { separator = mark.well; word = word.known; number = number.well };
      spelled =
          mark.spelled
          ∙ ap (λ r. option_to_list mark.separator ++ r) (word.spelled ∙ ap (λ r. word.word ++ r) number.spelled)
          ∙ sym (part_assoc part (after_number w.rest));
      absent = λ none. number.absent (not-true (is_some number.number) none);
    }

-- a post-release
record ReadPost (text : List ℕ) (found : Option Part) : Type 0 where
  post : Option WrittenPost
  well : IfSome post IsPostWritten
  spelled : text ≡ post_text post ++ after_part found text
  bare : is_bare post ≡ true → begins_with_digit (after_separator text) ≡ true

named_back : (text : List ℕ) (found : Option Part) → ReadPart (is_word post_words) text found → ReadPost text found
named_back text found r = by_part r.part r.well r.spelled where
  by_part : (part : Option WrittenPart) → IfSome part (IsPartWritten (is_word post_words)) → text ≡ optional_text part ++ after_part found text → ReadPost text found
  by_part None w e = record { post = None; well = tt; spelled = e; bare = λ h. absurd (cc h) }
  by_part (Some part) w e = record { post = Some (Named part); well = w; spelled = e; bare = λ h. absurd (cc h) }

post_at : (text : List ℕ) (found other : Option Part) → found ≡ other → ReadPost text other → ReadPost text found
post_at text found other e r = record { post = r.post; well = r.well; spelled = r.spelled ∙ ap (λ p. post_text r.post ++ after_part p text) (sym e); bare = r.bare }

post_by : (c : ℕ) (cs : List ℕ) (bare : Bool) → (c == HYPHEN && begins_with_digit cs) ≡ bare → ReadPost (c ∷ cs) (post_of (c ∷ cs))
post_by c cs true e =
    let parts = and_parts (c == HYPHEN) (begins_with_digit cs) e in
    let part : Part = record { rank = 0; number = front_digits cs; rest = after_digits cs } in
    let found : post_of (c ∷ cs) ≡ Some part = simp e in
    let hyphen = eqb-true c HYPHEN parts.0 in
    let digits = front_and_after cs in
    post_at (c ∷ cs) (post_of (c ∷ cs)) (Some part) found
    (record {
      post = Some (Bare (front_digits cs));
      well = front_number cs parts.1;
      spelled = λ i. hyphen i ∷ digits i;
      bare = λ h. ap (λ x. begins_with_digit (after_separator (x ∷ cs))) hyphen ∙ parts.1;
    })
post_by c cs false e =
    let found : post_of (c ∷ cs) ≡ with_number (word_of 0 post_words (after_separator (c ∷ cs))) = simp e in
    post_at (c ∷ cs) (post_of (c ∷ cs)) (with_number (word_of 0 post_words (after_separator (c ∷ cs)))) found
    (named_back (c ∷ cs) (with_number (word_of 0 post_words (after_separator (c ∷ cs))))
    (part_back (is_word post_words) (c ∷ cs) (word_of 0 post_words (after_separator (c ∷ cs))) (λ w h. word_of_back 0 post_words (after_separator (c ∷ cs)) w h)))

post_back : (text : List ℕ) → ReadPost text (post_of text)
post_back [] = record { post = None; well = tt; spelled = refl; bare = λ h. absurd (cc h) }
post_back (c ∷ cs) = post_by c cs (c == HYPHEN && begins_with_digit cs) refl

-- a local version
record ReadRuns (text : List ℕ) : Type 0 where
  first : List ℕ
  more : List WrittenRun
  separators : list_all (λ run. is_separator run.separator) more ≡ true
  spelled : text ≡ first ++ runs_text more
  pieces : runs text ≡ first ∷ map (λ run. run.run) more

runs_by : (c : ℕ) (cs : List ℕ) (mark : Bool) → is_separator c ≡ mark → ReadRuns cs → ReadRuns (c ∷ cs)
runs_by c cs true e r = record {
  first = [];
  more = record { separator = c; run = r.first } ∷ r.more;
  separators = and_from (is_separator c) (list_all (λ run. is_separator run.separator) r.more) e r.separators;
  spelled = ap (λ t. c ∷ t) r.spelled;
  pieces = simp e (ap (λ t. [] ∷ t) r.pieces);
}
runs_by c cs false e r = record {
  first = c ∷ r.first;
  more = r.more;
  separators = r.separators;
  spelled = ap (λ t. c ∷ t) r.spelled;
  pieces = simp e (ap (onto_first c) r.pieces);
}

runs_back : (text : List ℕ) → ReadRuns text
runs_back [] = record { first = []; more = []; separators = refl; spelled = refl; pieces = refl }
runs_back (c ∷ cs) = runs_by c cs (is_separator c) refl (runs_back cs)

all_runs : (more : List WrittenRun) → list_all is_run (map (λ run. run.run) more) ≡ true → list_all (λ run. is_run run.run) more ≡ true
all_runs [] h = refl
all_runs (run ∷ more) h =
    let parts = and_parts (is_run run.run) (list_all is_run (map (λ r. r.run) more)) h in
    and_from (is_run run.run) (list_all (λ r. is_run r.run) more) parts.0 (all_runs more parts.1)

record ReadLocal (text : List ℕ) : Type 0 where
  local : Option WrittenLocal
  well : IfSome local IsLocalWritten
  spelled : text ≡ local_text local

local_back : (text : List ℕ) → is_local text ≡ true → ReadLocal text
local_back [] h = record { local = None; well = tt; spelled = refl }
local_back (c ∷ cs) h =
    let parts = and_parts (c == PLUS) (list_all is_run (runs cs)) h in
    let r = runs_back cs in
    let all = and_parts (is_run r.first) (list_all is_run (map (λ run. run.run) r.more)) (sym (ap (list_all is_run) r.pieces) ∙ parts.1) in
    let plus = eqb-true c PLUS parts.0 in
    record {
      local = Some (record { first = r.first; more = r.more });
      well = record { first = all.0; separators = r.separators; runs = all_runs r.more all.1 };
      spelled = λ i. plus i ∷ r.spelled i;
    }

-- a release
record ReadRelease (text : List ℕ) : Type 0 where
  first : List ℕ
  more : List (List ℕ)
  more_well : list_all is_number more ≡ true
  digits : list_all is_digit first ≡ true
  number : begins_with_digit text ≡ true → is_number first ≡ true
  spelled : text ≡ first ++ (numbers_text more ++ after_release text)

release_by : (c : ℕ) (cs : List ℕ) (digit dot : Bool) → is_digit c ≡ digit → (c == DOT && begins_with_digit cs) ≡ dot → ReadRelease cs → ReadRelease (c ∷ cs)
release_by c cs true dot e f r =
    let rest : after_release (c ∷ cs) ≡ after_release cs = simp e in
    let well = and_from (is_digit c) (list_all is_digit r.first) e r.digits in
    record {
      first = c ∷ r.first;
      more = r.more;
      more_well = r.more_well;
      digits = well;
      number = λ h. well;
      spelled = ap (λ t. c ∷ t) (r.spelled ∙ ap (λ t. r.first ++ (numbers_text r.more ++ t)) (sym rest));
    }
release_by c cs false true e f r =
    let rest : after_release (c ∷ cs) ≡ after_release cs = simp (e, f) in
    let parts = and_parts (c == DOT) (begins_with_digit cs) f in
    let dot = eqb-true c DOT parts.0 in
    let text = r.spelled ∙ sym (append_assoc r.first (numbers_text r.more) (after_release cs)) ∙ ap (λ t. (r.first ++ numbers_text r.more) ++ t) (sym rest) in
    record {
      first = [];
      more = r.first ∷ r.more;
      more_well = and_from (is_number r.first) (list_all is_number r.more) (r.number parts.1) r.more_well;
      digits = refl;
      number = λ h. absurd (cc (h, e));
      spelled = λ i. dot i ∷ text i;
    }
release_by c cs false false e f r =
    let rest : after_release (c ∷ cs) ≡ c ∷ cs = simp (e, f) in
    record { first = []; more = []; more_well = refl; digits = refl; number = λ h. absurd (cc (h, e)); spelled = sym rest }

release_back : (text : List ℕ) → ReadRelease text
release_back [] = record { first = []; more = []; more_well = refl; digits = refl; number = λ h. absurd (cc h); spelled = refl }
release_back (c ∷ cs) = release_by c cs (is_digit c) (c == DOT && begins_with_digit cs) refl refl (release_back cs)

-- an epoch
record ReadEpoch (text : List ℕ) : Type 0 where
  epoch : Option (List ℕ)
  well : list_all is_number (option_to_list epoch) ≡ true
  spelled : text ≡ epoch_text epoch ++ after_epoch text

bang_first : (text : List ℕ) → begins_with BANG text ≡ true → text ≡ BANG ∷ later text
bang_first [] h = absurd (cc h)
bang_first (c ∷ cs) h = ap (λ x. x ∷ cs) (eqb-true c BANG h)

epoch_by : (text : List ℕ) (some : Bool) → has_epoch text ≡ some → ReadEpoch text
epoch_by text true e =
    let parts = and_parts (begins_with_digit text) (begins_with BANG (after_digits text)) e in
    let rest : after_epoch text ≡ later (after_digits text) = simp e in
    record {
      epoch = Some (front_digits text);
      well = and_from (is_number (front_digits text)) true (front_number text parts.0) refl;
      spelled =
          front_and_after text ∙ ap (λ r. front_digits text ++ r) (bang_first (after_digits text) parts.1)
          ∙ sym (append_assoc (front_digits text) (BANG ∷ []) (later (after_digits text)))
          ∙ ap (λ r. (front_digits text ++ BANG ∷ []) ++ r) (sym rest);
    }
epoch_by text false e = let rest : after_epoch text ≡ text = simp e in record { epoch = None; well = refl; spelled = sym rest }

epoch_back : (text : List ℕ) → ReadEpoch text
epoch_back text = epoch_by text (has_epoch text) refl

-- a mark
record ReadMark (text : List ℕ) : Type 0 where
  mark : Option ℕ
  well : list_all is_mark (option_to_list mark) ≡ true
  spelled : text ≡ option_to_list mark ++ after_mark text

mark_by : (c : ℕ) (cs : List ℕ) (some : Bool) → is_mark c ≡ some → ReadMark (c ∷ cs)
mark_by c cs true e = record { mark = Some c; well = and_from (is_mark c) true e refl; spelled = simp e }
mark_by c cs false e = record { mark = None; well = refl; spelled = simp e }

mark_back : (text : List ℕ) → ReadMark text
mark_back [] = record { mark = None; well = refl; spelled = refl }
mark_back (c ∷ cs) = mark_by c cs (is_mark c) refl

-- a bare post-release stands after no pre-release without a number
not_both : (bare digit : Bool) → digit ≡ false → (bare ≡ true → digit ≡ true) → bare ≡ false
not_both false digit e h = refl
not_both true digit e h = sym (h refl) ∙ e

-- a text that passes is written by the grammar
pub version_read : (text : List ℕ) → is_version text ≡ true → IsVersion text
version_read text h =
    let after_v = after_mark text in
    let from_release = release_text text in
    let at_pre = after_release from_release in
    let at_post = after_part (pre_of at_pre) at_pre in
    let at_dev = after_part (post_of at_post) at_post in
    let at_end = after_part (dev_of at_dev) at_dev in
    let parts = and_parts (begins_with_digit from_release) (is_local at_end) h in
    let mark = mark_back text in
    let epoch = epoch_back after_v in
    let release = release_back from_release in
    let pre = part_back is_known at_pre (pre_word (after_separator at_pre)) (λ w e. pre_word_back (after_separator at_pre) w e) in
    let post = post_back at_post in
    let dev = part_back (is_word dev_words) at_dev (word_of 0 dev_words (after_separator at_dev)) (λ w e. word_of_back 0 dev_words (after_separator at_dev) w e) in
    let local = local_back at_end parts.1 in
    let suffixes : at_pre ≡ optional_text pre.part ++ (post_text post.post ++ (optional_text dev.part ++ local_text local.local)) =
    pre.spelled ∙ ap (λ r. optional_text pre.part ++ r) (post.spelled ∙ ap (λ r. post_text post.post ++ r) (dev.spelled ∙ ap (λ r. optional_text dev.part ++ r) local.spelled)) in
    record {
      written = record {
        mark = mark.mark;
        epoch = epoch.epoch;
        first = release.first;
        more = release.more;
        pre = pre.part;
        post = post.post;
        dev = dev.part;
        local = local.local;
      };
      well = record {
        mark = mark.well;
        epoch = epoch.well;
        first = release.number parts.0;
        more = release.more_well;
        pre = pre.well;
        post = post.well;
        dev = dev.well;
        local = local.well;
        longest = λ none. not_both (is_bare post.post) (begins_with_digit (after_separator at_post)) (pre.absent none) post.bare;
      };
      spelled =
          mark.spelled
          ∙ ap (λ r. option_to_list mark.mark ++ r)
          (epoch.spelled ∙ ap (λ r. epoch_text epoch.epoch ++ r) (release.spelled ∙ ap (λ r. release.first ++ (numbers_text release.more ++ r)) suffixes));
    }

-- the test passes exactly the texts of the grammar
pub is_version_iff : (text : List ℕ) → IsTrue (is_version text) ↔ IsVersion text
is_version_iff text = (version_read text, λ v. ap is_version v.spelled ∙ is_version-text_of v.written v.well)
