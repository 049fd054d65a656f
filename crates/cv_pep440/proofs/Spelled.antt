-- A text that is written by the grammar is read into the parts from which it was written.
use Rattle.std.proofs.Common.{◌≡◌, ℕ, Bool, true, false, not, ◌==◌, ◌&&◌, List, [], ◌∷◌, ◌++◌, map, Option, Some, None, is_some, option_map, unwrap_or, refl, ap, ◌∙◌, append_assoc, arith}
use Rattle.std.specs.Prelude.{IfSome}
use Rattle.std.specs.Char.{is_ascii_alphanumeric, to_ascii_lowercase}
use Rattle.std.specs.List.{list_all, onto_first}
use Rattle.std.specs.Option.{is_none, option_or, option_to_list}
use Rattle.std.proofs.lemmas.Bool.{and_parts, and_from, eqb-true, not-true}
use Rattle.std.proofs.lemmas.Bool.Decides.{nat_tests}
use Rattle.cv_order.specs.Digits.{is_digit, front_digits, after_digits}
use Rattle.cv_order.specs.Filled.{later}
use Rattle.cv_pep440.specs.Bytes.{BANG, DOT, HYPHEN, is_mark, is_number, is_run, is_separator}
use Rattle.cv_pep440.specs.Grammar.{Bare, IsLocalWritten, IsNumberWritten, IsPartWritten, IsPostWritten, IsWellWritten, Named, Written, WrittenLocal, WrittenNumber, WrittenPart, WrittenPost, WrittenRun, epoch_text, is_bare, is_optional_separator, lacks_number, local_text, number_text, numbers_text, optional_text, part_text, post_text, runs_text, suffixes_text, text_of}
use Rattle.cv_pep440.specs.Words.{dev_words, is_word, post_words, rank_of}
use Rattle.cv_pep440.specs.Key.{digits_of, key_from, key_of, number_in, post_digits, ranked_in, tail_key, written_key, written_pre}
use Rattle.cv_pep440.specs.Parts.{Part, Tail, after_epoch, after_mark, after_number, after_part, after_release, after_separator, bare_post_of, begins_with, begins_with_digit, dev_of, epoch_of, has_epoch, is_local, is_version, local_of, number_of, post_of, pre_of, pre_word, release_of, release_text, runs, tail_at_dev, tail_at_post, tail_of, with_number, word_of}
use Rattle.cv_pep440.proofs.Words.{but, dev_byte, dev_word_opens, dev_word_read, later_byte, may_follow, no_post_word, no_pre_word, opens, opens_weaker, part_letter, post_word_opens, post_word_read, pre_word_opens, pre_word_read, starts, starts-opens, starts_weaker}

-- which bytes are separators, digits, letters of words
separator_no_digit : (c : ℕ) → is_separator c ≡ true → not (is_digit c) ≡ true
separator_no_digit c h = grind (arith, nat_tests)

separator_follows : (c : ℕ) → is_separator c ≡ true → may_follow c ≡ true
separator_follows c h = grind (arith, nat_tests)

separator_no_bang : (c : ℕ) → is_separator c ≡ true → not (c == BANG) ≡ true
separator_no_bang c h = grind (arith, nat_tests)

digit_no_separator : (c : ℕ) → is_digit c ≡ true → not (is_separator c) ≡ true
digit_no_separator c h = grind (arith, nat_tests)

digit_follows : (c : ℕ) → is_digit c ≡ true → may_follow c ≡ true
digit_follows c h = grind (arith, nat_tests)

digit_no_mark : (c : ℕ) → is_digit c ≡ true → is_mark c ≡ false
digit_no_mark c h = grind (arith, nat_tests)

digit_lower : (c : ℕ) → is_digit c ≡ true → is_digit (to_ascii_lowercase c) ≡ true
digit_lower c h = grind (arith, nat_tests)

letter_no_separator : (c : ℕ) → part_letter (to_ascii_lowercase c) ≡ true → not (is_separator c) ≡ true
letter_no_separator c h = grind (arith, nat_tests)

letter_no_digit : (c : ℕ) → part_letter (to_ascii_lowercase c) ≡ true → not (is_digit c) ≡ true
letter_no_digit c h = grind (arith, nat_tests)

letter_no_bang : (c : ℕ) → part_letter (to_ascii_lowercase c) ≡ true → not (c == BANG) ≡ true
letter_no_bang c h = grind (arith, nat_tests)

later_no_separator : (c : ℕ) → later_byte (to_ascii_lowercase c) ≡ true → not (is_separator c) ≡ true
later_no_separator c h = grind (arith, nat_tests)

later_no_digit : (c : ℕ) → later_byte (to_ascii_lowercase c) ≡ true → not (is_digit c) ≡ true
later_no_digit c h = grind (arith, nat_tests)

later_no_bang : (c : ℕ) → later_byte (to_ascii_lowercase c) ≡ true → not (c == BANG) ≡ true
later_no_bang c h = grind (arith, nat_tests)

later_follows : (c : ℕ) → later_byte (to_ascii_lowercase c) ≡ true → may_follow c ≡ true
later_follows c h = grind (arith, nat_tests)

dev_is_later : (x : ℕ) → dev_byte x ≡ true → later_byte x ≡ true
dev_is_later x h = grind (arith, nat_tests)

run_no_separator : (c : ℕ) → is_ascii_alphanumeric c ≡ true → is_separator c ≡ false
run_no_separator c h = grind (arith, nat_tests)

-- a byte that passes a test is none that fails it
same_byte : (test : ℕ → Bool) (w x : ℕ) → x ≡ w → test w ≡ false → test x ≡ true → false ≡ true
same_byte test w x same fails passes = cc

apart_by : (test : ℕ → Bool) (w x : ℕ) (same : Bool) → (x == w) ≡ same → test w ≡ false → test x ≡ true → not same ≡ true
apart_by test w x false e fails passes = refl
apart_by test w x true e fails passes = same_byte test w x (eqb-true x w e) fails passes

apart : (test : ℕ → Bool) (w : ℕ) → test w ≡ false → (x : ℕ) → test x ≡ true → not (x == w) ≡ true
apart test w fails x passes = apart_by test w x (x == w) refl fails passes

-- a text that begins otherwise
starts_no_digit : (text : List ℕ) → starts (λ c. not (is_digit c)) text ≡ true → begins_with_digit text ≡ false
starts_no_digit [] h = refl
starts_no_digit (c ∷ cs) h = not-true (is_digit c) h

starts_no_bang : (text : List ℕ) → starts (λ c. not (c == BANG)) text ≡ true → begins_with BANG text ≡ false
starts_no_bang [] h = refl
starts_no_bang (c ∷ cs) h = not-true (c == BANG) h

later_first : (text : List ℕ) → starts (λ c. later_byte (to_ascii_lowercase c)) text ≡ true → begins_with_digit text ≡ false
later_first text h = starts_no_digit text (starts_weaker (λ c. later_byte (to_ascii_lowercase c)) (λ c. not (is_digit c)) later_no_digit text h)

-- digits at the front
front_none : (text : List ℕ) → begins_with_digit text ≡ false → front_digits text ≡ []
front_none [] h = refl
front_none (c ∷ cs) h = simp h

after_none : (text : List ℕ) → begins_with_digit text ≡ false → after_digits text ≡ text
after_none [] h = refl
after_none (c ∷ cs) h = simp h

digits_front : (digits text : List ℕ) → list_all is_digit digits ≡ true → begins_with_digit text ≡ false → front_digits (digits ++ text) ≡ digits
digits_front [] text h k = front_none text k
digits_front (d ∷ ds) text h k = let parts = and_parts (is_digit d) (list_all is_digit ds) h in simp parts.0 (ap (λ r. d ∷ r) (digits_front ds text parts.1 k))

digits_after : (digits text : List ℕ) → list_all is_digit digits ≡ true → begins_with_digit text ≡ false → after_digits (digits ++ text) ≡ text
digits_after [] text h k = after_none text k
digits_after (d ∷ ds) text h k = let parts = and_parts (is_digit d) (list_all is_digit ds) h in simp parts.0 (digits_after ds text parts.1 k)

number_digits : (digits : List ℕ) → is_number digits ≡ true → list_all is_digit digits ≡ true
number_digits [] h = refl
number_digits (d ∷ ds) h = h

number_opens : (digits : List ℕ) → is_number digits ≡ true → opens is_digit digits ≡ true
number_opens [] h = cc
number_opens (d ∷ ds) h = (and_parts (is_digit d) (list_all is_digit ds) h).0

number_begins : (digits text : List ℕ) → is_number digits ≡ true → begins_with_digit (digits ++ text) ≡ true
number_begins [] text h = cc
number_begins (d ∷ ds) text h = (and_parts (is_digit d) (list_all is_digit ds) h).0

-- a separator, if there is one
separator_read : (separator : Option ℕ) (text : List ℕ) → is_optional_separator separator ≡ true → starts (λ c. not (is_separator c)) text ≡ true → after_separator (option_to_list separator ++ text) ≡ text
separator_read None [] h k = refl
separator_read None (c ∷ cs) h k = simp (not-true (is_separator c) k)
separator_read (Some s) text h k = simp (and_parts (is_separator s) true h).0

-- the first byte of a separator, if there is one, and a word
heads : (test : ℕ → Bool) → ((c : ℕ) → is_separator c ≡ true → test c ≡ true) → (separator : Option ℕ) (word text : List ℕ) → is_optional_separator separator ≡ true → opens test word ≡ true → starts test (option_to_list separator ++ (word ++ text)) ≡ true
heads test up None word text h k = starts-opens test word text k
heads test up (Some s) word text h k = up s (and_parts (is_separator s) true h).0

-- a number is read whole, where what comes after it is no digit
after_number_some : (text : List ℕ) → begins_with_digit (after_separator text) ≡ true → after_number text ≡ after_digits (after_separator text)
after_number_some text h = simp h

after_number_none : (text : List ℕ) → begins_with_digit (after_separator text) ≡ false → after_number text ≡ text
after_number_none text h = simp h

number_read : (number : Option WrittenNumber) (text : List ℕ) → IfSome number IsNumberWritten → begins_with_digit text ≡ false → (is_none number ≡ true → begins_with_digit (after_separator text) ≡ false)
    → (number_of (number_text number ++ text) ≡ digits_of number) × (after_number (number_text number ++ text) ≡ text)
number_read None text w first free = (front_none (after_separator text) (free refl), after_number_none text (free refl))
number_read (Some number) text w first free =
    let digits = number_digits number.digits w.digits in
    let whole = number_text (Some number) ++ text in
    let at : after_separator whole ≡ number.digits ++ text =
    ap after_separator (append_assoc (option_to_list number.separator) number.digits text)
    ∙ separator_read number.separator (number.digits ++ text) w.separator
    (starts-opens (λ c. not (is_separator c)) number.digits text (opens_weaker is_digit (λ c. not (is_separator c)) digit_no_separator number.digits (number_opens number.digits w.digits))) in (
      ap front_digits at ∙ digits_front number.digits text digits first,
      after_number_some whole (ap begins_with_digit at ∙ number_begins number.digits text w.digits) ∙ ap after_digits at ∙ digits_after number.digits text digits first,
    )

with_number_read : (rank : ℕ) (number : Option WrittenNumber) (text : List ℕ) → IfSome number IsNumberWritten → begins_with_digit text ≡ false → (is_none number ≡ true → begins_with_digit (after_separator text) ≡ false)
    → with_number (Some (record { rank = rank; rest = number_text number ++ text })) ≡ Some (record { rank = rank; number = digits_of number; rest = text })
with_number_read rank number text w first free = let r = number_read number text w first free in λ i. Some (record { rank = rank; number = r.0 i; rest = r.1 i })

follow_by : (separator : Option ℕ) (digits text : List ℕ) → is_optional_separator separator ≡ true → is_number digits ≡ true → starts may_follow ((option_to_list separator ++ digits) ++ text) ≡ true
follow_by None [] text h k = cc
follow_by None (d ∷ ds) text h k = digit_follows d (and_parts (is_digit d) (list_all is_digit ds) k).0
follow_by (Some s) digits text h k = separator_follows s (and_parts (is_separator s) true h).0

number_follows : (number : Option WrittenNumber) (text : List ℕ) → IfSome number IsNumberWritten → starts may_follow text ≡ true → starts may_follow (number_text number ++ text) ≡ true
number_follows None text w h = h
number_follows (Some number) text w h = follow_by number.separator number.digits text w.separator w.digits

-- a part before a text
pub part_assoc : (part : WrittenPart) (text : List ℕ) → part_text part ++ text ≡ option_to_list part.separator ++ (part.word ++ (number_text part.number ++ text))
part_assoc part text =
    append_assoc (option_to_list part.separator) (part.word ++ number_text part.number) text
    ∙ ap (λ r. option_to_list part.separator ++ r) (append_assoc part.word (number_text part.number) text)

word_at : (part : WrittenPart) (text : List ℕ) → is_optional_separator part.separator ≡ true → opens (λ c. not (is_separator c)) part.word ≡ true → after_separator (part_text part ++ text) ≡ part.word ++ (number_text part.number ++ text)
word_at part text s word =
    ap after_separator (part_assoc part text)
    ∙ separator_read part.separator (part.word ++ (number_text part.number ++ text)) s (starts-opens (λ c. not (is_separator c)) part.word (number_text part.number ++ text) word)

part_heads : (test : ℕ → Bool) → ((c : ℕ) → is_separator c ≡ true → test c ≡ true) → (part : WrittenPart) (text : List ℕ) → is_optional_separator part.separator ≡ true → opens test part.word ≡ true → starts test (part_text part ++ text) ≡ true
part_heads test up part text s word = ap (starts test) (part_assoc part text) ∙ heads test up part.separator part.word (number_text part.number ++ text) s word

-- how a text begins that may come after a part: with the word of a post-release or a development release, or with `+`
record Follows (text : List ℕ) : Type 0 where
  lead : starts (λ c. later_byte (to_ascii_lowercase c)) (after_separator text) ≡ true
  first : begins_with_digit text ≡ false
  follow : starts may_follow text ≡ true
  bang : begins_with BANG text ≡ false

part_follows : (part : WrittenPart) (text : List ℕ) → is_optional_separator part.separator ≡ true → opens (λ c. later_byte (to_ascii_lowercase c)) part.word ≡ true → Follows (part_text part ++ text)
part_follows part text s word =
    let weaker = λ (test : ℕ → Bool) (up : (c : ℕ) → later_byte (to_ascii_lowercase c) ≡ true → test c ≡ true). opens_weaker (λ c. later_byte (to_ascii_lowercase c)) test up part.word word in
    record {
      lead = ap (starts (λ c. later_byte (to_ascii_lowercase c))) (word_at part text s (weaker (λ c. not (is_separator c)) later_no_separator))
          ∙ starts-opens (λ c. later_byte (to_ascii_lowercase c)) part.word (number_text part.number ++ text) word;
      first = starts_no_digit (part_text part ++ text) (part_heads (λ c. not (is_digit c)) separator_no_digit part text s (weaker (λ c. not (is_digit c)) later_no_digit));
      follow = part_heads may_follow separator_follows part text s (weaker may_follow later_follows);
      bang = starts_no_bang (part_text part ++ text) (part_heads (λ c. not (c == BANG)) separator_no_bang part text s (weaker (λ c. not (c == BANG)) later_no_bang));
    }

-- what follows is no digit, also after a separator
lead_first : (text : List ℕ) → Follows text → begins_with_digit (after_separator text) ≡ false
lead_first text f = later_first (after_separator text) f.lead

bare_by : (c : ℕ) (cs : List ℕ) (hyphen : Bool) → (c == HYPHEN) ≡ hyphen → begins_with_digit (after_separator (c ∷ cs)) ≡ false → bare_post_of (c ∷ cs) ≡ None
bare_by c cs true e h = let no : begins_with_digit cs ≡ false = simp e at h in simp (e, no)
bare_by c cs false e h = simp e

bare_none : (text : List ℕ) → begins_with_digit (after_separator text) ≡ false → bare_post_of text ≡ None
bare_none [] h = refl
bare_none (c ∷ cs) h = bare_by c cs (c == HYPHEN) refl h

-- a dot and a digit
abbrev dotted : List ℕ → Bool
dotted [] = false
dotted (c ∷ cs) = c == DOT && begins_with_digit cs

dot_by : (c : ℕ) (cs : List ℕ) (dot : Bool) → (c == DOT) ≡ dot → begins_with_digit (after_separator (c ∷ cs)) ≡ false → (c == DOT && begins_with_digit cs) ≡ false
dot_by c cs true e h =
    let mark : is_separator c ≡ true = grind (arith, nat_tests) in
    let no : begins_with_digit cs ≡ false = simp mark at h in simp (e, no)
dot_by c cs false e h = simp e

dot_none : (text : List ℕ) → begins_with_digit (after_separator text) ≡ false → dotted text ≡ false
dot_none [] h = refl
dot_none (c ∷ cs) h = dot_by c cs (c == DOT) refl h

-- the local version
local_follows : (local : Option WrittenLocal) → Follows (local_text local)
local_follows None = record { lead = refl; first = refl; follow = refl; bang = refl }
local_follows (Some local) = record { lead = refl; first = refl; follow = refl; bang = refl }

run_bytes : (run : List ℕ) → is_run run ≡ true → list_all is_ascii_alphanumeric run ≡ true
run_bytes [] h = refl
run_bytes (c ∷ cs) h = h

run_read : (run text : List ℕ) (more : List (List ℕ)) → list_all is_ascii_alphanumeric run ≡ true → runs text ≡ [] ∷ more → runs (run ++ text) ≡ run ∷ more
run_read [] text more h e = e
run_read (c ∷ cs) text more h e =
    let parts = and_parts (is_ascii_alphanumeric c) (list_all is_ascii_alphanumeric cs) h in
    simp (run_no_separator c parts.0) (ap (onto_first c) (run_read cs text more parts.1 e))

runs_read : (more : List WrittenRun) → list_all (λ run. is_separator run.separator) more ≡ true → list_all (λ run. is_run run.run) more ≡ true → runs (runs_text more) ≡ [] ∷ map (λ run. run.run) more
runs_read [] s h = refl
runs_read (run ∷ more) s h =
    let marks = and_parts (is_separator run.separator) (list_all (λ r. is_separator r.separator) more) s in
    let parts = and_parts (is_run run.run) (list_all (λ r. is_run r.run) more) h in
    simp marks.0 (ap (λ r. [] ∷ r) (run_read run.run (runs_text more) (map (λ r. r.run) more) (run_bytes run.run parts.0) (runs_read more marks.1 parts.1)))

local_runs : (local : WrittenLocal) → IsLocalWritten local → runs (local.first ++ runs_text local.more) ≡ local.first ∷ map (λ run. run.run) local.more
local_runs local w = run_read local.first (runs_text local.more) (map (λ run. run.run) local.more) (run_bytes local.first w.first) (runs_read local.more w.separators w.runs)

all_map : (more : List WrittenRun) → list_all (λ run. is_run run.run) more ≡ true → list_all is_run (map (λ run. run.run) more) ≡ true
all_map [] h = refl
all_map (run ∷ more) h = let parts = and_parts (is_run run.run) (list_all (λ r. is_run r.run) more) h in and_from (is_run run.run) (list_all is_run (map (λ r. r.run) more)) parts.0 (all_map more parts.1)

abbrev local_key : Option WrittenLocal → Option (List (List ℕ))
local_key local = option_map (λ (l : WrittenLocal). l.first ∷ map (λ run. run.run) l.more) local

local_read : (local : Option WrittenLocal) → IfSome local IsLocalWritten → local_of (local_text local) ≡ local_key local
local_read None w = refl
local_read (Some local) w = ap Some (local_runs local w)

local_ok : (local : Option WrittenLocal) → IfSome local IsLocalWritten → is_local (local_text local) ≡ true
local_ok None w = refl
local_ok (Some local) w =
    ap (list_all is_run) (local_runs local w)
    ∙ and_from (is_run local.first) (list_all is_run (map (λ run. run.run) local.more)) w.first (all_map local.more w.runs)

-- the development release
abbrev dev_written : Option WrittenPart → List ℕ → Option Part
dev_written None text = None
dev_written (Some part) text = Some (record { rank = 0; number = digits_of part.number; rest = text })

module _ (local : Option WrittenLocal) where
  abbrev L : List ℕ
  L = local_text local

  dev_follows : (dev : Option WrittenPart) → IfSome dev (IsPartWritten (is_word dev_words)) → Follows (optional_text dev ++ L)
  dev_follows None w = local_follows local
  dev_follows (Some part) w =
      part_follows part L w.separator (opens_weaker (λ c. dev_byte (to_ascii_lowercase c)) (λ c. later_byte (to_ascii_lowercase c)) (λ c h. dev_is_later (to_ascii_lowercase c) h) part.word (dev_word_opens part.word w.word))

  local_leads : (l : Option WrittenLocal) → starts (λ c. dev_byte (to_ascii_lowercase c)) (after_separator (local_text l)) ≡ true
  local_leads None = refl
  local_leads (Some l) = refl

  dev_word_at : (part : WrittenPart) → IsPartWritten (is_word dev_words) part → after_separator (part_text part ++ L) ≡ part.word ++ (number_text part.number ++ L)
  dev_word_at part w =
      word_at part L w.separator (opens_weaker (λ c. dev_byte (to_ascii_lowercase c)) (λ c. not (is_separator c)) (λ c h. later_no_separator c (dev_is_later (to_ascii_lowercase c) h)) part.word (dev_word_opens part.word w.word))

  dev_leads : (dev : Option WrittenPart) → IfSome dev (IsPartWritten (is_word dev_words)) → starts (λ c. dev_byte (to_ascii_lowercase c)) (after_separator (optional_text dev ++ L)) ≡ true
  dev_leads None w = local_leads local
  dev_leads (Some part) w =
      ap (starts (λ c. dev_byte (to_ascii_lowercase c))) (dev_word_at part w)
      ∙ starts-opens (λ c. dev_byte (to_ascii_lowercase c)) part.word (number_text part.number ++ L) (dev_word_opens part.word w.word)

  no_dev : (l : Option WrittenLocal) → dev_of (local_text l) ≡ None
  no_dev None = refl
  no_dev (Some l) = refl

  dev_read : (dev : Option WrittenPart) → IfSome dev (IsPartWritten (is_word dev_words)) → dev_of (optional_text dev ++ L) ≡ dev_written dev L
  dev_read None w = no_dev local
  dev_read (Some part) w =
      let f = local_follows local in
      ap (λ t. with_number (word_of 0 dev_words t)) (dev_word_at part w)
      ∙ ap with_number (dev_word_read part.word (number_text part.number ++ L) (number_follows part.number L w.number f.follow) w.word)
      ∙ with_number_read 0 part.number L w.number f.first (λ none. lead_first L f)

-- the post-release
abbrev post_written : Option WrittenPost → List ℕ → Option Part
post_written None text = None
post_written (Some (Named part)) text = Some (record { rank = 0; number = digits_of part.number; rest = text })
post_written (Some (Bare digits)) text = Some (record { rank = 0; number = digits; rest = text })

bare_some : (text : List ℕ) → begins_with_digit text ≡ true → bare_post_of (HYPHEN ∷ text) ≡ Some (record { rank = 0; number = front_digits text; rest = after_digits text })
bare_some text h = simp h

module _ (D : List ℕ) (f : Follows D) (leads : starts (λ c. dev_byte (to_ascii_lowercase c)) (after_separator D) ≡ true) where
  letters : (w : ℕ) → dev_byte w ≡ false → starts (but w) (after_separator D) ≡ true
  letters w fails = starts_weaker (λ c. dev_byte (to_ascii_lowercase c)) (but w) (λ c h. apart dev_byte w fails (to_ascii_lowercase c) h) (after_separator D) leads

  no_post : post_of D ≡ None
  no_post = λ i. option_or (bare_none D (lead_first D f) i) (with_number (no_post_word (after_separator D) (letters 112 refl) (letters 114 refl) i))

  no_pre : pre_of D ≡ None
  no_pre = ap with_number (no_pre_word (after_separator D) (letters 97 refl) (letters 98 refl) (letters 112 refl) (letters 114 refl) (letters 99 refl))

  post_opens : (part : WrittenPart) → IsPartWritten (is_word post_words) part → opens (λ c. not (is_separator c)) part.word ≡ true
  post_opens part w = opens_weaker (λ c. later_byte (to_ascii_lowercase c)) (λ c. not (is_separator c)) later_no_separator part.word (post_word_opens part.word w.word)

  post_word_at : (part : WrittenPart) → IsPartWritten (is_word post_words) part → after_separator (part_text part ++ D) ≡ part.word ++ (number_text part.number ++ D)
  post_word_at part w = word_at part D w.separator (post_opens part w)

  named_follows : (part : WrittenPart) → IsPartWritten (is_word post_words) part → Follows (part_text part ++ D)
  named_follows part w = part_follows part D w.separator (post_word_opens part.word w.word)

  post_read : (post : Option WrittenPost) → IfSome post IsPostWritten → post_of (post_text post ++ D) ≡ post_written post D
  post_read None w = no_post
  post_read (Some (Named part)) w =
      let text = part_text part ++ D in
      let none : bare_post_of text ≡ None = bare_none text (lead_first text (named_follows part w)) in
      let word : word_of 0 post_words (after_separator text) ≡ Some (record { rank = 0; rest = number_text part.number ++ D }) =
      ap (word_of 0 post_words) (post_word_at part w) ∙ (post_word_read part.word (number_text part.number ++ D) (number_follows part.number D w.number f.follow) w.word).0 in
      (λ i. option_or (none i) (with_number (word i))) ∙ with_number_read 0 part.number D w.number f.first (λ none. lead_first D f)
  post_read (Some (Bare digits)) w =
      let front = digits_front digits D (number_digits digits w) f.first in
      let after = digits_after digits D (number_digits digits w) f.first in
      ap (λ o. option_or o (with_number (word_of 0 post_words (after_separator (HYPHEN ∷ (digits ++ D))))))
      (bare_some (digits ++ D) (number_begins digits D w) ∙ (λ i. Some (record { rank = 0; number = front i; rest = after i })))

  -- how it begins
  post_follows : (post : Option WrittenPost) → IfSome post IsPostWritten → is_bare post ≡ false → Follows (post_text post ++ D)
  post_follows None w h = f
  post_follows (Some (Named part)) w h = named_follows part w
  post_follows (Some (Bare digits)) w h = absurd (cc h)

  post_first : (post : Option WrittenPost) → IfSome post IsPostWritten → begins_with_digit (post_text post ++ D) ≡ false
  post_first None w = f.first
  post_first (Some (Named part)) w = (named_follows part w).first
  post_first (Some (Bare digits)) w = refl

  post_may_follow : (post : Option WrittenPost) → IfSome post IsPostWritten → starts may_follow (post_text post ++ D) ≡ true
  post_may_follow None w = f.follow
  post_may_follow (Some (Named part)) w = (named_follows part w).follow
  post_may_follow (Some (Bare digits)) w = refl

  post_bang : (post : Option WrittenPost) → IfSome post IsPostWritten → begins_with BANG (post_text post ++ D) ≡ false
  post_bang None w = f.bang
  post_bang (Some (Named part)) w = (named_follows part w).bang
  post_bang (Some (Bare digits)) w = refl

  post_dot : (post : Option WrittenPost) → IfSome post IsPostWritten → dotted (post_text post ++ D) ≡ false
  post_dot None w = dot_none D (lead_first D f)
  post_dot (Some (Named part)) w = dot_none (part_text part ++ D) (lead_first (part_text part ++ D) (named_follows part w))
  post_dot (Some (Bare digits)) w = refl

  digit_letters : (digits : List ℕ) → is_number digits ≡ true → (w : ℕ) → is_digit w ≡ false → starts (but w) (digits ++ D) ≡ true
  digit_letters digits h w fails =
      starts-opens (but w) digits D (opens_weaker is_digit (but w) (λ c k. apart is_digit w fails (to_ascii_lowercase c) (digit_lower c k)) digits (number_opens digits h))

  no_pre_before : (post : Option WrittenPost) → IfSome post IsPostWritten → pre_of (post_text post ++ D) ≡ None
  no_pre_before None w = no_pre
  no_pre_before (Some (Named part)) w =
      ap (λ t. with_number (pre_word t)) (post_word_at part w)
      ∙ ap with_number (post_word_read part.word (number_text part.number ++ D) (number_follows part.number D w.number f.follow) w.word).1
  no_pre_before (Some (Bare digits)) w =
      let letter = digit_letters digits w in
      ap with_number (no_pre_word (digits ++ D) (letter 97 refl) (letter 98 refl) (letter 112 refl) (letter 114 refl) (letter 99 refl))

-- the pre-release
abbrev pre_written : Option WrittenPart → List ℕ → Option Part
pre_written None text = None
pre_written (Some part) text = Some (record { rank = unwrap_or (rank_of part.word) 0; number = digits_of part.number; rest = text })

abbrev is_known : List ℕ → Bool
is_known word = is_some (rank_of word)

module _ (D : List ℕ) (f : Follows D) (leads : starts (λ c. dev_byte (to_ascii_lowercase c)) (after_separator D) ≡ true) (post : Option WrittenPost) (post_well : IfSome post IsPostWritten) where
  abbrev P : List ℕ
  P = post_text post ++ D

  pre_opens : (part : WrittenPart) → IsPartWritten is_known part → (test : ℕ → Bool) → ((c : ℕ) → part_letter (to_ascii_lowercase c) ≡ true → test c ≡ true) → opens test part.word ≡ true
  pre_opens part w test up = opens_weaker (λ c. part_letter (to_ascii_lowercase c)) test up part.word (pre_word_opens part.word w.word)

  pre_word_at : (part : WrittenPart) → IsPartWritten is_known part → after_separator (part_text part ++ P) ≡ part.word ++ (number_text part.number ++ P)
  pre_word_at part w = word_at part P w.separator (pre_opens part w (λ c. not (is_separator c)) letter_no_separator)

  no_number : (pre : Option WrittenPart) → (lacks_number pre ≡ true → is_bare post ≡ false) → lacks_number pre ≡ true → begins_with_digit (after_separator P) ≡ false
  no_number pre longest none = lead_first P (post_follows D f leads post post_well (longest none))

  pre_read : (pre : Option WrittenPart) → IfSome pre (IsPartWritten is_known) → (lacks_number pre ≡ true → is_bare post ≡ false) → pre_of (optional_text pre ++ P) ≡ pre_written pre P
  pre_read None w longest = no_pre_before D f leads post post_well
  pre_read (Some part) w longest =
      ap (λ t. with_number (pre_word t)) (pre_word_at part w)
      ∙ ap with_number (pre_word_read part.word (number_text part.number ++ P) (number_follows part.number P w.number (post_may_follow D f leads post post_well)) w.word)
      ∙ with_number_read (unwrap_or (rank_of part.word) 0) part.number P w.number (post_first D f leads post post_well) (no_number (Some part) longest)

  -- how what comes after a release begins
  suffix_first : (pre : Option WrittenPart) → IfSome pre (IsPartWritten is_known) → begins_with_digit (optional_text pre ++ P) ≡ false
  suffix_first None w = post_first D f leads post post_well
  suffix_first (Some part) w = starts_no_digit (part_text part ++ P) (part_heads (λ c. not (is_digit c)) separator_no_digit part P w.separator (pre_opens part w (λ c. not (is_digit c)) letter_no_digit))

  suffix_bang : (pre : Option WrittenPart) → IfSome pre (IsPartWritten is_known) → begins_with BANG (optional_text pre ++ P) ≡ false
  suffix_bang None w = post_bang D f leads post post_well
  suffix_bang (Some part) w = starts_no_bang (part_text part ++ P) (part_heads (λ c. not (c == BANG)) separator_no_bang part P w.separator (pre_opens part w (λ c. not (c == BANG)) letter_no_bang))

  suffix_dot : (pre : Option WrittenPart) → IfSome pre (IsPartWritten is_known) → dotted (optional_text pre ++ P) ≡ false
  suffix_dot None w = post_dot D f leads post post_well
  suffix_dot (Some part) w =
      let word : starts (λ c. not (is_digit c)) (part.word ++ (number_text part.number ++ P)) ≡ true =
      starts-opens (λ c. not (is_digit c)) part.word (number_text part.number ++ P) (pre_opens part w (λ c. not (is_digit c)) letter_no_digit) in
      dot_none (part_text part ++ P) (ap begins_with_digit (pre_word_at part w) ∙ starts_no_digit (part.word ++ (number_text part.number ++ P)) word)

-- the parts after a release, one after the other
after_dev : (dev : Option WrittenPart) (text : List ℕ) → after_part (dev_written dev text) (optional_text dev ++ text) ≡ text
after_dev None text = refl
after_dev (Some part) text = refl

after_post : (post : Option WrittenPost) (text : List ℕ) → after_part (post_written post text) (post_text post ++ text) ≡ text
after_post None text = refl
after_post (Some (Named part)) text = refl
after_post (Some (Bare digits)) text = refl

after_pre : (pre : Option WrittenPart) (text : List ℕ) → after_part (pre_written pre text) (optional_text pre ++ text) ≡ text
after_pre None text = refl
after_pre (Some part) text = refl

module _ (w : Written) (well : IsWellWritten w) where
  abbrev end : List ℕ
  end = local_text w.local

  abbrev at_dev : List ℕ
  at_dev = optional_text w.dev ++ end

  abbrev at_post : List ℕ
  at_post = post_text w.post ++ at_dev

  abbrev at_pre : List ℕ
  at_pre = optional_text w.pre ++ at_post

  abbrev tail_written : Tail
  tail_written = record { pre = pre_written w.pre at_post; post = post_written w.post at_dev; dev = dev_written w.dev end; rest = end }

  dev_f : Follows at_dev
  dev_f = dev_follows w.local w.dev well.dev

  dev_l : starts (λ c. dev_byte (to_ascii_lowercase c)) (after_separator at_dev) ≡ true
  dev_l = dev_leads w.local w.dev well.dev

  tail_read : tail_of at_pre ≡ tail_written
  tail_read =
      let pre = pre_read at_dev dev_f dev_l w.post well.post w.pre well.pre well.longest in
      let post = post_read at_dev dev_f dev_l w.post well.post in
      let dev = dev_read w.local w.dev well.dev in
      let to_post : after_part (pre_of at_pre) at_pre ≡ at_post = ap (λ p. after_part p at_pre) pre ∙ after_pre w.pre at_post in
      let to_dev : after_part (post_of at_post) at_post ≡ at_dev = ap (λ p. after_part p at_post) post ∙ after_post w.post at_dev in
      let to_end : after_part (dev_of at_dev) at_dev ≡ end = ap (λ p. after_part p at_dev) dev ∙ after_dev w.dev end in
      (λ i. tail_at_post (pre i) (to_post i))
      ∙ (λ i. tail_at_dev (pre_written w.pre at_post) (post i) (to_dev i))
      ∙ (λ i. record { pre = pre_written w.pre at_post; post = post_written w.post at_dev; dev = dev i; rest = to_end i })

-- the release
release_end : (text : List ℕ) → begins_with_digit text ≡ false → dotted text ≡ false → (release_of text ≡ [] ∷ []) × (after_release text ≡ text)
release_end [] first dot = (refl, refl)
release_end (c ∷ cs) first dot = (simp (first, dot), simp (first, dot))

release_run : (digits text : List ℕ) (more : List (List ℕ)) → list_all is_digit digits ≡ true → release_of text ≡ [] ∷ more → release_of (digits ++ text) ≡ digits ∷ more
release_run [] text more h e = e
release_run (d ∷ ds) text more h e = let parts = and_parts (is_digit d) (list_all is_digit ds) h in simp parts.0 (ap (onto_first d) (release_run ds text more parts.1 e))

after_run : (digits text rest : List ℕ) → list_all is_digit digits ≡ true → after_release text ≡ rest → after_release (digits ++ text) ≡ rest
after_run [] text rest h e = e
after_run (d ∷ ds) text rest h e = let parts = and_parts (is_digit d) (list_all is_digit ds) h in simp parts.0 (after_run ds text rest parts.1 e)

dot_read : (text : List ℕ) → begins_with_digit text ≡ true → (release_of (DOT ∷ text) ≡ [] ∷ release_of text) × (after_release (DOT ∷ text) ≡ after_release text)
dot_read text h = (simp h, simp h)

module _ (rest : List ℕ) (first : begins_with_digit rest ≡ false) (dot : dotted rest ≡ false) where
  numbers_read : (more : List (List ℕ)) → list_all is_number more ≡ true → release_of (numbers_text more ++ rest) ≡ [] ∷ more
  numbers_read [] h = (release_end rest first dot).0
  numbers_read (n ∷ more) h =
      let parts = and_parts (is_number n) (list_all is_number more) h in
      let text = n ++ (numbers_text more ++ rest) in
      ap release_of (ap (λ r. DOT ∷ r) (append_assoc n (numbers_text more) rest))
      ∙ (dot_read text (number_begins n (numbers_text more ++ rest) parts.0)).0
      ∙ ap (λ r. [] ∷ r) (release_run n (numbers_text more ++ rest) more (number_digits n parts.0) (numbers_read more parts.1))

  numbers_after : (more : List (List ℕ)) → list_all is_number more ≡ true → after_release (numbers_text more ++ rest) ≡ rest
  numbers_after [] h = (release_end rest first dot).1
  numbers_after (n ∷ more) h =
      let parts = and_parts (is_number n) (list_all is_number more) h in
      let text = n ++ (numbers_text more ++ rest) in
      ap after_release (ap (λ r. DOT ∷ r) (append_assoc n (numbers_text more) rest))
      ∙ (dot_read text (number_begins n (numbers_text more ++ rest) parts.0)).1
      ∙ after_run n (numbers_text more ++ rest) rest (number_digits n parts.0) (numbers_after more parts.1)

  numbers_first : (more : List (List ℕ)) → begins_with_digit (numbers_text more ++ rest) ≡ false
  numbers_first [] = first
  numbers_first (n ∷ more) = refl

  numbers_bang : (more : List (List ℕ)) → begins_with BANG rest ≡ false → begins_with BANG (numbers_text more ++ rest) ≡ false
  numbers_bang [] h = h
  numbers_bang (n ∷ more) h = refl

-- the epoch and the mark
no_epoch_by : (text : List ℕ) → has_epoch text ≡ false → (epoch_of text ≡ []) × (after_epoch text ≡ text)
no_epoch_by text h = (simp h, simp h)

epoch_by : (text : List ℕ) → has_epoch text ≡ true → (epoch_of text ≡ front_digits text) × (after_epoch text ≡ later (after_digits text))
epoch_by text h = (simp h, simp h)

no_epoch : (first rest : List ℕ) → is_number first ≡ true → begins_with_digit rest ≡ false → begins_with BANG rest ≡ false → has_epoch (first ++ rest) ≡ false
no_epoch first rest h no_digit no_bang =
    ap (λ b. b && begins_with BANG (after_digits (first ++ rest))) (number_begins first rest h)
    ∙ ap (begins_with BANG) (digits_after first rest (number_digits first h) no_digit) ∙ no_bang

some_epoch : (digits rest : List ℕ) → is_number digits ≡ true → has_epoch (digits ++ BANG ∷ rest) ≡ true
some_epoch digits rest h =
    ap (λ b. b && begins_with BANG (after_digits (digits ++ BANG ∷ rest))) (number_begins digits (BANG ∷ rest) h)
    ∙ ap (begins_with BANG) (digits_after digits (BANG ∷ rest) (number_digits digits h) refl)

module _ (first rest : List ℕ) (number : is_number first ≡ true) (no_digit : begins_with_digit rest ≡ false) (no_bang : begins_with BANG rest ≡ false) where
  abbrev release : List ℕ
  release = first ++ rest

  epoch_read : (epoch : Option (List ℕ)) → list_all is_number (option_to_list epoch) ≡ true → (epoch_of (epoch_text epoch ++ release) ≡ unwrap_or epoch []) × (after_epoch (epoch_text epoch ++ release) ≡ release)
  epoch_read None h = no_epoch_by release (no_epoch first rest number no_digit no_bang)
  epoch_read (Some digits) h =
      let well = (and_parts (is_number digits) true h).0 in
      let at : epoch_text (Some digits) ++ release ≡ digits ++ BANG ∷ release = append_assoc digits (BANG ∷ []) release in
      let read = epoch_by (digits ++ BANG ∷ release) (some_epoch digits release well) in (
        ap epoch_of at ∙ read.0 ∙ digits_front digits (BANG ∷ release) (number_digits digits well) refl,
        ap after_epoch at ∙ read.1 ∙ ap later (digits_after digits (BANG ∷ release) (number_digits digits well) refl),
      )

  epoch_begins : (epoch : Option (List ℕ)) → list_all is_number (option_to_list epoch) ≡ true → begins_with_digit (epoch_text epoch ++ release) ≡ true
  epoch_begins None h = number_begins first rest number
  epoch_begins (Some digits) h =
      ap begins_with_digit (append_assoc digits (BANG ∷ []) release) ∙ number_begins digits (BANG ∷ release) (and_parts (is_number digits) true h).0

mark_read : (mark : Option ℕ) (text : List ℕ) → list_all is_mark (option_to_list mark) ≡ true → begins_with_digit text ≡ true → after_mark (option_to_list mark ++ text) ≡ text
mark_read None [] h k = refl
mark_read None (c ∷ cs) h k = simp (digit_no_mark c k)
mark_read (Some m) text h k = simp (and_parts (is_mark m) true h).0

-- numbers and ranks of the parts
pre_ranked : (pre : Option WrittenPart) (text : List ℕ) → ranked_in (pre_written pre text) ≡ option_map written_pre pre
pre_ranked None text = refl
pre_ranked (Some part) text = refl

post_number : (post : Option WrittenPost) (text : List ℕ) → number_in (post_written post text) ≡ option_map post_digits post
post_number None text = refl
post_number (Some (Named part)) text = refl
post_number (Some (Bare digits)) text = refl

dev_number : (dev : Option WrittenPart) (text : List ℕ) → number_in (dev_written dev text) ≡ option_map (λ (part : WrittenPart). digits_of part.number) dev
dev_number None text = refl
dev_number (Some part) text = refl

module _ (w : Written) (well : IsWellWritten w) where
  abbrev tail_text : List ℕ
  tail_text = suffixes_text w

  abbrev after_first : List ℕ
  after_first = numbers_text w.more ++ tail_text

  abbrev whole_release : List ℕ
  whole_release = w.first ++ after_first

  tail_first : begins_with_digit tail_text ≡ false
  tail_first = suffix_first (at_dev w well) (dev_f w well) (dev_l w well) w.post well.post w.pre well.pre

  tail_dot : dotted tail_text ≡ false
  tail_dot = suffix_dot (at_dev w well) (dev_f w well) (dev_l w well) w.post well.post w.pre well.pre

  tail_bang : begins_with BANG tail_text ≡ false
  tail_bang = suffix_bang (at_dev w well) (dev_f w well) (dev_l w well) w.post well.post w.pre well.pre

  more_first : begins_with_digit after_first ≡ false
  more_first = numbers_first tail_text tail_first tail_dot w.more

  more_bang : begins_with BANG after_first ≡ false
  more_bang = numbers_bang tail_text tail_first tail_dot w.more tail_bang

  marked : after_mark (text_of w) ≡ epoch_text w.epoch ++ whole_release
  marked = mark_read w.mark (epoch_text w.epoch ++ whole_release) well.mark (epoch_begins w.first after_first well.first more_first more_bang w.epoch well.epoch)

  epochs : (epoch_of (epoch_text w.epoch ++ whole_release) ≡ unwrap_or w.epoch []) × (after_epoch (epoch_text w.epoch ++ whole_release) ≡ whole_release)
  epochs = epoch_read w.first after_first well.first more_first more_bang w.epoch well.epoch

  release_at : release_text (text_of w) ≡ whole_release
  release_at = ap after_epoch marked ∙ epochs.1

  numbers : release_of whole_release ≡ w.first ∷ w.more
  numbers = release_run w.first after_first w.more (number_digits w.first well.first) (numbers_read tail_text tail_first tail_dot w.more well.more)

  tail_at : after_release whole_release ≡ tail_text
  tail_at = after_run w.first after_first tail_text (number_digits w.first well.first) (numbers_after tail_text tail_first tail_dot w.more well.more)

  tails : tail_of (after_release (release_text (text_of w))) ≡ tail_written w well
  tails = ap (λ t. tail_of (after_release t)) release_at ∙ ap tail_of tail_at ∙ tail_read w well

  -- the key that is read is that of the parts
  pub key_of-text_of : key_of (text_of w) ≡ written_key w
  key_of-text_of =
      let epoch = ap epoch_of marked ∙ epochs.0 in
      let release = ap release_of release_at ∙ numbers in
      let pre = pre_ranked w.pre (at_post w well) in
      let post = post_number w.post (at_dev w well) in
      let dev = dev_number w.dev (end w well) in
      let local = local_read w.local well.local in
      (λ i. tail_key (epoch i) (release i) (tails i)) ∙ (λ i. key_from (unwrap_or w.epoch []) (w.first ∷ w.more) (pre i) (post i) (dev i) (local i))

  -- the text is a version
  pub is_version-text_of : is_version (text_of w) ≡ true
  is_version-text_of =
      and_from (begins_with_digit (release_text (text_of w))) (is_local ((tail_of (after_release (release_text (text_of w)))).rest))
      (ap begins_with_digit release_at ∙ number_begins w.first after_first well.first)
      (ap (λ t. is_local t.rest) tails ∙ local_ok w.local well.local)
