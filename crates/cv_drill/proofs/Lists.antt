-- One more number: one more line, or one more record.
use Rattle.std.proofs.Common.{◌≡◌, ℕ, ◌+◌, ◌∙◌, Bool, true, false, List, [], ◌∷◌, ◌++◌, refl, sym, ap, arith, map, filter, Option, Some, None}
use Rattle.std.specs.List.{cons_option, filter_map}
use Rattle.std.specs.Option.{option_to_list}
use Rattle.std.proofs.lemmas.Grind.{flat_map-append}
use Rattle.std.proofs.lemmas.List.{append_assoc, append-nil, map-append}
use Rattle.std.proofs.lemmas.List.Elements.{filter-append, filter_map-append}
use Rattle.std.proofs.lemmas.List.FromFn.{map-range_with_len_more}
use Rattle.cv_drill.specs.Lines.{lines_text, numbers}

map_same : {A : Type 0} (xs : List A) → map (λ x. x) xs ≡ xs
map_same [] = refl
map_same (x ∷ xs) = ap (λ r. x ∷ r) (map_same xs)

-- the numbers below the next count
pub numbers_more : (n : ℕ) → numbers (n + 1) ≡ numbers n ++ n ∷ []
numbers_more n = sym (map_same _) ∙ map-range_with_len_more (λ x. x) 0 n n (omega arith) ∙ ap (λ r. r ++ n ∷ []) (map_same _)

-- lines after other lines
pub lines_joined : (some more : List (List ℕ)) → lines_text (some ++ more) ≡ lines_text some ++ lines_text more
lines_joined some more = flat_map-append (λ text. text ++ 10 ∷ []) some more

-- the lines of one more number
lines_more : (line : ℕ → List ℕ) (n : ℕ) → lines_text (map line (numbers (n + 1))) ≡ lines_text (map line (numbers n)) ++ lines_text (line n ∷ [])
lines_more line n =
    ap (λ ns. lines_text (map line ns)) (numbers_more n)
    ∙ ap lines_text (map-append line (numbers n) (n ∷ []))
    ∙ lines_joined (map line (numbers n)) (line n ∷ [])

-- a text with the lines so far has, after one more line, the lines of one more number
pub line_pushed : (line : ℕ → List ℕ) (n : ℕ) (start before after pushed : List ℕ)
    → before ≡ start ++ lines_text (map line (numbers n)) → pushed ≡ line n → after ≡ before ++ lines_text (pushed ∷ [])
    → after ≡ start ++ lines_text (map line (numbers (n + 1)))
line_pushed line n start before after pushed so_far is_next now =
    now
    ∙ ap (λ text. text ++ lines_text (pushed ∷ [])) so_far
    ∙ append_assoc start (lines_text (map line (numbers n))) (lines_text (pushed ∷ []))
    ∙ ap (λ text. start ++ text) (ap (λ text. lines_text (map line (numbers n)) ++ lines_text (text ∷ [])) is_next ∙ sym (lines_more line n))

-- what is made of the numbers that are kept below the next count
kept_more : {A : Type 0} (f : ℕ → A) (keep : ℕ → Bool) (n : ℕ) → map f (filter keep (numbers (n + 1))) ≡ map f (filter keep (numbers n)) ++ map f (filter keep (n ∷ []))
kept_more f keep n =
    ap (λ ns. map f (filter keep ns)) (numbers_more n)
    ∙ ap (map f) (filter-append keep (numbers n) (n ∷ []))
    ∙ map-append f (filter keep (numbers n)) (filter keep (n ∷ []))

-- the next number is kept
pub kept_next : {A : Type 0} (f : ℕ → A) (keep : ℕ → Bool) (n : ℕ) (xs : List A) (x : A) → keep n ≡ true
    → xs ≡ map f (filter keep (numbers n)) → x ≡ f n → xs ++ x ∷ [] ≡ map f (filter keep (numbers (n + 1)))
kept_next f keep n xs x kept so_far is_next =
    let one : filter keep (n ∷ []) ≡ n ∷ [] = rw kept refl in
    ap (λ ys. ys ++ x ∷ []) so_far
    ∙ ap (λ y. map f (filter keep (numbers n)) ++ y ∷ []) is_next
    ∙ sym (kept_more f keep n ∙ ap (λ ns. map f (filter keep (numbers n)) ++ map f ns) one)

-- the next number is left out
pub kept_same : {A : Type 0} (f : ℕ → A) (keep : ℕ → Bool) (n : ℕ) (xs : List A) → keep n ≡ false
    → xs ≡ map f (filter keep (numbers n)) → xs ≡ map f (filter keep (numbers (n + 1)))
kept_same f keep n xs left so_far =
    let none : filter keep (n ∷ []) ≡ [] = rw left refl in
    so_far
    ∙ sym (kept_more f keep n ∙ ap (λ ns. map f (filter keep (numbers n)) ++ map f ns) none ∙ append-nil (map f (filter keep (numbers n))))

-- what is found for the numbers below the next count
found_more : (f : ℕ → Option (List ℕ)) (n : ℕ) → filter_map f (numbers (n + 1)) ≡ filter_map f (numbers n) ++ option_to_list (f n)
found_more f n = ap (filter_map f) (numbers_more n) ∙ filter_map-append f (numbers n) (n ∷ []) ∙ ap (λ ls. filter_map f (numbers n) ++ ls) (one (f n)) where
  one : (o : Option (List ℕ)) → cons_option o [] ≡ option_to_list o
  one None = refl
  one (Some x) = refl

-- a text with the lines so far has, after what is found for the next number, the lines of one more number
pub found_pushed : (f : ℕ → Option (List ℕ)) (n : ℕ) (before after : List ℕ) (found : Option (List ℕ))
    → before ≡ lines_text (filter_map f (numbers n)) → found ≡ f n → after ≡ before ++ lines_text (option_to_list found)
    → after ≡ lines_text (filter_map f (numbers (n + 1)))
found_pushed f n before after found so_far is_next now =
    now
    ∙ ap (λ text. text ++ lines_text (option_to_list found)) so_far
    ∙ ap (λ o. lines_text (filter_map f (numbers n)) ++ lines_text (option_to_list o)) is_next
    ∙ sym (ap lines_text (found_more f n) ∙ lines_joined (filter_map f (numbers n)) (option_to_list (f n)))

-- what is found depends on what is asked for each number alone
pub found_same : (f g : ℕ → Option (List ℕ)) → ((n : ℕ) → f n ≡ g n) → (ns : List ℕ) → filter_map f ns ≡ filter_map g ns
found_same f g same [] = refl
found_same f g same (n ∷ ns) = rw (same n, found_same f g same ns) refl
