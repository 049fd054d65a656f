-- What a crash leaves while a record is appended, and while the end of a file is repaired.
use Rattle.std.proofs.Common.{◌≡◌, inl, inr, ℕ, ◌+◌, ◌≤◌, min, List, [], ◌∷◌, ◌++◌, length, get_or, take, drop, Option, Some, None, option_map, IfSome, refl, sym, ◌∙◌, ap, subst, arith, append_assoc, length-append, length-take, take-append-drop}
use Rattle.std.proofs.lemmas.Bool.{cases_lt}
use Rattle.std.proofs.lemmas.List.{append-nil, take_at, drop_at, take_all, drop_all, drop_more, take_more}
use Rattle.std.specs.Int.{w64, from_be_bytes}
use Rattle.cv_keep.specs.Disk.{IsCut, IsDurable, IsTorn, LeavesOnly, written}
use Rattle.cv_keep.specs.Journal.{IsBeforeOrAfter, IsSettled}
use Rattle.cv_keep.specs.Records.{records, gate_after}
use Rattle.cv_keep.specs.code.Walk.{IsStaged}
use Rattle.cv_keep.proofs.Moments.{if_known, if_known_map, known_at, started, weaker}
use Rattle.cv_keep.proofs.RecordLemmas.{begins, gate_after_append, records_block, records_closed, records_end, records_gate}

-- an append: the file has its closed gate at its end
module _ (gate : ℕ) (b block : List ℕ) (last : b ≡ take gate b ++ 0 ∷ []) where
  pub settled_length : length b ≡ gate + 1
  settled_length = omega (arith, ap length last, length-append (take gate b) (0 ∷ []), length-take gate b)

  front_length : length (take gate b) ≡ gate
  front_length = omega (arith, length-take gate b, settled_length)

  pub torn_block : (c : List ℕ) → IsTorn (gate + 1) (length block) b c → IsStaged (take gate b) block c
  torn_block c torn =
      let all : min (gate + 1) (length b) ≡ gate + 1 = omega (arith, settled_length) in
      let front : take (gate + 1) c ≡ b = ap (λ (n : ℕ). take n c) (sym all) ∙ torn.before ∙ take_all (gate + 1) b (omega (arith, settled_length)) in
      inl (
        drop (gate + 1) c,
        sym (take-append-drop (gate + 1) c)
            ∙ ap (λ (l : List ℕ). l ++ drop (gate + 1) c) (front ∙ last)
            ∙ append_assoc (take gate b) (0 ∷ []) (drop (gate + 1) c),
      )

  staged_is : written (gate + 1) block b ≡ take gate b ++ 0 ∷ block
  staged_is =
      ap (λ (l : List ℕ). l ++ block ++ drop (gate + 1 + length block) b) (take_all (gate + 1) b (omega (arith, settled_length)))
      ∙ ap (λ (l : List ℕ). b ++ block ++ l) (drop_all (gate + 1 + length block) b (omega (arith, settled_length)))
      ∙ append-nil (b ++ block)
      ∙ ap (λ (l : List ℕ). l ++ block) last
      ∙ append_assoc (take gate b) (0 ∷ []) block

  pub staged_length : length (written (gate + 1) block b) ≡ gate + 1 + length block
  staged_length = omega (arith, ap length staged_is, front_length, length-append (take gate b) (0 ∷ block))

  pub written_block : IsStaged (take gate b) block (written (gate + 1) block b)
  written_block = inl (block, staged_is)

  front_is : take gate (written (gate + 1) block b) ≡ take gate b
  front_is = ap (λ (l : List ℕ). take gate l) staged_is ∙ take_at (take gate b) (0 ∷ block) gate front_length

  back_is : drop (gate + 1) (written (gate + 1) block b) ≡ block
  back_is =
      ap (λ (l : List ℕ). drop (gate + 1) l) (staged_is ∙ sym (append_assoc (take gate b) (0 ∷ []) block))
      ∙ drop_at (take gate b ++ 0 ∷ []) block (gate + 1) (omega (arith, front_length, length-append (take gate b) (0 ∷ [])))

  pub torn_gate : (c : List ℕ) → IsTorn gate 1 (written (gate + 1) block b) c → IsStaged (take gate b) block c
  torn_gate c torn =
      let all : min gate (length (written (gate + 1) block b)) ≡ gate = omega (arith, staged_length) in
      let front : take gate c ≡ take gate b = ap (λ (n : ℕ). take n c) (sym all) ∙ torn.before ∙ front_is in
      let back : drop gate c ≡ get_or c gate 0 ∷ block =
      drop_more c gate 0 (omega (arith, torn.no_shorter, staged_length)) ∙ ap (λ (l : List ℕ). get_or c gate 0 ∷ l) (torn.after ∙ back_is) in
      inr (
        get_or c gate 0,
        sym (take-append-drop gate c)
            ∙ ap (λ (l : List ℕ). l ++ drop gate c) front
            ∙ ap (λ (l : List ℕ). take gate b ++ l) back,
      )

  pub opened_is : written gate (1 ∷ []) (written (gate + 1) block b) ≡ take gate b ++ 1 ∷ block
  opened_is =
      ap (λ (l : List ℕ). l ++ 1 ∷ [] ++ drop (gate + 1) (written (gate + 1) block b)) front_is
      ∙ ap (λ (l : List ℕ). take gate b ++ 1 ∷ [] ++ l) back_is
      ∙ append_assoc (take gate b) (1 ∷ []) block

pub staged_place : (gate : ℕ) (block : List ℕ) (images : List ℕ → Type 0) (o n : Option (List ℕ)) → n ≡ option_map (written (gate + 1) block) o → IfSome o (IsSettled gate images) → IfSome n (λ b. gate ≤ length b)
staged_place gate block images o n is belongs =
    if_known_map (written (gate + 1) block) o n (IsSettled gate images) (λ b. gate ≤ length b) is belongs
    (λ b known settled. omega (arith, staged_length gate b block settled.last))

pub appended : (gate : ℕ) (block : List ℕ) (images : List ℕ → Type 0) (o : Option (List ℕ)) → IfSome o (IsSettled gate images) → option_map (written gate (1 ∷ [])) (option_map (written (gate + 1) block) o) ≡ option_map (λ b. take gate b ++ 1 ∷ block) o
appended gate block images None belongs = refl
appended gate block images (Some b) belongs = ap Some (opened_is gate b block belongs.last)

-- a file with its last gate at this place
module _ (gate : ℕ) (b : List ℕ) (place : gate ≡ gate_after (records b)) where
  with_end : (x : ℕ) → records (take gate b ++ x ∷ []) ≡ records b
  with_end x =
      ap (λ (n : ℕ). records (take n b ++ x ∷ [])) place
      ∙ begins b (x ∷ []) (omega arith)
      ∙ ap (λ (rs : List (List ℕ)). records b ++ rs) (records_end x)
      ∙ append-nil (records b)

  pub cut_records : records (take (gate + 1) b) ≡ records b
  cut_records = elim (cases_lt gate (length b)) [
    | inl inside ↦ ap records (take_more b gate 0 inside) ∙ with_end (get_or b gate 0)
    | inr short ↦ ap records (take_all (gate + 1) b (omega (arith, short)))
  ]

  pub cut_keeps : (c : List ℕ) → IsCut (gate + 1) b c → records c ≡ records b
  cut_keeps c (inl same) = ap records same
  cut_keeps c (inr cut) = ap records cut ∙ cut_records

  module _ (long : gate ≤ length b) (short : length b ≤ gate + 1) where
    pub torn_end : (c : List ℕ) → IsTorn gate 1 b c → records c ≡ records b
    torn_end c torn =
        let all : min gate (length b) ≡ gate = omega (arith, long) in
        let front : take gate c ≡ take gate b = ap (λ (n : ℕ). take n c) (sym all) ∙ torn.before in
        elim (cases_lt gate (length c)) [
          | inl inside ↦
              let none : drop (gate + 1) c ≡ [] = drop_all (gate + 1) c (omega (arith, torn.no_longer, short)) in
              let back : drop gate c ≡ get_or c gate 0 ∷ [] = drop_more c gate 0 inside ∙ ap (λ (l : List ℕ). get_or c gate 0 ∷ l) none in
              ap records (sym (take-append-drop gate c) ∙ ap (λ (l : List ℕ). l ++ drop gate c) front ∙ ap (λ (l : List ℕ). take gate b ++ l) back)
              ∙ with_end (get_or c gate 0)
          | inr outside ↦ ap records (sym (take_all gate c outside) ∙ front ∙ take_all gate b (omega (arith, torn.no_shorter, outside)))
        ]

    closed_is : written gate (0 ∷ []) b ≡ take gate b ++ 0 ∷ []
    closed_is = ap (λ (l : List ℕ). take gate b ++ 0 ∷ [] ++ l) (drop_all (gate + 1) b short) ∙ append-nil (take gate b ++ 0 ∷ [])

    pub closed_records : records (written gate (0 ∷ []) b) ≡ records b
    closed_records = ap records closed_is ∙ with_end 0

    pub closed_settled : (images : List ℕ → Type 0) → IsDurable (written gate (0 ∷ []) b) images → IsSettled gate images (written gate (0 ∷ []) b)
    closed_settled images durable =
        let front : take gate (written gate (0 ∷ []) b) ≡ take gate b =
        ap (λ (l : List ℕ). take gate l) closed_is ∙ take_at (take gate b) (0 ∷ []) gate (omega (arith, length-take gate b, long)) in
        record {
          durable = durable;
          last = closed_is ∙ ap (λ (l : List ℕ). l ++ 0 ∷ []) (sym front);
          place = place ∙ ap gate_after (sym closed_records);
        }

  pub trimmed_place : gate ≤ length b → (gate ≤ length (take (gate + 1) b)) × (length (take (gate + 1) b) ≤ gate + 1) × (gate ≡ gate_after (records (take (gate + 1) b)))
  trimmed_place long =
      (omega (arith, long, length-take (gate + 1) b), omega (arith, length-take (gate + 1) b), place ∙ ap gate_after (sym cut_records))

pub trimmed_found : (gate : ℕ) (o : Option (List ℕ)) → IfSome o (λ b. gate ≡ gate_after (records b)) → option_map records (option_map (take (gate + 1)) o) ≡ option_map records o
trimmed_found gate None place = refl
trimmed_found gate (Some b) place = ap Some (cut_records gate b place)

pub closed_belongs : (gate : ℕ) (images : List ℕ → Type 0) (o n : Option (List ℕ)) → n ≡ option_map (written gate (0 ∷ [])) o → IfSome o (λ b. (gate ≤ length b) × (length b ≤ gate + 1) × (gate ≡ gate_after (records b))) → IfSome n (λ f. IsDurable f images) → IfSome n (IsSettled gate images)
closed_belongs gate images o n is place durable =
    if_known_map (written gate (0 ∷ [])) o n (λ b. (gate ≤ length b) × (length b ≤ gate + 1) × (gate ≡ gate_after (records b))) (IsSettled gate images) is place
    (λ b known at. closed_settled gate b at.2 at.0 at.1 images
    (known_at n (written gate (0 ∷ []) b) (λ f. IsDurable f images) (is ∙ ap (option_map (written gate (0 ∷ []))) known) durable))

pub closed_found : (gate : ℕ) (o : Option (List ℕ)) → IfSome o (λ b. (gate ≤ length b) × (length b ≤ gate + 1) × (gate ≡ gate_after (records b))) → option_map records (option_map (written gate (0 ∷ [])) o) ≡ option_map records o
closed_found gate None place = refl
closed_found gate (Some b) place = ap Some (closed_records gate b place.2 place.0 place.1)

-- the record of an append: its length, its bytes and a closed gate
module _ (gate : ℕ) (b head bytes : List ℕ) (place : gate ≡ gate_after (records b)) (eight : length head ≡ 8) (is : from_be_bytes w64 head ≡ length bytes) where
  abbrev block : List ℕ
  block = head ++ bytes ++ 0 ∷ []

  pub new_records : records (take gate b ++ 1 ∷ block) ≡ records b ++ bytes ∷ []
  new_records =
      ap (λ (n : ℕ). records (take n b ++ 1 ∷ block)) place
      ∙ begins b (1 ∷ block) (omega arith)
      ∙ ap (λ (rs : List (List ℕ)). records b ++ rs) (records_block head bytes eight is)

  pub staged_records : (c : List ℕ) → IsStaged (take gate b) block c → IsBeforeOrAfter (records b) bytes c
  staged_records c (inl closed) =
      inl (ap records closed.1
      ∙ ap (λ (n : ℕ). records (take n b ++ 0 ∷ closed.0)) place
      ∙ begins b (0 ∷ closed.0) (omega arith)
      ∙ ap (λ (rs : List (List ℕ)). records b ++ rs) (records_closed closed.0)
      ∙ append-nil (records b))
  staged_records c (inr any) =
      let whole : records c ≡ records b ++ records (any.0 ∷ block) =
      ap records any.1 ∙ ap (λ (n : ℕ). records (take n b ++ any.0 ∷ block)) place ∙ begins b (any.0 ∷ block) (omega arith) in
      elim (records_gate any.0 head bytes eight is) [
        | inl none ↦ inl (whole ∙ ap (λ (rs : List (List ℕ)). records b ++ rs) none ∙ append-nil (records b))
        | inr new ↦ inr (whole ∙ ap (λ (rs : List (List ℕ)). records b ++ rs) new)
      ]

  pub new_settled : gate ≤ length b → (images : List ℕ → Type 0) → IsDurable (take gate b ++ 1 ∷ block) images → IsSettled (gate + 9 + length bytes) images (take gate b ++ 1 ∷ block)
  new_settled long images durable =
      let front = take gate b ++ 1 ∷ (head ++ bytes) in
      let whole : take gate b ++ 1 ∷ block ≡ front ++ 0 ∷ [] = sym (append_assoc (take gate b) (1 ∷ (head ++ bytes)) (0 ∷ [])) in
      let size : length front ≡ gate + 9 + length bytes =
      omega (arith, long, eight, length-take gate b, length-append (take gate b) (1 ∷ (head ++ bytes)), length-append head bytes) in
      let front_is : take (gate + 9 + length bytes) (take gate b ++ 1 ∷ block) ≡ front =
      ap (λ (l : List ℕ). take (gate + 9 + length bytes) l) whole ∙ take_at front (0 ∷ []) (gate + 9 + length bytes) size in
      let after : gate_after (records (take gate b ++ 1 ∷ block)) ≡ gate_after (records b) + (9 + length bytes + 0) =
      ap gate_after new_records ∙ gate_after_append (records b) (bytes ∷ []) in
      record {
        durable = durable;
        last = whole ∙ ap (λ (l : List ℕ). l ++ 0 ∷ []) (sym front_is);
        place = omega (arith, place, after);
      }

pub append_found : (gate : ℕ) (head bytes whole : List ℕ) (images : List ℕ → Type 0) (o n : Option (List ℕ)) → length head ≡ 8 → from_be_bytes w64 head ≡ length bytes → whole ≡ head ++ bytes ++ 0 ∷ [] → n ≡ option_map (λ b. take gate b ++ 1 ∷ whole) o → IfSome o (IsSettled gate images) → option_map records n ≡ option_map (λ b. records b ++ bytes ∷ []) o
append_found gate head bytes whole images None n eight is same new belongs = ap (option_map records) new
append_found gate head bytes whole images (Some b) n eight is same new belongs =
    ap (option_map records) new
    ∙ ap (λ (l : List ℕ). Some (records (take gate b ++ 1 ∷ l))) same
    ∙ ap Some (new_records gate b head bytes belongs.place eight is)

-- an append that is not begun
pub append_started : (gate t : ℕ) (p : ℕ → List ℕ → Type 0) (bytes : List ℕ) (o : Option (List ℕ)) → IfSome o (IsSettled gate (p t)) → IfSome o (λ b. LeavesOnly t t p p (IsBeforeOrAfter (records b) bytes))
append_started gate t p bytes o belongs =
    if_known o (IsSettled gate (p t)) (λ b. LeavesOnly t t p p (IsBeforeOrAfter (records b) bytes)) belongs
    (λ b known settled. started t p (IsBeforeOrAfter (records b) bytes) (λ c left. inl (ap records (settled.durable c left))))

-- a crash during an append, seen by the records
pub append_moment : (gate t u : ℕ) (p q : ℕ → List ℕ → Type 0) (head bytes whole : List ℕ) (o : Option (List ℕ)) → length head ≡ 8 → from_be_bytes w64 head ≡ length bytes → whole ≡ head ++ bytes ++ 0 ∷ [] → IfSome o (IsSettled gate (p t)) → IfSome o (λ b. LeavesOnly t u p q (IsStaged (take gate b) whole)) → IfSome o (λ b. LeavesOnly t u p q (IsBeforeOrAfter (records b) bytes))
append_moment gate t u p q head bytes whole o eight is same belongs run =
    if_known o (IsSettled gate (p t)) (λ b. LeavesOnly t u p q (IsBeforeOrAfter (records b) bytes)) belongs
    (λ b known settled.
    let staged = subst (λ (l : List ℕ). LeavesOnly t u p q (IsStaged (take gate b) l)) same (known_at o b (λ f. LeavesOnly t u p q (IsStaged (take gate f) whole)) known run) in
    weaker t u p q (IsStaged (take gate b) (head ++ bytes ++ 0 ∷ [])) (IsBeforeOrAfter (records b) bytes) staged
    (staged_records gate b head bytes settled.place eight is))

-- the journal still belongs to the disk
pub append_belongs : (gate : ℕ) (images later : List ℕ → Type 0) (head bytes whole : List ℕ) (o n : Option (List ℕ)) → length head ≡ 8 → from_be_bytes w64 head ≡ length bytes → whole ≡ head ++ bytes ++ 0 ∷ [] → n ≡ option_map (λ b. take gate b ++ 1 ∷ whole) o → IfSome o (IsSettled gate images) → IfSome n (λ b. IsDurable b later) → IfSome n (IsSettled (gate + (9 + length bytes)) later)
append_belongs gate images later head bytes whole o n eight is same new belongs durable =
    let written_is : n ≡ option_map (λ b. take gate b ++ 1 ∷ (head ++ bytes ++ 0 ∷ [])) o = subst (λ (l : List ℕ). n ≡ option_map (λ b. take gate b ++ 1 ∷ l) o) same new in
    if_known_map (λ b. take gate b ++ 1 ∷ (head ++ bytes ++ 0 ∷ [])) o n (IsSettled gate images) (IsSettled (gate + (9 + length bytes)) later) written_is belongs
    (λ b known settled.
    let file = take gate b ++ 1 ∷ (head ++ bytes ++ 0 ∷ []) in
    let kept = known_at n file (λ f. IsDurable f later) (written_is ∙ ap (option_map (λ f. take gate f ++ 1 ∷ (head ++ bytes ++ 0 ∷ []))) known) durable in
    let long : gate ≤ length b = omega (arith, settled_length gate b [] settled.last) in
    let turned : gate + 9 + length bytes ≡ gate + (9 + length bytes) = omega arith in
    subst (λ (place : ℕ). IsSettled place later file) turned (new_settled gate b head bytes settled.place eight is long later kept))
