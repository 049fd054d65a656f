-- What one call of `next` means for the whole input, if the bytes of the source are known.
use Rattle.std.proofs.Common.{◌≡◌, ℕ, ◌+◌, ◌-◌, ◌<◌, ◌≤◌, List, [], ◌∷◌, ◌++◌, length, take, drop, refl, sym, ◌∙◌, ap, subst, arith, append_assoc, append-nil, length-append, length-take, length-take-le, take-append-drop, inl, inr, Bool, true, false}
use Rattle.std.specs.Prelude.{Option, None, Some, Result, Ok, Err, if◌then◌else◌}
use Rattle.std.specs.Option.{option_map}
use Rattle.std.specs.Io.BufRead.{ends_with_byte}
use Rattle.std.specs.Io.KnownBytes.{Consumes, IsAtEnd, prepend_known}
use Rattle.std.proofs.lemmas.Bool.{false≢true}
use Rattle.cv_io.specs.declared.line.Line.{Line}
use Rattle.cv_io.specs.declared.line.Line.TheVariants.{Text, End}
use Rattle.cv_io.specs.declared.line.LineError.{LineError}
use Rattle.cv_io.specs.declared.line.LineError.TheVariants.{ReadFault, LineTooLong, InputTooLong, NoMemory}
use Rattle.cv_io.specs.Lines.{LF, CR, text_of, lines_of, Reading, Finished, LongLine, LongInput, stopped, line_then, reading_of}
use Rattle.cv_io.specs.Takes.{Takes}
use Rattle.cv_io.specs.Reader.{Reader, progress_of, ungiven, room_of, reading, IsFirstLine, IsOver, PassesLine, IsUnfinished, Answers, Step, Reads, Gives, Narrows}
use Rattle.cv_io.proofs.Lines.{lines_of-line, lines_of-nil, lines_of-last, reading_of-line, reading_of-nil, reading_of-last, reading_of-long_line, reading_of-long_input}

-- the bytes that remain in the source after those taken
record Tail (ended : Bool) (held : List ℕ) (left : Option (List ℕ)) (bytes whole : List ℕ) : Type 0 where
  tail : List ℕ
  old : whole ≡ bytes ++ tail
  new : (if ended then Some held else prepend_known held left) ≡ Some (held ++ tail)
  ends : ended ≡ true → tail ≡ []

tail_by : (was is : Bool) (held now more bytes whole : List ℕ) (l m : Option (List ℕ)) → bytes ≡ held ++ more → Consumes l m more
    → (was ≡ true → (more ≡ []) × (is ≡ true)) → ((was ≡ true → IsAtEnd l) → is ≡ true → IsAtEnd m)
    → (if was then Some held else prepend_known held l) ≡ Some whole → Tail is now m bytes whole
tail_by true true held now more bytes whole l m join took over seen known =
    let none = (over refl).0 in
    let same : whole ≡ held = cc in
    record {
      tail = [];
      old = same ∙ sym (append-nil held) ∙ ap (λ v. held ++ v) (sym none) ∙ sym join ∙ sym (append-nil bytes);
      new = ap Some (sym (append-nil now));
      ends = λ _. refl;
    }
tail_by true false held now more bytes whole l m join took over seen known = absurd (false≢true (over refl).1)
tail_by false is held now more bytes whole None m join took over seen known = absurd (cc)
tail_by false is held now more bytes whole (Some xs) None join took over seen known = absurd took
tail_by false false held now more bytes whole (Some xs) (Some ys) join took over seen known =
    let same : whole ≡ held ++ xs = cc in
    record {
      tail = ys;
      old = same ∙ ap (λ v. held ++ v) took ∙ sym (append_assoc held more ys) ∙ ap (λ v. v ++ ys) (sym join);
      new = refl;
      ends = λ e. absurd (false≢true e);
    }
tail_by false true held now more bytes whole (Some xs) (Some ys) join took over seen known =
    let same : whole ≡ held ++ xs = cc in
    let none : ys ≡ [] = seen (λ e. absurd (false≢true e)) refl in
    record {
      tail = ys;
      old = same ∙ ap (λ v. held ++ v) took ∙ sym (append_assoc held more ys) ∙ ap (λ v. v ++ ys) (sym join);
      new = ap Some (sym (append-nil now) ∙ ap (λ v. now ++ v) (sym none));
      ends = λ _. none;
    }

module _ (before now : Reader) (l m : Option (List ℕ)) (bytes : List ℕ)
    (takes : Takes before.held bytes (progress_of before) (progress_of now) l m) where
  abbrev TailOf : List ℕ → Type 0
  TailOf whole = Tail now.ended now.held m bytes whole

  tail_of : (whole : List ℕ) → ungiven before l ≡ Some whole → TailOf whole
  tail_of whole known = tail_by before.ended now.ended before.held now.held takes.more bytes whole l m takes.joined takes.consumed takes.over takes.seen known

  module _ (lines : now.max_line ≡ before.max_line) (inputs : now.max_input ≡ before.max_input) (within : now.taken ≤ now.max_input) where
    room_before : room_of before ≡ length bytes + (now.max_input - now.taken)
    room_before = omega (arith, takes.counted, inputs, ap length takes.joined, length-append before.held takes.more)

    reading_before : (whole : List ℕ) → reading_of before.max_line (room_of before) whole ≡ reading_of now.max_line (length bytes + (now.max_input - now.taken)) whole
    reading_before whole = let e = sym lines in λ i. reading_of (e i) (room_before i) whole

    module _ (before_limit : now.ended ≡ true → now.taken < now.max_input) (whole : List ℕ) (t : TailOf whole) where
      -- the bytes that remained when the call began, and those that remain now
      abbrev reads : List ℕ → Reading
      reads xs = reading_of before.max_line (room_of before) xs

      abbrev reads_now : Reading
      reads_now = reading_of now.max_line (room_of now) (now.held ++ t.tail)

      -- all remaining bytes are held
      all_held : now.held ≡ [] → now.ended ≡ true → now.held ++ t.tail ≡ []
      all_held h e = λ i. h i ++ t.ends e i

      whole_held : now.ended ≡ true → whole ≡ bytes
      whole_held e = t.old ∙ ap (λ v. bytes ++ v) (t.ends e) ∙ append-nil bytes

      same_held : now.held ≡ bytes → now.held ++ t.tail ≡ whole
      same_held h = ap (λ v. v ++ t.tail) h ∙ sym t.old

      at_line : (line : List ℕ) → IsFirstLine bytes line now → (reads whole ≡ line_then line reads_now) × (lines_of whole ≡ line ∷ lines_of (now.held ++ t.tail))
      at_line line x =
          elim x.rest [
            | inl e ↦
                (let parts : whole ≡ x.piece ++ LF ∷ (now.held ++ t.tail) = t.old ∙ ap (λ v. v ++ t.tail) e ∙ append_assoc x.piece (LF ∷ now.held) t.tail in
                let room : length bytes + (now.max_input - now.taken) ≡ length x.piece + 1 + room_of now = omega (arith, ap length e, length-append x.piece (LF ∷ now.held)) in (
                  reading_before whole ∙ (λ i. reading_of now.max_line (room i) (parts i))
                      ∙ reading_of-line now.max_line (room_of now) x.piece (now.held ++ t.tail) x.whole x.short
                      ∙ ap (λ v. line_then v reads_now) (sym x.text),
                  ap lines_of parts ∙ lines_of-line x.piece (now.held ++ t.tail) x.whole ∙ ap (λ v. v ∷ lines_of (now.held ++ t.tail)) (sym x.text),
                ))
            | inr e ↦
                (let over = all_held e.2 e.3 in
                let parts : whole ≡ x.piece = whole_held e.3 ∙ e.0 in
                let less = before_limit e.3 in
                let text = sym x.text in
                let none = sym (ap lines_of over ∙ lines_of-nil) in
                let ends = sym (ap (reading_of now.max_line (room_of now)) over ∙ reading_of-nil now.max_line (room_of now) (omega (arith, less))) in (
                  reading_before whole ∙ ap (reading_of now.max_line (length bytes + (now.max_input - now.taken))) parts
                      ∙ reading_of-last now.max_line (length bytes + (now.max_input - now.taken)) x.piece x.whole x.short e.1 (omega (arith, ap length e.0, less))
                      ∙ (λ i. line_then (text i) (ends i)),
                  ap lines_of parts ∙ lines_of-last x.piece x.whole e.1 ∙ (λ i. text i ∷ none i),
                ))
          ]

      at_end : IsOver bytes now → (reads whole ≡ stopped Finished) × (whole ≡ []) × (now.held ++ t.tail ≡ [])
      at_end x =
          let none : whole ≡ [] = whole_held x.ended ∙ x.none in
          let less = before_limit x.ended in (
            reading_before whole ∙ ap (reading_of now.max_line (length bytes + (now.max_input - now.taken))) none
                ∙ reading_of-nil now.max_line (length bytes + (now.max_input - now.taken)) (omega (arith, less)),
            none,
            all_held x.held x.ended,
          )

      at_refusal : now.held ≡ bytes → reads whole ≡ reads_now
      at_refusal h =
          let room : length bytes + (now.max_input - now.taken) ≡ room_of now = omega (arith, ap length h) in
          let rest = sym (same_held h) in
          reading_before whole ∙ (λ i. reading_of now.max_line (room i) (rest i))

      at_long_line : PassesLine bytes now → reads whole ≡ stopped LongLine
      at_long_line x =
          let front = take (now.max_line + 1) bytes in
          let parts : whole ≡ front ++ (drop (now.max_line + 1) bytes ++ t.tail) =
          t.old ∙ ap (λ v. v ++ t.tail) (sym (take-append-drop (now.max_line + 1) bytes)) ∙ append_assoc front (drop (now.max_line + 1) bytes) t.tail in
          let long : length front ≡ now.max_line + 1 = length-take-le (now.max_line + 1) bytes (omega (arith, x.long)) in
          reading_before whole ∙ ap (reading_of now.max_line (length bytes + (now.max_input - now.taken))) parts
          ∙ reading_of-long_line now.max_line (length bytes + (now.max_input - now.taken)) front (drop (now.max_line + 1) bytes ++ t.tail) x.whole (omega (arith, long)) (omega (arith, long, x.long))

      at_long_input : IsUnfinished bytes now → now.taken ≡ now.max_input → reads whole ≡ stopped LongInput
      at_long_input x e =
          reading_before whole ∙ ap (reading_of now.max_line (length bytes + (now.max_input - now.taken))) t.old
          ∙ reading_of-long_input now.max_line (length bytes + (now.max_input - now.taken)) bytes t.tail x.whole x.short (omega (arith, e))

    shorter : (piece : List ℕ) → length (text_of piece) ≤ length piece
    shorter piece = by (ends_with_byte CR piece)
      where
        by : (b : Bool) → length (if b then take (length piece - 1) piece else piece) ≤ length piece
        by true = omega (arith, length-take (length piece - 1) piece)
        by false = omega arith

    narrower : (line : List ℕ) → IsFirstLine bytes line now → (room_of now < room_of before) × (room_of now + length line ≤ room_of before)
    narrower line x =
        let short : length line ≤ length x.piece = rw x.text (shorter x.piece) in
        let room = room_before in
        elim x.rest [
          | inl e ↦ (let long = ap length e ∙ length-append x.piece (LF ∷ now.held) in (omega arith, omega arith))
          | inr e ↦ (let long = ap length e.0 in let none = ap length e.2 in let some = e.1 in (omega arith, omega arith))
        ]

-- if the bytes are not known, nothing is claimed
reads_unknown : (answer : Result Line LineError) (v : Option Reading) → Reads None v answer
reads_unknown (Ok (Text line)) v = tt
reads_unknown (Ok End) v = tt
reads_unknown (Err ReadFault) v = tt
reads_unknown (Err LineTooLong) v = tt
reads_unknown (Err InputTooLong) v = tt
reads_unknown (Err NoMemory) v = tt

gives_unknown : (answer : Result Line LineError) (v : Option (List ℕ)) → Gives None v answer
gives_unknown (Ok (Text line)) v = tt
gives_unknown (Ok End) v = tt
gives_unknown (Err error) v = tt

-- what one call means for the readings, for the bytes that are not yet given, and for the limits
pub record Meaning (before now : Reader) (l m : Option (List ℕ)) (answer : Result Line LineError) : Type 0 where
  pub reads : Reads (reading before l) (reading now m) answer
  pub gives : Gives (ungiven before l) (ungiven now m) answer
  pub narrows : Narrows before now answer

module _ (before now : Reader) (l m : Option (List ℕ)) (lines : now.max_line ≡ before.max_line) (inputs : now.max_input ≡ before.max_input) where
  known_reads : (answer : Result Line LineError) → Step before now l m answer → (whole : List ℕ) → ungiven before l ≡ Some whole → Reads (Some (reading_of before.max_line (room_of before) whole)) (reading now m) answer
  known_reads answer s whole known = subst (λ (v : Option (List ℕ)). Reads (Some (reading_of before.max_line (room_of before) whole)) (option_map (reading_of now.max_line (room_of now)) v) answer) (sym t.new) (by answer s.answers)
    where
      t : Tail now.ended now.held m s.bytes whole
      t = tail_of before now l m s.bytes s.takes whole known

      by : (a : Result Line LineError) → Answers s.bytes now a → Reads (Some (reading_of before.max_line (room_of before) whole)) (Some (reading_of now.max_line (room_of now) (now.held ++ t.tail))) a
      by (Ok (Text line)) x = (at_line before now l m s.bytes s.takes lines inputs s.within s.before_limit whole t line x).0
      by (Ok End) x = (at_end before now l m s.bytes s.takes lines inputs s.within s.before_limit whole t x).0
      by (Err ReadFault) x = at_refusal before now l m s.bytes s.takes lines inputs s.within s.before_limit whole t x.0.held
      by (Err LineTooLong) x = at_long_line before now l m s.bytes s.takes lines inputs s.within s.before_limit whole t x
      by (Err InputTooLong) x = at_long_input before now l m s.bytes s.takes lines inputs s.within s.before_limit whole t x.0 x.1
      by (Err NoMemory) x = at_refusal before now l m s.bytes s.takes lines inputs s.within s.before_limit whole t x

  known_gives : (answer : Result Line LineError) → Step before now l m answer → (whole : List ℕ) → ungiven before l ≡ Some whole → Gives (Some whole) (ungiven now m) answer
  known_gives answer s whole known = subst (λ (v : Option (List ℕ)). Gives (Some whole) v answer) (sym t.new) (by answer s.answers)
    where
      t : Tail now.ended now.held m s.bytes whole
      t = tail_of before now l m s.bytes s.takes whole known

      kept : now.held ≡ s.bytes → Some (now.held ++ t.tail) ≡ Some whole
      kept h = ap Some (same_held before now l m s.bytes s.takes lines inputs s.within s.before_limit whole t h)

      by : (a : Result Line LineError) → Answers s.bytes now a → Gives (Some whole) (Some (now.held ++ t.tail)) a
      by (Ok (Text line)) x = (at_line before now l m s.bytes s.takes lines inputs s.within s.before_limit whole t line x).1
      by (Ok End) x =
          let e = at_end before now l m s.bytes s.takes lines inputs s.within s.before_limit whole t x in
          (e.1, ap Some e.2)
      by (Err ReadFault) x = kept x.0.held
      by (Err LineTooLong) x = kept x.held
      by (Err InputTooLong) x = kept x.0.held
      by (Err NoMemory) x = kept x

  -- a call is a step of the reading of the whole input
  reads_law : (answer : Result Line LineError) → Step before now l m answer → Reads (reading before l) (reading now m) answer
  reads_law answer s = by (ungiven before l) refl
    where
      by : (u : Option (List ℕ)) → ungiven before l ≡ u → Reads (option_map (reading_of before.max_line (room_of before)) u) (reading now m) answer
      by None e = reads_unknown answer (reading now m)
      by (Some whole) e = known_reads answer s whole e

  -- a call gives the first line of the remaining bytes
  gives_law : (answer : Result Line LineError) → Step before now l m answer → Gives (ungiven before l) (ungiven now m) answer
  gives_law answer s = by (ungiven before l) refl
    where
      by : (u : Option (List ℕ)) → ungiven before l ≡ u → Gives u (ungiven now m) answer
      by None e = gives_unknown answer (ungiven now m)
      by (Some whole) e = known_gives answer s whole e

  -- each line takes of the room
  narrows_law : (answer : Result Line LineError) → Step before now l m answer → Narrows before now answer
  narrows_law answer s = by answer s.answers
    where
      by : (a : Result Line LineError) → Answers s.bytes now a → Narrows before now a
      by (Ok (Text line)) x = narrower before now l m s.bytes s.takes lines inputs s.within line x
      by (Ok End) x = tt
      by (Err error) x = tt

  -- a step has its meaning
  pub meaning : (answer : Result Line LineError) → Step before now l m answer → Meaning before now l m answer
  meaning answer s = record { reads = reads_law answer s; gives = gives_law answer s; narrows = narrows_law answer s }
