-- How the lines of the bytes stop that were taken.
use Rattle.std.specs.Prelude.{◌≡◌, ⊤, ℕ, ◌+◌, ◌-◌, ◌<◌, ◌≤◌, ◌^◌, false, List, [], ◌∷◌, ◌++◌, length, map, take, drop, Option, IsErrAnd, Result, Ok, Err, refl}
use Rattle.std.specs.Io.KnownBytes.{Consumes}
use Rattle.std.specs.List.{AllByRecursion}
use Rattle.std.proofs.Common.{ap, append_assoc, append-nil, arith, inl, inr, length-append, length-take-le, subst, sym, take-append-drop, ◌∙◌}
use Rattle.std.proofs.KnownBytes.{Consumes-nil}
use Rattle.std.proofs.lemmas.Bool.{false≢true}
use Rattle.std.proofs.lemmas.List.{map-append}
use Rattle.std.proofs.lemmas.List.Elements.{All-nil}
use Rattle.cv_base.proofs.AllItems.{all_more}
use Rattle.cv_base.specs.Lines.{numbered}
use Rattle.cv_io.specs.Lines.{Finished, HasNoLineEnd, LF, LongInput, LongLine, Stop, is_line_end, reading_of, text_of}
use Rattle.cv_io.specs.Reader.{IsAhead, Reader, Step}
use Rattle.cv_io.specs.declared.line.Line.{Line}
use Rattle.cv_io.specs.declared.line.Line.TheVariants.{Text}
use Rattle.cv_io.specs.declared.line.LineError.{LineError}
use Rattle.cv_io.specs.declared.line.LineError.TheVariants as line
use Rattle.cv_io.proofs.Lines.{lines_of-last, reading_of-last, reading_of-line, reading_of-long_input, reading_of-long_line, reading_of-nil}
use Rattle.cv_io.proofs.Takes.{Consumes-more}
use Rattle.cv_scan_input.specs.Unrefused.{IsPiece, ended_lines}
use Rattle.cv_scan_input.proofs.Accepted.{ended_snoc}
use Rattle.cv_serve_legal.specs.Rounds.{cut_lines, round_limits, rounds_of}
use Rattle.cv_serve.specs.code.Ends.{end_of}
use Rattle.cv_serve.specs.Served.{IsBeforeRefusal, IsTakenNoFurther, IsTakenUpTo, TakesUpTo}
use Rattle.cv_serve.specs.code.Reading.{AreTaken, IsTakenLines}
use Rattle.cv_serve.specs.declared.end.ServeEnd.{ServeEnd}
use Rattle.cv_serve.specs.declared.end.ServeEnd.TheVariants as end
use Rattle.cv_serve.specs.declared.end.Stop.{Stop as Stopped}
use Rattle.cv_serve.specs.declared.end.Stop.TheVariants as stop
use Rattle.cv_serve.proofs.Fronts.{lines_all, lines_ended, one_line, rounds_ended}

-- ---- whole lines, and then more

-- the lines stop as those of the rest do
stop_after : (pieces : List (List ℕ)) (room : ℕ) (rest : List ℕ) → AllByRecursion IsPiece pieces
    → (reading_of 67108864 (length (ended_lines pieces) + room) (ended_lines pieces ++ rest)).stop ≡ (reading_of 67108864 room rest).stop
stop_after [] room rest h =
    let none : length (ended_lines []) + room ≡ room = omega arith in
    ap (λ n. (reading_of 67108864 n rest).stop) none
stop_after (piece ∷ pieces) room rest h =
    let later = ended_lines pieces in
    let count : length ((piece ++ LF ∷ []) ++ later) + room ≡ length piece + 1 + (length later + room) =
    omega (arith, length-append (piece ++ LF ∷ []) later, length-append piece (LF ∷ [])) in
    ap (λ n. (reading_of 67108864 n (((piece ++ LF ∷ []) ++ later) ++ rest)).stop) count
    ∙ ap (λ v. (reading_of 67108864 (length piece + 1 + (length later + room)) v).stop) (one_line piece later rest)
    ∙ ap (λ r. r.stop) (reading_of-line 67108864 (length later + room) piece (later ++ rest) h.0.whole h.0.short)
    ∙ stop_after pieces room rest h.1

stop_last : (room : ℕ) (piece : List ℕ) → HasNoLineEnd piece → length piece ≤ 67108864 → length piece < room → (reading_of 67108864 room piece).stop ≡ Finished
stop_last room [] whole short fits = ap (λ r. r.stop) (reading_of-nil 67108864 room (omega (arith, fits)))
stop_last room (byte ∷ bytes) whole short fits = ap (λ r. r.stop) (reading_of-last 67108864 room (byte ∷ bytes) whole short (omega arith) fits)

stop_long : (most room : ℕ) (bytes : List ℕ) → HasNoLineEnd (take (most + 1) bytes) → most < length bytes → length bytes ≤ room → (reading_of most room bytes).stop ≡ LongLine
stop_long most room bytes whole long fits =
    let count : length (take (most + 1) bytes) ≡ most + 1 = length-take-le (most + 1) bytes (omega (arith, long)) in
    ap (λ v. (reading_of most room v).stop) (sym (take-append-drop (most + 1) bytes))
    ∙ ap (λ r. r.stop) (reading_of-long_line most room (take (most + 1) bytes) (drop (most + 1) bytes) whole (omega (arith, count)) (omega (arith, count, long, fits)))

stop_cut : (most room : ℕ) (bytes : List ℕ) → HasNoLineEnd bytes → length bytes ≤ most → length bytes ≡ room → (reading_of most room bytes).stop ≡ LongInput
stop_cut most room bytes whole short all =
    ap (λ v. (reading_of most room v).stop) (sym (append-nil bytes)) ∙ ap (λ r. r.stop) (reading_of-long_input most room bytes [] whole short all)

-- ---- by the calls of a reader

-- a reader that took nothing
pub none_given : (reader : Reader) (l : Option (List ℕ)) → reader.held ≡ [] → reader.taken ≡ 0 → AreTaken reader l l []
none_given reader l none zero = inl (record {
  pieces = [];
  lines = tt;
  front = subst (λ held. Consumes l l held) (sym none) (Consumes-nil l);
  counted = zero ∙ sym (ap length none);
  texts_are = refl;
})

-- what was taken are the lines that were given, and what the reader holds
pub no_further : (now : Reader) (first m : Option (List ℕ)) (texts : List (List ℕ)) (text : List ℕ) → AreTaken now first m texts → IsAhead now (Ok (Text text)) → IsTakenNoFurther first m texts
no_further now first m texts text (inl h) few =
    record { given = ended_lines h.pieces; lines = lines_all h.pieces h.lines ∙ h.texts_are; ahead = now.held; front = h.front; few = few }
no_further now first m texts text (inr h) few =
    record { given = h.bytes; lines = h.lines; ahead = []; front = subst (λ v. Consumes first m v) (sym (append-nil h.bytes)) h.front; few = omega arith }

-- how the lines of the bytes stop that were taken, and the bytes before the refusal: their rounds are those of these lines
pub record IsRefusal (stop : Stop) (first m : Option (List ℕ)) (texts : List (List ℕ)) : Type 0 where
  pub taken : IsTakenUpTo stop first m
  pub front : List ℕ
  pub refused : IsBeforeRefusal stop front taken.bytes
  pub rounds : rounds_of round_limits front false ≡ (cut_lines round_limits (numbered 1 texts)).rounds

-- the same by the end of the service
abbrev pub Refuses : Option (List ℕ) → Option (List ℕ) → List (List ℕ) → ServeEnd → Type 0
Refuses first m texts end.ReadFault = IsRefusal Finished first m texts
Refuses first m texts end.LineTooLong = IsRefusal LongLine first m texts
Refuses first m texts end.InputTooLong = IsRefusal LongInput first m texts
Refuses first m texts _ = ⊤

pub takes_up_to : (first m : Option (List ℕ)) (texts : List (List ℕ)) (ended : ServeEnd) → Refuses first m texts ended → TakesUpTo first m ended
takes_up_to first m texts end.Done h = tt
takes_up_to first m texts end.ReadFault h = h.taken
takes_up_to first m texts end.WriteFault h = tt
takes_up_to first m texts end.LineTooLong h = h.taken
takes_up_to first m texts end.InputTooLong h = h.taken
takes_up_to first m texts end.NoMemory h = tt

-- that no byte follows
all_before : (pieces : List (List ℕ)) → ended_lines pieces ++ [] ≡ ended_lines pieces
all_before pieces = append-nil (ended_lines pieces)

module _ (before now : Reader) (first l m : Option (List ℕ)) (texts : List (List ℕ)) (limit : now.max_line ≡ 67108864) where
  -- what was taken before, and in this call
  joined : (h : IsTakenLines before first l texts) (bytes more : List ℕ) → bytes ≡ before.held ++ more → (ended_lines h.pieces ++ before.held) ++ more ≡ ended_lines h.pieces ++ bytes
  joined h bytes more e = append_assoc (ended_lines h.pieces) before.held more ∙ ap (λ v. ended_lines h.pieces ++ v) (sym e)

  -- one more line
  pub one_given : (text : List ℕ) → AreTaken before first l texts → Step before now l m (Ok (Text text)) → AreTaken now first m (texts ++ text ∷ [])
  one_given text (inl h) s =
      elim s.answers.rest [
        | inl e ↦
            let join = joined h s.bytes s.takes.more s.takes.joined ∙ ap (λ v. ended_lines h.pieces ++ v) e ∙ sym (ended_snoc h.pieces s.answers.piece now.held) in
            inl (record {
              pieces = h.pieces ++ s.answers.piece ∷ [];
              lines = all_more IsPiece h.pieces s.answers.piece h.lines (record { whole = s.answers.whole; short = omega (arith, s.answers.short, limit) });
              front = subst (λ v. Consumes first m v) join (Consumes-more first l m (ended_lines h.pieces ++ before.held) s.takes.more h.front s.takes.consumed);
              counted = omega (arith, s.takes.counted, h.counted, ap length join, length-append (ended_lines h.pieces ++ before.held) s.takes.more);
              texts_are = map-append text_of h.pieces (s.answers.piece ∷ []) ∙ ap (λ given. given ++ text_of s.answers.piece ∷ []) h.texts_are ∙ ap (λ last. texts ++ last ∷ []) (sym s.answers.text);
            })
        | inr e ↦
            let join = joined h s.bytes s.takes.more s.takes.joined ∙ ap (λ v. ended_lines h.pieces ++ v) e.0 in
            inr (record {
              bytes = ended_lines h.pieces ++ s.answers.piece;
              front = subst (λ v. Consumes first m v) join (Consumes-more first l m (ended_lines h.pieces ++ before.held) s.takes.more h.front s.takes.consumed);
              lines =
                  lines_ended h.pieces s.answers.piece h.lines ∙ ap (λ last. map text_of h.pieces ++ last) (lines_of-last s.answers.piece s.answers.whole e.1)
                  ∙ ap (λ given. given ++ text_of s.answers.piece ∷ []) h.texts_are ∙ ap (λ last. texts ++ last ∷ []) (sym s.answers.text);
              held = e.2;
              ended = e.3;
            })
      ]
  one_given text (inr h) s =
      let over = s.takes.over h.ended in
      let none : length s.bytes ≡ 0 = omega (arith, ap length s.takes.joined, length-append before.held s.takes.more, ap length h.held, ap length over.0) in
      elim s.answers.rest [
        | inl e ↦ absurd (omega (arith, none, ap length e, length-append s.answers.piece (LF ∷ now.held)))
        | inr e ↦ absurd (omega (arith, none, ap length e.0, e.1))
      ]

  -- all bytes that were taken, as a call ends that gives no line
  all_bytes : (stop : Stop) (answer : Result Line LineError) → (h : IsTakenLines before first l texts) → (s : Step before now l m answer) → now.max_input ≡ 2 ^ 36
      → ((room : ℕ) → room + length (ended_lines h.pieces) ≡ 2 ^ 36 → now.taken ≡ length (ended_lines h.pieces) + length s.bytes → (reading_of 67108864 room s.bytes).stop ≡ stop)
      → (taken : IsTakenUpTo stop first m) × (taken.bytes ≡ ended_lines h.pieces ++ s.bytes)
  all_bytes stop answer h s inputs by =
      let join = joined h s.bytes s.takes.more s.takes.joined in
      let count : now.taken ≡ length (ended_lines h.pieces) + length s.bytes =
      omega (arith, s.takes.counted, h.counted, ap length join, length-append (ended_lines h.pieces ++ before.held) s.takes.more, length-append (ended_lines h.pieces) s.bytes) in
      let room : ℕ = 2 ^ 36 - length (ended_lines h.pieces) in
      let whole : length (ended_lines h.pieces) + room ≡ 2 ^ 36 = omega (arith, count, s.within, inputs) in (
        record {
          bytes = ended_lines h.pieces ++ s.bytes;
          front = subst (λ v. Consumes first m v) join (Consumes-more first l m (ended_lines h.pieces ++ before.held) s.takes.more h.front s.takes.consumed);
          within = omega (arith, count, s.within, inputs, length-append (ended_lines h.pieces) s.bytes);
          stops = ap (λ n. (reading_of 67108864 n (ended_lines h.pieces ++ s.bytes)).stop) (sym whole) ∙ stop_after h.pieces room s.bytes h.lines ∙ by room (omega (arith, whole)) count;
        },
        refl,
      )

  -- the call failed, or refused what is next
  pub none_left : (error : LineError) → AreTaken before first l texts → Step before now l m (Err error) → now.max_input ≡ 2 ^ 36 → Refuses first m texts (end_of (Err (stop.Input error)))
  none_left line.NoMemory h s inputs = tt
  none_left line.ReadFault (inl h) s inputs =
      let x = s.answers.0 in
      let all = all_bytes Finished (Err line.ReadFault) h s inputs
      (λ room whole count. stop_last room s.bytes x.whole (omega (arith, x.short, limit)) (omega (arith, whole, count, s.answers.1, inputs))) in
      record { taken = all.0; front = ended_lines h.pieces ++ s.bytes; refused = sym all.1; rounds = rounds_ended h.pieces s.bytes texts h.lines x.whole h.texts_are }
  none_left line.ReadFault (inr h) s inputs = absurd (false≢true (sym s.answers.0.not_ended ∙ (s.takes.over h.ended).1))
  none_left line.LineTooLong (inl h) s inputs =
      let all = all_bytes LongLine (Err line.LineTooLong) h s inputs
      (λ room whole count. subst (λ most. (reading_of most room s.bytes).stop ≡ LongLine) limit
      (stop_long now.max_line room s.bytes s.answers.whole s.answers.long (omega (arith, whole, count, s.within, inputs)))) in
      let most : now.max_line + 1 ≡ 67108865 = omega (arith, limit) in
      record {
        taken = all.0;
        front = ended_lines h.pieces;
        refused = record {
          pieces = h.pieces;
          lines = h.lines;
          whole = refl;
          later = s.bytes;
          joined = all.1;
          unended = subst (λ n. HasNoLineEnd (take n s.bytes)) most s.answers.whole;
          long = omega (arith, limit, s.answers.long);
        };
        rounds = ap (λ bytes. rounds_of round_limits bytes false) (sym (all_before h.pieces))
            ∙ rounds_ended h.pieces [] texts h.lines (All-nil (λ b. is_line_end b ≡ false)) h.texts_are;
      }
  none_left line.LineTooLong (inr h) s inputs =
      absurd (omega (arith, s.answers.long, ap length s.takes.joined, length-append before.held s.takes.more, ap length h.held, ap length (s.takes.over h.ended).0))
  none_left line.InputTooLong (inl h) s inputs =
      let x = s.answers.0 in
      let all = all_bytes LongInput (Err line.InputTooLong) h s inputs
      (λ room whole count. stop_cut 67108864 room s.bytes x.whole (omega (arith, x.short, limit)) (omega (arith, whole, count, s.answers.1, inputs))) in
      record { taken = all.0; front = ended_lines h.pieces ++ s.bytes; refused = sym all.1; rounds = rounds_ended h.pieces s.bytes texts h.lines x.whole h.texts_are }
  none_left line.InputTooLong (inr h) s inputs = absurd (false≢true (sym s.answers.0.not_ended ∙ (s.takes.over h.ended).1))

  pub stop_given : (error : LineError) (r : Result Unit Stopped) → AreTaken before first l texts → Step before now l m (Err error) → now.max_input ≡ 2 ^ 36
      → IsErrAnd r (λ e. e ≡ stop.Input error) → TakesUpTo first m (end_of r)
  stop_given error (Ok x) h s inputs from = absurd from
  stop_given error (Err e) h s inputs from =
      subst (λ e. TakesUpTo first m (end_of (Err e))) (sym from) (takes_up_to first m texts (end_of (Err (stop.Input error))) (none_left error h s inputs))
