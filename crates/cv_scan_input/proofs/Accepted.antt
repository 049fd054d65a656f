-- The whole lines that were accepted before the source failed.
use Rattle.std.specs.Prelude.{◌≡◌, ℕ, ◌+◌, ◌-◌, ◌<◌, ◌≤◌, ◌^◌, Bool, true, false, if◌then◌else◌, List, [], ◌∷◌, ◌++◌, length, map, Option, None, Some, Result, Ok, Err, IfOk, IfSome, IsErrOf, IsSomeAnd, refl}
use Rattle.std.specs.List.{AllByRecursion}
use Rattle.std.specs.Io.KnownBytes.{Consumes, prepend_known}
use Rattle.std.proofs.Common.{◌∙◌, sym, ap, subst, arith, append_assoc, append-nil, length-append, inl, inr}
use Rattle.std.proofs.lemmas.Bool.{false≢true}
use Rattle.std.proofs.lemmas.List.{map-append}
use Rattle.cv_base.specs.declared.advisory.Advisory.{Advisory}
use Rattle.cv_io.specs.declared.line.Line.TheVariants.{Text}
use Rattle.cv_base.specs.Answer.{Gives}
use Rattle.std.specs.Result.{IsErrAnd}
use Rattle.cv_io.specs.declared.line.LineError.{LineError}
use Rattle.cv_io.specs.declared.line.LineError.TheVariants as line
use Rattle.cv_io.specs.Lines.{Finished, HasNoLineEnd, LF, Reading, line_then, stopped, text_of}
use Rattle.cv_io.specs.code.Lines.{lines_then}
use Rattle.cv_io.specs.Reader.{Reader, Step, progress_of, room_of, ungiven}
use Rattle.cv_io.specs.Takes.{Takes}
use Rattle.cv_scan_input.specs.declared.error.InputFault.{InputFault}
use Rattle.cv_scan_input.specs.declared.later.Later.{Later}
use Rattle.cv_scan_input.specs.Request.{record_lines, request_after}
use Rattle.cv_scan_input.specs.code.Remaining.{line_after, refused_at, remaining_request}
use Rattle.cv_scan_input.specs.code.Accepted.{Accepted, Begun, IsAccepted, IsBegun, IsUnrefusedAfter, UnrefusedAfter}
use Rattle.cv_scan_input.specs.Answer.{stop_error}
use Rattle.cv_scan_input.specs.code.Memory.{is_input_memory}
use Rattle.cv_scan_input.specs.declared.error.InputError.{InputError}
use Rattle.cv_scan_input.specs.declared.error.InputError.TheVariants as input
use Rattle.cv_scan_input.specs.Unrefused.{IsPiece, IsUnrefused, Unrefused, ended_lines, is_refusal}
use Rattle.cv_scan_input.proofs.Lines.{line_taken}

-- what a call took, and the bytes that remain of the source after it
tail_by : (was is : Bool) (held more bytes : List ℕ) (l m : Option (List ℕ)) → bytes ≡ held ++ more → Consumes l m more → (was ≡ true → (more ≡ []) × (is ≡ true)) → is ≡ false
    → IfSome (if was then Some held else prepend_known held l) (λ whole. IsSomeAnd m (λ tail. whole ≡ bytes ++ tail))
tail_by true is held more bytes l m join took over going = absurd (false≢true (sym going ∙ (over refl).1))
tail_by false is held more bytes None m join took over going = tt
tail_by false is held more bytes (Some xs) None join took over going = absurd took
tail_by false is held more bytes (Some xs) (Some ys) join took over going =
    ap (λ v. held ++ v) took ∙ sym (append_assoc held more ys) ∙ ap (λ v. v ++ ys) (sym join)

-- a reader that goes on went on before
went : (was is : Bool) (P : Type 0) → (was ≡ true → P × (is ≡ true)) → is ≡ false → was ≡ false
went true is P over going = absurd (false≢true (sym going ∙ (over refl).1))
went false is P over going = refl

module _ (before now : Reader) (l m : Option (List ℕ)) (inputs : now.max_input ≡ before.max_input) (limit : now.max_line ≡ 67108864) where
  room_by : (bytes : List ℕ) → Takes before.held bytes (progress_of before) (progress_of now) l m → now.taken ≤ now.max_input
      → room_of before ≡ length bytes + (now.max_input - now.taken)
  room_by bytes takes within = omega (arith, takes.counted, inputs, ap length takes.joined, length-append before.held takes.more)

  -- a line that ended at an LF
  record IsEnded (line : List ℕ) : Type 0 where
    piece : List ℕ
    whole : IsPiece piece
    text : line ≡ text_of piece
    room : room_of before ≡ length piece + 1 + room_of now
    parts : IfSome (ungiven before l) (λ bytes. IsSomeAnd (ungiven now m) (λ rest. bytes ≡ piece ++ LF ∷ rest))

  ended_by : (u : Option (List ℕ)) (is : Bool) (piece bytes held : List ℕ) → is ≡ false → bytes ≡ piece ++ LF ∷ held → (v : Option (List ℕ))
      → IfSome u (λ whole. IsSomeAnd v (λ tail. whole ≡ bytes ++ tail))
      → IfSome u (λ whole. IsSomeAnd (if is then Some held else prepend_known held v) (λ rest. whole ≡ piece ++ LF ∷ rest))
  ended_by None is piece bytes held going e v h = tt
  ended_by (Some whole) true piece bytes held going e v h = absurd (false≢true (sym going))
  ended_by (Some whole) false piece bytes held going e None h = absurd h
  ended_by (Some whole) false piece bytes held going e (Some tail) h = h ∙ ap (λ v. v ++ tail) e ∙ append_assoc piece (LF ∷ held) tail

  ended_line : (line : List ℕ) → Step before now l m (Ok (Text line)) → now.ended ≡ false → IsEnded line
  ended_line line s going =
      elim s.answers.rest [
        | inl e ↦ record {
          piece = s.answers.piece;
          whole = record { whole = s.answers.whole; short = omega (arith, s.answers.short, limit) };
          text = s.answers.text;
          room = omega (arith, room_by s.bytes s.takes s.within, ap length e, length-append s.answers.piece (LF ∷ now.held));
          parts = ended_by (ungiven before l) now.ended s.answers.piece s.bytes now.held going e m
              (tail_by before.ended now.ended before.held s.takes.more s.bytes l m s.takes.joined s.takes.consumed s.takes.over going);
        }
        | inr e ↦ absurd (false≢true (sym going ∙ e.3))
      ]

  -- the source failed
  record IsFailed : Type 0 where
    held : IsPiece now.held
    not_ended : before.ended ≡ false
    room : length now.held < room_of before
    parts : IfSome (ungiven before l) (λ bytes. IsSomeAnd m (λ rest. bytes ≡ now.held ++ rest))

  failed_by : (u v : Option (List ℕ)) (bytes held : List ℕ) → held ≡ bytes → IfSome u (λ whole. IsSomeAnd v (λ tail. whole ≡ bytes ++ tail))
      → IfSome u (λ whole. IsSomeAnd v (λ tail. whole ≡ held ++ tail))
  failed_by None v bytes held e h = tt
  failed_by (Some whole) None bytes held e h = absurd h
  failed_by (Some whole) (Some tail) bytes held e h = h ∙ ap (λ v. v ++ tail) (sym e)

  failed : Step before now l m (Err line.ReadFault) → IsFailed
  failed s =
      let x = s.answers.0 in
      record {
        held = record { whole = subst HasNoLineEnd (sym x.held) x.whole; short = omega (arith, ap length x.held, x.short, limit) };
        not_ended = went before.ended now.ended _ s.takes.over x.not_ended;
        room = omega (arith, room_by s.bytes s.takes s.within, ap length x.held, s.answers.1);
        parts = failed_by (ungiven before l) m s.bytes now.held x.held
            (tail_by before.ended now.ended before.held s.takes.more s.bytes l m s.takes.joined s.takes.consumed s.takes.over x.not_ended);
      }

-- ---- lines after line 1

-- one more line after lines
pub ended_snoc : (pieces : List (List ℕ)) (piece rest : List ℕ) → ended_lines (pieces ++ piece ∷ []) ++ rest ≡ ended_lines pieces ++ (piece ++ LF ∷ rest)
ended_snoc [] piece rest = append_assoc (piece ++ LF ∷ []) [] rest ∙ append_assoc piece (LF ∷ []) rest
ended_snoc (first ∷ pieces) piece rest =
    append_assoc (first ++ LF ∷ []) (ended_lines (pieces ++ piece ∷ [])) rest
    ∙ ap (λ v. (first ++ LF ∷ []) ++ v) (ended_snoc pieces piece rest)
    ∙ sym (append_assoc (first ++ LF ∷ []) (ended_lines pieces) (piece ++ LF ∷ rest))

ended_length : (pieces : List (List ℕ)) (piece : List ℕ) → length (ended_lines (pieces ++ piece ∷ [])) ≡ length (ended_lines pieces) + (length piece + 1)
ended_length pieces piece =
    omega (
      arith,
      ap length (ended_snoc pieces piece []),
      length-append (ended_lines (pieces ++ piece ∷ [])) [],
      length-append (ended_lines pieces) (piece ++ LF ∷ []),
      length-append piece (LF ∷ []),
    )

all_snoc : (pieces : List (List ℕ)) (piece : List ℕ) → AllByRecursion IsPiece pieces → IsPiece piece → AllByRecursion IsPiece (pieces ++ piece ∷ [])
all_snoc [] piece all last = (last, tt)
all_snoc (first ∷ pieces) piece all last = (all.0, all_snoc pieces piece all.1 last)

-- no line was taken
pub accepted_first : {A : Type 0} (later : Later) (made : A) (reader : Reader) (l : Option (List ℕ)) → Accepted later made reader reader [] 2 l l
accepted_first later made reader l = by (ungiven reader l)
  where
    by : (u : Option (List ℕ)) → IfSome u (λ bytes. IsSomeAnd u (IsAccepted later made reader reader [] 2 bytes))
    by None = tt
    by (Some bytes) = record { pieces = []; lines = tt; joined = refl; room = omega arith; request = λ more. refl }

module _ {A : Type 0} (later : Later) (made : A) (first before now : Reader) (inputs : now.max_input ≡ before.max_input) (limit : now.max_line ≡ 67108864) (l0 l m : Option (List ℕ)) where
  -- one more line was taken
  pub accepted_more : (records more : List Advisory) (number : ℕ) (text : List ℕ) → Accepted later made first before records number l0 l → Step before now l m (Ok (Text text)) → now.ended ≡ false
      → line_after later number records text ≡ Ok more → Accepted later made first now more (number + 1) l0 m
  accepted_more records more number text h s going taken = by (ungiven first l0) (ungiven before l) (ungiven now m) h e.parts
    where
      e : IsEnded before now l m inputs limit text
      e = ended_line before now l m inputs limit text s going

      request_more : (pieces : List (List ℕ)) → ((rest : Reading) → remaining_request later made [] 2 (lines_then (map text_of pieces) rest) ≡ remaining_request later made records number rest)
          → (rest : Reading) → remaining_request later made [] 2 (lines_then (map text_of (pieces ++ e.piece ∷ [])) rest) ≡ remaining_request later made more (number + 1) rest
      request_more pieces request rest =
          let texts : map text_of (pieces ++ e.piece ∷ []) ++ rest.lines ≡ map text_of pieces ++ text_of e.piece ∷ rest.lines =
          ap (λ v. v ++ rest.lines) (map-append text_of pieces (e.piece ∷ [])) ∙ append_assoc (map text_of pieces) (text_of e.piece ∷ []) rest.lines in
          ap (λ (v : List (List ℕ)). remaining_request later made [] 2 (record { lines = v; stop = rest.stop })) texts
          ∙ request (line_then (text_of e.piece) rest)
          ∙ line_taken later made records more number (text_of e.piece) rest (subst (λ v. line_after later number records v ≡ Ok more) e.text taken)

      by : (u v w : Option (List ℕ)) → IfSome u (λ bytes. IsSomeAnd v (IsAccepted later made first before records number bytes)) → IfSome v (λ bytes. IsSomeAnd w (λ rest. bytes ≡ e.piece ++ LF ∷ rest))
          → IfSome u (λ bytes. IsSomeAnd w (IsAccepted later made first now more (number + 1) bytes))
      by None v w p parts = tt
      by (Some bytes) None w p parts = absurd p
      by (Some bytes) (Some rest) None p parts = absurd parts
      by (Some bytes) (Some rest) (Some others) p parts = record {
        pieces = p.pieces ++ e.piece ∷ [];
        lines = all_snoc p.pieces e.piece p.lines e.whole;
        joined = p.joined ∙ ap (λ v. ended_lines p.pieces ++ v) parts ∙ sym (ended_snoc p.pieces e.piece others);
        room = omega (arith, p.room, e.room, ended_length p.pieces e.piece);
        request = request_more p.pieces p.request;
      }

  -- the source failed after the lines
  pub accepted_failed : (records : List Advisory) (number : ℕ) → Accepted later made first before records number l0 l → Step before now l m (Err line.ReadFault) → UnrefusedAfter later made first l0 m
  accepted_failed records number h s = by (ungiven first l0) (ungiven before l) m h f.parts
    where
      f : IsFailed before now l m inputs limit
      f = failed before now l m inputs limit s

      by : (u v w : Option (List ℕ)) → IfSome u (λ bytes. IsSomeAnd v (IsAccepted later made first before records number bytes)) → IfSome v (λ bytes. IsSomeAnd w (λ rest. bytes ≡ now.held ++ rest))
          → IfSome u (λ bytes. IsSomeAnd w (IsUnrefusedAfter later made first bytes))
      by None v w p parts = tt
      by (Some bytes) None w p parts = absurd p
      by (Some bytes) (Some rest) None p parts = absurd parts
      by (Some bytes) (Some rest) (Some others) p parts = record {
        pieces = p.pieces;
        begun = now.held;
        joined = p.joined ∙ ap (λ v. ended_lines p.pieces ++ v) parts ∙ sym (append_assoc (ended_lines p.pieces) now.held others);
        lines = p.lines;
        last = f.held;
        within = omega (arith, length-append (ended_lines p.pieces) now.held, p.room, f.room);
        none = ap is_refusal (ap (λ (v : List (List ℕ)). remaining_request later made [] 2 (record { lines = v; stop = Finished })) (sym (append-nil (map text_of p.pieces))) ∙ p.request (stopped Finished));
      }

-- ---- line 1

abbrev fault_in : {X : Type 0} → Result X InputError → InputError
fault_in (Ok x) = input.NoLine
fault_in (Err error) = error

module _ {A : Type 0} (first_of : List ℕ → Result A InputFault) (before now : Reader) (inputs : now.max_input ≡ before.max_input) (limit : now.max_line ≡ 67108864) (l m : Option (List ℕ)) where
  -- it is this
  pub begun_line : (text : List ℕ) (made : A) → Step before now l m (Ok (Text text)) → now.ended ≡ false → refused_at 1 (first_of text) ≡ Ok made → Begun first_of made before now l m
  begun_line text made s going taken = by (ungiven before l) (ungiven now m) e.parts
    where
      e : IsEnded before now l m inputs limit text
      e = ended_line before now l m inputs limit text s going

      read_by : (answer : Result A InputFault) → refused_at 1 answer ≡ Ok made → answer ≡ Ok made
      read_by (Ok there) h = ap Ok (cc)
      read_by (Err error) h = absurd (cc)

      by : (u v : Option (List ℕ)) → IfSome u (λ bytes. IsSomeAnd v (λ rest. bytes ≡ e.piece ++ LF ∷ rest)) → IfSome u (λ bytes. IsSomeAnd v (IsBegun first_of made before now bytes))
      by None v parts = tt
      by (Some bytes) None parts = absurd parts
      by (Some bytes) (Some rest) parts = record {
        piece = e.piece;
        line = e.whole;
        joined = parts;
        room = e.room;
        read = subst (λ v. first_of v ≡ Ok made) e.text (read_by (first_of text) taken);
      }

  -- or it is not
  pub begun_read : (text : List ℕ) (answer : Result A InputError) → Step before now l m (Ok (Text text)) → Gives is_input_memory (λ made. made) answer (refused_at 1 (first_of text))
      → IfOk answer (λ made. now.ended ≡ false → Begun first_of made before now l m)
  begun_read text (Ok made) s h = λ going. begun_line text made s going h
  begun_read text (Err error) s h = tt

  -- the source failed before it ended
  pub begun_failed : (further : Later) → room_of before ≤ 2 ^ 36 → Step before now l m (Err line.ReadFault) → Unrefused first_of further (ungiven before l) m
  begun_failed further within s = by (ungiven before l) m f.parts
    where
      f : IsFailed before now l m inputs limit
      f = failed before now l m inputs limit s

      by : (u w : Option (List ℕ)) → IfSome u (λ bytes. IsSomeAnd w (λ rest. bytes ≡ now.held ++ rest)) → IfSome u (λ bytes. IsSomeAnd w (IsUnrefused first_of further bytes))
      by None w parts = tt
      by (Some bytes) None parts = absurd parts
      by (Some bytes) (Some rest) parts = record {
        pieces = [];
        begun = now.held;
        joined = parts;
        lines = tt;
        last = f.held;
        within = omega (arith, f.room, within);
        none = refl;
      }

  -- so it was not refused
  pub stopped_unrefused : {X : Type 0} (further : Later) → room_of before ≤ 2 ^ 36 → (error : LineError) (answer : Result X InputError) → IsErrAnd answer (λ e. e ≡ stop_error error)
      → Step before now l m (Err error) → IsErrOf answer input.ReadFault → Unrefused first_of further (ungiven before l) m
  stopped_unrefused further within error (Ok x) e s h = absurd e
  stopped_unrefused further within error (Err given) e s h = by_error error (sym e ∙ ap fault_in h) s
    where
      by_error : (error : LineError) → stop_error error ≡ input.ReadFault → Step before now l m (Err error) → Unrefused first_of further (ungiven before l) m
      by_error line.ReadFault same s = begun_failed further within s
      by_error line.LineTooLong same s = absurd (cc)
      by_error line.InputTooLong same s = absurd (cc)
      by_error line.NoMemory same s = absurd (cc)

-- the source failed after line 1
pub begun_then : {A : Type 0} (first_of : List ℕ → Result A InputFault) (further : Later) (made : A) (before now : Reader) (l m k : Option (List ℕ)) → room_of before ≤ 2 ^ 36 → Begun first_of made before now l m → UnrefusedAfter further made now m k
    → Unrefused first_of further (ungiven before l) k
begun_then first_of further made before now l m k within_limit = by (ungiven before l) (ungiven now m) k
  where
    by : (u v w : Option (List ℕ)) → IfSome u (λ bytes. IsSomeAnd v (IsBegun first_of made before now bytes)) → IfSome v (λ bytes. IsSomeAnd w (IsUnrefusedAfter further made now bytes))
        → IfSome u (λ bytes. IsSomeAnd w (IsUnrefused first_of further bytes))
    by None v w b r = tt
    by (Some bytes) None w b r = absurd b
    by (Some bytes) (Some rest) None b r = absurd r
    by (Some bytes) (Some rest) (Some later) b r =
        let front : ended_lines (b.piece ∷ r.pieces) ++ r.begun ++ later ≡ b.piece ++ LF ∷ (ended_lines r.pieces ++ r.begun ++ later) =
        append_assoc (ended_lines (b.piece ∷ r.pieces)) r.begun later
        ∙ append_assoc (b.piece ++ LF ∷ []) (ended_lines r.pieces) (r.begun ++ later)
        ∙ append_assoc b.piece (LF ∷ []) (ended_lines r.pieces ++ (r.begun ++ later))
        ∙ ap (λ v. b.piece ++ LF ∷ v) (sym (append_assoc (ended_lines r.pieces) r.begun later)) in
        record {
          pieces = b.piece ∷ r.pieces;
          begun = r.begun;
          joined = b.joined ∙ ap (λ v. b.piece ++ LF ∷ v) r.joined ∙ sym front;
          lines = (b.line, r.lines);
          last = r.last;
          within = omega (
            arith,
            within_limit,
            b.room,
            r.within,
            length-append (ended_lines (b.piece ∷ r.pieces)) r.begun,
            length-append (b.piece ++ LF ∷ []) (ended_lines r.pieces),
            length-append b.piece (LF ∷ []),
            length-append (ended_lines r.pieces) r.begun,
          );
          none = ap (λ answer. is_refusal (request_after further answer (record_lines 2 (map text_of r.pieces)) Finished)) b.read ∙ r.none;
        }

-- a reader that took nothing holds nothing
pub begun_new : {A : Type 0} (first_of : List ℕ → Result A InputFault) (further : Later) (l m : Option (List ℕ)) → Unrefused first_of further (prepend_known [] l) m → Unrefused first_of further l m
begun_new first_of further None m h = tt
begun_new first_of further (Some bytes) m h = h
