-- What a service did goes on by a line that is taken, and by a round that ends.
use Rattle.std.specs.Prelude.{◌≡◌, ℕ, ◌+◌, ◌≤◌, ◌<◌, true, cond, if◌then◌else◌, List, [], ◌∷◌, ◌++◌, length, refl}
use Rattle.std.proofs.Common.{ap, arith, sym, ◌∙◌}
use Rattle.std.proofs.lemmas.List.Sums.{fold-append}
use Rattle.cv_base.specs.Lines.{Line, numbered}
use Rattle.cv_base.specs.Texts.{is_cons}
use Rattle.cv_base.proofs.AllItems.{all_more, zip_more}
use Rattle.cv_transcript.specs.declared.entry.Entry.{Entry}
use Rattle.cv_core_machine.specs.Layers.{queued}
use Rattle.cv_core_machine.specs.Scans.{Trees}
use Rattle.cv_serve_legal.specs.Replay.{Moment}
use Rattle.cv_serve_legal.specs.Round.{IsLegalRound}
use Rattle.cv_serve_legal.specs.Rounds.{Cut, RoundLimits, counted, cut_line, cut_lines, end_round, put_line}
use Rattle.cv_serve_legal.specs.ParsedLine.{IsTaken}
use Rattle.cv_serve_legal.specs.Served.{LinesAscend, Served}
use Rattle.cv_serve_legal.specs.Whole.{AreAllRounds, AreLastRounds, WholeRound, whole_round}
use Rattle.cv_serve_legal.specs.declared.parsed_line.ParsedLine.{ParsedLine}
use Rattle.cv_serve_legal.proofs.Divided.{size_by_one}
use Rattle.cv_serve_legal.proofs.Whole.{joined_lines, joined_rounds}

-- ---- one more line

-- nothing is cut yet
abbrev no_cut : Cut
no_cut = record { rounds = []; begun = [] }

pub cut_more : (limits : RoundLimits) (lines : List Line) (line : Line)
    → cut_lines limits (lines ++ line ∷ []) ≡ cut_line limits (cut_lines limits lines) line
cut_more limits lines line = fold-append (cut_line limits) no_cut lines (line ∷ [])

-- a line with its number
abbrev pub line_at : ℕ → List ℕ → Line
line_at number text = record { number = number; text = text }

pub numbered_more : (n : ℕ) (texts : List (List ℕ)) (text : List ℕ)
    → numbered n (texts ++ text ∷ []) ≡ numbered n texts ++ line_at (n + length texts) text ∷ []
numbered_more n [] text = let e : n ≡ n + 0 = omega arith in ap (λ k. line_at k text ∷ []) e
numbered_more n (first ∷ texts) text =
    let e : n + 1 + length texts ≡ n + length (first ∷ texts) = omega arith in
    ap (λ rest. line_at n first ∷ rest) (numbered_more (n + 1) texts text)
    ∙ ap (λ k. line_at n first ∷ (numbered (n + 1) texts ++ line_at k text ∷ [])) e

-- a line with the next number
rise_with : (lines : List Line) (last : ℕ) (line : Line) → line.number ≡ last + 1 → LinesAscend lines last → LinesAscend (lines ++ line ∷ []) (last + 1)
rise_with [] last line is h = (omega (arith, is), (tt, tt))
rise_with (first ∷ lines) last line is h =
    let low = h.0 in
    (omega (arith, low), (all_more (λ later. first.number < later.number) lines line h.1.0 (omega (arith, low, is)), rise_with lines last line is h.1.1))

rise_later : (lines : List Line) (last more : ℕ) → LinesAscend lines last → last ≤ more → LinesAscend lines more
rise_later [] last more h most = tt
rise_later (first ∷ lines) last more h most =
    let low = h.0 in
    (omega (arith, low, most), (h.1.0, rise_later lines last more h.1.1 most))

-- ---- what a service did

module _ (known : Type 0) (trees : Trees) (workers : ℕ) (start : Moment) where
  pub begins : (limits : RoundLimits) → Served known trees workers start (cut_lines limits []) 0 [] 0 [] start
  begins limits = record { rounds = λ _. refl; lines = refl; begun = tt; ascend = tt; size = refl }

  module _ (cut : Cut) (last : ℕ) (taken : List ParsedLine) (bytes : ℕ) (whole : List WholeRound) (now : Moment) (h : Served known trees workers start cut last taken bytes whole now) where
    pub takes_line : (line : Line) (t : ParsedLine) → line.number ≡ last + 1 → IsTaken line t
        → Served known trees workers start (put_line line cut) (last + 1) (taken ++ t ∷ []) (bytes + length line.text) whole now
    takes_line line t is k = record {
      rounds = h.rounds;
      lines = h.lines;
      begun = zip_more IsTaken cut.begun taken line t h.begun k;
      ascend = rise_with cut.begun last line is h.ascend;
      size = size_by_one cut.begun line ∙ ap (λ n. n + length line.text) h.size;
    }

    -- the round that has begun ends, and these are its entries
    pub ends_round : (next : List Entry) (after : Moment) → (known → IsLegalRound trees workers now cut.begun next after)
        → Served known trees workers start (end_round cut) last [] 0 (whole ++ whole_round cut.begun next ∷ []) after
    ends_round next after k = record {
      rounds = λ is. joined_rounds trees workers start now after whole (whole_round cut.begun next ∷ []) (h.rounds is) (after, k is, refl);
      lines = joined_lines whole (whole_round cut.begun next ∷ []) ∙ ap (λ rounds. rounds ++ cut.begun ∷ []) h.lines;
      begun = tt;
      ascend = tt;
      size = refl;
    }

    -- empty lines have numbers too
    pub later : (more : ℕ) → last ≤ more → Served known trees workers start cut more taken bytes whole now
    later more most = record { rounds = h.rounds; lines = h.lines; begun = h.begun; ascend = rise_later cut.begun last more h.ascend most; size = h.size }

-- ---- the end of the input

-- the rounds that count are those that ended, if none has begun
pub counted_none : (cut : Cut) → cut.begun ≡ [] → counted true cut ≡ cut.rounds
counted_none cut none = ap (λ begun. cond (is_cons begun) (cut.rounds ++ begun ∷ []) cut.rounds) none

-- one that has begun ends
pub counted_some : (cut : Cut) → is_cons cut.begun ≡ true → counted true cut ≡ (end_round cut).rounds
counted_some cut some = ap (λ b. cond b (cut.rounds ++ cut.begun ∷ []) cut.rounds) some

pub counted_ended : (cut : Cut) → counted true cut ≡ (if is_cons cut.begun then (end_round cut).rounds else cut.rounds)
counted_ended cut = refl

-- rounds that were carried out, and then those after the last one of the input
module _ (known : Type 0) (trees : Trees) (workers : ℕ) (start : Moment) (cut : Cut) (last : ℕ) (taken : List ParsedLine) (bytes : ℕ) (whole : List WholeRound) (now : Moment) (more : List WholeRound) (after : Moment)
    (is : known) (k : AreLastRounds (queued now.state.layers) trees workers now more after) where
  pub all_rounds : Served known trees workers start cut last taken bytes whole now → cut.begun ≡ [] → AreAllRounds trees workers start (counted true cut) (whole ++ more) after
  all_rounds h none =
      record { between = now; first = whole; last = more; parts = refl; lines = h.lines ∙ sym (counted_none cut none); input = h.rounds is; further = k }

  -- the same where the last round of the input had no empty line after it
  pub all_rounds_ended : Served known trees workers start (end_round cut) last taken bytes whole now → is_cons cut.begun ≡ true
      → AreAllRounds trees workers start (counted true cut) (whole ++ more) after
  all_rounds_ended h some =
      record { between = now; first = whole; last = more; parts = refl; lines = h.lines ∙ sym (counted_some cut some); input = h.rounds is; further = k }
