-- What a service did goes on by what it does next.
use Rattle.std.specs.Prelude.{◌≡◌, ℕ, suc, ◌+◌, Bool, true, false, ◌&&◌, nat_le, nat_lt, if◌then◌else◌, List, [], ◌∷◌, ◌++◌, length, refl}
use Rattle.std.specs.List.{AllByRecursion, AllZip}
use Rattle.std.proofs.Common.{ap, append_assoc, subst, sym, ◌∙◌}
use Rattle.std.proofs.lemmas.List.{append-nil}
use Rattle.cv_base.specs.Lines.{Line}
use Rattle.cv_base.specs.Texts.{is_cons, is_nil}
use Rattle.cv_transcript.specs.declared.entry.Entry.{Entry}
use Rattle.cv_core_machine.specs.Scans.{Trees}
use Rattle.cv_serve_legal.specs.Replay.{Moment}
use Rattle.cv_serve_legal.specs.Rounds.{Cut, Round, cut_line, end_before, end_full, end_round, put_line, round_limits, size_of}
use Rattle.cv_serve_legal.specs.ParsedLine.{IsTaken}
use Rattle.cv_serve_legal.specs.Served.{Served}
use Rattle.cv_serve_legal.specs.Whole.{WholeRound, entries_in, whole_round}
use Rattle.cv_serve_legal.specs.declared.limits.TheConstants.{MAX_ROUND_BYTES, MAX_ROUND_LINES}
use Rattle.cv_serve_legal.specs.declared.parsed_line.ParsedLine.{ParsedLine}
use Rattle.cv_serve_legal.proofs.Serving.{ends_round, takes_line}
use Rattle.cv_serve_legal.proofs.Whole.{joined_entries}
use Rattle.cv_serve_round.specs.Round.{DesksCounted}
use Rattle.cv_serve_round.specs.Begun.{RoundView, no_lines}
use Rattle.cv_serve_round.specs.Done.{FurtherDone}
use Rattle.cv_serve_round.specs.code.LineParts.{RoundRun}
use Rattle.cv_serve_round.specs.Printed.{HasTag}
use Rattle.cv_serve_round.proofs.Counts.{counts_both, counts_none}
use Rattle.cv_serve_round.proofs.Done.{done_both, done_none, done_one}

pub tags_joined : (xs ys : List Entry) → AllByRecursion HasTag xs → AllByRecursion HasTag ys → AllByRecursion HasTag (xs ++ ys)
tags_joined [] ys h k = k
tags_joined (x ∷ xs) ys h k = (h.0, tags_joined xs ys h.1 k)

-- of rounds one after the other
pub tags_both : (xs ys : List WholeRound) → AllByRecursion HasTag (entries_in xs) → AllByRecursion HasTag (entries_in ys) → AllByRecursion HasTag (entries_in (xs ++ ys))
tags_both xs ys h k = subst (λ entries. AllByRecursion HasTag entries) (sym (joined_entries xs ys)) (tags_joined (entries_in xs) (entries_in ys) h k)

-- a line came to the round that has begun
pub puts : (known : Type 0) (trees : Trees) (workers : ℕ) (start : Moment) (cut : Cut) (last : ℕ) (taken more : List ParsedLine) (bytes all : ℕ) (whole : List WholeRound) (now : Moment) (line : Line) (t : ParsedLine)
    → Served known trees workers start cut last taken bytes whole now → line.number ≡ last + 1 → IsTaken line t → more ≡ taken ++ t ∷ [] → all ≡ bytes + length line.text
    → Served known trees workers start (put_line line cut) (last + 1) more all whole now
puts known trees workers start cut last taken more bytes all whole now line t h number is joined sum =
    subst (λ x. Served known trees workers start (put_line line cut) (last + 1) x all whole now) (sym joined)
    (subst (λ x. Served known trees workers start (put_line line cut) (last + 1) (taken ++ t ∷ []) x whole now) (sym sum)
    (takes_line known trees workers start cut last taken bytes whole now h line t number is))

module _ {D S : Type 0} (known : Type 0) (trees : Trees) (workers : ℕ) (start : Moment) (listings faults : D → ℕ) (ends : S → WholeRound → Moment → S → Type 0) where
  -- nothing was done yet
  pub stays : (cut : Cut) (last : ℕ) (taken : List ParsedLine) (bytes : ℕ) (noted : Round → Type 0) (earlier : List WholeRound) (now : Moment) (l : List D) (held : S)
      → noted cut.begun → Served known trees workers start cut last taken bytes earlier now
      → FurtherDone known trees workers start listings faults ends cut last taken bytes noted earlier now now l l held held
  stays cut last taken bytes noted earlier now l held begun h = record {
    more = [];
    served = subst (λ whole. Served known trees workers start cut last taken bytes whole now) (sym (append-nil earlier)) h;
    tags = tt;
    counts = counts_none listings faults 0 l;
    begun = begun;
    done = done_none known trees workers ends now held;
  }

  pub stays_at : (cut to : Cut) (last : ℕ) (taken : List ParsedLine) (bytes : ℕ) (noted : Round → Type 0) (earlier : List WholeRound) (now : Moment) (l : List D) (held : S)
      → noted cut.begun → Served known trees workers start cut last taken bytes earlier now → to ≡ cut
      → FurtherDone known trees workers start listings faults ends to last taken bytes noted earlier now now l l held held
  stays_at cut to last taken bytes noted earlier now l held begun h is =
      subst (λ c. FurtherDone known trees workers start listings faults ends c last taken bytes noted earlier now now l l held held) (sym is)
      (stays cut last taken bytes noted earlier now l held begun h)

  -- a round was run
  runs : (cut : Cut) (last : ℕ) (taken : List ParsedLine) (bytes : ℕ) (noted next : Round → Type 0) (earlier : List WholeRound) (now after : Moment) (l m : List D) (held held_now : S)
      → noted cut.begun → next [] → Served known trees workers start cut last taken bytes earlier now → RoundRun known trees workers listings faults noted ends taken now after l m held held_now
      → FurtherDone known trees workers start listings faults ends (end_round cut) last [] 0 next earlier now after l m held held_now
  runs cut last taken bytes noted next earlier now after l m held held_now begun none h r =
      let only : r.made.entries ≡ entries_in (whole_round cut.begun r.made.entries ∷ []) = sym (append-nil r.made.entries) in
      record {
        more = whole_round cut.begun r.made.entries ∷ [];
        served = ends_round known trees workers start cut last taken bytes earlier now h r.made.entries after (λ k. r.made.legal k cut.begun last h.begun h.ascend);
        tags = subst (λ entries. AllByRecursion HasTag entries) only r.made.tags;
        counts = subst (λ entries. DesksCounted listings faults 0 l m entries) only r.made.counts;
        begun = none;
        done = done_one known trees workers ends now after held held_now (whole_round cut.begun r.made.entries) (λ k. r.made.legal k cut.begun last h.begun h.ascend) (r.ended cut.begun begun);
      }

  -- a round was run, and this is the one that has begun now
  pub runs_to : (notes : List Line → Round → Type 0) (cut to : Cut) (last : ℕ) (taken : List ParsedLine) (bytes : ℕ) (noted : List Line) (begun : RoundView) (earlier : List WholeRound) (now after : Moment) (l m : List D)
      (held held_now : S) → notes [] [] → notes noted cut.begun → Served known trees workers start cut last taken bytes earlier now
      → RoundRun known trees workers listings faults (notes noted) ends taken now after l m held held_now → to ≡ end_round cut → begun ≡ no_lines
      → FurtherDone known trees workers start listings faults ends to last begun.taken begun.bytes (notes begun.noted) earlier now after l m held held_now
  runs_to notes cut to last taken bytes noted begun earlier now after l m held held_now nothing lines h r to_is none =
      subst (λ c. FurtherDone known trees workers start listings faults ends c last begun.taken begun.bytes (notes begun.noted) earlier now after l m held held_now) (sym to_is)
      (subst (λ (b : RoundView). FurtherDone known trees workers start listings faults ends (end_round cut) last b.taken b.bytes (notes b.noted) earlier now after l m held held_now) (sym none)
      (runs cut last taken bytes (notes noted) (notes []) earlier now after l m held held_now lines nothing h r))

  -- one thing after the other, up to a line
  pub further_done : (first next to : Cut) (last number at : ℕ) (taken begun : List ParsedLine) (bytes more : ℕ) (noted_before noted : Round → Type 0) (earlier : List WholeRound) (was now after : Moment)
      (l k n : List D) (held middle held_now : S)
      → (f : FurtherDone known trees workers start listings faults ends first last taken bytes noted_before earlier was now l k held middle)
      → FurtherDone known trees workers start listings faults ends next at begun more noted (earlier ++ f.more) now after k n middle held_now → to ≡ next → number ≡ at
      → FurtherDone known trees workers start listings faults ends to number begun more noted earlier was after l n held held_now
  further_done first next to last number at taken begun bytes more noted_before noted earlier was now after l k n held middle held_now f g to_is number_is = record {
    more = f.more ++ g.more;
    served =
        subst (λ c. Served known trees workers start c number begun more (earlier ++ (f.more ++ g.more)) after) (sym to_is)
        (subst (λ i. Served known trees workers start next i begun more (earlier ++ (f.more ++ g.more)) after) (sym number_is)
        (subst (λ whole. Served known trees workers start next at begun more whole after) (append_assoc earlier f.more g.more) g.served));
    tags = tags_both f.more g.more f.tags g.tags;
    counts = counts_both listings faults 0 l k n f.more g.more f.counts g.counts;
    begun = subst (λ (c : Cut). noted c.begun) (sym to_is) g.begun;
    done = done_both known trees workers ends was now after held middle held_now f.more g.more f.done g.done;
  }

-- ---- by the kinds of lines

pub same_cons : (lines : List Line) (taken : List ParsedLine) → AllZip IsTaken lines taken → is_cons lines ≡ is_cons taken
same_cons [] [] h = refl
same_cons (line ∷ lines) (t ∷ ts) h = refl
same_cons [] (t ∷ ts) h = absurd h
same_cons (line ∷ lines) [] h = absurd h

same_length : (lines : List Line) (taken : List ParsedLine) → AllZip IsTaken lines taken → length lines ≡ length taken
same_length [] [] h = refl
same_length (line ∷ lines) (t ∷ ts) h = ap suc (same_length lines ts h.1)
same_length [] (t ∷ ts) h = absurd h
same_length (line ∷ lines) [] h = absurd h

-- whether a line would make the round too long
pub before_is : (known : Type 0) (trees : Trees) (workers : ℕ) (start : Moment) (cut : Cut) (last : ℕ) (taken : List ParsedLine) (bytes more : ℕ) (whole : List WholeRound) (now : Moment) (line : Line) (b : Bool)
    → Served known trees workers start cut last taken bytes whole now → length line.text ≡ more → b ≡ (is_cons taken && nat_lt MAX_ROUND_BYTES (bytes + more))
    → end_before round_limits line cut ≡ (if b then end_round cut else cut)
before_is known trees workers start cut last taken bytes more whole now line b h size is =
    ap (λ c. if c then end_round cut else cut)
    (ap (λ c. c && nat_lt MAX_ROUND_BYTES (size_of cut.begun + length line.text)) (same_cons cut.begun taken h.begun)
    ∙ ap (λ n. is_cons taken && nat_lt MAX_ROUND_BYTES (n + length line.text)) h.size
    ∙ ap (λ n. is_cons taken && nat_lt MAX_ROUND_BYTES (bytes + n)) size ∙ sym is)

-- whether the round has as many lines as it may have
pub full_is : (known : Type 0) (trees : Trees) (workers : ℕ) (start : Moment) (cut : Cut) (last : ℕ) (taken : List ParsedLine) (bytes : ℕ) (whole : List WholeRound) (now : Moment) (b : Bool)
    → Served known trees workers start cut last taken bytes whole now → b ≡ nat_le MAX_ROUND_LINES (length taken)
    → end_full round_limits cut ≡ (if b then end_round cut else cut)
full_is known trees workers start cut last taken bytes whole now b h is =
    ap (λ c. if c then end_round cut else cut) (ap (λ n. nat_le MAX_ROUND_LINES n) (same_length cut.begun taken h.begun) ∙ sym is)

-- a line of no bytes
pub blank : (cut : Cut) (line : Line) → is_nil line.text ≡ true → cut_line round_limits cut line ≡ end_round cut
blank cut line h = ap (λ b. if b then end_round cut else end_full round_limits (put_line line (end_before round_limits line cut))) h

-- any other line
pub filled : (cut : Cut) (line : Line) → is_nil line.text ≡ false → cut_line round_limits cut line ≡ end_full round_limits (put_line line (end_before round_limits line cut))
filled cut line h = ap (λ b. if b then end_round cut else end_full round_limits (put_line line (end_before round_limits line cut))) h
