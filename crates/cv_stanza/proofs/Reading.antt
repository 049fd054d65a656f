-- Reading line by line, block by block, gives what the definition says of the whole file.
use Rattle.std.proofs.Common.{◌≡◌, ℕ, ◌+◌, Bool, true, false, if◌then◌else◌, List, [], ◌∷◌, ◌++◌, Option, None, Some, Result, Ok, Err, refl, sym, ap, ◌∙◌, append_assoc, append-nil}
use Rattle.std.specs.Prelude.{IfSome}
use Rattle.std.specs.List.{flat_map, onto_first, slice_split}
use Rattle.std.specs.Option.{option_map_or, option_or}
use Rattle.cv_base.specs.Lines.{Line, numbered}
use Rattle.cv_base.specs.Reading.{read_fault}
use Rattle.cv_base.specs.Results.{◌>>=◌, or_first_fault}
use Rattle.cv_base.specs.declared.fault.FileBad.{FileBad}
use Rattle.cv_base.specs.declared.fault.ReadBad.{ReadBad}
use Rattle.cv_base.specs.declared.fault.What.{What}
use Rattle.cv_stanza.specs.Blocks.{BlockRules, at, end_faults, faults, is_gap, items, last_number, line_faults, read_blocks, texts}
use Rattle.cv_stanza.specs.code.Steps.{Agrees, BlockSteps, at_line, closed, ended, or_fault, read_on}
use Rattle.cv_stanza.proofs.Parts.{first_fault, glue, glue_first, glue_none, last_snoc, texts_snoc}

-- the answer, where these blocks remain
abbrev pub answer_all : {A : Type 0} → BlockRules A → List A → List (List Line) → Result (List A) FileBad
answer_all rules found bs = (or_first_fault (flat_map (faults rules) bs) (found ++ flat_map (items rules) bs))

-- The end of a block.

fault_or : {A : Type 0} (n : ℕ) (w : Option What) (x : A) → at_line n (or_fault w x) ≡ (or_first_fault (at n w) x)
fault_or n None x = refl
fault_or n (Some w) x = refl

-- a block that has begun has a last line, and one that has not has no line
abbrev pub last_of : Bool → ℕ → Option ℕ
last_of begun n = if begun then Some n else None

none_begun : (b : List Line) (n : ℕ) → last_number b ≡ last_of false n → b ≡ []
none_begun [] n e = refl
none_begun (l ∷ ls) n e = by (last_number ls) e where
  by : (o : Option ℕ) → option_or o (Some l.number) ≡ None → l ∷ ls ≡ []
  by None h = cc
  by (Some m) h = cc

closed_is : {S A : Type 0} (rules : BlockRules A) (steps : BlockSteps S A) (kept : List (List ℕ) → S) → Agrees rules steps kept
    → (p : List (List ℕ)) (found : List A) → closed steps (kept p) found ≡ or_fault (rules.whole_fault p) (found ++ rules.items p)
closed_is rules steps kept h p found = ap (λ w. or_fault w (found ++ steps.items (kept p))) (h.fault p) ∙ ap (λ q. or_fault (rules.whole_fault p) (found ++ q)) (h.items p)

ended_is : {S A : Type 0} (rules : BlockRules A) (steps : BlockSteps S A) (kept : List (List ℕ) → S) → Agrees rules steps kept
    → (b : List Line) (n : ℕ) (begun : Bool) (found : List A) → last_number b ≡ last_of begun n
    → ended steps n begun (kept (texts b)) found ≡ (or_first_fault (end_faults rules b) (found ++ items rules b))
ended_is rules steps kept h b n true found e = ap (at_line n) (closed_is rules steps kept h (texts b) found)
    ∙ (fault_or n (rules.whole_fault (texts b)) (found ++ items rules b)
    ∙ ap (λ o. (or_first_fault (option_map_or (λ m. at m (rules.whole_fault (texts b))) o []) (found ++ items rules b))) (sym e))
ended_is rules steps kept h b n false found e =
    (ap (λ q. Ok q) (sym (append-nil found)) ∙ ap (λ q. Ok (found ++ q)) (sym h.none))
    ∙ ap (λ q. (or_first_fault (end_faults rules q) (found ++ items rules q))) (sym (none_begun b n e))

joint : {A : Type 0} (e f : List FileBad) (found q ps : List A) → (or_first_fault (e ++ f) (found ++ (q ++ ps))) ≡ ((or_first_fault e (found ++ q)) >>= λ o. (or_first_fault f (o ++ ps)))
joint [] f found q ps = ap (λ o. (or_first_fault f o)) (sym (append_assoc found q ps))
joint (x ∷ e) f found q ps = refl

-- a block whose lines have no fault ends, and then the next ones are answered
answer_cons : {A : Type 0} (rules : BlockRules A) (b : List Line) (found : List A) (bs : List (List Line)) → line_faults rules.line_fault [] b ≡ []
    → answer_all rules found (b ∷ bs) ≡ ((or_first_fault (end_faults rules b) (found ++ items rules b)) >>= λ o. answer_all rules o bs)
answer_cons rules b found bs e = ap (λ f. (or_first_fault ((f ++ end_faults rules b) ++ flat_map (faults rules) bs) (found ++ (items rules b ++ flat_map (items rules) bs)))) e
    ∙ joint (end_faults rules b) (flat_map (faults rules) bs) found (items rules b) (flat_map (items rules) bs)

-- nothing more remains
answer_end : {A : Type 0} (rules : BlockRules A) (r : Result (List A) FileBad) → (r >>= λ o. answer_all rules o []) ≡ r
answer_end rules (Ok o) = ap Ok (append-nil o)
answer_end rules (Err e) = refl

-- A line.

-- the first fault of a line is answered
answer_bad : {A : Type 0} (rules : BlockRules A) (b : List Line) (found : List A) (bs : List (List Line)) (f : FileBad) (fs : List FileBad) → line_faults rules.line_fault [] b ≡ f ∷ fs
    → answer_all rules found (b ∷ bs) ≡ Err f
answer_bad rules b found bs f fs e = ap (λ g. (or_first_fault ((g ++ end_faults rules b) ++ flat_map (faults rules) bs) (found ++ (items rules b ++ flat_map (items rules) bs)))) e

-- a line without a fault leaves the lines so far without one
none_yet : (fault : List (List ℕ) → List ℕ → Option What) (b : List Line) (l : Line) → line_faults fault [] b ≡ [] → fault (texts b) l.text ≡ None → line_faults fault [] (b ++ l ∷ []) ≡ []
none_yet fault b l e w = first_fault fault b l [] e ∙ ap (λ o. at l.number o ++ []) w

-- and one with a fault is the first
first_bad : (fault : List (List ℕ) → List ℕ → Option What) (b : List Line) (l : Line) (h : List Line) (w : What) → line_faults fault [] b ≡ [] → fault (texts b) l.text ≡ Some w
    → line_faults fault [] (b ++ l ∷ h) ≡ record { line = l.number; what = w } ∷ line_faults fault (texts b ++ l.text ∷ []) h
first_bad fault b l h w e k = first_fault fault b l h e ∙ ap (λ o. at l.number o ++ line_faults fault (texts b ++ l.text ∷ []) h) k

glue_bad : {A : Type 0} (rules : BlockRules A) (b : List Line) (l : Line) (s : List (List Line)) (found : List A) (w : What) → line_faults rules.line_fault [] b ≡ [] → rules.line_fault (texts b) l.text ≡ Some w
    → answer_all rules found (glue b (onto_first l s)) ≡ Err (record { line = l.number; what = w })
glue_bad rules b l [] found w e k = answer_bad rules (b ++ l ∷ []) found [] (record { line = l.number; what = w }) (line_faults rules.line_fault (texts b ++ l.text ∷ []) []) (first_bad rules.line_fault b l [] w e k)
glue_bad rules b l (h ∷ t) found w e k = answer_bad rules (b ++ l ∷ h) found t (record { line = l.number; what = w }) (line_faults rules.line_fault (texts b ++ l.text ∷ []) h) (first_bad rules.line_fault b l h w e k)

-- one more line, where what follows it is read
line_case : {S A : Type 0} (rules : BlockRules A) (steps : BlockSteps S A) (kept : List (List ℕ) → S) → Agrees rules steps kept
    → (b : List Line) (l : Line) (s : List (List Line)) (found : List A) (k : S → Result (List A) FileBad) → line_faults rules.line_fault [] b ≡ []
    → (line_faults rules.line_fault [] (b ++ l ∷ []) ≡ [] → k (kept (texts (b ++ l ∷ []))) ≡ answer_all rules found (glue (b ++ l ∷ []) s))
    → (at_line l.number (steps.step (kept (texts b)) l.text) >>= k) ≡ answer_all rules found (glue b (onto_first l s))
line_case {S = S} rules steps kept a b l s found k e h = ap (λ r. at_line l.number r >>= k) (a.step (texts b) l.text) ∙ by (rules.line_fault (texts b) l.text) refl where
  by : (w : Option What) → rules.line_fault (texts b) l.text ≡ w → (at_line l.number (or_fault w (kept (texts b ++ l.text ∷ []))) >>= k) ≡ answer_all rules found (glue b (onto_first l s))
  by None q = ap (λ t. k (kept t)) (sym (texts_snoc b l)) ∙ (h (none_yet rules.line_fault b l e q) ∙ ap (answer_all rules found) (glue_first b l s))
  by (Some w) q = sym (glue_bad rules b l s found w e q)

-- The whole file.

-- reading on after these lines of a block, none of which has a fault, answers what the blocks say
reading_on : {S A : Type 0} (rules : BlockRules A) (steps : BlockSteps S A) (kept : List (List ℕ) → S) → Agrees rules steps kept
    → (b : List Line) (n : ℕ) (begun : Bool) (found : List A) (ts : List (List ℕ)) → last_number b ≡ last_of begun n → line_faults rules.line_fault [] b ≡ []
    → read_on steps n begun (kept (texts b)) found ts ≡ answer_all rules found (glue b (slice_split is_gap (numbered (n + 1) ts)))
reading_on rules steps kept a b n begun found [] m e =
    sym (ap (λ q. answer_all rules found (q ∷ [])) (append-nil b)
    ∙ (answer_cons rules b found [] e ∙ (answer_end rules _ ∙ sym (ended_is rules steps kept a b n begun found m))))
reading_on rules steps kept a b n begun found ([] ∷ ts) m e =
    ap (λ r. r >>= λ o. read_on steps (n + 1) false steps.opening o ts) (ended_is rules steps kept a b n begun found m)
    ∙ (ap (◌>>=◌ ((or_first_fault (end_faults rules b) (found ++ items rules b))))
    (λ i o. (ap (λ s. read_on steps (n + 1) false s o ts) a.opening ∙ (reading_on rules steps kept a [] (n + 1) false o ts refl refl ∙ ap (answer_all rules o) (glue_none (numbered (n + 1 + 1) ts)))) i)
    ∙ (sym (answer_cons rules b found (slice_split is_gap (numbered (n + 1 + 1) ts)) e) ∙ ap (λ q. answer_all rules found (q ∷ slice_split is_gap (numbered (n + 1 + 1) ts))) (sym (append-nil b))))
reading_on rules steps kept a b n begun found ((x ∷ xs) ∷ ts) m e =
    line_case rules steps kept a b (record { number = n + 1; text = x ∷ xs }) (slice_split is_gap (numbered (n + 1 + 1) ts)) found (λ k. read_on steps (n + 1) true k found ts) e
    (λ h. reading_on rules steps kept a (b ++ record { number = n + 1; text = x ∷ xs } ∷ []) (n + 1) true found ts (last_snoc b (record { number = n + 1; text = x ∷ xs })) h)

-- the reader gives what the definition says
pub reading_is : {S A : Type 0} (rules : BlockRules A) (steps : BlockSteps S A) (kept : List (List ℕ) → S) (lines : List (List ℕ)) → Agrees rules steps kept
    → read_on steps 0 false steps.opening [] lines ≡ read_blocks rules lines
reading_is rules steps kept lines a = ap (λ s. read_on steps 0 false s [] lines) a.opening
    ∙ (reading_on rules steps kept a [] 0 false [] lines refl refl ∙ ap (answer_all rules []) (glue_none (numbered 1 lines)))

-- a step that was refused refuses all
pub stopped : {A B : Type 0} (r : Result A FileBad) (f : A → Result B FileBad) (e : ReadBad) → IfSome (read_fault e) (λ w. r ≡ Err w) → IfSome (read_fault e) (λ w. (r >>= f) ≡ Err w)
stopped r f e h = by (read_fault e) h where
  by : (o : Option FileBad) → IfSome o (λ w. r ≡ Err w) → IfSome o (λ w. (r >>= f) ≡ Err w)
  by None h = tt
  by (Some w) h = ap (λ r. r >>= f) h
