-- The faults of lines, and lines between empty ones, with one more line.
use Rattle.std.proofs.Common.{◌≡◌, ℕ, Bool, true, false, cond, List, [], ◌∷◌, ◌++◌, Option, Some, refl, sym, ap, ◌∙◌, append_assoc, append-nil}
use Rattle.std.specs.List.{onto_first, slice_split}
use Rattle.std.specs.Option.{option_or}
use Rattle.cv_base.specs.Lines.{Line}
use Rattle.cv_base.specs.declared.fault.What.{What}
use Rattle.cv_stanza.specs.Blocks.{at, is_gap, last_number, line_faults, texts}

-- the last line's number
pub last_snoc : (p : List Line) (l : Line) → last_number (p ++ l ∷ []) ≡ Some l.number
last_snoc [] l = refl
last_snoc (x ∷ p) l = ap (λ o. option_or o (Some x.number)) (last_snoc p l)

pub texts_snoc : (p : List Line) (l : Line) → texts (p ++ l ∷ []) ≡ texts p ++ l.text ∷ []
texts_snoc [] l = refl
texts_snoc (x ∷ p) l = ap (λ q. x.text ∷ q) (texts_snoc p l)

-- the faults of lines, of one more, and of those after it
pub faults_snoc : (fault : List (List ℕ) → List ℕ → Option What) (b : List (List ℕ)) (p : List Line) (l : Line) (h : List Line)
    → line_faults fault b (p ++ l ∷ h) ≡ line_faults fault b p ++ (at l.number (fault (b ++ texts p) l.text) ++ line_faults fault ((b ++ texts p) ++ l.text ∷ []) h)
faults_snoc fault b [] l h = ap (λ q. at l.number (fault q l.text) ++ line_faults fault (q ++ l.text ∷ []) h) (sym (append-nil b))
faults_snoc fault b (x ∷ p) l h =
    ap (λ r. at x.number (fault b x.text) ++ r)
    (faults_snoc fault (b ++ x.text ∷ []) p l h
    ∙ ap (λ q. line_faults fault (b ++ x.text ∷ []) p ++ (at l.number (fault q l.text) ++ line_faults fault (q ++ l.text ∷ []) h)) (append_assoc b (x.text ∷ []) (texts p)))
    ∙ sym (append_assoc (at x.number (fault b x.text)) (line_faults fault (b ++ x.text ∷ []) p) (at l.number (fault (b ++ texts (x ∷ p)) l.text) ++ line_faults fault ((b ++ texts (x ∷ p)) ++ l.text ∷ []) h))

-- lines without a fault, and then one
pub first_fault : (fault : List (List ℕ) → List ℕ → Option What) (p : List Line) (l : Line) (h : List Line) → line_faults fault [] p ≡ []
    → line_faults fault [] (p ++ l ∷ h) ≡ at l.number (fault (texts p) l.text) ++ line_faults fault (texts p ++ l.text ∷ []) h
first_fault fault p l h e = faults_snoc fault [] p l h ∙ ap (λ r. r ++ (at l.number (fault (texts p) l.text) ++ line_faults fault (texts p ++ l.text ∷ []) h)) e

-- the lines so far go before those of the first block
abbrev pub glue : List Line → List (List Line) → List (List Line)
glue p [] = p ∷ []
glue p (h ∷ t) = (p ++ h) ∷ t

pub glue_none : (ls : List Line) → glue [] (slice_split is_gap ls) ≡ slice_split is_gap ls
glue_none [] = refl
glue_none (l ∷ ls) = by (is_gap l) (slice_split is_gap ls) where
  by : (b : Bool) (r : List (List Line)) → glue [] (cond b ([] ∷ r) (onto_first l r)) ≡ cond b ([] ∷ r) (onto_first l r)
  by true r = refl
  by false [] = refl
  by false (h ∷ t) = refl

pub glue_first : (p : List Line) (l : Line) (r : List (List Line)) → glue (p ++ l ∷ []) r ≡ glue p (onto_first l r)
glue_first p l [] = refl
glue_first p l (h ∷ t) = ap (λ q. q ∷ t) (append_assoc p (l ∷ []) h)
