-- The faults of a file stand in the order of their lines, so no fault stands on a line before that of the first one.
use Rattle.std.proofs.Common.{◌≡◌, ◌≤◌, ℕ, ◌+◌, List, [], ◌∷◌, ◌++◌, length, Option, None, Some, Result, Ok, Err, refl, ap, append_assoc, arith}
use Rattle.std.specs.Bool.{⊤}
use Rattle.std.specs.Prelude.{IfErr, IfSome}
use Rattle.std.specs.List.{AllByRecursion, flat_map, onto_first, slice_split}
use Rattle.std.specs.Option.{option_map_or, option_or}
use Rattle.cv_base.specs.Lines.{Line, numbered}
use Rattle.cv_base.specs.Answer.{MatchesUnlessOutOfMemory}
use Rattle.cv_base.specs.Reading.{read_fault}
use Rattle.cv_base.specs.Results.{or_first_fault}
use Rattle.cv_base.specs.declared.fault.FileBad.{FileBad}
use Rattle.cv_base.specs.declared.fault.ReadBad.{ReadBad}
use Rattle.cv_base.specs.declared.fault.What.{What}
use Rattle.cv_stanza.specs.Blocks.{BlockRules, IsFirstBad, all_faults, at, end_faults, faults, is_gap, last_number, line_faults, read_blocks, texts}

-- the lines of faults ascend, from this one on
abbrev From : ℕ → List FileBad → Type 0
From k [] = ⊤
From k (f ∷ fs) = (k ≤ f.line) × From f.line fs

from_lower : (k m : ℕ) (fs : List FileBad) → k ≤ m → From m fs → From k fs
from_lower k m [] e h = tt
from_lower k m (f ∷ fs) e h = (omega (arith, e, h.0), h.1)

from_at : (k : ℕ) (w : Option What) (fs : List FileBad) → From k fs → From k (at k w ++ fs)
from_at k None fs h = h
from_at k (Some w) fs h = (omega arith, h)

-- the faults of one block, and then those of the next ones
or_last : (o : Option ℕ) (m k : ℕ) → option_or (option_or o (Some m)) (Some k) ≡ option_or o (Some m)
or_last None m k = refl
or_last (Some n) m k = refl

from_block : (fault : List (List ℕ) → List ℕ → Option What) (before : List (List ℕ)) (w : Option What) (k : ℕ) (ts : List (List ℕ)) (fs : List FileBad) → From (k + length ts) fs
    → From k (line_faults fault before (numbered k ts) ++ (option_map_or (λ n. at n w) (last_number (numbered k ts)) [] ++ fs))
from_block fault before w k [] fs h = from_lower k (k + length {A = List ℕ} []) fs (omega arith) h
from_block fault before w k (t ∷ []) fs h =
    rw (append_assoc (at k (fault before t)) [] (at k w ++ fs)) (from_at k (fault before t) (at k w ++ fs) (from_at k w fs (from_lower k (k + length (t ∷ [])) fs (omega arith) h)))
from_block fault before w k (t ∷ u ∷ ts) fs h =
    let next : From (k + 1) (line_faults fault (before ++ t ∷ []) (numbered (k + 1) (u ∷ ts)) ++ (option_map_or (λ n. at n w) (last_number (numbered (k + 1) (u ∷ ts))) [] ++ fs)) =
    from_block fault (before ++ t ∷ []) w (k + 1) (u ∷ ts) fs (from_lower (k + 1 + length (u ∷ ts)) (k + length (t ∷ u ∷ ts)) fs (omega arith) h) in
    rw (
      append_assoc (at k (fault before t)) (line_faults fault (before ++ t ∷ []) (numbered (k + 1) (u ∷ ts))) (option_map_or (λ n. at n w) (last_number (numbered k (t ∷ u ∷ ts))) [] ++ fs),
      or_last (last_number (numbered (k + 1 + 1) ts)) (k + 1) k,
    )
    (from_at k (fault before t) _ (from_lower k (k + 1) _ (omega arith) next))

-- blocks of lines that are numbered on, from this one
abbrev Ascends : ℕ → List (List Line) → Type 0
Ascends k [] = ⊤
Ascends k (b ∷ bs) = (ts : List (List ℕ)) × (n : ℕ) × (b ≡ numbered k ts) × (k + length ts ≤ n) × Ascends n bs

ascends_onto : (k : ℕ) (t : List ℕ) (bs : List (List Line)) → Ascends (k + 1) bs → Ascends k (onto_first (record { number = k; text = t }) bs)
ascends_onto k t [] h = (t ∷ [], k + 1, refl, omega arith, tt)
ascends_onto k t (b ∷ bs) h = (t ∷ h.0, h.1, ap (λ q. record { number = k; text = t } ∷ q) h.2, omega (arith, h.3), h.4)

blocks_ascend : (k : ℕ) (ts : List (List ℕ)) → Ascends k (slice_split is_gap (numbered k ts))
blocks_ascend k [] = ([], k, refl, omega arith, tt)
blocks_ascend k ([] ∷ ts) = ([], k + 1, refl, omega arith, blocks_ascend (k + 1) ts)
blocks_ascend k ((x ∷ xs) ∷ ts) = ascends_onto k (x ∷ xs) (slice_split is_gap (numbered (k + 1) ts)) (blocks_ascend (k + 1) ts)

from_blocks : {A : Type 0} (rules : BlockRules A) (k : ℕ) (bs : List (List Line)) → Ascends k bs → From k (flat_map (faults rules) bs)
from_blocks rules k [] h = tt
from_blocks rules k (b ∷ bs) h =
    let rest : From (k + length h.0) (flat_map (faults rules) bs) = from_lower (k + length h.0) h.1 (flat_map (faults rules) bs) h.3 (from_blocks rules h.1 bs h.4) in
    let w : Option What = rules.whole_fault (texts (numbered k h.0)) in
    rw (append_assoc (line_faults rules.line_fault [] b) (end_faults rules b) (flat_map (faults rules) bs), h.2)
    (from_block rules.line_fault [] w k h.0 (flat_map (faults rules) bs) rest)

above : (m k : ℕ) (fs : List FileBad) → m ≤ k → From k fs → AllByRecursion (λ g. m ≤ g.line) fs
above m k [] e h = tt
above m k (f ∷ fs) e h = let first : m ≤ f.line = omega (arith, e, h.0) in (first, above m f.line fs first h.1)

abbrev err_line : {A : Type 0} → Result A FileBad → ℕ
err_line (Ok x) = 0
err_line (Err e) = e.line

first_of : {A : Type 0} (k : ℕ) (fs : List FileBad) (x : A) (f : FileBad) → From k fs → or_first_fault fs x ≡ Err f → AllByRecursion (λ g. f.line ≤ g.line) fs
first_of k [] x f h e = tt
first_of k (g ∷ fs) x f h e = let same : g.line ≡ f.line = ap err_line e in let least : f.line ≤ g.line = omega (arith, same) in (least, above f.line g.line fs least h.1)

first_by : {A : Type 0} (rules : BlockRules A) (lines : List (List ℕ)) (o : Option FileBad) → IfSome o (λ f. read_blocks rules lines ≡ Err f) → IfSome o (IsFirstBad rules lines)
first_by rules lines None h = tt
first_by rules lines (Some f) h = first_of 1 (all_faults rules lines) _ f (from_blocks rules 1 (slice_split is_gap (numbered 1 lines)) (blocks_ascend 1 lines)) h

-- the fault that is answered is the first one
pub is_first : {A X : Type 0} (rules : BlockRules A) (lines : List (List ℕ)) (view : X → List A) (r : Result X ReadBad) → MatchesUnlessOutOfMemory read_fault view r (read_blocks rules lines)
    → IfErr r (λ error. IfSome (read_fault error) (IsFirstBad rules lines))
is_first rules lines view (Ok x) h = tt
is_first rules lines view (Err e) h = first_by rules lines (read_fault e) h
