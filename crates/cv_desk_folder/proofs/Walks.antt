-- A walk through real folders.
use Rattle.std.proofs.Common.{◌≡◌, List, [], ◌++◌, false, length, take, sym, ◌∙◌, ap, append_assoc, append-nil}
use Rattle.std.proofs.Math.Seq.{take-append_seam}
use Rattle.cv_desk_folder.specs.code.Walked.{Grows}
use Rattle.std.specs.List.Sorted.{IsSorted, IsSortedByKey}
use Rattle.std.specs.Ordering.{is_lt}
use Rattle.std.specs.declared.cmp.Ordering.{Ordering}

-- what is sorted by an order that compares keys first is sorted by its keys
pub sorted_by_key : {X K : Type 0} (cmp : X → X → Ordering) (key : X → K) (key_cmp : K → K → Ordering)
    → ((x y : X) → is_lt (cmp x y) ≡ false → is_lt (key_cmp (key x) (key y)) ≡ false) → (xs : List X) → IsSorted cmp xs → IsSortedByKey key key_cmp xs
sorted_by_key cmp key key_cmp first xs sorted = λ k d low high. first _ _ (sorted k d low high)

-- a list grows by nothing
pub grows_none : {X : Type 0} (a b : List X) → b ≡ a → Grows a b
grows_none a b same = ([], same ∙ sym (append-nil a))

-- a list grows by what was added
pub grows_by : {X : Type 0} (a b more : List X) → b ≡ a ++ more → Grows a b
grows_by a b more added = (more, added)

-- a list that grew, and grew again
pub grows_more : {X : Type 0} (a b c : List X) → Grows a b → Grows b c → Grows a c
grows_more a b c h k = (h.0 ++ k.0, k.1 ∙ ap (λ xs. xs ++ k.0) h.1 ∙ append_assoc a h.0 k.0)

-- a list that grew, cut to the length that it had
pub cut_back : {X : Type 0} (a b : List X) → Grows a b → take (length a) b ≡ a
cut_back a b h = ap (λ xs. take (length a) xs) h.1 ∙ take-append_seam a h.0
