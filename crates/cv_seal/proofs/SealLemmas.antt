-- The bytes of a seal, entry by entry.
use Rattle.std.proofs.Common.{◌≡◌, ℕ, List, [], ◌∷◌, ◌++◌, sym, ap, ◌∙◌, append_assoc, append-nil}
use Rattle.std.specs.List.{flat_map}
use Rattle.cv_seal.specs.Seal.{SealedEntry, entry_bytes, opening, summed_bytes}

-- the bytes of an entry
abbrev bytes_of : SealedEntry → List ℕ
bytes_of e = entry_bytes e.entry e.content

after : (es : List SealedEntry) (e : SealedEntry) → flat_map bytes_of (es ++ e ∷ []) ≡ flat_map bytes_of es ++ bytes_of e
after [] e = append-nil (bytes_of e)
after (x ∷ xs) e = ap (λ t. bytes_of x ++ t) (after xs e) ∙ sym (append_assoc (bytes_of x) (flat_map bytes_of xs) (bytes_of e))

-- one more entry adds its own bytes at the end
pub summed_more : (es : List SealedEntry) (e : SealedEntry) → summed_bytes (es ++ e ∷ []) ≡ summed_bytes es ++ entry_bytes e.entry e.content
summed_more es e = ap (λ t. opening ++ t) (after es e) ∙ sym (append_assoc opening (flat_map bytes_of es) (bytes_of e))
