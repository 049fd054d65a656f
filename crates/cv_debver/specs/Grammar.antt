-- Which texts are versions, after Debian Policy 5.6.12, but for one choice defined by this project: a text
-- with a colon in its upstream version is not a valid version.
use Rattle.std.specs.Prelude.{◌≡◌, ℕ, Bool, false, IsTrue, ◌&&◌, ◌||◌, ◌==◌, List, ◌∷◌, ◌++◌, length, nat_lt, Option, Some, None, IfSome, IsNone}
use Rattle.std.specs.List.{list_all, list_any}
use Rattle.std.specs.Char.{is_ascii_alphanumeric}
use Rattle.cv_order.specs.Digits.{is_digit}
use Rattle.cv_debver.specs.Version.{Version, version_of, is_hyphen}

-- one or more bytes, each of which passes
abbrev pub one_or_more : (ℕ → Bool) → List ℕ → Bool
one_or_more test bytes = nat_lt 0 (length bytes) && list_all test bytes

-- letters, digits and `.`, `+`, `~`
abbrev pub is_revision_byte : ℕ → Bool
is_revision_byte byte = is_ascii_alphanumeric byte || byte == 46 || byte == 43 || byte == 126

-- those and `-`
abbrev pub is_upstream_byte : ℕ → Bool
is_upstream_byte byte = byte == 45 || is_revision_byte byte

-- whether parts are those of a version: the epoch is one or more digits, and upstream and revision are one or more of their
-- bytes. An absent epoch and an absent revision are `0`, and so they pass.
abbrev pub are_version_parts : Version → Bool
are_version_parts parts = one_or_more is_digit parts.epoch && one_or_more is_upstream_byte parts.upstream && one_or_more is_revision_byte parts.revision

-- the parts of the text are those of a version (Debian Policy 5.6.12)
abbrev pub is_version : List ℕ → Bool
is_version text = are_version_parts (version_of text)

-- The same as a grammar, `[epoch:]upstream[-revision]`. 58 is `:` and 45 is `-`.
abbrev pub with_colon : Option (List ℕ) → List ℕ → List ℕ
with_colon None body = body
with_colon (Some epoch) body = epoch ++ 58 ∷ body

-- a revision comes after a hyphen
abbrev pub with_hyphen : List ℕ → Option (List ℕ) → List ℕ
with_hyphen upstream None = upstream
with_hyphen upstream (Some revision) = upstream ++ 45 ∷ revision

-- the text is written by the grammar; since the last hyphen begins a revision, a version without one has no hyphen
pub record IsVersion (text : List ℕ) : Type 0 where
  pub epoch : Option (List ℕ)
  pub upstream : List ℕ
  pub revision : Option (List ℕ)
  pub written : text ≡ with_colon epoch (with_hyphen upstream revision)
  pub epoch_digits : IfSome epoch (λ digits. IsTrue (one_or_more is_digit digits))
  pub upstream_bytes : IsTrue (one_or_more is_upstream_byte upstream)
  pub revision_bytes : IfSome revision (λ bytes. IsTrue (one_or_more is_revision_byte bytes))
  pub no_hyphen : IsNone revision → list_any is_hyphen upstream ≡ false
