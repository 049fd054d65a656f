-- The words of pre-releases, post-releases and development releases of a Python version, and how those of pre-releases are ordered
-- (PEP 440, "Pre-releases", "Post-releases", "Developmental releases" and "Normalization").
use Rattle.std.specs.Prelude.{ℕ, Bool, ◌==◌, if◌then◌else◌, List, [], ◌∷◌, map, Option, Some, None, codes}
use Rattle.std.specs.Char.{to_ascii_lowercase}
use Rattle.std.specs.List.{list_any}
use lib.Pointwise.{pointwise}

-- the words of each part. A word that begins with another one stands before it, so that the longest word is found first
abbrev pub alpha_words : List (List ℕ)
alpha_words = codes "alpha" ∷ codes "a" ∷ []

abbrev pub beta_words : List (List ℕ)
beta_words = codes "beta" ∷ codes "b" ∷ []

abbrev pub candidate_words : List (List ℕ)
candidate_words = codes "preview" ∷ codes "pre" ∷ codes "rc" ∷ codes "c" ∷ []

abbrev pub post_words : List (List ℕ)
post_words = codes "post" ∷ codes "rev" ∷ codes "r" ∷ []

abbrev pub dev_words : List (List ℕ)
dev_words = codes "dev" ∷ []

-- the word is one of these, in any case
abbrev pub is_word : List (List ℕ) → List ℕ → Bool
is_word words word = list_any (λ known. pointwise ◌==◌ (map to_ascii_lowercase word) known) words

-- the ranks by which pre-releases are ordered. A development release of a release itself comes before its pre-releases, and the
-- release after them
abbrev pub DEV_RANK : ℕ
DEV_RANK = 0

abbrev pub ALPHA_RANK : ℕ
ALPHA_RANK = 1

abbrev pub BETA_RANK : ℕ
BETA_RANK = 2

abbrev pub CANDIDATE_RANK : ℕ
CANDIDATE_RANK = 3

abbrev pub RELEASE_RANK : ℕ
RELEASE_RANK = 4

-- the one rank of the words of post-releases, and of those of development releases
abbrev pub ONLY_RANK : ℕ
ONLY_RANK = 0

-- the rank of the word of a pre-release
abbrev pub rank_of : List ℕ → Option ℕ
rank_of word =
    if is_word alpha_words word then Some ALPHA_RANK
    else if is_word beta_words word then Some BETA_RANK
    else if is_word candidate_words word then Some CANDIDATE_RANK
    else None
