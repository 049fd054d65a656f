-- What decides how a Python version compares (PEP 440, "Summary of permitted suffixes and relative ordering" and "Local version
-- identifiers"): its key. A key is read from any text. Where the text is a version, it is that of the parts from which the version is
-- written.
use Rattle.std.specs.Prelude.{ℕ, List, [], ◌∷◌, map, Option, Some, None, option_map, unwrap_or}
use Rattle.cv_pep440.specs.Grammar.{Bare, Named, Written, WrittenNumber, WrittenPart, WrittenPost}
use Rattle.cv_pep440.specs.Parts.{Part, Tail, after_mark, after_release, epoch_of, local_of, release_of, release_text, tail_of}
use Rattle.cv_pep440.specs.Words.{DEV_RANK, RELEASE_RANK, rank_of}

-- a rank and the digits of a number, none where it is absent
pub record Ranked : Type 0 where
  pub rank : ℕ
  pub number : List ℕ

-- what decides how a version compares. Each number is given by its digits
pub record Key : Type 0 where
  pub epoch : List ℕ
  pub release : List (List ℕ)
  pub pre : Ranked
  pub post : Option (List ℕ)
  pub dev : Option (List ℕ)
  pub local : Option (List (List ℕ))

-- where a version stands by its pre-release: a development release of the release itself has a rank of its own, and so has a version
-- that is no pre-release
abbrev pub pre_key : Option Ranked → Option (List ℕ) → Option (List ℕ) → Ranked
pre_key (Some pre) post dev = pre
pre_key None None (Some dev) = record { rank = DEV_RANK; number = [] }
pre_key None None None = record { rank = RELEASE_RANK; number = [] }
pre_key None (Some post) dev = record { rank = RELEASE_RANK; number = [] }

-- the key of a version by the numbers of its parts
abbrev pub key_from : List ℕ → List (List ℕ) → Option Ranked → Option (List ℕ) → Option (List ℕ) → Option (List (List ℕ)) → Key
key_from epoch release pre post dev local = record { epoch = epoch; release = release; pre = pre_key pre post dev; post = post; dev = dev; local = local }

-- the digits of a number, none where it is absent
abbrev pub digits_of : Option WrittenNumber → List ℕ
digits_of None = []
digits_of (Some number) = number.digits

-- the digits of the number of a post-release
abbrev pub post_digits : WrittenPost → List ℕ
post_digits (Named part) = digits_of part.number
post_digits (Bare digits) = digits

-- a pre-release by the rank of its word, and its number
abbrev pub written_pre : WrittenPart → Ranked
written_pre part = record { rank = unwrap_or (rank_of part.word) 0; number = digits_of part.number }

-- the key of a version by the parts from which it is written
abbrev pub written_key : Written → Key
written_key w =
    key_from (unwrap_or w.epoch []) (w.first ∷ w.more) (option_map written_pre w.pre) (option_map post_digits w.post)
    (option_map (λ (part : WrittenPart). digits_of part.number) w.dev) (option_map (λ local. local.first ∷ map (λ run. run.run) local.more) w.local)

-- a part's rank and number
abbrev pub ranked_in : Option Part → Option Ranked
ranked_in part = option_map (λ (p : Part). record { rank = p.rank; number = p.number }) part

-- the digits of a part's number
abbrev pub number_in : Option Part → Option (List ℕ)
number_in part = option_map (λ (p : Part). p.number) part

-- the key of a version by its epoch, its release and what comes after
abbrev pub tail_key : List ℕ → List (List ℕ) → Tail → Key
tail_key epoch release tail = key_from epoch release (ranked_in tail.pre) (number_in tail.post) (number_in tail.dev) (local_of tail.rest)

-- the key of a version from its whole text
abbrev pub key_of : List ℕ → Key
key_of text = tail_key (epoch_of (after_mark text)) (release_of (release_text text)) (tail_of (after_release (release_text text)))
