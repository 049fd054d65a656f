-- Words for the clauses of private functions: the parts that the code cuts a text into, as those of the definitions.
use Rattle.std.specs.Prelude.{Option, option_map}
use Rattle.cv_pep440.specs.Key.{Key, Ranked, tail_key}
use Rattle.cv_pep440.specs.Parts.{Part, Tail, Word, release_of}
use Rattle.cv_pep440.specs.declared.order.Ranked as ranked
use Rattle.cv_pep440.specs.declared.parts.Part as part
use Rattle.cv_pep440.specs.declared.parts.Parts as parts
use Rattle.cv_pep440.specs.declared.parts.Word as word

-- a word, if there is one
abbrev pub word_seen : Option word.Word → Option Word
word_seen found = option_map (λ (w : word.Word). record { rank = w.rank; rest = w.rest.now }) found

-- a part, if there is one
abbrev pub part_seen : Option part.Part → Option Part
part_seen found = option_map (λ (p : part.Part). record { rank = p.rank; number = p.number.now; rest = p.rest.now }) found

-- the parts after the release
abbrev pub tail_seen : parts.Parts → Tail
tail_seen p = record { pre = part_seen p.pre; post = part_seen p.post; dev = part_seen p.dev; rest = p.local.now }

-- a rank and the digits of a number
abbrev pub ranked_seen : ranked.Ranked → Ranked
ranked_seen r = record { rank = r.rank; number = r.number.now }

-- the key of a version that is cut
abbrev pub key_seen : parts.Parts → Key
key_seen p = tail_key p.epoch.now (release_of p.release.now) (tail_seen p)
