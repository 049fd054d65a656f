-- The key of a text by the parts that it is cut into.
use Rattle.std.proofs.Common.{◌≡◌, ℕ, List}
use Rattle.cv_pep440.specs.Key.{tail_key, key_of}
use Rattle.cv_pep440.specs.Parts.{after_mark, after_release, epoch_of, release_of, release_text, tail_of}
use Rattle.cv_pep440.specs.code.View.{key_seen, tail_seen}
use Rattle.cv_pep440.specs.declared.parts.Parts.{Parts}

pub key_seen_is : (p : Parts) (text : List ℕ) → p.epoch.now ≡ epoch_of (after_mark text) → p.release.now ≡ release_text text
    → tail_seen p ≡ tail_of (after_release (release_text text)) → key_seen p ≡ key_of text
key_seen_is p text e r t = λ i. tail_key (e i) (release_of (r i)) (t i)
