-- Digests, computed.
use Rattle.std.specs.Prelude.{◌≡◌, ℕ, List, ◌∷◌, [], ◌++◌, codes, replicate, Some, None, refl}
use Rattle.hex.specs.Hex.{decode_pairs, encode_with}
use Rattle.cv_base.specs.Digest.{digest_of, digest_text}
use Rattle.cv_base.specs.declared.limits.TheConstants.{MAX_ADVISORIES, MAX_ENTRIES, MAX_LAYERS, PACKAGE_FILE_LIMIT}

-- 30 bytes after 0 and 255, and their digits
abbrev bytes : List ℕ
bytes = 0 ∷ 255 ∷ replicate 30 161

abbrev digits : List ℕ
digits = codes "00ffa1a1a1a1a1a1a1a1a1a1a1a1a1a1a1a1a1a1a1a1a1a1a1a1a1a1a1a1a1a1"

digest_read : digest_of (codes "sha256:" ++ digits) ≡ Some bytes
unfolding decode_pairs
digest_read = refl

digest_written : digest_text bytes ≡ codes "sha256:" ++ digits
unfolding encode_with
digest_written = refl

-- a capital digit, and a letter that is not a digit
capitals : (digest_of (codes "sha256:" ++ codes "A" ++ replicate 63 97) ≡ None) × (digest_of (codes "sha256:" ++ codes "g" ++ replicate 63 97) ≡ None)
capitals = (refl, refl)

-- 63 digits, 65 and none
lengths : (digest_of (codes "sha256:" ++ replicate 63 97) ≡ None) × (digest_of (codes "sha256:" ++ replicate 65 97) ≡ None) × (digest_of (codes "sha256:") ≡ None) × (digest_of [] ≡ None)
lengths = (refl, refl, refl, refl)

-- another algorithm, its name in capitals, and digits alone
algorithms : (digest_of (codes "sha512:" ++ digits) ≡ None) × (digest_of (codes "SHA256:" ++ digits) ≡ None) × (digest_of digits ≡ None)
algorithms = (refl, refl, refl)

-- the limits of layers, records, entries and bytes
limits : (MAX_LAYERS ≡ 128) × (MAX_ADVISORIES ≡ 200000) × (MAX_ENTRIES ≡ 1000000) × (PACKAGE_FILE_LIMIT ≡ 33554432)
limits = (refl, refl, refl, refl)
