-- The digest of a layer or an image, after the OCI image specification 1.1, descriptor.md, "Digests":
-- an algorithm, a colon and the encoded part. Only `sha256` is accepted (defined by this
-- project), and its encoded part is 64 digits of 0-9 and a-f.
use Rattle.std.specs.Prelude.{ℕ, Bool, ◌&&◌, ◌||◌, nat_le, if◌then◌else◌, List, ◌++◌, take, drop, codes, Option, Some, None, option_and_then}
use Rattle.std.specs.List.{list_all}
use Rattle.std.specs.Result.{result_ok}
use Rattle.cv_path.specs.Texts.{same}
use Rattle.hex.specs.Hex.{decode_sized, encode_lower}

-- a digit of 0-9 or a-f
abbrev pub is_lower_digit : ℕ → Bool
is_lower_digit c = nat_le 48 c && nat_le c 57 || nat_le 97 c && nat_le c 102

-- the encoded part, if the algorithm is SHA-256 and there are such digits alone
abbrev pub digits_of : List ℕ → Option (List ℕ)
digits_of text =
    if same (take 7 text) (codes "sha256:") && list_all is_lower_digit (drop 7 text) then Some (drop 7 text) else None

-- the 32 bytes that the digits of a text spell, two digits a byte
abbrev pub digest_of : List ℕ → Option (List ℕ)
digest_of text = option_and_then (λ digits. result_ok (decode_sized digits 32)) (digits_of text)

-- the one text of 32 bytes
abbrev pub digest_text : List ℕ → List ℕ
digest_text bytes = codes "sha256:" ++ encode_lower bytes
