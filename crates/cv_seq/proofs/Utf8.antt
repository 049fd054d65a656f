-- The test of a text and the fact.
use Rattle.std.proofs.Common.{◌≡◌, ℕ, Bool, true, false, List, refl}
use Rattle.std.specs.Str.{IsUtf8, is_utf8}
use Rattle.std.proofs.lemmas.Str.{is_utf8-from_IsUtf8, IsUtf8-from_is_utf8}

-- a text passes the test
pub text_found : (bytes : List ℕ) → IsUtf8 bytes → is_utf8 bytes ≡ true
text_found bytes h = is_utf8-from_IsUtf8 bytes h

none_by : (bytes : List ℕ) (b : Bool) → is_utf8 bytes ≡ b → (IsUtf8 bytes → ⊥) → b ≡ false
none_by bytes true e h = absurd (h (IsUtf8-from_is_utf8 bytes e))
none_by bytes false e h = refl

-- and other bytes fail it
pub none_found : (bytes : List ℕ) → (IsUtf8 bytes → ⊥) → is_utf8 bytes ≡ false
none_found bytes h = none_by bytes (is_utf8 bytes) refl h
