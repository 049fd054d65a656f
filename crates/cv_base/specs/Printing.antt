-- The printing bytes of ASCII (defined by this project: a space does not count).
use Rattle.std.specs.Prelude.{ℕ, Bool, ◌&&◌, nat_le}

-- a byte that prints
abbrev pub is_printing : ℕ → Bool
is_printing byte = nat_le 33 byte && nat_le byte 126
