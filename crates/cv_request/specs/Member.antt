-- The members of a request (defined by this project). A member with the value null is present.
use Rattle.std.specs.Prelude.{ℕ, Bool, ◌-◌, ◌==◌, ◌&&◌, ◌||◌, nat_le, if◌then◌else◌, List, [], length, Option, Some, None, option_and_then, Result, Ok}
use Rattle.std.specs.List.{list_all}
use Rattle.std.specs.Option.{ok_or}
use Rattle.serde_json.specs.Data.{Data}
use Rattle.serde_json.specs.Find.{as_array, as_number, as_str, as_u64}
use Rattle.cv_base.specs.Results.{◌>>=◌}
use Rattle.cv_osv.specs.Json.{each, text_or}
use Rattle.cv_request.specs.declared.error.RequestWhat.{RequestWhat}
use Rattle.cv_request.specs.declared.error.RequestWhat.TheVariants.{BadLane, BadFeed}
use Rattle.cv_request.specs.declared.limits.TheConstants.{MAX_FEED_NAME_LEN, MAX_LANES}

-- a whole number: it has no sign, point or exponent, and is below 2^64 (RFC 8259, section 6, as serde_json reads it)
abbrev pub whole_number : Data → Option ℕ
whole_number d = option_and_then as_u64 (as_number d)

-- the number, if it is in this range
abbrev pub within : ℕ → ℕ → ℕ → Option ℕ
within least most number = if nat_le least number && nat_le number most then Some number else None

-- a whole number of a range
abbrev pub number_or : ℕ → ℕ → RequestWhat → Option Data → Result ℕ RequestWhat
number_or least most bad found = ok_or (option_and_then (within least most) (option_and_then whole_number found)) bad

-- the number of a lane: 0 if it is absent
abbrev pub lane_or : Option Data → Result ℕ RequestWhat
lane_or None = Ok 0
lane_or (Some d) = number_or 0 (MAX_LANES - 1) BadLane (Some d)

-- a byte of `a-z`, `0-9`, `.`, `_` or `-`
abbrev pub is_feed_byte : ℕ → Bool
is_feed_byte byte = nat_le 97 byte && nat_le byte 122 || (nat_le 48 byte && nat_le byte 57 || (byte == 46 || (byte == 95 || byte == 45)))

-- the name of a feed: 1 to 64 such bytes
abbrev pub is_feed_name : List ℕ → Bool
is_feed_name text = nat_le 1 (length text) && nat_le (length text) MAX_FEED_NAME_LEN && list_all is_feed_byte text

-- the name of a feed
abbrev pub feed_or : Option Data → Result (List ℕ) RequestWhat
feed_or found = ok_or (option_and_then (λ text. if is_feed_name text then Some text else None) (option_and_then as_str found)) BadFeed

-- a text, as an item of a list
abbrev pub text_of : RequestWhat → Data → Result (List ℕ) RequestWhat
text_of bad d = text_or bad (Some d)

-- a list of texts, which may be absent and then has none
abbrev pub texts_or : RequestWhat → Option Data → Result (List (List ℕ)) RequestWhat
texts_or bad None = Ok []
texts_or bad (Some d) = ok_or (as_array d) bad >>= each (text_of bad)
