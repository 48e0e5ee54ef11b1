-- The safety code, and which bytes are intact.
use Rattle.std.specs.Prelude.{◌≡◌, ℕ, ◌-◌, ◌≤◌, Bool, not, ◌&&◌, ◌==◌, nat_lt, List, length, take, drop}
use Rattle.std.specs.Int.{w16, from_le_bytes}
use Rattle.std.specs.Str.{bytes_eq}
use Rattle.md4.specs.Md4.{digest}
use Rattle.rasta_pdu.specs.declared.key.Key.{Key}

-- the safety code of a text: the first 8 bytes of MD4 from the key
unfoldable pub code : Key → List ℕ → List ℕ
code key text = take 8 (digest key.0 text)

-- what stands before the last 8 bytes, and these
abbrev pub before_code : List ℕ → List ℕ
before_code bytes = take (length bytes - 8) bytes

abbrev pub last_8 : List ℕ → List ℕ
last_8 bytes = drop (length bytes - 8) bytes

-- the length that bytes begin with, low-order byte first
abbrev pub length_field : List ℕ → ℕ
length_field bytes = from_le_bytes w16 bytes

-- Bytes are intact under a key where they may be a PDU by their length, say that length themselves, and
-- end with the safety code of what stands before it.
pub record IsIntact (key : Key) (bytes : List ℕ) : Type 0 where
  pub long : 36 ≤ length bytes
  pub length_right : length_field bytes ≡ length bytes
  pub code_right : last_8 bytes ≡ code key (before_code bytes)

-- the same as a test
unfoldable pub intact : Key → List ℕ → Bool
intact key bytes = not (nat_lt (length bytes) 36) && (length_field bytes == length bytes) && bytes_eq (last_8 bytes) (code key (before_code bytes))
