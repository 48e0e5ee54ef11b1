-- What a word says as a number, and as bytes, and the word for some bytes.
use Rattle.std.specs.Prelude.{ℕ, ◌==◌, ◌^◌, ◌&&◌, nat_lt, nat_le, if◌then◌else◌, List, [], length, codes, Result, Ok, Err}
use Rattle.std.specs.Str.{all_ascii_digits, bytes_eq}
use Rattle.std.specs.Str.Parse.{digits_value}
use Rattle.hex.specs.declared.error.FromHexError.{FromHexError}
use Rattle.hex.specs.Hex.{decode_of, encode_lower}
use Rattle.rasta_pdu.specs.declared.writer.TheConstants.{LONGEST_DATAGRAM}
use Rattle.replay_words.specs.declared.fault.Fault.{Fault}
use Rattle.replay_words.specs.declared.fault.Fault.TheVariants.{Number, Hexadecimal}

-- the number below 2^64 that one or more decimal digits spell, leading zeros among them
abbrev pub decimal : List ℕ → Result ℕ Fault
decimal word =
    if all_ascii_digits word && nat_lt 0 (length word) && nat_lt (digits_value 10 word) (2 ^ 64)
    then Ok (digits_value 10 word)
    else Err Number

-- the bytes that were read, if they are 1 to 512
abbrev pub within_bounds : Result (List ℕ) FromHexError → Result (List ℕ) Fault
within_bounds (Ok bytes) = if nat_lt 0 (length bytes) && nat_le (length bytes) LONGEST_DATAGRAM then Ok bytes else Err Hexadecimal
within_bounds (Err e) = Err Hexadecimal

-- the 1 to 512 bytes that hexadecimal digits spell, two a byte, in either case
abbrev pub hexadecimal : List ℕ → Result (List ℕ) Fault
hexadecimal word = within_bounds (decode_of word)

-- the same, or no bytes for a hyphen
abbrev pub hexadecimal_or_none : List ℕ → Result (List ℕ) Fault
hexadecimal_or_none word = if bytes_eq word (codes "-") then Ok [] else hexadecimal word

-- the word for some bytes: a hyphen for none, otherwise two digits a byte, in lower case
abbrev pub hex_word : List ℕ → List ℕ
hex_word bytes = if length bytes == 0 then codes "-" else encode_lower bytes
