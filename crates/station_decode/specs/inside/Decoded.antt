-- The words for a datagram that is given in digits.
use Rattle.std.specs.Prelude.{◌≡◌, ℕ, List, Option, Ok}
use Rattle.ixl_spec.specs.layout.Entries.{Site}
use Rattle.replay_words.specs.Read.{hexadecimal_or_none}
use Rattle.station_decode.specs.Datagrams.{datagram_text}
use Rattle.station_decode.specs.DecodedLine.{IsLayout}

-- A text has the words for the bytes that a word spells, under a layout, if there is one.
pub record AreWords (layout : Option (List ℕ)) (word text : List ℕ) : Type 0 where
  pub site : Option Site
  pub is : IsLayout layout site
  pub bytes : List ℕ
  pub spelled : hexadecimal_or_none word ≡ Ok bytes
  pub said : text ≡ datagram_text site bytes
