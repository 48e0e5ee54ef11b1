-- What `station decode --hex HEX` writes.
use Rattle.std.specs.Prelude.{◌≡◌, ℕ, List, ◌++◌, codes, Option, Some, None, Ok, Err}
use Rattle.std.specs.Io.KnownBytes.{Appends}
use Rattle.layout_text.specs.FirstFault.{Fails}
use Rattle.ixl_spec.specs.layout.Entries.{Site}
use Rattle.ixl_spec.specs.layout.NamesResolved.{layout_in}
use Rattle.replay_words.specs.Read.{hexadecimal_or_none}
use Rattle.replay_words.specs.declared.fault.Fault.{Fault}
use Rattle.layout_text.specs.declared.fault.LayoutFault.{LayoutFault}
use Rattle.station_check.specs.declared.failure.Failure.{Failure}
use Rattle.station_check.specs.declared.failure.Failure.TheVariants.{Layout, Hex, OutOfMemory, NotWritten}
use Rattle.station_decode.specs.Datagrams.{datagram_text}

-- a text is this layout, where there is a text
abbrev pub IsLayout : Option (List ℕ) → Option Site → Type 0
IsLayout None None = Unit {0}
IsLayout None (Some site) = ⊥
IsLayout (Some text) None = ⊥
IsLayout (Some text) (Some site) = layout_in text ≡ Ok site

-- What is to be decoded: a layout, if there is one, and a word of hexadecimal digits.
pub record CanDecode (layout : Option (List ℕ)) (word : List ℕ) : Type 0 where
  pub site : Option Site
  pub is : IsLayout layout site
  pub bytes : List ℕ
  pub spelled : hexadecimal_or_none word ≡ Ok bytes

-- The line for the bytes was written, in the words of the layout.
pub record IsDecoded (layout : Option (List ℕ)) (word : List ℕ) (before now : Option (List ℕ)) : Type 0 where
  pub site : Option Site
  pub is : IsLayout layout site
  pub bytes : List ℕ
  pub spelled : hexadecimal_or_none word ≡ Ok bytes
  pub appended : Appends before now (datagram_text site bytes ++ codes "\n")

-- Why nothing is decoded: the layout's text is none, by its first fault; or the word has no such digits; or neither, but
-- memory is lacking, or the line couldn't be written.
abbrev pub IsNoLayout : LayoutFault → Option (List ℕ) → Type 0
IsNoLayout fault None = ⊥
IsNoLayout fault (Some text) = Fails fault (layout_in text)

abbrev pub IsNoWord : Option (List ℕ) → List ℕ → Type 0
IsNoWord layout word = (site : Option Site) × IsLayout layout site × (fault : Fault) × (hexadecimal_or_none word ≡ Err fault)

abbrev pub Explains : Option (List ℕ) → List ℕ → Failure → Type 0
Explains layout word (Layout fault) = IsNoLayout fault layout
Explains layout word Hex = IsNoWord layout word
Explains layout word OutOfMemory = CanDecode layout word
Explains layout word NotWritten = CanDecode layout word
Explains layout word why = ⊥
